-- The numbers that the C functions give for each answer, and what each of them promises.
pub mod Numbers
pub mod Calls
