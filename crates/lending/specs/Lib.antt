-- What an operation on a held book asks for, by the word that it begins with, and buffers that have room for a held book.
pub mod Operations
pub mod Rooms
