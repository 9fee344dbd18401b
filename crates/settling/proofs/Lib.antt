-- The check of a new book tells its loading; a law for each way that it takes the old one's place.
pub mod Checks
pub mod Laws
