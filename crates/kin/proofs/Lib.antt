-- The loops along a family: whether a mark lies in some X, and with whose tail row 4 goes on.
pub mod Laws
pub mod Tails
