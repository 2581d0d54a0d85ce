-- What the program's functions promise. Assumes nothing.
pub mod Moves
pub mod Undoing
