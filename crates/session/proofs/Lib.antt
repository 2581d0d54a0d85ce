-- Assumes nothing.
pub mod Undoing
