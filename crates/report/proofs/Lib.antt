-- Assumes nothing.
pub mod Texts
