-- Laws of the drivers and of choosing. Assumes nothing.
pub mod Values
pub mod Runs
pub mod Picking
