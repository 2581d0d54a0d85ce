-- What the contracts cite. Assumes nothing.
pub mod Runs
pub mod Picking
