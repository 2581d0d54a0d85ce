pub mod Builds
pub mod Folds
