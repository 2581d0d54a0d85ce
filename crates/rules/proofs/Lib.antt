-- What is computed from the definitions. Assumes nothing.
mod Cases
-- what the crates above use
pub mod Binding
