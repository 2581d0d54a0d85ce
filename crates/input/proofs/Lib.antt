-- Laws of what a call begins with. Assumes nothing.
pub mod Chains
pub mod Tokens
pub mod Measures
pub mod Bounds
pub mod Refusals
pub mod Opening
