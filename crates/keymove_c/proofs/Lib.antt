-- The proofs of this crate. Assumes nothing.
pub mod Entry
pub mod Sessions
pub mod Picks
pub mod Opens
