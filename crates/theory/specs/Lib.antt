-- Notions of the proofs: values that play can end in, the premises on play by levels, the causes of refusals, choosing as 01 counts it, key words of markings. (What a side can
-- force, the conditions of refusals and what the public contract promises stand in crate rules.)
-- Assumes nothing.
pub mod Ends
pub mod Regular
pub mod Causes
pub mod Counted
pub mod Marking
