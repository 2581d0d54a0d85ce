-- Laws of compiling what the walk uses of a net. Assumes nothing.
pub mod Conditions
pub mod More
pub mod Cells
pub mod Sets
pub mod Masks
pub mod Wakes
pub mod Roles
pub mod Crosses
pub mod Stages
pub mod Pays
pub mod Walk
-- what an accepted sheet gives
pub mod Accepted
