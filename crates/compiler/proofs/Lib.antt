-- Laws of compiling what drivers, order and filters use of a net. Assumes nothing.
pub mod Sums
pub mod Values
pub mod Goals
pub mod Touch
pub mod Users
pub mod Aiming
pub mod Feeders
pub mod Fed
pub mod Aims
