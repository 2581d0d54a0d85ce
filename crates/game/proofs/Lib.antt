-- Laws of the call. Assumes nothing.
pub mod Searching
pub mod Calling
pub mod Reading
pub mod Sessions
