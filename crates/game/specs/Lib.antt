-- What the contracts cite. Assumes nothing.
pub mod Calling
pub mod Sessions
