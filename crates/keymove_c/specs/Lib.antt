-- What the contracts cite. Assumes nothing.
pub mod Encoding
pub mod Sessions
