-- What the contracts cite: the sheet so far, and the hash. Assumes nothing.
pub mod Sheet
pub mod Hash
