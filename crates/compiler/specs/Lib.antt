-- What the contracts cite: goals and feeders, what is filled for drivers, order and filters, and the list of values. Assumes nothing.
pub mod Goals
pub mod Aims
pub mod Values
