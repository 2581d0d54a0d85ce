-- Laws of the memo's rows, of its dictionary and of f64 bounds, on plain values.
pub mod RowParts
pub mod Looks
pub mod Replace
pub mod Floats
pub mod Reading
pub mod Entering
pub mod Writing
pub mod Storing
pub mod Games
