-- What the contracts cite: what the types of the code stand for in the definitions of `rules`, and the size of a lent memo. Assumes nothing.
pub mod Sized
pub mod Stands
pub mod Facts
