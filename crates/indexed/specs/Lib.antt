-- What the contracts cite: the limits of a net, its table of cells, and what a function changes of the words. Assumes nothing.
pub mod Limited
pub mod Rows
pub mod Cells
pub mod Sections
pub mod Pays
pub mod Stages
