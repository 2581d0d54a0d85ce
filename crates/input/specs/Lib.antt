-- What the contracts cite. Assumes nothing.
pub mod Input
pub mod Opening
