-- From finishes as lists of steps to least packed sums, and back.
pub mod Sets
pub mod Packing
pub mod Shortening
pub mod Bounds
pub mod Rows
