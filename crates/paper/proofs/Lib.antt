-- The price is the paper's, and rests on the costs that it should rest on.
pub mod TwoWay
pub mod Fraction
pub mod Prices
pub mod Definition
pub mod Ways
pub mod Distances
pub mod Alike
