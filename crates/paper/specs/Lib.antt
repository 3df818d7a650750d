-- The problem of source document 000, the networks and requests that it is about, and networks that agree in part.
pub mod Fraction
pub mod Problem
pub mod Prices
pub mod TwoWay
pub mod Alike
