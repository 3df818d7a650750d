pub mod Inner
pub mod Accepted
