pub mod Known
pub mod Steps
pub mod Demand
