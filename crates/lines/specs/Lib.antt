pub mod Limits
pub mod Text
pub mod Steps
