-- What the functions of pricing promise one another.
pub mod Sound
pub mod Near
pub mod Meetings
