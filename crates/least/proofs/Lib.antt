pub mod Least
pub mod Trips
pub mod Spread
pub mod Few
pub mod Shortening
pub mod WalkTrips
pub mod Decide
pub mod Collect
