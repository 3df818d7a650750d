-- Least sums over arcs: trips, what is least, what a network engine promises, and walks as trips.
pub mod Trips
pub mod Least
pub mod Spread
pub mod WalkTrips
