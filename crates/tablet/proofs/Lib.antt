-- Laws of a route as bytes, and of the tablet's number.
pub mod RouteLaws
pub mod Promises
