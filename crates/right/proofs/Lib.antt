-- From plans to routes and prices and back, and from a table of best finishes to the right plan.
pub mod Steps
pub mod Meetings
pub mod Driving
pub mod Routes
pub mod Right
pub mod Reading
