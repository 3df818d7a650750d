-- Laws of routes, of the nearest position, and of the price.
pub mod RouteLaws
pub mod NearLaws
pub mod MeetLaws
pub mod EntryLaws
pub mod Bounds
