-- What a case claims, the two tables of cases, and what a search of a case may end with.
pub mod Cases
pub mod TownRows
pub mod OwnRows
pub mod Searches
