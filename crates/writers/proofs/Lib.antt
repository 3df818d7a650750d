-- Laws of numbers and records that are put into a room, and what the writers' promises leave open: nothing.
pub mod FillLaws
pub mod PieceLaws
pub mod Promises
