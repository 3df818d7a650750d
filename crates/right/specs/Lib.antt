-- The route of a plan with its meeting positions, and the steps that a table of best finishes offers.
pub mod Steps
pub mod Reading
