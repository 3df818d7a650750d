-- Laws of reading the plan off the table, and demand 3 from the search's promise.
pub mod TightLaws
pub mod StepLaws
pub mod WriteLaws
pub mod PlanLaws
pub mod EntryLaws
pub mod DemandLaws
