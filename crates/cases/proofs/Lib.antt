-- Certificates and what they prove, the cases of both tables, and the planners that they shut out.
pub mod Tests
pub mod TestLaws
pub mod Certificate
pub mod DistanceLaws
pub mod MoveLaws
pub mod TableLaws
pub mod PriceLaws
pub mod CaseLaws
pub mod Tables
pub mod SearchLaws
pub mod Remarks
pub mod WrongPlanners
