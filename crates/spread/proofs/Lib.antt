-- Laws of engines that relax arcs.
pub mod RelaxingLaws
pub mod LinkLaws
