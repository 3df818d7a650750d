-- What the engine that relaxes arcs has done so far.
pub mod Relaxing
