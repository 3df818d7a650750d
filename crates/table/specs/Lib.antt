-- Places of the two tables, what is known while they are filled, and meetings at a node.
pub mod Places
pub mod Filling
pub mod Meetings
