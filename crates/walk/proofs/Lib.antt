-- Laws of the room that a walk starts from, and of the entry's answers.
pub mod StartLaws
pub mod Promises
