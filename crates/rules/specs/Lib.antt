-- The rules of docs/RULES.md as definitions, in its order: the two records, what is paid for, what the search leaves behind, the
-- answers, what is written, the small town, the program. A number in brackets is the rule's.
pub mod Limits
pub mod Checks
pub mod Numbers
pub mod Network
pub mod Request
pub mod Walks
pub mod Routes
pub mod Plans
pub mod Rooms
pub mod Answers
pub mod Writing
pub mod Town
pub mod Program
