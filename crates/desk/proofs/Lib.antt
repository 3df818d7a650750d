-- Laws of the one number that each answer is told by: how large its parts are, and what it leaves open.
pub mod Places
pub mod Numbers
pub mod Promises
