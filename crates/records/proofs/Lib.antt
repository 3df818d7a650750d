-- Laws of the two records: how a number is read, what reading gives, and where the network of an input ends.
pub mod NumberLaws
pub mod NetworkLaws
pub mod RequestLaws
pub mod Promises
pub mod InputLaws
