-- Sets of riders, finishes packed into one number, finishes of few steps, and the starts of the table's rows.
pub mod Sets
pub mod Packed
pub mod Short
pub mod Rows
