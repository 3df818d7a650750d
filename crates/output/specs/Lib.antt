-- What the text is, and what must be known of the search's answer to write it.
pub mod Text
pub mod Answered
