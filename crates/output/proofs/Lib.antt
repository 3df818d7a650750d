pub mod PutLaws
pub mod AnswerLaws
pub mod Promises
