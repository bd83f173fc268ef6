-- The laws of a job's answer: its lost cells listed, its fields stored.
pub mod LostNumbers
pub mod Storing
pub mod Answering
pub mod OneAnswer
pub mod AnswerFacts
pub mod CellSizes
