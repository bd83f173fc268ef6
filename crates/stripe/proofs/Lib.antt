-- The laws behind the calls on a stripe, and the theorems about their contracts.
pub mod Encoding
pub mod Writing
pub mod Exists
pub mod WriteFacts
pub mod OneAnswer
pub mod BrokenFacts
