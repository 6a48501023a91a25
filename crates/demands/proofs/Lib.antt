pub mod Calls
pub mod Evaluation
pub mod Determined
