-- The laws that belong to no one function.
pub mod Table
pub mod Classes
pub mod Runs
pub mod Words
pub mod Fronts
pub mod Shapes
pub mod Nexts
pub mod Tests
pub mod Told
pub mod Determined
pub mod Skips
pub mod Digits
