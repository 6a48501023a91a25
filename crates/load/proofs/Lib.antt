pub mod Sizes
pub mod Loads
pub mod Values
pub mod Stores
pub mod Determined
