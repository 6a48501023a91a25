pub mod Lowers
pub mod Moves
pub mod Views
pub mod Mains
pub mod Determined
