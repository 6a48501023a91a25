pub mod Heads
pub mod Steps
pub mod Ends
pub mod Determined
