pub mod Heads
pub mod Steps
pub mod Inside
pub mod Children
pub mod Headers
pub mod Determined
