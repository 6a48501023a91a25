pub mod Lay
pub mod Settled
pub mod Puts
pub mod Outcomes
