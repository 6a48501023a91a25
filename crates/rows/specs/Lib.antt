pub mod View
pub mod Search
pub mod Change
pub mod Flat
pub mod Row
