pub mod Bytes
pub mod Walk
