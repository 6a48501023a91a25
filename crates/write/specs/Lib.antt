pub mod Tabled
pub mod Lay
