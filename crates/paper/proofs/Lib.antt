pub mod Open
pub mod Checked
