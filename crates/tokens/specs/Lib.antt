pub mod Class
pub mod Gaps
pub mod Numbers
pub mod Kinds
pub mod Scans
pub mod Shown
