pub mod Fields
pub mod Groups
pub mod Texts
pub mod Views
pub mod Searches
pub mod Changes
pub mod Trees
pub mod Determined
