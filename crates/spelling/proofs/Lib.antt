pub mod At
pub mod Strings
pub mod Decodes
pub mod Determined
