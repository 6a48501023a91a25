pub mod Forms
pub mod Headers
pub mod Puts
pub mod Determined
