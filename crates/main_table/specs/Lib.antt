pub mod Lower
pub mod Main
