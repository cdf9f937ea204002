pub mod Grammar
pub mod Spelled
pub mod LineNumbers
