pub mod Cutting
pub mod Rows
pub mod Running
pub mod Retelling
