pub mod Continuing
pub mod Entries
pub mod Lines
