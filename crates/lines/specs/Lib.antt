pub mod Limits
pub mod Faults
pub mod Letters
pub mod Forms
pub mod Reading
pub mod Fields
pub mod Texts
pub mod Writing
