pub mod Parts
pub mod Parsed
pub mod Rising
pub mod Writes
