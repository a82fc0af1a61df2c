pub mod Adding
pub mod Continuation
pub mod Reading
