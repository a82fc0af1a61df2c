pub mod Numbers
pub mod Sets
pub mod Parts
pub mod Written
pub mod Rebuilt
pub mod Rounds
