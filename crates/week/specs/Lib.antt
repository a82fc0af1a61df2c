pub mod Texts
pub mod Reports
pub mod Cuts
pub mod Runs
pub mod Begun
pub mod Retold
