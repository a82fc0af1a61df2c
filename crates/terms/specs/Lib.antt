pub mod Tests
pub mod Votes
pub mod Written
