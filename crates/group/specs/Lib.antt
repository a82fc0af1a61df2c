pub mod Sets
pub mod Jobs
pub mod View
pub mod Made
