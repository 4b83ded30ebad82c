pub mod Tests
pub mod Points
pub mod Sets
pub mod Scenarios
pub mod Marks
pub mod Ranks
