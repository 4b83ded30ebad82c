pub mod Named
pub mod Output
pub mod Ends
