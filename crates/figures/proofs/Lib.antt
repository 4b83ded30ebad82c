pub mod Searched
pub mod Figured
