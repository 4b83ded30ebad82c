-- The definitions that the contracts cite.
pub mod Sheets
pub mod Tables
pub mod Closed
