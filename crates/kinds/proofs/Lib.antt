pub mod Framed
pub mod Composed
pub mod Worded
pub mod Tabled
