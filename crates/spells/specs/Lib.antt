pub mod Relations
pub mod Spells
pub mod Spelled
