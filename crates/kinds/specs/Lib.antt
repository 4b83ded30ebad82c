pub mod Meaning
pub mod Pages
pub mod Layouts
pub mod Composition
pub mod Words
pub mod Tables
