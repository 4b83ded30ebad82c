pub mod Printing
pub mod Settling
pub mod Cutting
pub mod Lengths
