pub mod Registers
pub mod Values
pub mod Memory
pub mod Act
