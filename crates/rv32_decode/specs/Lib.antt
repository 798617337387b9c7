pub mod Fields
pub mod Kinds
pub mod Instr
pub mod Laws
