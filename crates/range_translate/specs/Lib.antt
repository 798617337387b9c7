pub mod Block
pub mod Order
pub mod Piece
pub mod Place
pub mod Table
