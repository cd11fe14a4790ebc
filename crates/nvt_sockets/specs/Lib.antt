pub mod HandsOut
pub mod Host
pub mod Piece
pub mod Speech
