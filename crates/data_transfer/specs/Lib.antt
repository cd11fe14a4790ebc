pub mod DataFault
pub mod Laws
pub mod Part
pub mod Parts
pub mod Pieces
pub mod Queue
pub mod Whole
