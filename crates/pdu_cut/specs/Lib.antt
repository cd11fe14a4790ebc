pub mod CommonHeader
pub mod Cut
pub mod Front
pub mod Pdu
pub mod Received
pub mod Short
pub mod Side
pub mod Stream
