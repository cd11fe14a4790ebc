pub mod Begins
pub mod Carrying
pub mod Deciding
pub mod Performing
pub mod Pieces
pub mod Telling
pub mod Within
