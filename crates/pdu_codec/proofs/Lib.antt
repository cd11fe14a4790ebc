pub mod Appended
pub mod ConnectReadBack
pub mod ConnectWritten
pub mod NextMultiple
pub mod ReadBack
