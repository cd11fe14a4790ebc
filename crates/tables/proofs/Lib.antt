pub mod Each
pub mod Layouts
pub mod NameTables
pub mod NameWalks
pub mod NumberTables
pub mod NumberWalks
