pub mod Command
pub mod Explanation
pub mod Fields
pub mod Names
pub mod Pages
pub mod Subject
pub mod Words
