pub mod ActiveList
pub mod ActiveView
pub mod ChangedSet
pub mod Changes
pub mod Plan
pub mod Reached
pub mod Tables
