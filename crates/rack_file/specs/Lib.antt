pub mod Images
pub mod Judged
pub mod Keys
pub mod Racks
pub mod Settings
pub mod Tables
