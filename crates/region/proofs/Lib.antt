-- Laws that the crates above cite.
pub mod Readings
pub mod Laying
pub mod Lanes
pub mod Across
pub mod Stores
pub mod Flats
