pub mod Words
pub mod Names
pub mod Tables
pub mod Protocol
pub mod Digits
pub mod Private
