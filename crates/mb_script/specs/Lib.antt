pub mod Index
pub mod Kept
pub mod Operations
pub mod Script
