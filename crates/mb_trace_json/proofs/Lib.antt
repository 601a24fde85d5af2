pub mod Plain
pub mod Numbers
pub mod Decoded
pub mod Told
pub mod Lines
