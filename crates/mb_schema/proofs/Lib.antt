pub mod Examples
pub mod Firsts
pub mod Loops
pub mod Values
