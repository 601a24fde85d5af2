pub mod Conserved
