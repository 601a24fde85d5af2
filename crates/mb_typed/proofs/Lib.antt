mod Decoding
pub mod JoinedHalves
