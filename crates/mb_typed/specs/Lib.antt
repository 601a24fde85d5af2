pub mod Decoding
pub mod Halves
pub mod Sending
pub mod TypedBehaviour
