pub mod TurnLengths
