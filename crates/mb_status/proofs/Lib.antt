pub mod ScheduledBit
