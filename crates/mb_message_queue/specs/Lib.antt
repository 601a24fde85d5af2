pub mod MessageQueue
