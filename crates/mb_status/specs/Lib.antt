pub mod Mailbox
pub mod WordLemmas
