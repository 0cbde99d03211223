pub mod Ends
pub mod Granting
pub mod GrantedMessages
pub mod Granted
