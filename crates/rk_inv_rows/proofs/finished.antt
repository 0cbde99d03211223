pub mod JoinedDelivered
pub mod Unowned
pub mod OnlyJoined
