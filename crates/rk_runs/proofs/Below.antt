-- Words of the crates below that the crates above take from here, so that they need not depend on those.
pub use Rattle.rk_inv_lanes.proofs.Below.{found_accepted, is_last_there, may_accept, sealed_new, tell_new}
pub use Rattle.rk_inv_lanes.proofs.lanes.Events.{Covers, event_covered}
pub use Rattle.rk_inv_lanes.proofs.lanes.Visits.{ask_covered}
pub use Rattle.rk_inv_lanes.proofs.Headlines.{kept_new, quiet_stands_in_room, all_new, own_where_all_tell}
