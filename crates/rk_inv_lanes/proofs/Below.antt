-- Words of the crates below that the crates above take from here, so that these need not build on those.
pub use Rattle.rk_inv_events.proofs.Below.{IsKept, Part, accept_keeps, ask_keeps, event_keeps, finishes, mapped, only_joined}
pub use Rattle.rk_inv_events.proofs.Below.{sealed_accepted, sealed_asked, sealed_event, sealed_new, tell_accepted, tell_asked, tell_event}
pub use Rattle.rk_inv_events.proofs.Below.{tell_new}
pub use Rattle.rk_inv_events.proofs.events.Clients.{asked_is, for_client, is_last_there, may_accept, sound_accepts, sound_asks}
pub use Rattle.rk_inv_events.proofs.events.SameCalls.{accepted_found, found_accepted}
pub use Rattle.rk_inv_events.proofs.events.Storing.{added_front}
pub use Rattle.rk_inv_events.proofs.steps.Stepped.{sound_event}
