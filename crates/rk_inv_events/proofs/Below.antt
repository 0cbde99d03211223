-- Words of the crates below that the crates above take from here, so that they need not depend on those.
pub use Rattle.rk_inv_base.proofs.views.Among.{mapped}
pub use Rattle.rk_inv_rows.proofs.finished.JoinedDelivered.{finishes}
pub use Rattle.rk_inv_rows.proofs.finished.OnlyJoined.{only_joined}
pub use Rattle.rk_inv_tablets.proofs.crash.Among.{flat_from, flat_of, named_from, place_there}
pub use Rattle.rk_inv_tablets.proofs.crash.FirstRead.{read_none}
pub use Rattle.rk_inv_tablets.proofs.crash.Groups.{cut_groups, ends_in, group_ends, spelled_first, spelled_none, spelled_one}
pub use Rattle.rk_inv_tablets.proofs.crash.LogRead.{all_at, all_groups}
pub use Rattle.rk_inv_tablets.proofs.crash.MergeTells.{IsToldBy, all_stand_told, all_told, read_all, read_told, stands_told}
pub use Rattle.rk_inv_tablets.proofs.crash.ReadTold.{AreMarksTold, counted_told, side_material, stands_there}
pub use Rattle.rk_inv_tablets.proofs.crash.Unmarked.{first_among, free_place}
pub use Rattle.rk_inv_tablets.proofs.merge.Heirs.{gathers_from}
pub use Rattle.rk_inv_tablets.proofs.steady.Lanes.{sealed_accepted, sealed_asked, sealed_event, sealed_new, tell_accepted, tell_asked}
pub use Rattle.rk_inv_tablets.proofs.steady.Lanes.{tell_event, tell_new}
pub use Rattle.rk_inv_tablets.proofs.steady.Walks.{IsKept, Part, accept_keeps, ask_keeps, event_keeps}
pub use Rattle.rk_inv_tablets.specs.merge.Small.{own_entries}
