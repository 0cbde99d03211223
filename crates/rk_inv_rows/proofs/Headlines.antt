-- The headline laws of rows: a sound lane stays sound when a row takes another lineage or is split; and what a finished migration leaves.
use Rattle.std.proofs.Common.{Ok}
use Rattle.rk_inv_base.proofs.Words.{ℕ, NumberMap, insert, Moving, Row, Handed, World, HasSome, view, IsSound, MayTakeJoined, Owned, ◌≡◌}
use Rattle.rk_inv_base.proofs.Words.{All, Member, Range, counting, Written, member_truth, member_rest, List, Entry, IsTruth, Placed, Base}
use Rattle.rk_inv_base.proofs.Words.{Option, IsRest, LastCall, false, None, Some, get, row_of, Message, Gave, is_noticed, row_tenure}
use Rattle.rk_inv_base.proofs.Words.{Stepped, step, Event, Called}
use Rattle.rk_inv_rows.proofs.Words.{MayMove, row_moved_in, row_owned_in, IsHalf, IsOfWhole, tablet_split, MaySplit, stands_found, Finishes}
use Rattle.rk_inv_rows.specs.finished.Deliveries.{DeliversJoined}
use Rattle.rk_inv_rows.proofs.lineage.JoinedTaken.{view_joined_taken, may_be_owned}
use Rattle.rk_inv_rows.proofs.lineage.LineageSays.{rows_after}
use Rattle.rk_inv_rows.proofs.lineage.RowMoved.{may_be_moved, view_moved}
use Rattle.rk_inv_rows.proofs.split.Split.{row_sound}
use Rattle.rk_types.specs.declared.node.Node.TheVariants as nodes
use Rattle.rk_message.specs.declared.message.Body.TheVariants as bodies
use Rattle.rk_world.specs.declared.event.Event.TheVariants as events

-- ---- another lineage

-- A sound lane stays sound when a row moves, once its source is frozen and has reported what it hands over and its target waits at its
-- place; and when the target of a row that moved owns it, once its closing entry is applied. The range of the row is not empty: so it is in
-- each lane that is well formed.
pub sound_moved : (w : World) (row : Row) (source sfrom target dfrom : ℕ) (given : Handed) → IsSound w → HasSome row.range
    → MayMove (view w) row source sfrom target dfrom given → IsSound (row_moved_in w row source sfrom target dfrom given)
sound_moved w row source sfrom target dfrom given sound some may =
    let turned = may_be_moved (view w) row source sfrom target dfrom given sound some may in
    let noted : NumberMap Handed = insert (view w).handed row.tablet given in
    rw (rows_after (view w) row (Moving source sfrom target dfrom) noted sound turned)
    (view_moved (view w) row source sfrom target dfrom given sound some may)

pub sound_joined_taken : (w : World) (row : Row) (source sfrom target dfrom : ℕ) → IsSound w → HasSome row.range
    → MayTakeJoined (view w) row source sfrom target dfrom → IsSound (row_owned_in w row target dfrom)
sound_joined_taken w row source sfrom target dfrom sound some may =
    let turned = may_be_owned (view w) row source sfrom target dfrom sound some may in
    rw (rows_after (view w) row (Owned target dfrom) (view w).handed sound turned)
    (view_joined_taken (view w) row source sfrom target dfrom sound some may)

-- ---- a split

-- What counts of a log for a half of a range is what counts for the half of what counts for the whole, if each Carried and each Joined
-- that meets the whole has all of it. If that is the truth and the rest of the whole, it is those of the half.
module _ (whole half : Range) (half_is : IsHalf whole half) where
  pub half_truth : (written : ℕ → Written) (member : Member) → All (IsOfWhole whole) (written member.master).entries
      → member_truth written half member ≡ counting half (member_truth written whole member)
  half_truth = Rattle.rk_inv_rows.proofs.split.HalfOfRow.half_truth whole half half_is

  pub half_rest : (written : ℕ → Written) (member : Member) → All (IsOfWhole whole) (written member.master).entries
      → member_rest written half member ≡ counting half (member_rest written whole member)
  half_rest = Rattle.rk_inv_rows.proofs.split.HalfOfRow.half_rest whole half half_is

  pub truth_half : (base : Base) (truth : List Entry) (journal : List Placed) → IsTruth base whole truth journal
      → IsTruth base half (counting half truth) journal
  truth_half = Rattle.rk_inv_rows.proofs.split.HalfOfRow.truth_half whole half half_is

  pub rest_half : (base : Base) (truth rest : List Entry) (journal : List Placed) (asked : ℕ → Option LastCall)
      → IsRest base whole truth rest journal asked → IsRest base half (counting half truth) (counting half rest) journal asked
  rest_half = Rattle.rk_inv_rows.proofs.split.HalfOfRow.rest_half whole half half_is

-- A sound lane stays sound when the coordinator splits an owned row in two at the next term, and its owner, if it lives, serves both
-- halves.
pub sound_split : (w : World) (row : Row) (at new : ℕ) → IsSound w → MaySplit (view w) row at new
    → IsSound (tablet_split w row.tablet at new)
sound_split w row at new sound may =
    rw (stands_found w.coordinator.rows row sound.rows.apart may.has_row) (row_sound w row at new sound may)

-- ---- finished migrations

-- In a sound lane, if a row moves to a target that was not noticed dead, the delivery of a Joined of the row's term to the coordinator
-- finishes the migration: the message is the target's, the target owns the row then, and what counts of the target alone has the records of
-- what counted of the source, overlaid by the target's own writes. By no other event does a row that moves come to be owned.
module _ (before : World) (stepped : Stepped) (row : Row) (source target : Member) (sound : IsSound before)
    (found : row_of before.coordinator.rows row.tablet ≡ Some row)
    (moving : row.phase ≡ Moving source.master source.from target.master target.from) where
  pub finishes : (number : ℕ) (message : Message) → is_noticed before.coordinator target.master ≡ false
      → get before.wire.messages number ≡ Some message → message.to ≡ nodes.Coordinator → message.body ≡ bodies.Joined (row_tenure row)
      → step before (events.Deliver number) (Gave None) ≡ Ok stepped → Finishes before number stepped row source target
  finishes number message heard there for_coordinator tells =
      Rattle.rk_inv_rows.proofs.finished.JoinedDelivered.finishes before number message row source target sound found moving heard there
      for_coordinator tells stepped

  pub only_joined : (event : Event) (called : Called) (now : Row) (owner from : ℕ) → step before event called ≡ Ok stepped
      → row_of stepped.world.coordinator.rows row.tablet ≡ Some now → now.phase ≡ Owned owner from
      → DeliversJoined before event row target.master
  only_joined event called =
      Rattle.rk_inv_rows.proofs.finished.OnlyJoined.only_joined before row source target sound found moving event called stepped
