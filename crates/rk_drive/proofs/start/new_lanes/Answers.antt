use Rattle.std.proofs.Common.{◌≡◌, ◌++◌, [], List, append-nil, sym, ap, subst, ◌∙◌}
use Rattle.std.specs.List.{All, range_with_len}
use Rattle.std.specs.Vec.Iter.{into_iter_items}
use Rattle.std.proofs.lemmas.List.{nil_from_length}
use Rattle.std.proofs.lemmas.List.Elements.{All-head, All-push, All-tail}
use Rattle.rk_lane.specs.LaneState.{LaneState}
use Rattle.rk_shared_lanes.specs.Kept.{IsSoundOrSpent}
use Rattle.rk_shared_lanes.specs.Together.{IsOfRoster, IsUnasked, numbers_of}
use Rattle.rk_drive.specs.Beginning.{IsFresh, NoneFellSince}
use Rattle.rk_drive.specs.declared.start.TheConstants.{BACKUPS, MASTERS}
use Rattle.rk_drive.proofs.Fresh.{numbers_moved}
use Rattle.rk_drive.proofs.Rising.{since_prepared}
use Rattle.rk_drive.proofs.start.new_lanes.Goals as goal

pub prepared-requires : goal.prepared-requires
prepared-requires g c =
    All-head (IsFresh MASTERS BACKUPS) c.in-Some.lane (into_iter_items c.next.new.self) (subst (All (IsFresh MASTERS BACKUPS)) c.in-Some.ensures.steps.0 c.loop-lane.invariant.fresh)

pub loop-lane-preserved : goal.loop-lane-preserved
loop-lane-preserved g c =
    let before = c.loop-lane.lanes.items in
    let prepared = c.in_ok-prepared.field-0 in
    let rest = into_iter_items c.next.new.self in
    let left = c.in-Some.ensures.steps.0 in
    let done = sym c.in_ok-push.ensures.items in
    record {
      numbers =
          ap (λ (lanes : _). numbers_of lanes ++ numbers_of rest) c.in_ok-push.ensures.items
          ∙ numbers_moved before prepared c.in-Some.lane rest c.in_ok-prepared.ensures.number
          ∙ ap (λ (lanes : _). numbers_of before ++ numbers_of lanes) (sym left) ∙ c.loop-lane.invariant.numbers;
      roster =
          subst (All (IsOfRoster MASTERS BACKUPS (range_with_len 1 c.args.clients))) done
          (All-push (IsOfRoster MASTERS BACKUPS (range_with_len 1 c.args.clients)) before prepared c.loop-lane.invariant.roster c.in_ok-prepared.ensures.roster);
      unasked = subst (All IsUnasked) done (All-push IsUnasked before prepared c.loop-lane.invariant.unasked c.in_ok-prepared.ensures.unasked);
      fresh = All-tail (IsFresh MASTERS BACKUPS) c.in-Some.lane rest (subst (All (IsFresh MASTERS BACKUPS)) left c.loop-lane.invariant.fresh);
      sound = λ empty.
          let sound = subst (All (IsSoundOrSpent g.R.Replica.segments)) left (c.loop-lane.invariant.left empty) in
          subst (All (IsSoundOrSpent g.R.Replica.segments)) done
          (All-push (IsSoundOrSpent g.R.Replica.segments) before prepared (c.loop-lane.invariant.sound empty)
          (c.in_ok-prepared.ensures.sound (All-head (IsSoundOrSpent g.R.Replica.segments) c.in-Some.lane rest sound)));
      counts =
          subst (λ (lanes : List (LaneState g.row.R.Denot)). NoneFellSince g.R.Replica.faults c.args.replicas.items (lanes ++ rest)) done
          (since_prepared g.R.Replica.faults c.args.replicas.items before prepared c.in-Some.lane rest c.in_ok-prepared.ensures.counts
          (subst (λ (lanes : List (LaneState g.row.R.Denot)). NoneFellSince g.R.Replica.faults c.args.replicas.items (before ++ lanes)) left c.loop-lane.invariant.counts));
      left = λ empty.
          All-tail (IsSoundOrSpent g.R.Replica.segments) c.in-Some.lane rest
          (subst (All (IsSoundOrSpent g.R.Replica.segments)) left (c.loop-lane.invariant.left empty));
    }

-- no lane is left
pub returns-clause-counts : goal.returns-clause-counts
returns-clause-counts g c =
    let left = c.loop-lane.lane-iterator in
    let done = c.loop-lane.lanes.items in
    let none : into_iter_items left ≡ [] = nil_from_length (into_iter_items left) (sym left.rest.ok.0 ∙ c.in-None.ensures.steps.0) in
    subst (NoneFellSince g.R.Replica.faults c.args.replicas.items) (append-nil done)
    (subst (λ (lanes : List (LaneState g.row.R.Denot)). NoneFellSince g.R.Replica.faults c.args.replicas.items (done ++ lanes)) none c.loop-lane.invariant.counts)
