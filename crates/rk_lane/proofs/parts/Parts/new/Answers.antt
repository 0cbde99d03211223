use Rattle.rk_lane.proofs.Words.{◌≡◌, [], List, Option, length, eqb, ap, sym, ◌∙◌, subst, arith, All, IsSome, IsDistinct, Ledger, Master}
use Rattle.rk_lane.proofs.Words.{IsFormedWithRoom, bytes_of_logs, new_world, masters_from, world_of, AreForMasters}
use Rattle.std.proofs.lemmas.List.FromFn.{length-map-range_with_len}
use Rattle.rk_lane.proofs.New.{new_at, new_masters_are, new_present, new_is_formed, none_crashed, new_counted}
use Rattle.rk_lane.proofs.parts.Parts.new.Goals as goal

masters_are : (c : goal.In_ok-with_capacity) → masters_from 1 c.in_ok-new_masters.field-0.items ≡ (new_world c.args.number c.args.masters c.args.backups).masters
masters_are c = ap (masters_from 1) c.in_ok-new_masters.ensures ∙ new_masters_are c.args.backups 1 c.args.masters

world_is : (c : goal.In_ok-with_capacity) → world_of (record {
  number = c.args.number;
  backups = c.args.backups;
  masters = c.in_ok-new_masters.field-0;
  coordinator = c.new.result;
  wire = c.new-2.result;
  ledger = c.new-3.result;
  crashed = c.in_ok-with_capacity.field-0;
  top = 0;
  log_bytes = 0;
}) [] ≡ record (new_world c.args.number c.args.masters c.args.backups) { backups = [] }
world_is c = λ i. record (new_world c.args.number c.args.masters c.args.backups) {
  backups = [];
  masters = masters_are c i;
  coordinator = c.new.ensures i;
  wire = c.new-2.ensures i;
  ledger = c.new-3.ensures i;
  crashed = c.in_ok-with_capacity.ensures.items i;
}

pub returns-clause-world : goal.returns-clause-world
returns-clause-world c = world_is c

pub returns-clause-count : goal.returns-clause-count
returns-clause-count c =
    ap (λ (list : List (Option Master)). length list) c.in_ok-new_masters.ensures
    ∙ length-map-range_with_len (new_at c.args.backups) 1 c.args.masters

pub returns-clause-kept : goal.returns-clause-kept
returns-clause-kept c = record {
  present = subst (All IsSome) (sym c.in_ok-new_masters.ensures) (new_present c.args.backups 1 c.args.masters);
  formed =
      subst IsFormedWithRoom (sym (world_is c))
      (new_is_formed c.args.number c.args.masters c.args.backups c.requires.few_masters c.requires.backed c.requires.few_backups);
  counted = sym (ap bytes_of_logs (world_is c) ∙ new_counted c.args.number c.args.masters c.args.backups);
  distinct = subst (IsDistinct eqb) (sym c.in_ok-with_capacity.ensures.items) none_crashed;
  reserved =
      omega (
        arith,
        ap (λ (list : List (Option Master)). length list) c.in_ok-new_masters.ensures
            ∙ length-map-range_with_len (new_at c.args.backups) 1 c.args.masters,
        c.in_ok-with_capacity.ensures.capacity,
      );
  requests =
      subst (λ (ledger : Ledger). AreForMasters ledger.requests) (sym c.new-3.ensures) (λ client request found. absurd (cc found));
}
