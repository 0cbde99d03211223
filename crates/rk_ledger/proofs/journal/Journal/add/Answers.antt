use Rattle.std.proofs.Common.{◌≡◌, ◌+◌, max, false, List, [], ◌∷◌, ◌++◌, refl, sym, ap, ◌∙◌, subst}
use Rattle.rk_types.specs.declared.history.Placed.{Placed}
use Rattle.rk_world.specs.Journal.{last_stamp}
use Rattle.rk_ledger.specs.Noted.{IsIndex, IsKept}
use Rattle.rk_ledger.proofs.Kept.{kept_pushed}
use Rattle.rk_ledger.proofs.journal.Journal.add.Goals as goal

pub invariant_of-self-2 : goal.invariant_of-self-2
invariant_of-self-2 c =
    let were = c.self.inside in
    let placed : Placed = record { call = c.args.call; outcome = c.args.outcome; stamp = c.in_ok-stamp.stamp; accepted = false } in
    let pushed : c.put.new.records.items ≡ were.records.items ++ placed ∷ [] = c.in_ok-put.ensures.ok in
    let stamp_is = c.in_ok-stamp.ensures ∙ ap (λ (records : List Placed). max (last_stamp records) c.args.seen + 1) c.as_slice.ensures.value in
    subst (IsKept c.put.new.index were.accepted c.in_ok-bytes.bytes) (sym pushed)
    (kept_pushed were.index c.put.new.index were.records.items were.accepted were.bytes c.in_ok-bytes.bytes c.args.seen placed c.self.invariant
    (subst (IsIndex c.put.new.index) pushed c.put.ensures.index) refl c.in_ok-bytes.ensures stamp_is)
