-- Parts of a log that do not touch a range: a member that has nothing behind a place, and one whose log ends with nothing of it.
use Rattle.std.proofs.Common.{◌≡◌, ℕ, zero, suc, ◌≤◌, Bool, false, cond, List, [], ◌∷◌, ◌++◌, refl, sym, ap, ◌∙◌, arith, append-nil, drop}
use Rattle.std.proofs.Common.{max, All, take-append-drop}
use Rattle.rk_inv_base.proofs.Words.{or_parts, flat_map-append, All-nil, All-cons, filter-append, list_any, Member, Range, Entry, is_marked}
use Rattle.rk_inv_base.proofs.Words.{unmarked, unmarked_from, touches, material_of, named, side_entries, with_number, Written}
use Rattle.rk_inv_base.proofs.Words.{applied_entries, member_rest, member_truth, Mark, IsDone}
use Rattle.rk_inv_rows.proofs.Words.{Misses, all_names_none, counting_none, drop_missed, material_none, unmarked_missed}
use Rattle.rk_inv_rows.proofs.lineage.Among.{first_all, later_all}

-- if none passes a test, each fails it
pub each_misses : (range : Range) (list : List Entry) → list_any (touches range) list ≡ false → All (Misses range) list
each_misses range [] none = All-nil (Misses range)
each_misses range (entry ∷ list) none =
    let parts = or_parts (touches range entry) (list_any (touches range) list) none in
    All-cons (Misses range) entry list parts.0 (each_misses range list parts.1)

-- ---- more that misses a range says nothing more about it

-- these entries with more behind them that misses a range
pub record HasMissed (range : Range) (short long : List Entry) : Type 0 where
  pub more : List Entry
  pub parts : long ≡ short ++ more
  pub missed : All (Misses range) more

drop_more : (range : Range) (n : ℕ) (list more : List Entry) → All (Misses range) more → HasMissed range (drop n list) (drop n (list ++ more))
drop_more range zero list more missed = record { more = more; parts = refl; missed = missed }
drop_more range (suc n) [] more missed = record { more = drop (suc n) more; parts = refl; missed = drop_missed range (suc n) more missed }
drop_more range (suc n) (entry ∷ list) more missed = drop_more range n list more missed

-- the first of them goes or stays in both
first_kept : (range : Range) (gone : Bool) (entry : Entry) (short long : List Entry) → HasMissed range short long → HasMissed range (cond gone short (entry ∷ short)) (cond gone long (entry ∷ long))
first_kept range gone entry short long has = grind arith

unmarked_more : (range : Range) (marks : List Mark) (place : ℕ) (list more : List Entry) → All (Misses range) more → HasMissed range (unmarked marks place list) (unmarked marks place (list ++ more))
unmarked_more range marks place [] more missed = grind (arith, unmarked, unmarked_missed)
unmarked_more range marks place (entry ∷ list) more missed =
    grind (arith, first_kept, is_marked, unmarked, (unmarked_more range marks (suc place) list more missed))

from_more : (range : Range) (marks : List Mark) (from : ℕ) (list more : List Entry) → All (Misses range) more → HasMissed range (unmarked_from marks from list) (unmarked_from marks from (list ++ more))
from_more range marks from list more missed =
    let dropped = drop_more range from list more missed in
    let kept = unmarked_more range marks from (drop from list) dropped.more dropped.missed in
    record { more = kept.more; parts = ap (unmarked marks from) dropped.parts ∙ kept.parts; missed = kept.missed }

-- the same counts, with the same side segments
material_same : (range : Range) (side : ℕ → List Entry) (short long : List Entry) → range.first ≤ range.last → HasMissed range short long → material_of range side long ≡ material_of range side short
material_same range side short long some has =
    grind (arith, flat_map-append, all_names_none, append-nil, filter-append, counting_none)

-- ---- members

-- a member that has nothing that is not applied is done
pub done_settled : (written : ℕ → Written) (range : Range) (member : Member) → range.first ≤ range.last → list_any (touches range) (drop (written member.master).applied (written member.master).entries) ≡ false → IsDone written range member
done_settled written range member some settled =
    let w : Written = written member.master in
    let missed : All (Misses range) (drop w.applied w.entries) = each_misses range (drop w.applied w.entries) settled in
    record {
      rest =
          counting_none range (unmarked_from w.marks (max member.from w.applied) w.entries) some
          (unmarked_missed range w.marks (max member.from w.applied) (drop (max member.from w.applied) w.entries)
          (later_all (Misses range) w.applied (max member.from w.applied) w.entries (omega arith) missed));
      all =
          ap (λ (l : List Entry). material_of range (side_entries w.sides) (unmarked_from w.marks member.from l))
          (sym (take-append-drop w.applied w.entries))
          ∙ material_same range (side_entries w.sides) (unmarked_from w.marks member.from (applied_entries w))
          (unmarked_from w.marks member.from (applied_entries w ++ drop w.applied w.entries)) some
          (from_more range w.marks member.from (applied_entries w) (drop w.applied w.entries) missed);
    }

-- of a member that has nothing from its place on nothing counts, applied or not, and it names no side segment
module _ (written : ℕ → Written) (range : Range) (member : Member) (some : range.first ≤ range.last) (nothing : list_any (touches range) (drop member.from (written member.master).entries) ≡ false) where
  abbrev w : Written
  w = written member.master

  missed : All (Misses range) (drop member.from w.entries)
  missed = each_misses range (drop member.from w.entries) nothing

  pub truth_none : member_truth written range member ≡ []
  truth_none = search (material_none, side_entries, unmarked_from, applied_entries, unmarked_missed, first_all, missed)

  pub rest_none : member_rest written range member ≡ []
  rest_none =
      counting_none range (unmarked_from w.marks (max member.from w.applied) w.entries) some
      (unmarked_missed range w.marks (max member.from w.applied) (drop (max member.from w.applied) w.entries)
      (later_all (Misses range) member.from (max member.from w.applied) w.entries (omega arith) missed))

  pub names_none : named range (unmarked_from w.marks member.from w.entries) ≡ []
  names_none = search (with_number, all_names_none, unmarked_from, unmarked_missed, missed)
