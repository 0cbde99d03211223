-- How far a replay of items has come.
use Rattle.rk_side_log.proofs.Words.{◌≡◌, ℕ, ◌+◌, ◌<◌, ◌≤◌, Bool, true, false, cond, List, [], ◌∷◌, ◌++◌, Option, Some, None, length, refl}
use Rattle.rk_side_log.proofs.Words.{sym, ap, subst, ◌∙◌, arith, length-append, append_assoc, All, cond-true, cond-false, All-head}
use Rattle.rk_side_log.proofs.Words.{All-tail, spelled_of, Held, LONGEST_SPELLED, IsLawfulHeld, spelled, held_spelled, found, is_newer}
use Rattle.rk_side_log.proofs.Words.{side_replayed, Side, segments_of, spelled_items}
use Rattle.std.proofs.Common.{◌*◌, ◌^◌}
use Rattle.rk_entry.specs.declared.entry.Entry.TheVariants as entries
use Rattle.rk_table.specs.Items.{with_newer}
use Rattle.rk_side_log.specs.Replayed.{Replayed}
use Rattle.rk_side_log.specs.Side.{with_last}
use Rattle.rk_side_log.specs.declared.replay.Tally.{Tally}
use Rattle.rk_side_log.proofs.Begun.{segments_first, segments_rest}
use Rattle.rk_side_log.proofs.Cutting.{spelled_push}
use Rattle.rk_side_log.proofs.Filled.{spelled_most}

-- from these records and this side log on, what is left makes what all makes, and there is room for it
pub record GoesOn (end : Replayed) (begin : Side) (records : List Held) (side : Side) (tally : Tally) (rest : List Held) : Type 0 where
  pub whole : side_replayed records side.items rest ≡ end
  pub made : side.made ≡ begin.made
  pub room : segments_of (side.items ++ rest) ≤ side.made
  pub count : length side.items ≡ length begin.items + tally.items
  pub bytes : length (spelled_items side.items) ≡ length (spelled_items begin.items) + tally.bytes
  pub lawful : All IsLawfulHeld rest
  pub few : tally.items + length rest < 2 ^ 32
  pub small : tally.bytes ≤ tally.items * LONGEST_SPELLED

-- an item is newer
pub goes_newer : (end : Replayed) (begin : Side) (records records' : List Held) (side side' : Side) (tally : Tally) (item : Held) (rest : List Held) (bytes : ℕ)
    → GoesOn end begin records side tally (item ∷ rest) → is_newer item (found item.table item.key records) ≡ true
    → records' ≡ with_newer item records → side' ≡ with_last side item → bytes ≡ spelled_of item
    → GoesOn end begin records' side' (record { items = tally.items + 1; bytes = tally.bytes + bytes }) rest
goes_newer end begin records records' side side' tally item rest bytes goes newer records_are side_is size =
    let item_lawful : IsLawfulHeld item = All-head IsLawfulHeld item rest goes.lawful in
    let items_are : side'.items ≡ side.items ++ item ∷ [] = ap (λ (s : Side). s.items) side_is in
    let made_is : side'.made ≡ side.made = ap (λ (s : Side). s.made) side_is in
    let all : segments_of (side'.items ++ rest) ≡ segments_of (side.items ++ item ∷ rest) =
    ap segments_of (ap (λ (l : List Held). l ++ rest) items_are ∙ append_assoc side.items (item ∷ []) rest) in
    let spelled_are : length (spelled_items side'.items) ≡ length (spelled_items side.items) + spelled_of item =
    ap (λ (l : List Held). length (spelled_items l)) items_are ∙ ap length (spelled_push side.items item)
    ∙ length-append (spelled_items side.items) (spelled (entries.Held item)) ∙ ap (λ (n : ℕ). length (spelled_items side.items) + n) (sym (held_spelled item)) in
    record {
      whole =
          (λ i. side_replayed (records_are i) (items_are i) rest)
          ∙ ap (λ (r : Replayed). side_replayed r.records r.items rest) (sym (cond-true (is_newer item (found item.table item.key records)) _ (record { records = records; items = side.items }) newer))
          ∙ goes.whole;
      made = made_is ∙ goes.made;
      room = omega (arith, all, made_is, goes.room);
      count = omega (arith, ap length items_are, length-append side.items (item ∷ []), goes.count);
      bytes = omega (arith, spelled_are, goes.bytes, size);
      lawful = All-tail IsLawfulHeld item rest goes.lawful;
      few = omega (arith, goes.few);
      small = omega (arith, goes.small, size, spelled_most item item_lawful);
    }

-- an item is not
pub goes_older : (end : Replayed) (begin : Side) (records records' : List Held) (side side' : Side) (tally : Tally) (item : Held) (rest : List Held)
    → GoesOn end begin records side tally (item ∷ rest) → is_newer item (found item.table item.key records) ≡ false
    → records' ≡ with_newer item records → side' ≡ side → GoesOn end begin records' side' tally rest
goes_older end begin records records' side side' tally item rest goes older records_are side_is =
    let same : records' ≡ records = records_are ∙ cond-false (is_newer item (found item.table item.key records)) _ records older in
    record {
      whole =
          (λ i. side_replayed (same i) (side_is i).items rest)
          ∙ ap (λ (r : Replayed). side_replayed r.records r.items rest) (sym (cond-false (is_newer item (found item.table item.key records)) _ (record { records = records; items = side.items }) older))
          ∙ goes.whole;
      made = ap (λ (s : Side). s.made) side_is ∙ goes.made;
      room = omega (arith, ap (λ (s : Side). segments_of (s.items ++ rest)) side_is, ap (λ (s : Side). s.made) side_is, segments_rest side.items rest item, goes.room);
      count = ap (λ (s : Side). length s.items) side_is ∙ goes.count;
      bytes = ap (λ (s : Side). length (spelled_items s.items)) side_is ∙ goes.bytes;
      lawful = All-tail IsLawfulHeld item rest goes.lawful;
      few = omega (arith, goes.few);
      small = goes.small;
    }

-- ---- the step of the loop, by what the replay of an item answers

-- there is room for the next item
pub next_room : (end : Replayed) (begin : Side) (records : List Held) (side : Side) (tally : Tally) (item : Held) (list rest : List Held)
    → GoesOn end begin records side tally list → list ≡ item ∷ rest → segments_of (side.items ++ item ∷ []) ≤ side.made
next_room end begin records side tally item list rest goes is = grind (arith, segments_of, segments_first)

answered_some : (b : Bool) (size bytes : ℕ) (o : Option ℕ) → o ≡ cond b (Some size) None → o ≡ Some bytes → (b ≡ true) × (bytes ≡ size)
answered_some true size bytes o told is = (refl, cc)
answered_some false size bytes o told is = absurd (cc)

answered_none : (b : Bool) (size : ℕ) (o : Option ℕ) → o ≡ cond b (Some size) None → ((bytes : ℕ) → o ≡ Some bytes → ⊥) → b ≡ false
answered_none true size o told none = absurd (none size told)
answered_none false size o told none = refl

-- it answers how many bytes it added
pub goes_some : (end : Replayed) (begin : Side) (records records' : List Held) (side side' : Side) (tally : Tally) (item : Held) (list rest : List Held) (answer : Option ℕ) (bytes : ℕ)
    → GoesOn end begin records side tally list → list ≡ item ∷ rest → records' ≡ with_newer item records
    → side' ≡ cond (is_newer item (found item.table item.key records)) (with_last side item) side
    → answer ≡ cond (is_newer item (found item.table item.key records)) (Some (spelled_of item)) None → answer ≡ Some bytes
    → GoesOn end begin records' side' (record { items = tally.items + 1; bytes = tally.bytes + bytes }) rest
goes_some end begin records records' side side' tally item list rest answer bytes goes is records_are side_is answer_is some =
    let told = answered_some (is_newer item (found item.table item.key records)) (spelled_of item) bytes answer answer_is some in
    goes_newer end begin records records' side side' tally item rest bytes (subst (GoesOn end begin records side tally) is goes) told.0 records_are
    (side_is ∙ cond-true (is_newer item (found item.table item.key records)) (with_last side item) side told.0) told.1

-- it answers that it added none
pub goes_none : (end : Replayed) (begin : Side) (records records' : List Held) (side side' : Side) (tally : Tally) (item : Held) (list rest : List Held) (answer : Option ℕ)
    → GoesOn end begin records side tally list → list ≡ item ∷ rest → records' ≡ with_newer item records
    → side' ≡ cond (is_newer item (found item.table item.key records)) (with_last side item) side
    → answer ≡ cond (is_newer item (found item.table item.key records)) (Some (spelled_of item)) None → ((bytes : ℕ) → answer ≡ Some bytes → ⊥)
    → GoesOn end begin records' side' tally rest
goes_none end begin records records' side side' tally item list rest answer goes is records_are side_is answer_is none =
    let older = answered_none (is_newer item (found item.table item.key records)) (spelled_of item) answer answer_is none in
    goes_older end begin records records' side side' tally item rest (subst (GoesOn end begin records side tally) is goes) older records_are
    (side_is ∙ cond-false (is_newer item (found item.table item.key records)) (with_last side item) side older)
