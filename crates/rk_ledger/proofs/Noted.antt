-- What is to be noted of calls, once one more record is at the end, and once it is taken away.
use Rattle.std.proofs.Common.{◌≡◌, ℕ, ◌+◌, ◌-◌, Bool, true, false, cond, eqb, ◌&&◌, ◌||◌, List, [], ◌∷◌, ◌++◌, length, refl, sym, ap, ◌∙◌, subst, arith}
use Rattle.std.specs.Prelude.{All, nat_lt}
use Rattle.std.specs.List.{count_by, list_any, position}
use Rattle.std.proofs.lemmas.Bool.{and_parts, eq-eqb, eqb-true, ne_eqb}
use Rattle.std.proofs.lemmas.Bool.Decides.{nat_tests}
use Rattle.std.proofs.lemmas.List.Elements.{All-append, All-cons, All-take, All-weaker}
use Rattle.std.proofs.lemmas.List.Sums.{sum_by-cons, sum_by_push}
use Rattle.std.proofs.lemmas.List.Quantifiers.{position-Some}
use Rattle.std.proofs.Math.Seq.{take-append_seam}
use Rattle.rk_types.specs.declared.history.Placed.{Placed}
use Rattle.rk_world.specs.Journal.{is_of_mutation}
use Rattle.rk_ledger.specs.declared.call_index.CallIndex.{CallIndex}
use Rattle.rk_ledger.specs.declared.call_index.Noted.{Noted}
use Rattle.rk_ledger.specs.Noted.{IsIndex, IsNoted, NotesTheSame, has_note, known_or, noted, noted_in, unless_at, with_record, without_record}
use Rattle.rk_ledger.proofs.Positions.{known_stays, position_push}

-- a client and a seq are those that they are
pub same_test : (client seq : ℕ) → (eqb client client && eqb seq seq) ≡ true
same_test client seq = λ i. eq-eqb client client refl i && eq-eqb seq seq refl i

-- what holds of the name of a call holds of a client and a seq that are the same
pub same_name : (P : ℕ → ℕ → Type 0) (client seq other asked : ℕ) → (eqb client other && eqb seq asked) ≡ true
    → P client seq → P other asked
same_name P client seq other asked same holds = grind (arith, and_parts, eqb, eqb-true)

-- something passes if more than none do
pub some_counted : {X : Type 0} (p : X → Bool) (xs : List X) → nat_lt 0 (count_by p xs) ≡ list_any p xs
some_counted p [] = refl
some_counted p (x ∷ xs) = ap (λ n. nat_lt 0 n) (sum_by-cons (λ y. cond (p y) 1 0) x xs) ∙ go (p x) (count_by p xs) (some_counted p xs)
  where
    go : (b : Bool) (n : ℕ) → nat_lt 0 n ≡ list_any p xs → nat_lt 0 (cond b 1 0 + n) ≡ (b || list_any p xs)
    go true n rest = grind (arith, nat_tests)
    go false n rest = ap (λ m. nat_lt 0 m) (nothing_more n) ∙ rest
      where
        nothing_more : (m : ℕ) → 0 + m ≡ m
        nothing_more m = omega arith

-- the call of a record has a note
abbrev pub HasNote : CallIndex → Placed → Type 0
HasNote index placed = has_note index placed.call.client placed.call.seq ≡ true

-- a call that had a note has one, once something is noted
pub has_note_still : (index new : CallIndex) (client seq : ℕ) (note : Noted) → IsNoted index new client seq note → (placed : Placed) → HasNote index placed → HasNote new placed
has_note_still index new client seq note now placed there = grind (arith, eqb)

-- a note with what tests on a record's name say
abbrev tried : Noted → ℕ → Bool → Bool → Noted
tried note place mutation accepted = record { place = known_or note.place mutation place; accepted = note.accepted + cond accepted 1 0 }

-- what was noted comes back
noted_back : (note : Noted) (placed : Placed) (place : ℕ) → unless_at note.place place ≡ note.place → without_record (with_record note placed place) placed place ≡ note
noted_back note placed place free = grind (arith, eq-eqb)

-- no record is at the place behind them all
free_behind : (records : List Placed) (placed : Placed) (client seq : ℕ) → unless_at (position (is_of_mutation client seq) records) (length records) ≡ position (is_of_mutation client seq) records
free_behind records placed client seq = grind (arith, position-Some, ne_eqb)

module _ (records : List Placed) (placed : Placed) where
  abbrev client : ℕ
  client = placed.call.client

  abbrev seq : ℕ
  seq = placed.call.seq

  -- what is to be noted once it is at the end: of its call one record more, of another what there was
  pub noted_push : (other asked : ℕ)
      → noted (records ++ placed ∷ []) other asked
      ≡ cond (eqb client other && eqb seq asked) (with_record (noted records client seq) placed (length records)) (noted records other asked)
  noted_push other asked = grind (arith, position_push, sum_by_push, eqb, same_name, known_stays)

  -- the index once it is noted
  pub index_pushed : (index new : CallIndex) → IsIndex index records
      → IsNoted index new client seq (with_record (noted_in index client seq) placed (length records))
      → IsIndex new (records ++ placed ∷ [])
  index_pushed index new were now = record {
    noted_is = λ other asked.
        now.noted_is other asked
        ∙ (λ i. cond (eqb client other && eqb seq asked) (with_record (were.noted_is client seq i) placed (length records)) (were.noted_is other asked i))
        ∙ sym (noted_push other asked);
    there = All-append (HasNote new) records (placed ∷ [])
        (All-weaker (HasNote index) (HasNote new) (has_note_still index new client seq _ now) records were.there)
        (All-cons (HasNote new) placed [] (now.there client seq ∙ ap (λ b. cond b true (has_note index client seq)) (same_test client seq)) (λ k d lt. absurd (omega (arith, lt))));
  }

  -- the index once it is noted no more
  pub index_popped : (index new : CallIndex) → IsIndex index (records ++ placed ∷ [])
      → IsNoted index new client seq (without_record (noted_in index client seq) placed (length records))
      → IsIndex new records
  index_popped index new were now = record {
    noted_is = λ other asked. now.noted_is other asked ∙ go other asked (eqb client other && eqb seq asked) refl;
    there = subst (All (HasNote new)) (take-append_seam records (placed ∷ []))
        (All-take (HasNote new) (length records) (records ++ placed ∷ [])
        (All-weaker (HasNote index) (HasNote new) (has_note_still index new client seq _ now) (records ++ placed ∷ []) were.there));
  }
    where
      -- what the index had of a call
      had : (other asked : ℕ) → noted_in index other asked
          ≡ cond (eqb client other && eqb seq asked) (with_record (noted records client seq) placed (length records)) (noted records other asked)
      had other asked = were.noted_is other asked ∙ noted_push other asked

      back : without_record (noted_in index client seq) placed (length records) ≡ noted records client seq
      back =
          ap (λ (note : Noted). without_record note placed (length records))
          (had client seq ∙ ap (λ (b : Bool). cond b (with_record (noted records client seq) placed (length records)) (noted records client seq)) (same_test client seq))
          ∙ noted_back (noted records client seq) placed (length records) (free_behind records placed client seq)

      go : (other asked : ℕ) (b : Bool) → (eqb client other && eqb seq asked) ≡ b
          → cond b (without_record (noted_in index client seq) placed (length records)) (noted_in index other asked) ≡ noted records other asked
      go other asked true is = back ∙ same_name (λ c s. noted records client seq ≡ noted records c s) client seq other asked is refl
      go other asked false is =
          had other asked ∙ ap (λ (b : Bool). cond b (with_record (noted records client seq) placed (length records)) (noted records other asked)) is

-- an index that notes the same
pub index_same : (records : List Placed) (index new : CallIndex) → IsIndex index records → NotesTheSame index new → IsIndex new records
index_same records index new were same = grind arith
