-- What becomes of reported segments when bytes come for one of them: of segments that are not reported nothing is owed.
use Rattle.std.proofs.Common.{◌≡◌, ℕ, ◌-◌, ◌<◌, ◌≤◌, Bool, true, false, cond, leb, List, [], ◌∷◌, Option, Some, None, Ok, Err, length, take, drop, refl, sym, ap, ◌∙◌, arith}
use Rattle.std.specs.Prelude.{◌&&◌, IfSome, bytes_eq}
use Rattle.std.proofs.lemmas.Bool.{and_left, cond-true, cond-false, le-leb, lt-leb}
use Rattle.std.proofs.lemmas.List.{drop_all}
use Rattle.rk_outside.specs.declared.replica.Lost.{Lost}
use Rattle.rk_outside.specs.declared.replica.Lost.TheVariants.{Failed, NoMemory}
use Rattle.rk_outside.specs.Segments.{Segments, IsSame, WhereTold, Stores, bytes_of, lengths_of, with_bytes, with_part}
use Rattle.rk_backup.specs.Accepts.{Accepts, added, is_accepted, overlap}

-- bytes that begin where the stored ones end are accepted
accepted_at_end : (at : ℕ) (bytes stored : List ℕ) → length stored ≡ at → true ≡ is_accepted at bytes stored
accepted_at_end at bytes stored e =
    let none : overlap at bytes stored ≡ 0 = omega arith in
    sym ((λ i. leb at (length stored) && bytes_eq (take (none i) (drop at stored)) (take (none i) bytes))
    ∙ ap (λ (b : Bool). b && true) (le-leb at (length stored) (omega arith)))

-- reported segments are the same as themselves
pub told_same : (told : Option Segments) → WhereTold IsSame told told
told_same None = tt
told_same (Some segments) = λ m s. refl

module _ (master segment at : ℕ) (bytes : List ℕ) where
  -- a fact of the stored bytes, if they are reported
  abbrev pub OfStored : (List ℕ → Type 0) → Option Segments → Type 0
  OfStored P told = IfSome told (λ segments. P (bytes_of (segments master segment)))

  pub accepted_told : (count : ℕ) (told : Option Segments) → IfSome told (λ segments. count ≡ lengths_of segments master segment) → count ≡ at
      → OfStored (λ stored. true ≡ is_accepted at bytes stored) told
  accepted_told count None long here = tt
  accepted_told count (Some segments) long here = accepted_at_end at bytes (bytes_of (segments master segment)) (sym long ∙ here)

  -- nothing is added past a gap
  pub gap_told : (count : ℕ) (told : Option Segments) → IfSome told (λ segments. count ≡ lengths_of segments master segment) → count < at
      → OfStored (λ stored. added at bytes stored ≡ []) told
  gap_told count None long gap = tt
  gap_told count (Some segments) long gap =
      cond-false (is_accepted at bytes (bytes_of (segments master segment))) _ [] (and_left _ _ (lt-leb at _ (omega arith)))

  -- nor if all of them are stored
  pub all_told : (count : ℕ) (told : Option Segments) → IfSome told (λ segments. count ≡ lengths_of segments master segment) → length bytes ≤ count - at
      → OfStored (λ stored. added at bytes stored ≡ []) told
  all_told count None long all = tt
  all_told count (Some segments) long all = go (is_accepted at bytes (bytes_of (segments master segment)))
    where
      go : (b : Bool) → cond b (drop (length (bytes_of (segments master segment)) - at) bytes) [] ≡ []
      go true = drop_all _ bytes (omega arith)
      go false = refl

  -- else it is what goes past the stored bytes
  pub more_told : (count : ℕ) (same : Bool) (more : List ℕ) (told : Option Segments) → IfSome told (λ segments. count ≡ lengths_of segments master segment)
      → OfStored (λ stored. same ≡ is_accepted at bytes stored) told → same ≡ true → more ≡ drop (count - at) bytes
      → OfStored (λ stored. added at bytes stored ≡ more) told
  more_told count same more None long is here more_is = tt
  more_told count same more (Some segments) long is here more_is =
      cond-true (is_accepted at bytes (bytes_of (segments master segment))) _ [] (sym is ∙ here)
      ∙ ap (λ (k : ℕ). drop (k - at) bytes) (sym long) ∙ sym more_is

  -- if nothing is added, nothing changes
  pub unchanged : (answer : ℕ) (old new : Option Segments) → WhereTold IsSame old new → OfStored (λ stored. added at bytes stored ≡ []) old
      → WhereTold (Accepts {T = ℕ} (Ok answer) master segment at bytes) old new
  unchanged answer None new same none = tt
  unchanged answer (Some old) None same none = absurd same
  unchanged answer (Some old) (Some new) same none = record {
    here = same master segment ∙ ap (with_part (old master segment)) (sym none);
    others = λ m s apart. same m s;
  }

  with_some : (stored : Option (List ℕ)) (more : List ℕ) → 0 < length more → with_bytes stored more ≡ with_part stored more
  with_some stored [] some = absurd (omega arith)
  with_some stored (byte ∷ more) some = refl

  -- an append of what is added accepts it
  pub appended : (answer : ℕ) (more : List ℕ) (old mid new : Option Segments) → WhereTold IsSame old mid
      → WhereTold (Stores (Ok tt) master segment more) mid new → OfStored (λ stored. added at bytes stored ≡ more) old → 0 < length more
      → WhereTold (Accepts {T = ℕ} (Ok answer) master segment at bytes) old new
  appended answer more None mid new same stores is some = tt
  appended answer more (Some old) None new same stores is some = absurd same
  appended answer more (Some old) (Some mid) None same stores is some = absurd stores
  appended answer more (Some old) (Some mid) (Some new) same stores is some = record {
    here = stores.here ∙ ap (λ (o : Option (List ℕ)). with_bytes o more) (same master segment) ∙ with_some (old master segment) more some ∙ ap (with_part (old master segment)) (sym is);
    others = λ m s apart. stores.others m s apart ∙ same m s;
  }

  -- and an append that fails accepts some first part of it
  pub refused : (lost : Lost) (more : List ℕ) (old mid new : Option Segments) → WhereTold IsSame old mid
      → WhereTold (Stores (Err lost) master segment more) mid new → OfStored (λ stored. added at bytes stored ≡ more) old
      → WhereTold (Accepts {T = ℕ} (Err lost) master segment at bytes) old new
  refused lost more None mid new same stores is = tt
  refused lost more (Some old) None new same stores is = absurd same
  refused lost more (Some old) (Some mid) None same stores is = absurd stores
  refused Failed more (Some old) (Some mid) (Some new) same stores is = record {
    front = stores.front;
    back = stores.back;
    parts = is ∙ stores.parts;
    change = record {
      here = stores.change.here ∙ ap (λ (o : Option (List ℕ)). with_part o stores.front) (same master segment);
      others = λ m s apart. stores.change.others m s apart ∙ same m s;
    };
  }
  refused NoMemory more (Some old) (Some mid) (Some new) same stores is = λ m s. stores m s ∙ same m s
