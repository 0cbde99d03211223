-- Segments after bytes were put behind them, and known lengths after a backup reported one.
use Rattle.std.proofs.Common.{◌≡◌, ℕ, zero, suc, ◌+◌, ◌-◌, ◌<◌, ◌≤◌, true, false, cond, List, [], ◌∷◌, ◌++◌, length, get_or, set, replicate, Option, refl, sym, ap, subst, ◌∙◌, ⊎_elim, arith, length-set, length-append, get_or-set_same, get_or-set_other}
use Rattle.std.specs.Prelude.{slice_get}
use Rattle.std.specs.Option.{option_map_or, option_or}
use Rattle.std.specs.Global.{Vec}
use Rattle.std.specs.Vec.{with_items}
use Rattle.std.proofs.lemmas.Bool.{cases_lt, cases_eq, cases_Bool, cond-true, cond-false}
use Rattle.std.proofs.lemmas.List.{length-map, get_or_append_left, get_or_push, with_items_is}
use Rattle.rk_entry.specs.declared.lists.TheConstants.{FIRST_SIDE_SEGMENT}
use Rattle.rk_log.specs.declared.copied.Copied.{Copied}
use Rattle.rk_log.specs.declared.copied.TheConstants.{FIRST_SEGMENT}
use Rattle.rk_log.specs.Cut.{last_of, has_room, in_last, with_bytes}
use Rattle.rk_log.specs.Parts.{bytes_in, lengths_in, none_known, copied_of, bytes_among, with_told_length, with_length, AreKnown}
use Rattle.rk_log.proofs.Lookups.{copied_at, copied_past, with_length_before, with_length_at}

-- nothing is known at any backup
pub zeros_at : (n k : ℕ) → get_or {A = ℕ} (replicate n 0) k 0 ≡ 0
zeros_at zero k = refl
zeros_at (suc n) zero = refl
zeros_at (suc n) (suc k) = zeros_at n k

-- one more segment of which nothing is known
pub known_push : (bytes lengths : List (List ℕ)) (more : List ℕ) → length bytes ≡ length lengths → AreKnown bytes lengths → AreKnown (bytes ++ more ∷ []) (lengths ++ none_known ∷ [])
known_push bytes lengths more same known k h = grind (arith, get_or_append_left, length-append, get_or_push, zeros_at, cases_lt)

-- ---- bytes behind segments

-- what stays, what is known, and that the last bytes are not known to be held
pub record Grew (bytes lengths bytes' lengths' : List (List ℕ)) : Type 0 where
  pub same_count : length bytes' ≡ length lengths'
  pub longer : length lengths ≤ length lengths'
  pub at_most : length lengths' ≤ length lengths + 1
  pub some : 0 < length lengths'
  pub before : (k : ℕ) → k < length bytes - 1 → get_or bytes' k [] ≡ get_or bytes k []
  pub lengths_stay : (k : ℕ) → k < length lengths → get_or lengths' k [] ≡ get_or lengths k []
  pub known : AreKnown bytes' lengths'
  pub unheld : get_or (get_or lengths' (length bytes' - 1) []) 0 0 < length (last_of bytes')

-- in the last segment
grew_last : (bytes lengths : List (List ℕ)) (more : List ℕ) → length bytes ≡ length lengths → AreKnown bytes lengths → 0 < length more → 0 < length bytes → Grew bytes lengths (in_last bytes more) lengths
grew_last bytes lengths more same known some filled = grind (arith, length-set, get_or-set_same, get_or-set_other, length-append, cases_eq)

-- in one more
grew_more : (bytes lengths : List (List ℕ)) (more : List ℕ) → length bytes ≡ length lengths → AreKnown bytes lengths → 0 < length more → Grew bytes lengths (bytes ++ more ∷ []) (lengths ++ none_known ∷ [])
grew_more bytes lengths more same known some = grind (arith, length-append, get_or_append_left, known_push, get_or_push, zeros_at)

-- in the last segment if they fit, and else in one more
pub grew : (bytes lengths : List (List ℕ)) (more : List ℕ) (bytes' lengths' : List (List ℕ)) → length bytes ≡ length lengths → AreKnown bytes lengths → 0 < length more
    → bytes' ≡ with_bytes bytes more → lengths' ≡ cond (has_room bytes more) lengths (lengths ++ none_known ∷ []) → (has_room bytes more ≡ true → 0 < length bytes) → Grew bytes lengths bytes' lengths'
grew bytes lengths more bytes' lengths' same known some put put_lengths room =
    ⊎_elim
    (λ (e : has_room bytes more ≡ true).
    let b : bytes' ≡ in_last bytes more = put ∙ cond-true (has_room bytes more) (in_last bytes more) (bytes ++ more ∷ []) e in
    let l : lengths' ≡ lengths = put_lengths ∙ cond-true (has_room bytes more) lengths (lengths ++ none_known ∷ []) e in
    subst (λ (x : List (List ℕ)). Grew bytes lengths x lengths') (sym b)
    (subst (λ (x : List (List ℕ)). Grew bytes lengths (in_last bytes more) x) (sym l) (grew_last bytes lengths more same known some (room e))))
    (λ (e : has_room bytes more ≡ false).
    let b : bytes' ≡ bytes ++ more ∷ [] = put ∙ cond-false (has_room bytes more) (in_last bytes more) (bytes ++ more ∷ []) e in
    let l : lengths' ≡ lengths ++ none_known ∷ [] = put_lengths ∙ cond-false (has_room bytes more) lengths (lengths ++ none_known ∷ []) e in
    subst (λ (x : List (List ℕ)). Grew bytes lengths x lengths') (sym b)
    (subst (λ (x : List (List ℕ)). Grew bytes lengths (bytes ++ more ∷ []) x) (sym l) (grew_more bytes lengths more same known some)))
    (cases_Bool (has_room bytes more))

-- ---- known lengths that rise

-- no length goes past a bound that holds of it and of what was reported
told_within : (lengths : List ℕ) (backup size bound : ℕ) → ((x : ℕ) → get_or lengths x 0 ≤ bound) → size ≤ bound → (x : ℕ) → get_or (with_told_length backup size lengths) x 0 ≤ bound
told_within [] backup size bound all le x = all x
told_within (l ∷ lengths) zero size bound all le zero = omega (arith, all zero)
told_within (l ∷ lengths) zero size bound all le (suc x) = all (suc x)
told_within (l ∷ lengths) (suc backup) size bound all le zero = all zero
told_within (l ∷ lengths) (suc backup) size bound all le (suc x) = told_within lengths backup size bound (λ y. all (suc y)) le x

-- and none falls
told_rises : (lengths : List ℕ) (backup size x : ℕ) → get_or lengths x 0 ≤ get_or (with_told_length backup size lengths) x 0
told_rises [] backup size x = omega arith
told_rises (l ∷ lengths) zero size zero = omega arith
told_rises (l ∷ lengths) zero size (suc x) = omega arith
told_rises (l ∷ lengths) (suc backup) size zero = omega arith
told_rises (l ∷ lengths) (suc backup) size (suc x) = told_rises lengths backup size x

-- the same of all segments, which have as many lengths as before
pub record Rose (lists lists' : List (List ℕ)) : Type 0 where
  pub same : length lists' ≡ length lists
  pub each : (k : ℕ) → length (get_or lists' k []) ≡ length (get_or lists k [])
  pub more : (k x : ℕ) → get_or (get_or lists k []) x 0 ≤ get_or (get_or lists' k []) x 0

rose_not : (lists : List (List ℕ)) → Rose lists lists
rose_not lists = record { same = refl; each = λ k. refl; more = λ k x. omega arith }

rose_at : (lists : List (List ℕ)) (at backup size : ℕ) → Rose lists (set lists at (with_told_length backup size (get_or lists at [])))
rose_at [] at backup size = rose_not []
rose_at (l ∷ lists) zero backup size = grind (arith, length-set, told_rises)
rose_at (l ∷ lists) (suc at) backup size = grind (arith, (rose_at lists at backup size))

-- what a backup reports lowers no length
pub rose : (first number backup size : ℕ) (lists : List (List ℕ)) → Rose lists (with_length first number backup size lists)
rose first number backup size lists =
    ⊎_elim
    (λ (h : number < first). subst (Rose lists) (sym (with_length_before first number backup size lists h)) (rose_not lists))
    (λ (h : first ≤ number). subst (Rose lists) (sym (with_length_at first number backup size (number - first) lists (omega arith))) (rose_at lists (number - first) backup size))
    (cases_lt number first)

-- segments once a backup reported a length: their bytes stay, and it is known of one of them
pub record Raised (first number backup size : ℕ) (segments segments' : List Copied) : Type 0 where
  pub bytes : bytes_in segments' ≡ bytes_in segments
  pub lengths : lengths_in segments' ≡ with_length first number backup size (lengths_in segments)

-- so it is in a vector that lent them
pub raised : (first number backup size : ℕ) (segments : Vec Copied) (lent told : List Copied) → lent ≡ segments.items → length told ≡ segments.len
    → bytes_in told ≡ bytes_in lent → lengths_in told ≡ with_length first number backup size (lengths_in lent)
    → Raised first number backup size segments.items (with_items segments told).items
raised first number backup size segments lent told value count bytes lengths = grind (arith, with_items_is)

-- then there are as many
pub raised_count : (first number backup size : ℕ) (segments segments' : List Copied) → Raised first number backup size segments segments' → length segments' ≡ length segments
raised_count first number backup size segments segments' raised =
    sym (length-map segments' (λ (c : Copied). c.segment.bytes)) ∙ ap length raised.bytes ∙ length-map segments (λ (c : Copied). c.segment.bytes)

-- and no length is lower
pub rose_in : (first number backup size : ℕ) (segments segments' : List Copied) → Raised first number backup size segments segments' → Rose (lengths_in segments) (lengths_in segments')
rose_in first number backup size segments segments' raised =
    subst (Rose (lengths_in segments)) (sym raised.lengths) (rose first number backup size (lengths_in segments))

-- if it reports no more than there is, no known length is above the segment's
pub known_told_lists : (first number backup size : ℕ) (bytes lengths : List (List ℕ)) → AreKnown bytes lengths → ((k : ℕ) → first + k ≡ number → k < length lengths → size ≤ length (get_or bytes k []))
    → AreKnown bytes (with_length first number backup size lengths)
known_told_lists first number backup size bytes lengths known le =
    grind (arith, with_length_before, with_length_at, cases_lt, length-set, get_or-set_same, told_within, get_or-set_other, cases_eq)

-- ---- the bytes of a segment by its place

abbrev bytes_or_none : Option Copied → List ℕ
bytes_or_none o = option_map_or (λ (copied : Copied). copied.segment.bytes) o []

at_place_or : (segments : List Copied) (k : ℕ) (other : Option Copied) → k < length segments → bytes_or_none (option_or (slice_get segments k) other) ≡ get_or (bytes_in segments) k []
at_place_or [] k other h = absurd (omega arith)
at_place_or (c ∷ segments) zero other h = refl
at_place_or (c ∷ segments) (suc k) other h = at_place_or segments k other (omega arith)

at_place_alone : (segments : List Copied) (k : ℕ) → bytes_or_none (slice_get segments k) ≡ get_or (bytes_in segments) k []
at_place_alone [] k = refl
at_place_alone (c ∷ segments) zero = refl
at_place_alone (c ∷ segments) (suc k) = at_place_alone segments k

-- of a main segment
pub among_main_is : (number k : ℕ) (main sides : List Copied) → FIRST_SEGMENT + k ≡ number → k < length main → bytes_among number main sides ≡ get_or (bytes_in main) k []
among_main_is number k main sides e h =
    ap (λ (o : Option Copied). bytes_or_none (option_or o (copied_of FIRST_SIDE_SEGMENT number sides))) (copied_at FIRST_SEGMENT number main k e)
    ∙ at_place_or main k (copied_of FIRST_SIDE_SEGMENT number sides) h

-- of a side segment
pub among_sides_is : (number k : ℕ) (main sides : List Copied) → FIRST_SIDE_SEGMENT + k ≡ number → length main < FIRST_SIDE_SEGMENT → bytes_among number main sides ≡ get_or (bytes_in sides) k []
among_sides_is number k main sides e few =
    (λ i. bytes_or_none (option_or (copied_past FIRST_SEGMENT number main (omega arith) i) (copied_at FIRST_SIDE_SEGMENT number sides k e i)))
    ∙ at_place_alone sides k
