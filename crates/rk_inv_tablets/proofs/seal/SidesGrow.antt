-- What a log with more side segments keeps: what backups store of it are first parts still, and what it has written is read as before.
use Rattle.std.proofs.Common.{◌≡◌, ℕ, suc, ◌+◌, ◌-◌, ◌<◌, ◌≤◌, true, List, [], ◌∷◌, ◌++◌, length, map, Option, Some, None, refl, sym}
use Rattle.std.proofs.Common.{ap, ◌∙◌, ⊎_elim, arith, ◌==◌, IfSome}
use Rattle.rk_inv_base.proofs.Words.{cases_lt, false≢true, map-append, find-append, IfSome_then, option_or, Ended, Held, Member, Range}
use Rattle.rk_inv_base.proofs.Words.{NumberedBytes, spelled_all, Entry, FIRST_SIDE_SEGMENT, Completions, Handover, Row, cut, Known}
use Rattle.rk_inv_base.proofs.Words.{is_whole, Log, bytes_of, is_side_stored, known_of, numbered, segment_of, side_segments, EntryEnd}
use Rattle.rk_inv_base.proofs.Words.{Gather, as_entries, own_place, Written, IsFirstPart, IsLog, segments_in, IsMergedOf, IsRebuilder}
use Rattle.rk_inv_base.proofs.Words.{NeedsEnd, merged_place}
use Rattle.rk_inv_tablets.proofs.Words.{copy_grown, Grows, bytes_in, first_part_same, found_in, numbered_at, numbered_before, numbered_past}
use Rattle.rk_inv_tablets.proofs.Words.{with_side_items, with_sides}
use Rattle.rk_inv_tablets.proofs.seal.SideNumbers.{applied_kept, items_kept}

-- ---- segments by their numbers

-- segments with more behind them
numbered_both : (first next : ℕ) (some more : List (List ℕ)) → first + length some ≡ next → numbered first (some ++ more) ≡ numbered first some ++ numbered next more
numbered_both first next [] more is = let at : first ≡ next = omega (arith, is) in ap (λ (n : ℕ). numbered n more) at
numbered_both first next (bytes ∷ some) more is =
    ap (λ (segments : List NumberedBytes). record { number = first; bytes = bytes } ∷ segments)
    (numbered_both (suc first) next some more (omega (arith, is)))

-- one of them is one of the first or of the others
found_both : (number first next : ℕ) (some more : List (List ℕ)) → first + length some ≡ next → segment_of number (numbered first (some ++ more)) ≡ option_or (segment_of number (numbered first some)) (segment_of number (numbered next more))
found_both number first next some more is =
    ap (segment_of number) (numbered_both first next some more is)
    ∙ find-append (λ (segment : NumberedBytes). segment.number == number) (numbered first some) (numbered next more)

module _ (log : Log) (lists : List (List Held)) where
  abbrev more : List (List ℕ)
  more = map (λ (items : List Held). spelled_all (as_entries items)) lists

  abbrev grown : Log
  grown = with_sides log lists

  abbrev next : ℕ
  next = FIRST_SIDE_SEGMENT + length log.sides

  -- a segment by its number: a main one, a side one, and one of the new ones
  abbrev main : ℕ → Option NumberedBytes
  main number = segment_of number (numbered 1 (cut log.entries))

  abbrev side : ℕ → Option NumberedBytes
  side number = segment_of number (side_segments log)

  abbrev new : ℕ → Option NumberedBytes
  new number = segment_of number (numbered next more)

  side_now : (number : ℕ) → segment_of number (side_segments grown) ≡ option_or (side number) (new number)
  side_now number = found_both number FIRST_SIDE_SEGMENT next log.sides more refl

  bytes_now : (number : ℕ) → bytes_of grown number ≡ bytes_in (option_or (main number) (option_or (side number) (new number)))
  bytes_now number =
      found_in grown number ∙ ap (λ (found : Option NumberedBytes). bytes_in (option_or (main number) found)) (side_now number)

  front_of : (one other another : Option NumberedBytes) → IsFirstPart (bytes_in (option_or one other)) (bytes_in (option_or one (option_or other another)))
  front_of (Some segment) other another = first_part_same segment.bytes segment.bytes refl
  front_of None (Some segment) another = first_part_same segment.bytes segment.bytes refl
  front_of None None another = record { more = bytes_in another; parts = refl }

  -- a number that is no main segment's is not below a number that is
  none_main : (earlier later : ℕ) → 1 ≤ earlier → earlier < later → main earlier ≡ None → main later ≡ None
  none_main earlier later some before none =
      ⊎_elim
      (λ (within : earlier - 1 < length (cut log.entries)).
      let found = numbered_at earlier 1 (earlier - 1) (cut log.entries) (omega (arith, some)) within in
      absurd (cc (sym none ∙ found)))
      (λ (past : length (cut log.entries) ≤ earlier - 1).
      numbered_past later 1 (cut log.entries) (omega (arith, past, before, some)))
      (cases_lt (earlier - 1) (length (cut log.entries)))

  pub grows_sides : Grows log (with_sides log lists)
  grows_sides = grind (arith, found_in, bytes_now, front_of, numbered_before, bytes_in, none_main, numbered_past, cases_lt)

  side_stored : (number : ℕ) → is_side_stored log number ≡ true → is_side_stored grown number ≡ true
  side_stored number stored = grind (arith, is_whole, side_now, false≢true)

  pub log_sides : (w : Written) (stored : ℕ → ℕ → List ℕ) → IsLog log w stored → IsLog (with_sides log lists) (with_side_items w lists) stored
  log_sides w stored old = grind (arith, copy_grown, known_of, grows_sides, map-append, spelled_all, as_entries, side_stored, segments_in)

-- ---- what has to be read

-- nothing more has to be read of a master with more side segments
pub needs_sides : (range : Range) (given_up own : List Entry) (from : ℕ) (w : Written) (lists : List (List Held)) (end : EntryEnd) → NeedsEnd range given_up own from (with_side_items w lists) end → NeedsEnd range given_up own from w end
needs_sides range given_up own from w lists end needs = grind arith

-- ---- a master that rebuilds

module _ (row : Row) (lineage : List Member) (master : ℕ) (truth own : List Entry) (Needed : ℕ → EntryEnd → Type 0) (known : ℕ → Known) (stored : ℕ → ℕ → List ℕ) (handover : Handover) (completions : Completions) (gather : Gather) (ends : List Ended) (records : List Held) where
  -- by what it has written
  abbrev Rebuilds : Written → Type 0
  Rebuilds w = IsRebuilder row lineage master truth own Needed known stored w handover completions gather ends records

  pub rebuilder_sides : (log : Log) (w : Written) (copies : ℕ → ℕ → List ℕ) (lists : List (List Held)) → IsLog log w copies → Rebuilds w → Rebuilds (with_side_items w lists)
  rebuilder_sides log w copies lists kept was =
      let from : ℕ = own_place handover.role in
      let merged : IfSome (merged_place handover.role) (IsMergedOf row.tablet from own handover completions gather ends (with_side_items w lists)) =
      IfSome_then (merged_place handover.role) was.merged (λ entry done. search done) in
      let items = rw (← applied_kept log w copies kept lists row.range from) at was.items in
      let sides = rw (← items_kept log w copies kept lists row.range from) at was.sides in
      assumption
