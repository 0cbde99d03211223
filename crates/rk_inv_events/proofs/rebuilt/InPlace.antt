-- Entries take the place of others: own ones, the newest items of all that was read but for those, and a Carried that has the floor of
-- all and the last ends. They record what the others recorded.
use Rattle.std.proofs.Common.{All, Contains, List, Option, [], ap, append-nil, arith, inl, inr, refl, sym, true, ℕ, ⊎_elim, ◌++◌, ◌↔◌, ◌∙◌}
use Rattle.std.proofs.Common.{◌∷◌, ◌≡◌, ◌≤◌, ◌⊎◌}
use Rattle.rk_entry.specs.declared.entry.Entry.TheVariants as entries
use Rattle.rk_model.specs.History.{record_of as map_record_of}
use Rattle.rk_overlay.proofs.Alike.{newest_alike, plain_alike}
use Rattle.rk_overlay.specs.Live.{live as live_items}
use Rattle.rk_inv_base.proofs.Words.{All-contains, All-nil, All-weaker, AreAboveMap, Base, Carried, Contains-append_cases}
use Rattle.rk_inv_base.proofs.Words.{Contains-append_left, Contains-append_right, Ended, Entry, Held, IsKnown, IsPlain, IsReached, IsStaged}
use Rattle.rk_inv_base.proofs.Words.{LastCall, Placed, Range, ReachAll, TellAll, as_entries, base_map, behind_stands, copies_of}
use Rattle.rk_inv_base.proofs.Words.{first_stands, floor_of, is_mutation, is_record_in, item_end, items_in, items_of, map_after}
use Rattle.rk_inv_base.proofs.Words.{none_stands, of_key, record_of, stands_cases, tells_of, told, told_by}
use Rattle.rk_inv_base.proofs.logs.FloorsOf.{floor_among, one_within}
use Rattle.rk_inv_logs.proofs.apply.JoinedApplied.{item_entry}
use Rattle.rk_inv_base.proofs.views.Among.{mapped}
use Rattle.rk_inv_events.proofs.Words.{HasBoth, TellHistory, all_by, filter_from, filter_stands, from_flat, to_flat}
use Rattle.rk_inv_events.proofs.rebuilt.Newest.{copy_of_all, live_same, target_plain}
use Rattle.rk_inv_tablets.proofs.crash.MergeTells.{item_told}

-- entries are own ones and a piece: copies of the newest of all, and a Carried behind them
pub record HasPiece (own all now : List Entry) (carried : Carried) : Type 0 where
  pub from :
      (entry : Entry) → Contains now entry
      → Contains own entry ⊎ Contains (as_entries (copies_of (items_of own) (items_of all)) ++ entries.Carried carried ∷ []) entry
  pub has_own : (entry : Entry) → Contains own entry → Contains now entry
  pub has_piece :
      (entry : Entry) → Contains (as_entries (copies_of (items_of own) (items_of all)) ++ entries.Carried carried ∷ []) entry
      → Contains now entry

-- an entry that is made of items is that of one of them
of_entries : (items : List Held) (entry : Entry) → Contains (as_entries items) entry → (item : Held) × Contains items item × (entries.Held item ≡ entry)
of_entries [] entry stands = absurd (none_stands entry stands)
of_entries (first ∷ items) entry stands = elim (stands_cases (entries.Held first) (as_entries items) entry stands) [
  | inl is ↦ (first, first_stands first items, is)
  | inr later ↦ let found = of_entries items entry later in (found.0, behind_stands first items found.0 found.1, found.2)
]

pub entry_item : (list : List Entry) (item : Held) → Contains list (entries.Held item) → Contains (items_of list) item
entry_item list item stands = to_flat items_in list (entries.Held item) item stands (first_stands item [])

module _ (own all now : List Entry) (carried : Carried) (piece : HasPiece own all now carried) where
  abbrev copies : List Held
  copies = copies_of (items_of own) (items_of all)

  closes : Contains now (entries.Carried carried)
  closes = piece.has_piece (entries.Carried carried)
      (Contains-append_right (as_entries copies) (entries.Carried carried ∷ []) (entries.Carried carried)
      (first_stands (entries.Carried carried) []))

  -- each entry is an own one, a copy, or the Carried
  module _ (P : Entry → Type 0) (mine : (entry : Entry) → Contains own entry → P entry) (copied : (item : Held) → Contains copies item → P (entries.Held item)) (closing : P (entries.Carried carried)) where
    pub each_now : (entry : Entry) → Contains now entry → P entry
    each_now entry stands = ⊎_elim (mine entry)
        (λ (inside : Contains (as_entries copies ++ entries.Carried carried ∷ []) entry).
        elim (Contains-append_cases (as_entries copies) (entries.Carried carried ∷ []) entry inside) [
          | inl copy ↦ let found = of_entries copies entry copy in rw found.2 at (copied found.0 found.1)
          | inr last ↦ elim (stands_cases (entries.Carried carried) [] entry last) [
            | inl is ↦ rw is at closing
            | inr none ↦ absurd (none_stands entry none)
          ]
        ]) (piece.from entry stands)

  -- its items are the own ones and the copies
  pub both : HasBoth (items_of own) (copies_of (items_of own) (items_of all)) (items_of now)
  both = record {
    from = λ x stands.
        each_now (λ entry. entry ≡ entries.Held x → Contains (items_of own) x ⊎ Contains copies x)
        (λ entry mine is. inl (entry_item own x (rw is at mine))) (λ item copy is. inr (let same : item ≡ x = cc is in rw same at copy))
        (λ is. absurd (cc is)) (entries.Held x) (item_entry now x stands) refl;
    has_own = λ x stands. entry_item now x (piece.has_own (entries.Held x) (item_entry own x stands));
    has_copied = λ x stands.
        entry_item now x
        (piece.has_piece (entries.Held x)
        (Contains-append_left (as_entries copies) (entries.Carried carried ∷ []) (entries.Held x) (mapped entries.Held copies x stands)));
  }

-- all has just the items of a truth, own ones among them, and own entries record no other ends than the truth; a Carried reaches each
-- record of the range, is of ends that are known, and has no smaller floor
pub record StandsIn (base : Base) (range : Range) (journal : List Placed) (truth own all : List Entry) (carried : Carried) : Type 0 where
  pub items : (item : Held) → Contains (items_of all) item ↔ Contains (items_of truth) item
  pub own_items : (item : Held) → Contains (items_of own) item → Contains (items_of all) item
  pub own_told : All (Contains (told truth)) (told own)
  pub reached : ReachAll range journal carried.ends
  pub known : All (IsKnown base journal) carried.ends
  pub floor : floor_of truth ≤ carried.floor

module _ (base : Base) (range : Range) (asked : ℕ → Option LastCall) (journal : List Placed) (truth own all now : List Entry) (carried : Carried) (was : TellHistory base range truth [] journal asked) (stands_in : StandsIn base range journal truth own all carried) (piece : HasPiece own all now carried) where
  pub all_plain : IsPlain (items_of all)
  all_plain = plain_alike (items_of truth) (items_of all) was.leaves.plain (λ x. ((stands_in.items x).1, (stands_in.items x).0))

  live_now : (table : ℕ) (key : List ℕ) → live_items (items_of now) table key ≡ live_items (items_of truth) table key
  live_now table key = live_same (items_of own) (items_of all) (items_of now) all_plain stands_in.own_items (both own all now carried piece)
      table key ∙ ap record_of (newest_alike (items_of all) (items_of truth) all_plain stands_in.items table key)

  closes_key : (table : ℕ) (key : List ℕ) → Contains (of_key table key now) (entries.Carried carried)
  closes_key table key = filter_stands (tells_of table key) now (entries.Carried carried) (closes own all now carried piece) refl

  ends_now : TellAll range journal now
  ends_now = All-weaker (λ placed. is_record_in range placed ≡ true → is_mutation placed.call.op ≡ true → IsReached carried.ends placed)
      (λ placed.
      is_record_in range placed ≡ true → is_mutation placed.call.op ≡ true
      → IsReached (told (of_key placed.call.table placed.call.key now)) placed)
      (λ placed reach inside mutates.
      let reached = reach inside mutates in
      record {
        end = reached.end;
        stands = to_flat told_by (of_key placed.call.table placed.call.key now) (entries.Carried carried) reached.end
            (closes_key placed.call.table placed.call.key) reached.stands;
        reaches = reached.reaches;
      }) journal stands_in.reached

  known_entry : (entry : Entry) → Contains now entry → All (IsKnown base journal) (told_by entry)
  known_entry = each_now own all now carried piece (λ entry. All (IsKnown base journal) (told_by entry))
      (λ entry mine.
      all_by (IsKnown base journal) (told_by entry) (λ end at.
      of_truth end (All-contains (Contains (told truth)) (told own) end stands_in.own_told (to_flat told_by own entry end mine at))))
      (λ item copy.
      all_by (IsKnown base journal) (item_end item ∷ []) (λ end at. elim (stands_cases (item_end item) [] end at) [
        | inl is ↦
            rw is at
            (of_truth (item_end item)
            (item_told truth item ((stands_in.items item).0 (copy_of_all (items_of own) (items_of all) item copy))))
        | inr none ↦ absurd (none_stands end none)
      ])) stands_in.known
    where
      of_truth : (end : Ended) → Contains (told truth) end → IsKnown base journal end
      of_truth end at = All-contains (IsKnown base journal) (told truth) end was.known at

  known_now : All (IsKnown base journal) (told now)
  known_now =
      all_by (IsKnown base journal) (told now) (λ end at.
      let found = from_flat told_by now end at in
      All-contains (IsKnown base journal) (told_by found.0) end (known_entry found.0 found.1) found.2)

  low_now : AreAboveMap range (map_after (base_map base) journal) now
  low_now table key inside =
      let fewer = floor_among (of_key table key truth) truth (filter_from (tells_of table key) truth) in
      let closing = one_within 1 (of_key table key now) (entries.Carried carried) (omega arith) (closes_key table key) in
      omega (arith, was.low table key inside, fewer, stands_in.floor, closing)

  pub in_place : TellHistory base range now [] journal asked
  in_place = record {
    leaves = record {
      plain = target_plain (items_of own) (items_of all) (items_of now) all_plain stands_in.own_items (both own all now carried piece);
      live = λ table key inside. live_now table key ∙ was.leaves.live table key inside;
    };
    above = tt;
    ends = ends_now;
    known = known_now;
    low = low_now;
    goes_on = record {
      legal = was.goes_on.legal;
      live = λ table key inside.
          ap (λ (l : List Entry). live_items (items_of l) table key) (append-nil now) ∙ live_now table key
          ∙ was.leaves.live table key inside
          ∙ ap (λ (j : List Placed). map_record_of (map_after (base_map base) j table key)) (sym (append-nil journal));
      staged = All-nil (IsStaged base asked journal);
      one = was.goes_on.one;
    };
  }
