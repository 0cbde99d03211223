-- What a master that serves a row has applied of its own counts: no mark is of an item of the row there.
use Rattle.std.proofs.Common.{Contains, List, None, Option, Some, arith, drop, false, flat_map, inl, inr, is_some, leb-true, ltb-true}
use Rattle.std.proofs.Common.{nat_le, nat_lt, refl, slice_get, sym, take, true, ℕ, ◌&&◌, ◌+◌, ◌-◌, ◌∙◌, ◌≡◌}
use Rattle.rk_entry.specs.declared.entry.Entry.TheVariants as entries
use Rattle.rk_inv_base.proofs.Words.{All-contains, Any-from_list_any, Contains-append_left, Entry, HasOwnRange, Held, IsOfRange, Mark}
use Rattle.rk_inv_base.proofs.Words.{Row, SoundView, View, Written, and_parts, applied_entries, cases_Bool, counting, counts, entries_from}
use Rattle.rk_inv_base.proofs.Words.{false≢true, is_in, is_marked, is_serving, items_in, items_of, log_material, named, number_of, row_of}
use Rattle.rk_inv_base.proofs.Words.{side_entries, unmarked_from}
use Rattle.rk_inv_base.proofs.logs.MarkedApart.{in_piece, place_of}
use Rattle.rk_inv_base.proofs.pulls.Joining.{kept_stands, stands_kept}
use Rattle.rk_inv_events.proofs.Words.{at_place, flat_from, flat_stands, found_stands, front_at, in_one_row, row_in, unmarked_stands}

module _ (v : View) (row : Row) (master : ℕ) (sound : SoundView v) (has : Contains v.rows row) (lives : v.live master ≡ true) (serves : is_serving (v.handovers master row.tablet).role ≡ true) where
  abbrev w : Written
  w = v.written master

  -- it marked nothing of the row's tablet
  unmarked_here : (mark : Mark) → Contains w.marks mark → row.tablet ≡ mark.tablet → ⊥
  unmarked_here mark stands its = grind (arith, row_in)

  -- an item of a piece of another row is not of this one
  of_other : (other : Row) (held : Held) → Contains v.rows other → (row.tablet ≡ other.tablet → ⊥) → IsOfRange other.range (entries.Held held) → is_in row.range held ≡ true → ⊥
  of_other other held stands apart of is =
      false≢true (sym (in_one_row v.rows other row held.table held.key sound.rows.apart stands has apart of) ∙ is)

  of_piece : (mark : Mark) (held : Held) → Contains w.marks mark → Contains (take (mark.past - mark.first) (drop mark.first w.entries)) (entries.Held held)
      → (found : Option Row) → row_of v.rows mark.tablet ≡ found → is_some found ≡ true → is_in row.range held ≡ true → ⊥
  of_piece mark held marked inside None is known its = false≢true known
  of_piece mark held marked inside (Some other) is known its =
      let stands : Contains v.rows other = found_stands v.rows mark.tablet other is in
      let number : other.tablet ≡ mark.tablet = number_of v.rows mark.tablet other is in
      let own : HasOwnRange other.range w.entries mark =
      All-contains (λ m. m.tablet ≡ other.tablet → HasOwnRange other.range w.entries m) w.marks mark
      ((row_in v sound other stands).rebuilds.pieces master) marked (sym number) in
      of_other other held stands (λ same. unmarked_here mark marked (same ∙ number))
      (All-contains (IsOfRange other.range) (take (mark.past - mark.first) (drop mark.first w.entries)) (entries.Held held) own inside) its

  -- so an item of the row bears no mark
  pub bare_at : (place : ℕ) (held : Held) → slice_get w.entries place ≡ Some (entries.Held held) → is_in row.range held ≡ true → is_marked w.marks place ≡ false
  bare_at place held at its = elim (cases_Bool (is_marked w.marks place)) [
    | inl marked ↦
        let found = Any-from_list_any (λ (mark : Mark). nat_le mark.first place && nat_lt place mark.past) w.marks marked in
        let mark : Mark = found.1 in
        let stands : Contains w.marks mark = (found.0, found.2, found.3) in
        let parts = and_parts (nat_le mark.first place) (nat_lt place mark.past) found.4 in
        absurd
        (of_piece mark held stands
        (in_piece w.entries mark.first mark.past place (entries.Held held) (leb-true mark.first place parts.0)
        (ltb-true place mark.past parts.1) at) (row_of v.rows mark.tablet) refl
        (All-contains (λ m. is_some (row_of v.rows m.tablet) ≡ true) w.marks mark (sound.cover.marks master) stands) its)
    | inr bare ↦ bare
  ]

  module _ (from : ℕ) where
    abbrev all : List Entry
    all = drop from (applied_entries w)

    abbrev bare : List Entry
    bare = unmarked_from w.marks from (applied_entries w)

    counted : (e : Entry) (x : Held) → Contains (entries_from row.range from (applied_entries w)) e → Contains (items_in e) x → Contains (counting row.range bare) e
    counted (entries.Held held) x stands at =
        let kept = kept_stands (counts row.range) all (entries.Held held) stands in
        let place = at_place all (entries.Held held) kept.0 in
        let there = place_of (applied_entries w) from place.0 (from + place.0) (entries.Held held) refl place.1 in
        stands_kept (counts row.range) bare (entries.Held held)
        (unmarked_stands w.marks from all place.0 (entries.Held held) place.1
        (bare_at (from + place.0) held (front_at w.entries w.applied (from + place.0) (entries.Held held) there).1 kept.1)) kept.1
    counted _ x stands at = absurd (omega (arith, at.1))

    -- each item of its own counts
    pub own_counts : (x : Held) → Contains (items_of (entries_from row.range from (applied_entries w))) x → Contains (items_of (log_material row.range w.marks w.sides from (applied_entries w))) x
    own_counts x stands =
        let found = flat_from items_in (entries_from row.range from (applied_entries w)) x stands in
        flat_stands items_in (log_material row.range w.marks w.sides from (applied_entries w)) found.0 x
        (Contains-append_left (counting row.range bare) (counting row.range (flat_map (side_entries w.sides) (named row.range bare)))
        found.0 (counted found.0 x found.1 found.2)) found.2
