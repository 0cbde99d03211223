-- What a master that rebuilds has, once the entry of a call is appended to its log.
use Rattle.rk_inv_base.proofs.Words.{◌≡◌, ℕ, ◌≤◌, ◌<◌, ◌-◌, suc, true, false, List, [], ◌∷◌, ◌++◌, length, Some, sym, ap, ◌∙◌, subst}
use Rattle.rk_inv_base.proofs.Words.{⊎_elim, arith, drop, filter, take, ◌==◌, Bool, All, Contains, flat_map, eq-eqb, append-nil}
use Rattle.rk_inv_base.proofs.Words.{length-append, length-drop, cases_lt, false≢true, or_left, or_right, take-append-le, drop-append-le}
use Rattle.rk_inv_base.proofs.Words.{IfSome_then, list_any, Held, Member, Range, Entry, is_in, is_serving, Handover, Role}
use Rattle.rk_inv_base.proofs.Words.{Row, known_of, EntryEnd, items_of, is_member, last_of, is_marked, unmarked_from, touches, material_of}
use Rattle.rk_inv_base.proofs.Words.{named, named_by, side_entries, own_place, Written, Mark, Merged, stored_of, IsMergedOf, has_merged}
use Rattle.rk_inv_base.proofs.Words.{merged_place, IsPieceOf, IsRebuilder, IsRebuildTable, READ_BACKUP, applied_from, IsFound, named_items}
use Rattle.rk_inv_base.proofs.Words.{with_one_more, View, truths, LogsOf}
use Rattle.rk_transfer.specs.declared.role.Role.TheVariants as roles
use Rattle.rk_inv_base.proofs.logs.Shares.{named_same, unless_marked, unmarked_from_last, unmarked_from_none}
use Rattle.rk_inv_base.proofs.logs.Applied.{applied_within}
use Rattle.rk_inv_base.proofs.views.Places.{behind_none}

-- the last member of a lineage is one of it
pub last_member : (lineage : List Member) (last : Member) (master : ℕ) → last_of lineage ≡ Some last → last.master ≡ master → is_member lineage master ≡ true
last_member [] last master is here = absurd (cc)
last_member (only ∷ []) last master is here = grind (arith, or_left, eq-eqb, only.master)
last_member (first ∷ next ∷ more) last master is here =
    or_right (first.master == master) (is_member (next ∷ more) master) (last_member (next ∷ more) last master is here)

-- if none of the unmarked entries from a place on passes a test, none does with one more entry that fails
pub unmarked_push : (p : Entry → Bool) (marks : List Mark) (place : ℕ) (list : List Entry) (entry : Entry) → p entry ≡ false → list_any p (unmarked_from marks place list) ≡ false → list_any p (unmarked_from marks place (list ++ entry ∷ [])) ≡ false
unmarked_push p marks place list entry fails none =
    ⊎_elim
    (λ (beyond : length list < place). ap (list_any p) (unmarked_from_none marks place list entry beyond) ∙ none)
    (λ (within : place ≤ length list).
    ap (list_any p) (unmarked_from_last marks place list entry within)
    ∙ one_more (unmarked_from marks place list) (is_marked marks (length list)) none)
    (cases_lt (length list) place)
  where
    one_more : (xs : List Entry) (marked : Bool) → list_any p xs ≡ false → list_any p (xs ++ unless_marked marked entry) ≡ false
    one_more xs true none = ap (list_any p) (append-nil xs) ∙ none
    one_more xs false none = behind_none p xs 0 entry none fails

-- the side segments that a master names have what they had, if one more entry names none
pub named_stays : (range : Range) (from : ℕ) (w : Written) (entry : Entry) → named_by range entry ≡ [] → from ≤ length w.entries → named_items range from (with_one_more w entry) ≡ named_items range from w
named_stays range from w entry none placed =
    grind (arith, filter, is_in, items_of, flat_map, side_entries, named, unmarked_from_last, named_same, unmarked_from, is_marked, length)

-- a piece of a list is the same with more behind the list
pub piece_push : {X : Type 0} (first past : ℕ) (xs ys : List X) → past ≤ length xs → take (past - first) (drop first (xs ++ ys)) ≡ take (past - first) (drop first xs)
piece_push first past xs ys within = grind (arith, length, take, drop, length-drop, drop-append-le, take-append-le, cases_lt)

-- a role that serves has merged nothing
pub serving_unmerged : (role : Role) → is_serving role ≡ true → has_merged role ≡ true → ⊥
serving_unmerged (roles.Rebuilding from entry) serves merged = absurd (cc)
serving_unmerged role serves merged = false≢true merged

-- items are the truth's, and found in a table
abbrev pub AreShared : List Entry → List Held → List Held → Type 0
AreShared truth table items = (item : Held) → Contains items item → Contains (items_of truth) item × IsFound table item

-- a master that rebuilds a row, by what is needed, what counts of its own entries, what it has written, and its handover
abbrev pub IsRebuilderWith : (v : View) (row : Row) (lineage : List Member) (to : ℕ) (Needed : ℕ → EntryEnd → Type 0) → List Entry → Written → Handover → Type 0
IsRebuilderWith v row lineage to Needed own written handover =
    IsRebuilder row lineage to (truths v row) own Needed (λ q. known_of (v.logs q) READ_BACKUP) (λ q. stored_of v.stored q READ_BACKUP)
    written handover (v.completions to row.tablet) (v.gathers to row.tablet) (v.merged to row.tablet) (v.records to)

module _ (v : View) (sound : LogsOf v) (new : Entry) (row : Row) (lineage : List Member) (to : ℕ) (Needed : ℕ → EntryEnd → Type 0) (names : named_by row.range new ≡ []) where
  -- what the master has written and has of the row, and what it has written with the entry
  abbrev w : Written
  w = v.written to

  abbrev more : Written
  more = with_one_more (v.written to) new

  abbrev handover : Handover
  handover = v.handovers to row.tablet

  abbrev from : ℕ
  from = own_place (v.handovers to row.tablet).role

  abbrev Rebuilds : List Entry → Written → Handover → Type 0
  Rebuilds = IsRebuilderWith v row lineage to Needed

  marked : All (λ mark. mark.past ≤ length (v.written to).entries) (v.written to).marks
  marked = (sound.each to).marked

  -- the piece of a rebuild is where it was, and still nothing of its range is behind it
  piece_stays : (merged : Merged) (entry : ℕ) → touches handover.range new ≡ false → IsPieceOf row.tablet from handover merged w entry → IsPieceOf row.tablet from handover merged more entry
  piece_stays merged entry outside piece = grind (arith, length, marked, suc, piece_push, behind_none, touches)

  -- what was merged is what it was
  abbrev IsMergedWith : List Entry → Written → Handover → ℕ → Type 0
  IsMergedWith own written handover entry =
      IsMergedOf row.tablet from own handover (v.completions to row.tablet) (v.gathers to row.tablet) (v.merged to row.tablet) written entry

  merged_stays : (own : List Entry) (entry : ℕ) → touches handover.range new ≡ false → IsMergedWith own w handover entry → IsMergedWith own more handover entry
  merged_stays own entry outside merged = grind (arith, piece_stays)

  -- the table of a master that rebuilds has what is applied, as before
  records_stay : IsRebuildTable row.range (truths v row) (applied_from row.range from w) (v.records to) → IsRebuildTable row.range (truths v row) (applied_from row.range from more) (v.records to)
  records_stay =
      subst
      (λ (sure : List Entry). IsRebuildTable row.range (truths v row) (material_of row.range (side_entries w.sides) (drop from sure)) (v.records to))
      (sym (take-append-le w.applied w.entries (new ∷ []) (applied_within (v.logs to) (v.written to) _ (sound.each to))))

  -- the side segments that a master names have what they had
  sides_stay : from ≤ length w.entries → AreShared (truths v row) (v.records to) (named_items row.range from w) → AreShared (truths v row) (v.records to) (named_items row.range from more)
  sides_stay placed =
      subst (AreShared (truths v row) (v.records to))
      (sym (named_stays row.range from w new names placed))

  -- and a place of its log is one of the longer one
  place_stays : from ≤ length w.entries → from ≤ length (w.entries ++ new ∷ [])
  place_stays placed = omega (arith, placed, length-append w.entries (new ∷ []))

  -- a master that rebuilds a row, and wrote an entry of another one
  pub rebuilder_beside : (own : List Entry) → touches row.range new ≡ false → Rebuilds own w handover → Rebuilds own more handover
  rebuilder_beside own outside was =
      assumption (
        place_stays was.placed,
        IfSome_then (merged_place handover.role) was.merged
            (λ entry. merged_stays own entry (ap (λ (range : Range). touches range new) was.range_is ∙ outside)),
        records_stay was.items,
        sides_stay was.placed was.sides,
      )
