-- A log that has more entries behind those that it had: what is seen of those, and that a range of which none of the new ones is sees what
-- it saw.
use Rattle.std.proofs.Common.{◌≡◌, ℕ, ◌+◌, ◌<◌, ◌≤◌, ◌⊎◌, Bool, true, false, List, [], ◌∷◌, ◌++◌, filter, fold, length, Option, Some, refl}
use Rattle.std.proofs.Common.{sym, ap, ◌∙◌, subst, ⊎_elim, inl, inr, arith, All, Contains, slice_get, drop, take, flat_map, append-nil}
use Rattle.std.proofs.Common.{length-append, length-take, append_assoc}
use Rattle.rk_inv_base.proofs.Words.{cases_lt, false≢true, take-append-le, All-cons, All-contains_itself, All-nil, All-push, All-weaker}
use Rattle.rk_inv_base.proofs.Words.{Contains-append_left, flat_map-append, slice_get_push_cases, list_any, meets, Held, Range, Entry}
use Rattle.rk_inv_base.proofs.Words.{is_in, Handover, Row, Handed, items_of, is_marked, unmarked_from, touches, counting, counts}
use Rattle.rk_inv_base.proofs.Words.{is_joined_in, joined_from, log_material, material_of, named_by, side_entries, with_number, Pulling}
use Rattle.rk_inv_base.proofs.Words.{Written, applied_entries, Mark, IsOfRange, IsTarget, is_call_entry, named_items, with_one_more}
use Rattle.rk_inv_base.proofs.Words.{slice_get_within, list_any_none, Waits, Call, may_have_staged, All-head, All-tail, Member, member_rest}
use Rattle.rk_inv_base.proofs.Words.{lineage_rest}
use Rattle.rk_inv_tablets.proofs.Words.{Extends, counting_extends, take_extends, apart_either, entry_apart, unless_marked}
use Rattle.rk_inv_tablets.proofs.Words.{unmarked_from_last, unmarked_from_none, with_piece, target_pushed}
use Rattle.rk_inv_tablets.proofs.merge.OfRange.{joins_none, touches_none}
use Rattle.rk_inv_tablets.proofs.merge.Pieces.{from_front, from_piece, from_taken, kept_more, marked_before, marked_in, none_more}
use Rattle.rk_inv_base.proofs.logs.Missed.{all_names_none}

-- an entry of another range
pub record IsBeside (range : Range) (e : Entry) : Type 0 where
  pub joined : is_joined_in range e ≡ false
  pub uncounted : counts range e ≡ false

module _ (range : Range) (source : ℕ) (truth material : List Entry) (from : ℕ) (handover : Handover) (pulling : Pulling) (handed : Option Handed) (table : List Held) where
  -- a target that has written this
  abbrev Targets : Written → Type 0
  Targets w = IsTarget range source truth material from w handover pulling handed table

  -- marks are not seen
  pub target_marked : (w : Written) (list : List Entry) (marks : List Mark) → Targets (record w { entries = list }) → Targets (record w { entries = list; marks = marks })
  target_marked w list marks old = assumption

  pub target_more : (w : Written) (list : List Entry) → w.applied ≤ length w.entries → from ≤ length w.entries → All (IsBeside range) list → Targets w → Targets (record w { entries = w.entries ++ list })
  target_more w [] fits placed beside was = subst (λ (all : List Entry). Targets (record w { entries = all })) (sym (append-nil w.entries)) was
  target_more w (e ∷ list) fits placed beside was =
      let one : IsBeside range e = All-head (IsBeside range) e list beside in
      let size = length-append w.entries (e ∷ []) in
      subst (λ (all : List Entry). Targets (record w { entries = all })) (append_assoc w.entries (e ∷ []) list)
      (target_more (with_one_more w e) list (omega (arith, fits, size)) (omega (arith, placed, size)) (All-tail (IsBeside range) e list beside)
      (target_pushed range source truth material from handover pulling handed table w e fits placed one.joined
      (λ counted. absurd (false≢true (sym one.uncounted ∙ counted))) was))

-- of the entries from a place on those without a mark are those that were, and some of a row's range behind them
pub record HasFree (row : Row) (old new : Written) (from : ℕ) : Type 0 where
  pub few : List Entry
  pub inside : All (IsOfRange row.range) few
  pub parts : unmarked_from new.marks from new.entries ≡ unmarked_from old.marks from old.entries ++ few

-- a log has more entries behind those that it had, all of a row's range, and as much of it is applied. The marks are those that it had, and
-- such of the row's tablet as mark new entries alone; each new entry of a call bears one
pub record HasMore (row : Row) (old new : Written) : Type 0 where
  pub list : List Entry
  pub inside : All (IsOfRange row.range) list
  pub entries : new.entries ≡ old.entries ++ list
  pub applied : new.applied ≡ old.applied
  pub sides : new.sides ≡ old.sides
  pub kept : (mark : Mark) → Contains old.marks mark → Contains new.marks mark
  pub marks : All (λ mark. Contains old.marks mark ⊎ (mark.tablet ≡ row.tablet)) new.marks
  pub marked : (k : ℕ) → k < length old.entries → is_marked new.marks k ≡ is_marked old.marks k
  pub fresh :
      (k : ℕ) (entry : Entry) → length old.entries ≤ k → slice_get new.entries k ≡ Some entry → is_call_entry entry ≡ true
      → is_marked new.marks k ≡ false → ⊥
  pub truth :
      (range : Range) (from : ℕ)
      → log_material range new.marks new.sides from (applied_entries new) ≡ log_material range old.marks old.sides from (applied_entries old)
  pub free : (from : ℕ) → HasFree row old new from
  pub stored :
      (range : Range) (from few many : ℕ) → few ≤ many
      → Extends (counting range (unmarked_from old.marks from (take few old.entries)))
      (counting range (unmarked_from new.marks from (take many new.entries)))

-- a call that waited waits with a log that has its entry, if its tablet may have such
pub waits_by : (rows : List Row) (old new : ℕ → Handover) (was is : Written) (q k : ℕ) (c : Call) (wait : Waits rows old was q k c) → is.applied ≤ k → slice_get is.entries k ≡ Some wait.entry → is_marked is.marks k ≡ false → may_have_staged (new wait.row.tablet).role ≡ true → Waits rows new is q k c
waits_by rows old new was is q k c wait behind stands unmarked may_stage = grind arith

-- the rest of a lineage is what that of its last member is
pub rest_by : (was is : ℕ → Written) (range : Range) (members : List Member) → ((member : Member) → member_rest is range member ≡ member_rest was range member) → lineage_rest is range members ≡ lineage_rest was range members
rest_by was is range [] same = refl
rest_by was is range (member ∷ []) same = same member
rest_by was is range (member ∷ next ∷ more) same = rest_by was is range (next ∷ more) same

-- ---- logs that have more

-- a log with nothing more
pub more_itself : (row : Row) (w : Written) → HasMore row w w
more_itself row w = record {
  list = [];
  inside = All-nil (IsOfRange row.range);
  entries = sym (append-nil w.entries);
  applied = refl;
  sides = refl;
  kept = λ mark there. there;
  marks =
      All-weaker (Contains w.marks) (λ mark. Contains w.marks mark ⊎ (mark.tablet ≡ row.tablet)) (λ mark there. inl there) w.marks
      (All-contains_itself w.marks);
  marked = λ k within. refl;
  fresh = λ k entry past stands own free. absurd (omega (arith, past, slice_get_within w.entries k entry stands));
  truth = λ range from. refl;
  free = λ from. record {
    few = [];
    inside = All-nil _;
    parts = sym (append-nil (unmarked_from w.marks from w.entries));
  };
  stored = λ range from few many less.
      counting_extends range w.marks from (take few w.entries) (take many w.entries)
      (subst (λ (list : List Entry). Extends (take few w.entries) (take many list)) (append-nil w.entries) (take_extends few many w.entries [] less));
}

-- a log with one more entry, of no call and without a mark
module _ (row : Row) (w : Written) (entry : Entry) (applies : w.applied ≤ length w.entries) (of : IsOfRange row.range entry) (own : is_call_entry entry ≡ false) where
  unless_inside : (marked : Bool) → All (IsOfRange row.range) (unless_marked marked entry)
  unless_inside true = All-nil _
  unless_inside false = All-cons (IsOfRange row.range) entry [] of (All-nil _)

  pub more_one : HasMore row w (with_one_more w entry)
  more_one = record {
    list = entry ∷ [];
    inside = unless_inside false;
    entries = refl;
    applied = refl;
    sides = refl;
    kept = λ mark there. there;
    marks = (more_itself row w).marks;
    marked = λ k within. refl;
    fresh = λ k other past stands call free.
        ⊎_elim
        (λ (before : slice_get w.entries k ≡ Some other). omega (arith, past, slice_get_within w.entries k other before))
        (λ (last : (k ≡ length w.entries) × (entry ≡ other)). false≢true (sym own ∙ ap is_call_entry last.1 ∙ call))
        (slice_get_push_cases w.entries entry other k stands);
    truth = λ range from.
        ap (log_material range w.marks w.sides from) (take-append-le w.applied w.entries (entry ∷ []) applies);
    free = λ from.
        ⊎_elim
        (λ (beyond : length w.entries < from). record {
          few = [];
          inside = All-nil _;
          parts = unmarked_from_none w.marks from w.entries entry beyond ∙ sym (append-nil (unmarked_from w.marks from w.entries));
        })
        (λ (within : from ≤ length w.entries). record {
          few = unless_marked (is_marked w.marks (length w.entries)) entry;
          inside = unless_inside (is_marked w.marks (length w.entries));
          parts = unmarked_from_last w.marks from w.entries entry within;
        })
        (cases_lt (length w.entries) from);
    stored = λ range from few many less.
        counting_extends range w.marks from (take few w.entries) (take many (w.entries ++ entry ∷ []))
        (take_extends few many w.entries (entry ∷ []) less);
  }

-- a log with a piece more, which bears a mark
module _ (row : Row) (w : Written) (list : List Entry) (mark : Mark) (applies : w.applied ≤ length w.entries) (of : All (IsOfRange row.range) list) (first : length w.entries ≡ mark.first) (past : mark.first + length list ≤ mark.past) (its : mark.tablet ≡ row.tablet) where
  pub more_piece : HasMore row w (with_piece w list mark)
  more_piece = record {
    list = list;
    inside = of;
    entries = refl;
    applied = refl;
    sides = refl;
    kept = λ other there. Contains-append_left w.marks (mark ∷ []) other there;
    marks = All-push (λ other. Contains w.marks other ⊎ (other.tablet ≡ row.tablet)) w.marks mark (more_itself row w).marks (inr its);
    marked = λ k within. marked_before w.marks mark k (omega (arith, within, first));
    fresh = λ k entry behind stands call free.
        let within = slice_get_within (w.entries ++ list) k entry stands in
        let size = length-append w.entries list in
        false≢true (sym free ∙ marked_in w.marks mark k (omega (arith, behind, first)) (omega (arith, within, size, first, past)));
    truth = λ range from.
        let few = length-take w.applied w.entries in
        ap (λ (l : List Entry). log_material range (w.marks ++ mark ∷ []) w.sides from l) (take-append-le w.applied w.entries list applies)
        ∙ ap (material_of range (side_entries w.sides))
        (from_front w.marks mark from (applied_entries w) (omega (arith, few, applies, first)));
    free = λ from. record {
      few = [];
      inside = All-nil _;
      parts = from_piece w.marks mark from w.entries list first past ∙ sym (append-nil (unmarked_from w.marks from w.entries));
    };
    stored = λ range from few many less.
        rw (from_taken w.marks mark from many w.entries list first past)
        (counting_extends range w.marks from (take few w.entries) (take many w.entries)
        (subst (λ (l : List Entry). Extends (take few w.entries) (take many l)) (append-nil w.entries) (take_extends few many w.entries [] less)));
  }

-- ---- entries of another range

-- what a range sees of a log that has more is what it saw
pub record LeavesRange (range : Range) (old new : Written) : Type 0 where
  pub material : (from : ℕ) → log_material range new.marks new.sides from new.entries ≡ log_material range old.marks old.sides from old.entries
  pub rest : (from : ℕ) → counting range (unmarked_from new.marks from new.entries) ≡ counting range (unmarked_from old.marks from old.entries)
  pub touched :
      (from : ℕ) → list_any (touches range) (drop from old.entries) ≡ false → list_any (touches range) (drop from new.entries) ≡ false
  pub behind :
      (from : ℕ) → list_any (touches range) (unmarked_from old.marks from old.entries) ≡ false
      → list_any (touches range) (unmarked_from new.marks from new.entries) ≡ false
  pub named : (from : ℕ) → named_items range from new ≡ named_items range from old

-- no Joined of any range is new
pub joined_more : (row : Row) (old new : Written) → HasMore row old new → (range : Range) (from : ℕ) → joined_from range from new.entries ≡ joined_from range from old.entries
joined_more row old new more range from = grind (arith, joined_from, kept_more, is_joined_in, list_any_none, joins_none)

module _ (row : Row) (range : Range) (far : meets row.range range ≡ false) where
  -- no entry of the row's range touches the other one
  untouched : (list : List Entry) → All (IsOfRange row.range) list → list_any (touches range) list ≡ false
  untouched list of = grind (arith, list_any_none, touches, touches_none, apart_either)

  pub touched_more : (old new : Written) → HasMore row old new → (from : ℕ) → list_any (touches range) (drop from old.entries) ≡ false → list_any (touches range) (drop from new.entries) ≡ false
  touched_more old new more from none = grind (arith, touches, none_more, untouched)

module _ (row : Row) (range : Range) (far : meets row.range range ≡ false) (some : range.first ≤ range.last) where
  -- nor does one count there, or join
  beside : (list : List Entry) → All (IsOfRange row.range) list → All (IsBeside range) list
  beside list of = grind (arith, joins_none, entry_apart, apart_either)

  uncounted : (list few : List Entry) → All (IsOfRange row.range) few → counting range (list ++ few) ≡ counting range list
  uncounted list few of =
      kept_more (counts range) 0 list few
      (list_any_none (counts range) few
      (All-weaker (IsBeside range) (λ e. counts range e ≡ false) (λ e its. its.uncounted) few (beside few of)))

  unnamed : (list few : List Entry) → All (IsOfRange row.range) few → flat_map (named_by range) (list ++ few) ≡ flat_map (named_by range) list
  unnamed list few of = search (flat_map-append, named_by, all_names_none, touches_none, apart_either, append-nil)

  pub leaves_more : (old new : Written) → HasMore row old new → LeavesRange range old new
  leaves_more old new more = record {
    material = λ from.
        let free = more.free from in
        let was : List Entry = unmarked_from old.marks from old.entries in
        (λ i. material_of range (side_entries (more.sides i)) (free.parts i))
        ∙ (λ i.
        uncounted was free.few free.inside i
        ++ counting range (flat_map (side_entries old.sides) (fold with_number [] (unnamed was free.few free.inside i))));
    rest = λ from.
        let free = more.free from in
        ap (counting range) free.parts ∙ uncounted (unmarked_from old.marks from old.entries) free.few free.inside;
    touched = touched_more row range far old new more;
    behind = λ from none.
        let free = more.free from in
        ap (list_any (touches range)) free.parts
        ∙ none_more (touches range) 0 (unmarked_from old.marks from old.entries) free.few none (untouched row range far free.few free.inside);
    named = λ from.
        let free = more.free from in
        let was : List Entry = unmarked_from old.marks from old.entries in
        ap
        (λ (numbers : List ℕ). filter (is_in range) (items_of (flat_map (side_entries new.sides) (fold with_number [] numbers))))
        (ap (flat_map (named_by range)) free.parts ∙ unnamed was free.few free.inside)
        ∙ ap
        (λ (sides : List (List Held)).
        filter (is_in range) (items_of (flat_map (side_entries sides) (fold with_number [] (flat_map (named_by range) was))))) more.sides;
  }

  -- a target of the other range is so still
  pub target_leaves : (source : ℕ) (truth material : List Entry) (from : ℕ) (handover : Handover) (pulling : Pulling) (handed : Option Handed) (table : List Held) (old new : Written) → HasMore row old new → old.applied ≤ length old.entries → from ≤ length old.entries → IsTarget range source truth material from old handover pulling handed table → IsTarget range source truth material from new handover pulling handed table
  target_leaves source truth material from handover pulling handed table old new more applies placed was =
      let same : ◌≡◌ {A = Written} (record old { entries = old.entries ++ more.list; marks = new.marks }) new = λ i. record {
        entries = sym more.entries i;
        applied = sym more.applied i;
        sides = sym more.sides i;
        marks = new.marks;
      } in
      rw (← same) (target_marked range source truth material from handover pulling handed table old (old.entries ++ more.list) new.marks
      (target_more range source truth material from handover pulling handed table old more.list applies placed (beside more.list more.inside) was))
