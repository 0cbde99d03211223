-- What a backup answers is well formed: the entries that a copy spells are those of a log.
use Rattle.std.proofs.Common.{◌≡◌, ◌-◌, ◌==◌, ℕ, suc, List, [], ◌∷◌, ◌++◌, All, length, Option, None, Some, refl, ap, subst, sym, ◌∙◌}
use Rattle.std.proofs.Common.{arith, eqb-true}
use Rattle.rk_inv_wellformed.proofs.Words.{cond_both, All-append, All-cons, All-head, All-map, All-nil, All-push, All-set, All-tail, Held}
use Rattle.rk_inv_wellformed.proofs.Words.{Node, entries_of, IsLawfulEntry, spelled, Entry, cut, segments, IsLawfulBody, Body, Called}
use Rattle.rk_inv_wellformed.proofs.Words.{backup_step, IsFormedMaster, IsFormedBody, IsFormedEntry, IsFormedHeld, IsFormedMessage, IsThere}
use Rattle.rk_inv_wellformed.proofs.Words.{Limits, Master, as_entries, IsMaster, MayCome, cut_after, has_room, in_last, last_of, with_bytes}
use Rattle.rk_inv_wellformed.proofs.Words.{numbered, ReadSegment, Append, append_step, read_step, option_map_or, segment_of, common_front}
use Rattle.rk_inv_wellformed.proofs.Words.{copied, spelled_all, spelled_none, spelled_push}
use Rattle.rk_outside.specs.Segments.{bytes_of as read_bytes}
use Rattle.rk_log.specs.Log.{bytes_of}
use Rattle.rk_inv_wellformed.proofs.bytes.Bytes.{entries_nil, read_front}
use Rattle.rk_inv_wellformed.proofs.maps.{all_at, all_find, all_given, by_found}
use Rattle.rk_inv_wellformed.proofs.masters.Work.{AreLimits}

-- ---- the segments of a log

-- bytes that spell entries of which each has a property
pub record Spells (P : Entry → Type 0) (bytes : List ℕ) : Type 0 where
  pub list : List Entry
  pub each : All P list
  pub is : bytes ≡ spelled_all list

spells_none : (P : Entry → Type 0) → Spells P []
spells_none P = record { list = []; each = All-nil P; is = sym spelled_none }

spells_more : (P : Entry → Type 0) (bytes : List ℕ) (entry : Entry) → P entry → Spells P bytes → Spells P (bytes ++ spelled entry)
spells_more P bytes entry it spells = record {
  list = spells.list ++ entry ∷ [];
  each = All-push P spells.list entry spells.each it;
  is = ap (λ (l : List ℕ). l ++ spelled entry) spells.is ∙ sym (spelled_push spells.list entry);
}

cut_spells : (P : Entry → Type 0) (list : List Entry) (before : List (List ℕ)) → All P list → All (Spells P) before → All (Spells P) (cut_after before list)
cut_spells P [] before each all = all
cut_spells P (entry ∷ list) before each all =
    cut_spells P list (with_bytes before (spelled entry)) (All-tail P entry list each)
    (cond_both (has_room before (spelled entry)) (in_last before (spelled entry)) (before ++ spelled entry ∷ []) (All (Spells P))
    (λ room. All-set (Spells P) before (length before - 1) _ (spells_more P (last_of before) entry (All-head P entry list each)
    (all_at (Spells P) before (length before - 1) [] (spells_none P) all))
    all)
    (λ full. All-push (Spells P) before (spelled entry) all (spells_more P [] entry (All-head P entry list each) (spells_none P))))

-- segments under their numbers
numbered_spells : (P : Entry → Type 0) (first : ℕ) (list : List (List ℕ)) → All (Spells P) list → All (λ segment. Spells P segment.bytes) (numbered first list)
numbered_spells P first [] all = All-nil _
numbered_spells P first (bytes ∷ list) all =
    All-cons (λ segment. Spells P segment.bytes) _ _ (All-head (Spells P) bytes list all)
    (numbered_spells P (suc first) list (All-tail (Spells P) bytes list all))

-- a segment of items spells them
items_spell : (limits : Limits) (items : List Held) → All (IsFormedHeld limits) items → Spells (IsFormedEntry limits) (spelled_all (as_entries items))
items_spell limits items all = record { list = as_entries items; each = All-map (IsFormedEntry limits) Entry.Held items all; is = refl }

-- the side segments of a well formed master
sides_spell : {limits : Limits} {number : ℕ} {master : Master} → IsFormedMaster limits number master → All (Spells (IsFormedEntry limits)) master.log.sides
sides_spell {limits} {master} formed = subst (All (Spells (IsFormedEntry limits))) (sym formed.spelled)
    (All-map (Spells (IsFormedEntry limits)) (λ items. spelled_all (as_entries items)) master.sides
    (λ place other within. items_spell limits _ (all_given (IsFormedHeld limits) (λ items. items) master.sides formed.items place other within)))

-- each segment of its log
pub segment_spells : {limits : Limits} {number : ℕ} {master : Master} (segment : ℕ) → IsFormedMaster limits number master → Spells (IsFormedEntry limits) (bytes_of master.log segment)
segment_spells {limits} {master} segment formed =
    let all = All-append (λ one. Spells (IsFormedEntry limits) one.bytes) _ _
    (numbered_spells (IsFormedEntry limits) 1 (cut master.log.entries)
    (cut_spells (IsFormedEntry limits) master.log.entries [] formed.written (All-nil _)))
    (numbered_spells (IsFormedEntry limits) _ master.log.sides (sides_spell formed)) in
    by_found (λ there. Spells (IsFormedEntry limits) (option_map_or (λ one. one.bytes) there [])) (segment_of segment (segments master.log))
    (λ none. spells_none (IsFormedEntry limits))
    (λ one is. all_find (λ one. Spells (IsFormedEntry limits) one.bytes) (λ one. one.number == segment) (segments master.log) one all is)

-- a well formed entry is lawful
pub lawful_of : (limits : Limits) (entry : Entry) → IsFormedEntry limits entry → IsLawfulEntry entry
lawful_of limits (Entry.Held held) formed = formed.lawful
lawful_of limits _ formed = formed.lawful

-- ---- copies

-- what two lists have in common is a first part of the second
record IsFront (front whole : List ℕ) : Type 0 where
  rest : List ℕ
  is : whole ≡ front ++ rest

common_is_front : (read whole : List ℕ) → IsFront (common_front read whole) whole
common_is_front [] whole = record { rest = whole; is = refl }
common_is_front (x ∷ read) [] = record { rest = []; is = refl }
common_is_front (x ∷ read) (y ∷ whole) = cond_both _ _ _ (λ (front : List ℕ). IsFront front (y ∷ whole))
    (λ same.
    let later = common_is_front read whole in
    record { rest = later.rest; is = ap (λ (n : ℕ). n ∷ whole) (sym (eqb-true x y same)) ∙ ap (λ (l : List ℕ). x ∷ l) later.is })
    (λ apart. record { rest = y ∷ whole; is = refl })

-- the entries that a copy spells are those of the segment
copied_spells : {limits : Limits} (read : Option (List ℕ)) (segment : List ℕ) → AreLimits limits → Spells (IsFormedEntry limits) segment → All (IsFormedEntry limits) (entries_of (read_bytes (copied read segment)))
copied_spells {limits} None segment are spells = subst (All (IsFormedEntry limits)) (sym entries_nil) (All-nil _)
copied_spells {limits} (Some read) [] are spells = subst (All (IsFormedEntry limits)) (sym entries_nil) (All-nil _)
copied_spells {limits} (Some read) (byte ∷ segment) are spells =
    let front = common_is_front read (byte ∷ segment) in
    read_front (IsFormedEntry limits) spells.list (common_front read (byte ∷ segment)) front.rest
    (λ place other within. lawful_of limits _ (spells.each place other within))
    spells.each (sym spells.is ∙ front.is)

-- ---- answers

-- the segments of masters' logs, by master and number
abbrev pub Segments : Type 0
Segments = ℕ → ℕ → List ℕ

-- each of them spells formed entries
abbrev pub SpellFormed : Limits → Segments → Type 0
SpellFormed limits log = (m s : ℕ) → IsMaster limits.masters m → Spells (IsFormedEntry limits) (log m s)

module _ (limits : Limits) (backup : ℕ) (are : AreLimits limits) (there : IsThere limits (Node.Backup backup)) where
  -- an Append is answered with the length
  append_formed : {master : ℕ} (append : Append) (called : Called) → IsMaster limits.masters master → IsLawfulBody (Body.Append append) → MayCome called → All (IsFormedMessage limits) (append_step backup master append called).sends
  append_formed append called from lawful may = grind arith

  -- a Read is answered with a copy
  read_formed : (master : ℕ) (read : ReadSegment) (log : Segments) (called : Called) → IsMaster limits.masters master → IsFormedBody limits (Node.Master master) (Body.Read read) → IsLawfulBody (Body.Read read) → SpellFormed limits log → All (IsFormedMessage limits) (read_step backup master read log called).sends
  read_formed master read log called from says lawful spells = grind (arith, spelled, copied_spells)

  -- what a backup makes of a well formed message
  pub formed_backup_step : (sender : Node) (body : Body) (log : Segments) (called : Called) → IsThere limits sender → IsFormedBody limits sender body → IsLawfulBody body → MayCome called → SpellFormed limits log → All (IsFormedMessage limits) (backup_step backup sender body log called).sends
  formed_backup_step sender body log called from says lawful may spells = grind (arith, append_formed, read_formed)
