-- What the segments of entries spell.
use Rattle.std.proofs.Common.{◌≡◌, ℕ, zero, suc, ◌+◌, ◌-◌, ◌<◌, ◌≤◌, List, [], ◌∷◌, ◌++◌, length, get_or, set, Option, refl, sym, ap, subst, ◌∙◌, ⊎_elim, arith, append_assoc, length-set, length-append, get_or-set_same, get_or-set_other}
use Rattle.std.specs.Prelude.{slice_get}
use Rattle.std.specs.List.{AllByRecursion, flat_map, concat}
use Rattle.std.proofs.lemmas.Bool.{cond_both, cases_lt, cases_eq}
use Rattle.std.proofs.lemmas.List.{append-nil, get_or_append_left, get_or_push}
use Rattle.rk_entry.specs.declared.entry.Entry.{Entry}
use Rattle.rk_entry.specs.Spelling.{spelled}
use Rattle.rk_entry.specs.Entries.{spelled_all, entries_of, entries_within}
use Rattle.rk_entry.specs.Lawful.{IsLawfulEntry}
use Rattle.rk_entry.proofs.StandLaws.{all_again}
use Rattle.rk_log.specs.Cut.{last_of, has_room, in_last, with_bytes, cut_after, cut}
use Rattle.rk_log.specs.Stored.{spelled_in, written_then, written_from}
use Rattle.rk_log.proofs.Cuts.{room_some}

-- ---- lists made of each segment

module _ {X : Type 0} (f : List ℕ → List X) where
  -- one more at the end
  flat_push : (segments : List (List ℕ)) (y : List ℕ) → flat_map f (segments ++ y ∷ []) ≡ flat_map f segments ++ f y
  flat_push [] y = append-nil (f y)
  flat_push (x ∷ segments) y = ap (λ (l : List X). f x ++ l) (flat_push segments y) ∙ sym (append_assoc (f x) (flat_map f segments) (f y))

  -- more of the last
  flat_last : (segments : List (List ℕ)) (k : ℕ) (y : List ℕ) (more : List X) → suc k ≡ length segments → f y ≡ f (get_or segments k []) ++ more → flat_map f (set segments k y) ≡ flat_map f segments ++ more
  flat_last [] k y more e is = absurd (omega arith)
  flat_last (x ∷ []) zero y more e is = append-nil (f y) ∙ is ∙ ap (λ (l : List X). l ++ more) (sym (append-nil (f x)))
  flat_last (x ∷ z ∷ segments) zero y more e is = absurd (omega arith)
  flat_last (x ∷ segments) (suc k) y more e is = ap (λ (l : List X). f x ++ l) (flat_last segments k y more (omega arith) is) ∙ sym (append_assoc (f x) (flat_map f segments) more)

  -- bytes that make `more` of what they follow
  flat_with : (segments : List (List ℕ)) (bytes : List ℕ) (more : List X) → (0 < length segments → f (last_of segments ++ bytes) ≡ f (last_of segments) ++ more) → f bytes ≡ more
      → flat_map f (with_bytes segments bytes) ≡ flat_map f segments ++ more
  flat_with segments bytes more behind alone = grind (arith, cond_both, room_some, flat_last, flat_push)

-- ---- the bytes of all segments

-- segments joined are the list made of each as it is
joined : (segments : List (List ℕ)) → concat segments ≡ flat_map (λ (s : List ℕ). s) segments
joined [] = refl
joined (x ∷ segments) = ap (λ (l : List ℕ). x ++ l) (joined segments)

-- the spelling of one more entry
spelled_first : (entry : Entry) (entries : List Entry) → spelled_all (entry ∷ entries) ≡ spelled entry ++ spelled_all entries
unfolding spelled_all
spelled_first entry entries = refl

pub spelled_none : spelled_all [] ≡ []
unfolding spelled_all
spelled_none = refl

whole_after : (segments : List (List ℕ)) (entries : List Entry) → flat_map (λ (s : List ℕ). s) (cut_after segments entries) ≡ flat_map (λ (s : List ℕ). s) segments ++ spelled_all entries
whole_after segments [] = sym (append-nil (flat_map (λ (s : List ℕ). s) segments)) ∙ ap (λ (l : List ℕ). flat_map (λ (s : List ℕ). s) segments ++ l) (sym spelled_none)
whole_after segments (x ∷ entries) =
    grind (arith, flat_with, append_assoc, spelled_first, (whole_after (with_bytes segments (spelled x)) entries))

pub cut_whole : (entries : List Entry) → concat (cut entries) ≡ spelled_all entries
cut_whole entries = joined (cut entries) ∙ whole_after [] entries

-- ---- the entries that are read again

-- bytes that lawful entries spell
record Spelled (bytes : List ℕ) : Type 0 where
  entries : List Entry
  lawful : AllByRecursion IsLawfulEntry entries
  bytes_are : bytes ≡ spelled_all entries

-- each of these segments
abbrev AreSpelled : List (List ℕ) → Type 0
AreSpelled segments = (k : ℕ) → k < length segments → Spelled (get_or segments k [])

pub spelled_one : (entry : Entry) → spelled_all (entry ∷ []) ≡ spelled entry
spelled_one entry = spelled_first entry [] ∙ ap (λ (l : List ℕ). spelled entry ++ l) spelled_none ∙ append-nil (spelled entry)

pub spelled_push : (entries : List Entry) (entry : Entry) → spelled_all (entries ++ entry ∷ []) ≡ spelled_all entries ++ spelled entry
spelled_push [] entry = spelled_one entry ∙ ap (λ (l : List ℕ). l ++ spelled entry) (sym spelled_none)
spelled_push (x ∷ entries) entry = grind (arith, spelled_first, append_assoc, (spelled_push entries entry))

pub lawful_push : (entries : List Entry) (entry : Entry) → AllByRecursion IsLawfulEntry entries → IsLawfulEntry entry → AllByRecursion IsLawfulEntry (entries ++ entry ∷ [])
lawful_push [] entry each last = (last, tt)
lawful_push (x ∷ entries) entry each last = (each.0, lawful_push entries entry each.1 last)

-- no bytes spell no entry
read_none : entries_of [] ≡ []
unfolding entries_of entries_within
read_none = refl

-- entries are read from their spelling alone
pub read_again : (entries : List Entry) → AllByRecursion IsLawfulEntry entries → entries_of (spelled_all entries) ≡ entries
read_again entries lawful =
    ap entries_of (sym (append-nil (spelled_all entries))) ∙ all_again entries [] lawful ∙ ap (λ (l : List Entry). entries ++ l) read_none ∙ append-nil entries

spelled_more : (bytes : List ℕ) (entry : Entry) → IsLawfulEntry entry → Spelled bytes → Spelled (bytes ++ spelled entry)
spelled_more bytes entry lawful s = grind (arith, lawful_push, spelled_push)

spelled_alone : (entry : Entry) → IsLawfulEntry entry → Spelled (spelled entry)
spelled_alone entry lawful = record { entries = entry ∷ []; lawful = (lawful, tt); bytes_are = sym (spelled_one entry) }

-- one more entry is read behind those of the segment
read_more : (bytes : List ℕ) (entry : Entry) → IsLawfulEntry entry → Spelled bytes → entries_of (bytes ++ spelled entry) ≡ entries_of bytes ++ entry ∷ []
unfolding spelled_more
read_more bytes entry lawful s =
    let more = spelled_more bytes entry lawful s in
    ap entries_of more.bytes_are ∙ read_again more.entries more.lawful
    ∙ ap (λ (l : List Entry). l ++ entry ∷ []) (sym (ap entries_of s.bytes_are ∙ read_again s.entries s.lawful))

spelled_with : (segments : List (List ℕ)) (entry : Entry) → IsLawfulEntry entry → AreSpelled segments → AreSpelled (with_bytes segments (spelled entry))
spelled_with segments entry lawful all =
    cond_both (has_room segments (spelled entry)) (in_last segments (spelled entry)) (segments ++ spelled entry ∷ []) AreSpelled
    (λ e k h.
    let some : 0 < length segments = room_some segments (spelled entry) e in
    let within : k < length segments = omega (arith, length-set segments (length segments - 1) (last_of segments ++ spelled entry)) in
    ⊎_elim
    (λ (same : k ≡ length segments - 1).
    subst Spelled
    (sym (ap (λ (n : ℕ). get_or (in_last segments (spelled entry)) n []) same ∙ get_or-set_same segments (length segments - 1) (last_of segments ++ spelled entry) [] (omega arith)))
    (spelled_more (last_of segments) entry lawful (all (length segments - 1) (omega arith))))
    (λ (other : k ≡ length segments - 1 → ⊥).
    subst Spelled (sym (get_or-set_other segments (length segments - 1) k (last_of segments ++ spelled entry) [] other)) (all k within))
    (cases_eq k (length segments - 1)))
    (λ e k h.
    ⊎_elim
    (λ (before : k < length segments). subst Spelled (sym (get_or_append_left segments (spelled entry ∷ []) [] k before)) (all k before))
    (λ (last : length segments ≤ k).
    subst Spelled (sym (get_or_push segments (spelled entry) [] k (omega (arith, length-append segments (spelled entry ∷ []))))) (spelled_alone entry lawful))
    (cases_lt k (length segments)))

again_after : (segments : List (List ℕ)) (entries : List Entry) → AllByRecursion IsLawfulEntry entries → AreSpelled segments → spelled_in (cut_after segments entries) ≡ spelled_in segments ++ entries
again_after segments [] lawful all = sym (append-nil (spelled_in segments))
again_after segments (x ∷ entries) lawful all =
    again_after (with_bytes segments (spelled x)) entries lawful.1 (spelled_with segments x lawful.0 all)
    ∙ ap (λ (l : List Entry). l ++ entries)
    (flat_with entries_of segments (spelled x) (x ∷ []) (λ some. read_more (last_of segments) x lawful.0 (all (length segments - 1) (omega arith)))
    (ap entries_of (sym (spelled_one x)) ∙ read_again (x ∷ []) (lawful.0, tt)))
    ∙ append_assoc (spelled_in segments) (x ∷ []) entries

pub cut_again : (entries : List Entry) → AllByRecursion IsLawfulEntry entries → spelled_in (cut entries) ≡ entries
cut_again entries lawful = again_after [] entries lawful (λ k h. absurd (omega arith))

-- ---- where segments are stored

pub written_all : (segments : ℕ → Option (List ℕ)) (first most : ℕ) (list : List (List ℕ)) → ((k n : ℕ) → first + k ≡ n → segments n ≡ slice_get list k) → length list ≤ most → written_from segments first most ≡ list
unfolding written_from
written_all segments first zero [] is le = refl
written_all segments first zero (x ∷ list) is le = absurd (omega arith)
written_all segments first (suc most) [] is le = ap (λ (o : Option (List ℕ)). written_then o (written_from segments (suc first) most)) (is zero first (omega arith))
written_all segments first (suc most) (x ∷ list) is le =
    ap (λ (o : Option (List ℕ)). written_then o (written_from segments (suc first) most)) (is zero first (omega arith))
    ∙ ap (λ (l : List (List ℕ)). x ∷ l) (written_all segments (suc first) most list (λ k n e. is (suc k) n (omega arith)) (omega arith))
