-- What a segment that was read changes: of its master's log, of what was read of each member, and of what readers know.
use Rattle.rk_rebuild.proofs.Words.{◌≡◌, ℕ, ◌+◌, ◌<◌, Bool, true, false, cond, eqb, List, [], ◌∷◌, ◌++◌, map, drop, set, length, get_or}
use Rattle.rk_rebuild.proofs.Words.{Option, Some, None, refl, sym, ap, ◌∙◌, subst, arith, not, AllByRecursion, find, flat_map}
use Rattle.rk_rebuild.proofs.Words.{position_or_len, eq-eqb, get, insert, Member, Range, Entry, named, Gathered, ReadLog, Reader, advanced}
use Rattle.rk_rebuild.proofs.Words.{is_by, is_unread, log_of, gathered_of, gathered_at, members_of, KnowsNamed, passed}
use Rattle.std.proofs.Common.{zero, suc, Result, Ok, Err, length-append, is_some}
use Rattle.std.specs.Prelude.{OnOk, OnErr}
use Rattle.std.proofs.lemmas.Bool.{eqb-true, ne_eqb, false≢true}
use Rattle.std.proofs.lemmas.List.{set-get_or}
use Rattle.std.proofs.lemmas.List.Folds.{find_at, find-set}
use Rattle.std.proofs.lemmas.List.Sums.{passes_at_first}
use Rattle.std.proofs.lemmas.Option.{slice_get-get_or}
use Rattle.rk_types.specs.NumberMap.{NumberMap}
use Rattle.rk_outside.specs.Segments.{bytes_of}
use Rattle.rk_entry.specs.Entries.{entries_of}
use Rattle.rk_world.specs.Gather.{with_main, with_segment, with_read, LAST_MAIN_SEGMENT}
use Rattle.rk_rebuild.specs.Logs.{IsUpTo, IsShort, IsGathered}
use Rattle.rk_rebuild.proofs.Logs.{gathered_member, none_up_to, stands_has}
use Rattle.rk_types.proofs.NumberMaps.{get_insert}

-- ---- logs

-- the log of a master is at this place, the first such log
pub record StandsAt (logs : List ReadLog) (place master : ℕ) (log : ReadLog) : Type 0 where
  pub place_is : place ≡ position_or_len (is_by master) logs
  pub within : place < length logs
  pub log_is : log ≡ get_or logs place log

-- and it is that master's
pub log_master : (logs : List ReadLog) (place master : ℕ) (log : ReadLog) → StandsAt logs place master log → log.master ≡ master
log_master logs place master log at =
    grind (arith, position_or_len, is_by, eqb-true, passes_at_first, at.place_is, at.within, at.log_is, log.master)

-- what is found by another test stays if neither the old nor the new one passes it
find_other : {X : Type 0} (p : X → Bool) (xs : List X) (i : ℕ) (new d : X) → p (get_or xs i d) ≡ false → p new ≡ false → find p (set xs i new) ≡ find p xs
find_other p [] i new d old_fails new_fails = refl
find_other p (x ∷ xs) zero new d old_fails new_fails = grind arith
find_other p (x ∷ xs) (suc i) new d old_fails new_fails = ap (λ o. cond (p x) (Some x) o) (find_other p xs i new d old_fails new_fails)

-- ---- what was read of a member, once the log of a master was changed

same_gathered : (logs : List ReadLog) (place master : ℕ) (old new : ReadLog) → StandsAt logs place master old → new.master ≡ master
    → (member : Member) → eqb member.master master ≡ true → gathered_at (set logs place new) member ≡ gathered_of (Some new) member
same_gathered logs place master old new at new_master member own =
    grind (arith, gathered_of, log_of, eqb-true, find-set, is_by, eq-eqb, member.master, at.place_is, at.within, new.master)

other_gathered : (logs : List ReadLog) (place master : ℕ) (old new : ReadLog) → StandsAt logs place master old → new.master ≡ master
    → (member : Member) → eqb member.master master ≡ false → gathered_at (set logs place new) member ≡ gathered_at logs member
other_gathered logs place master old new at new_master member other =
    grind (arith, is_by, ne_eqb, false≢true, eq-eqb, gathered_of, find_other, log_master, member.master, at.log_is)

-- what was read of a member of the master before
old_gathered : (logs : List ReadLog) (place master : ℕ) (old : ReadLog) → StandsAt logs place master old
    → (member : Member) → eqb member.master master ≡ true → gathered_at logs member ≡ gathered_of (Some old) member
old_gathered logs place master old at member own =
    grind (arith, gathered_of, log_of, eqb-true, find_at, is_by, slice_get-get_or, member.master)

-- what was read of each member once a segment of the master was read
pub members_read : (before logs : List ReadLog) (place master : ℕ) (old new : ReadLog) (segment : ℕ) (bytes : Option (List ℕ))
    → ((member : Member) → gathered_at logs member ≡ gathered_at before member)
    → StandsAt logs place master old → new.master ≡ master
    → ((member : Member) → gathered_of (Some new) member ≡ with_segment (gathered_of (Some old) member) segment bytes)
    → (readers : List Reader) → members_of (set logs place new) readers ≡ with_read (members_of before readers) master segment bytes
members_read before logs place master old new segment bytes same at new_master reads [] = refl
members_read before logs place master old new segment bytes same at new_master reads (reader ∷ readers) =
    grind (
      arith,
      eqb,
      gathered_at,
      gathered_member,
      log_of,
      same_gathered,
      old_gathered,
      other_gathered,
      reader.member.master,
      reader.member,
      (members_read before logs place master old new segment bytes same at new_master reads readers),
    )

-- if nothing changed
pub members_same : (before logs : List ReadLog) → ((member : Member) → gathered_at logs member ≡ gathered_at before member)
    → (readers : List Reader) → members_of logs readers ≡ members_of before readers
members_same before logs same [] = refl
members_same before logs same (reader ∷ readers) = λ i. same reader.member i ∷ members_same before logs same readers i

-- readers of the same members
members_mapped : (change : Reader → Reader) → ((reader : Reader) → (change reader).member ≡ reader.member) → (logs : List ReadLog) (readers : List Reader)
    → members_of logs (map change readers) ≡ members_of logs readers
members_mapped change same logs [] = refl
members_mapped change same logs (reader ∷ readers) = λ i. gathered_at logs (same reader i) ∷ members_mapped change same logs readers i

member_passed : (range : Range) (log : ReadLog) (reader : Reader) → (passed range log reader).member ≡ reader.member
member_passed range log reader = grind (arith, eqb, named, reader.member.master, log.master, reader.member.from, log.main, reader.member)

member_advanced : (log : ReadLog) (reader : Reader) → (advanced log reader).member ≡ reader.member
member_advanced log reader =
    grind (
      arith,
      eqb,
      position_or_len,
      is_unread,
      named,
      reader.member.master,
      log.master,
      reader.done,
      log.sides,
      reader.named,
      reader.member,
    )

pub members_passed : (range : Range) (log : ReadLog) (logs : List ReadLog) (readers : List Reader) → members_of logs (map (passed range log) readers) ≡ members_of logs readers
members_passed range log logs readers = members_mapped (passed range log) (member_passed range log) logs readers

pub members_advanced : (log : ReadLog) (logs : List ReadLog) (readers : List Reader) → members_of logs (map (advanced log) readers) ≡ members_of logs readers
members_advanced log logs readers = members_mapped (advanced log) (member_advanced log) logs readers

-- ---- the segments

-- a side segment was read
pub side_reads : (old : ReadLog) (segment : ℕ) (bytes : Option (List ℕ)) → old.main_read ≡ true → (member : Member)
    → gathered_of (Some (record old { sides = insert old.sides segment (entries_of (bytes_of bytes)) })) member
    ≡ with_segment (gathered_of (Some old) member) segment bytes
side_reads old segment bytes is member =
    let g : Gathered = gathered_of (Some old) member in
    sym (ap (λ (b : Bool). cond b (record g { sides = insert g.sides segment (entries_of (bytes_of bytes)) }) (with_main g bytes)) is)

-- a main segment was read
pub main_reads : (old : ReadLog) (segment : ℕ) (bytes : List ℕ) → old.main_read ≡ false → length old.main + 1 < LAST_MAIN_SEGMENT → (member : Member)
    → gathered_of (Some (record old { main = old.main ++ entries_of bytes ∷ [] })) member
    ≡ with_segment (gathered_of (Some old) member) segment (Some bytes)
main_reads old segment bytes is short member = grind (arith, gathered_of, eqb, ne_eqb, insert, old.main)

-- the main segments are passed
pub pass_reads : (old : ReadLog) (segment : ℕ) → old.main_read ≡ false → (member : Member)
    → gathered_of (Some (record old { main_read = true })) member ≡ with_segment (gathered_of (Some old) member) segment None
pass_reads old segment is member =
    let g : Gathered = gathered_of (Some old) member in
    sym (ap (λ (b : Bool). cond b (record g { sides = insert g.sides segment (entries_of []) }) (with_main g None)) is)

-- ---- what readers know

-- what holds of each, if it follows
all_weaker : {X : Type 0} (P Q : X → Type 0) → ((x : X) → P x → Q x) → (xs : List X) → AllByRecursion P xs → AllByRecursion Q xs
all_weaker P Q gives [] all = tt
all_weaker P Q gives (x ∷ xs) all = (gives x all.0, all_weaker P Q gives xs all.1)

all_mapped : {X Y : Type 0} (P : X → Type 0) (Q : Y → Type 0) (f : X → Y) → ((x : X) → P x → Q (f x)) → (xs : List X) → AllByRecursion P xs → AllByRecursion Q (map f xs)
all_mapped P Q f gives [] all = tt
all_mapped P Q f gives (x ∷ xs) all = (gives x all.0, all_mapped P Q f gives xs all.1)

all_set : {X : Type 0} (P : X → Type 0) (xs : List X) (i : ℕ) (new : X) → P new → AllByRecursion P xs → AllByRecursion P (set xs i new)
all_set P [] i new has all = tt
all_set P (x ∷ xs) zero new has all = (has, all.1)
all_set P (x ∷ xs) (suc i) new has all = (all.0, all_set P xs i new has all.1)

pub gathered_same : (range : Range) (before logs : List ReadLog) (readers : List Reader) → ((member : Member) → gathered_at logs member ≡ gathered_at before member)
    → AllByRecursion IsShort logs → IsGathered range before readers → IsGathered range logs readers
gathered_same range before logs readers same short was = grind (arith, named, all_weaker, was.named)

-- a reader knows what is named once the log of a master was changed
knows_set : (range : Range) (logs : List ReadLog) (place master : ℕ) (old new : ReadLog) → StandsAt logs place master old → new.master ≡ master
    → (reader now : Reader) → now.member ≡ reader.member
    → (eqb reader.member.master master ≡ true → (old.main_read ≡ true → IsUpTo range (gathered_of (Some old) reader.member) reader.named reader.done)
    → new.main_read ≡ true → IsUpTo range (gathered_of (Some new) reader.member) now.named now.done)
    → (eqb reader.member.master master ≡ false → now ≡ reader)
    → KnowsNamed range logs reader → KnowsNamed range (set logs place new) now
knows_set range logs place master old new at new_master reader now same_member if_own if_other knows =
    grind (
      arith,
      gathered_at,
      named,
      eqb,
      same_gathered,
      old_gathered,
      other_gathered,
      now.named,
      now.done,
      reader.member,
      reader.named,
      reader.done,
    )

-- a log as short as before
same_short : (logs : List ReadLog) (place master : ℕ) (old new : ReadLog) → StandsAt logs place master old → new.main ≡ old.main → AllByRecursion IsShort logs → IsShort new
same_short logs place master old new at same_main short =
    subst (λ (segments : List (List Entry)). length segments < LAST_MAIN_SEGMENT) (sym same_main) (stands_has IsShort logs place old short at.within at.log_is)

-- with one more side segment no more are unread
fewer_unread : (sides : NumberMap (List Entry)) (segment : ℕ) (entries : List Entry) (q : ℕ) → is_unread sides q ≡ false → is_unread (insert sides segment entries) q ≡ false
fewer_unread sides segment entries q read =
    ap (λ (o : Option (List Entry)). not (is_some o)) (get_insert sides segment entries q) ∙ go (eqb q segment)
  where
    go : (b : Bool) → not (is_some (cond b (Some entries) (get sides q))) ≡ false
    go true = refl
    go false = read

-- after a side segment
pub gathered_side : (range : Range) (logs : List ReadLog) (place master segment : ℕ) (entries : List Entry) (old new : ReadLog) (readers : List Reader) → StandsAt logs place master old
    → new ≡ record old { sides = insert old.sides segment entries } → old.main_read ≡ true → IsGathered range logs readers
    → IsGathered range (set logs place new) (map (advanced new) readers)
gathered_side range logs place master segment entries old new readers at new_is old_read was =
    subst (λ (log : ReadLog). IsGathered range (set logs place log) (map (advanced log) readers)) (sym new_is) (record {
      short = all_set IsShort logs place then (same_short logs place master old then at refl was.short) was.short;
      named = all_mapped (KnowsNamed range logs) (KnowsNamed range (set logs place then)) (advanced then)
          (λ reader. knows_set range logs place master old then at its_master reader (advanced then reader) (member_advanced then reader)
          (λ own knows is. own_up_to reader (ap (eqb reader.member.master) its_master ∙ own) (knows old_read))
          (λ other. ap (λ (b : Bool). cond b (moved reader) reader) (ap (eqb reader.member.master) its_master ∙ other)))
          readers was.named;
    })
  where
    then : ReadLog
    then = record old { sides = insert old.sides segment entries }

    its_master : old.master ≡ master
    its_master = log_master logs place master old at

    moved : Reader → Reader
    moved reader = record reader { done = reader.done + position_or_len (is_unread then.sides) (drop reader.done reader.named) }

    own_up_to : (reader : Reader) → eqb reader.member.master old.master ≡ true → IsUpTo range (gathered_of (Some old) reader.member) reader.named reader.done
        → IsUpTo range (gathered_of (Some then) reader.member) (advanced then reader).named (advanced then reader).done
    own_up_to reader own up =
        subst (λ (r : Reader). IsUpTo range (gathered_of (Some then) reader.member) r.named r.done)
        (sym (ap (λ (b : Bool). cond b (moved reader) reader) own)) (record {
          named = up.named;
          before = none_up_to (is_unread old.sides) (is_unread then.sides) (fewer_unread old.sides segment entries) reader.named reader.done up.before;
        })

-- after a main segment
pub gathered_main : (range : Range) (logs : List ReadLog) (place master : ℕ) (old new : ReadLog) (readers : List Reader) → StandsAt logs place master old
    → new.master ≡ old.master → new.main_read ≡ false → IsShort new → IsGathered range logs readers → IsGathered range (set logs place new) readers
gathered_main range logs place master old new readers at same_master not_read short was = record {
  short = all_set IsShort logs place new short was.short;
  named = all_weaker (KnowsNamed range logs) (KnowsNamed range (set logs place new))
      (λ reader. knows_set range logs place master old new at (same_master ∙ log_master logs place master old at) reader reader refl
      (λ own knows is. absurd (false≢true (sym not_read ∙ is)))
      (λ other. refl))
      readers was.named;
}

-- after the main segments were passed
pub gathered_pass : (range : Range) (logs : List ReadLog) (place master : ℕ) (old new : ReadLog) (readers : List Reader) → StandsAt logs place master old
    → new.master ≡ old.master → new.main ≡ old.main → IsGathered range logs readers → IsGathered range (set logs place new) (map (passed range old) readers)
gathered_pass range logs place master old new readers at same_master same_main was = record {
  short = all_set IsShort logs place new (same_short logs place master old new at same_main was.short) was.short;
  named = all_mapped (KnowsNamed range logs) (KnowsNamed range (set logs place new)) (passed range old)
      (λ reader. knows_set range logs place master old new at (same_master ∙ its_master) reader (passed range old reader) (member_passed range old reader)
      (λ own knows is. own_up_to reader (ap (eqb reader.member.master) its_master ∙ own))
      (λ other. ap (λ (b : Bool). cond b (now reader) reader) (ap (eqb reader.member.master) its_master ∙ other)))
      readers was.named;
}
  where
    its_master : old.master ≡ master
    its_master = log_master logs place master old at

    now : Reader → Reader
    now reader = record reader { named = named range (drop reader.member.from (flat_map (λ entries. entries) old.main)); done = 0 }

    own_up_to : (reader : Reader) → eqb reader.member.master old.master ≡ true
        → IsUpTo range (gathered_of (Some new) reader.member) (passed range old reader).named (passed range old reader).done
    own_up_to reader own =
        subst (λ (r : Reader). IsUpTo range (gathered_of (Some new) reader.member) r.named r.done)
        (sym (ap (λ (b : Bool). cond b (now reader) reader) own)) (record {
          named = ap (λ (segments : List (List Entry)). named range (drop reader.member.from (flat_map (λ entries. entries) segments))) (sym same_main);
          before = refl;
        })

-- ---- a log of which nothing was read

-- what is found with one more log
find_pushed : {X : Type 0} (p : X → Bool) (xs : List X) (x : X) → find p xs ≡ None → find p (xs ++ x ∷ []) ≡ cond (p x) (Some x) None
find_pushed p [] x none = refl
find_pushed {X} p (y ∷ xs) x none = go (p y) none (find_pushed p xs x)
  where
    go : (b : Bool) → cond b (Some y) (find p xs) ≡ None → (find p xs ≡ None → find p (xs ++ x ∷ []) ≡ cond (p x) (Some x) None)
        → cond b (Some y) (find p (xs ++ x ∷ [])) ≡ cond (p x) (Some x) None
    go true here rest = absurd (cc here)
    go false behind rest = rest behind

find_before : {X : Type 0} (p : X → Bool) (xs : List X) (x y : X) → find p xs ≡ Some y → find p (xs ++ x ∷ []) ≡ Some y
find_before p [] x y found = absurd (cc found)
find_before {X} p (z ∷ xs) x y found = go (p z) found (find_before p xs x y)
  where
    go : (b : Bool) → cond b (Some z) (find p xs) ≡ Some y → (find p xs ≡ Some y → find p (xs ++ x ∷ []) ≡ Some y)
        → cond b (Some z) (find p (xs ++ x ∷ [])) ≡ Some y
    go true here rest = here
    go false behind rest = rest behind

-- a log of which nothing was read adds nothing
pub opened_same : (logs : List ReadLog) (new : ReadLog) → new.main ≡ [] → new.main_read ≡ false → new.sides ≡ [] → (member : Member)
    → gathered_at (logs ++ new ∷ []) member ≡ gathered_at logs member
opened_same logs new no_main not_read no_sides member = grind (arith, log_of, gathered_of, find_pushed, is_by, find_before, member.master)

-- a log with one more main segment is short
pub short_main : (old new : ReadLog) (entries : List Entry) → new.main ≡ old.main ++ entries ∷ [] → length old.main + 1 < LAST_MAIN_SEGMENT → IsShort new
short_main old new entries is short = omega (arith, ap length is, length-append old.main (entries ∷ []))

-- ---- if nothing changed

-- a log that is put back as it was
pub put_back : (logs : List ReadLog) (place master : ℕ) (old new : ReadLog) → StandsAt logs place master old → new ≡ old → set logs place new ≡ logs
put_back logs place master old new at is = ap (set logs place) (is ∙ at.log_is) ∙ set-get_or logs place old

-- ---- either answer

-- what follows from either answer
pub either : {T E : Type 0} {P Q X : Type 0} (r : Result T E) → OnOk r P → OnErr r Q → (P → X) → (Q → X) → X
either (Ok x) ok err p q = p ok
either (Err e) ok err p q = q err

-- what follows from success
pub ok_gives : {T E : Type 0} {P X : Type 0} (r : Result T E) → OnOk r P → (P → X) → OnOk r X
ok_gives (Ok x) ok p = p ok
ok_gives (Err e) ok p = tt

-- and from an error
pub err_gives : {T E : Type 0} {P X : Type 0} (r : Result T E) → OnErr r P → (P → X) → OnErr r X
err_gives (Ok x) err p = tt
err_gives (Err e) err p = p err

-- what an answer gives in two parts
pub both : {T E : Type 0} (P Q : Type 0) (r : Result T E) → OnOk r P → OnOk r Q → OnOk r (P × Q)
both P Q (Ok x) p q = (p, q)
both P Q (Err e) p q = tt

pub both_err : {T E : Type 0} (P Q : Type 0) (r : Result T E) → OnErr r P → OnErr r Q → OnErr r (P × Q)
both_err P Q (Ok x) p q = tt
both_err P Q (Err e) p q = (p, q)

-- what holds anyway, it holds on an error
pub on_err : {T E : Type 0} {X : Type 0} (r : Result T E) → X → OnErr r X
on_err (Ok x) holds = tt
on_err (Err e) holds = holds
