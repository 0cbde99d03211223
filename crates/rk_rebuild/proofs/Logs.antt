-- What is read next, as the code looks for it, and what a change of one log leaves of the others.
use Rattle.rk_rebuild.proofs.Words.{◌≡◌, ℕ, ◌+◌, ◌<◌, Bool, true, false, cond, List, [], ◌∷◌, map, drop, length, get_or, Option, Some, None}
use Rattle.rk_rebuild.proofs.Words.{refl, sym, ap, ◌∙◌, subst, ◌++◌, take, not, arith, position_or_len, AllByRecursion, find, Member, Range}
use Rattle.rk_rebuild.proofs.Words.{ReadLog, Reader, is_by, log_of, gathered_of, gathered_at, members_of}
use Rattle.std.proofs.Common.{zero, suc}
use Rattle.std.proofs.Math.Seq.{take-add}
use Rattle.std.proofs.lemmas.List.{at_drop_more}
use Rattle.std.proofs.lemmas.List.Elements.{All-from_recursion}
use Rattle.rk_world.specs.Gather.{unread, next_of, next_segment}
use Rattle.rk_rebuild.specs.Logs.{IsShort}

-- what holds of each in a list holds of the element that is found there
found_has : {X : Type 0} (P : X → Type 0) (test : X → Bool) (xs : List X) (x : X) → AllByRecursion P xs → find test xs ≡ Some x → P x
found_has P test [] x all found = absurd (cc found)
found_has {X} P test (y ∷ xs) x all found = go (test y) found (found_has P test xs x all.1)
  where
    go : (b : Bool) → cond b (Some y) (find test xs) ≡ Some x → (find test xs ≡ Some x → P x) → P x
    go true here rest = let same : y ≡ x = cc here in subst P same all.0
    go false behind rest = rest behind

-- and of the element at a place
pub stands_has : {X : Type 0} (P : X → Type 0) (xs : List X) (i : ℕ) (x : X) → AllByRecursion P xs → i < length xs → x ≡ get_or xs i x → P x
stands_has P xs i x all within is = subst P (sym is) (All-from_recursion P xs all i x within)

-- a log that is found is short
pub short_found : (logs : List ReadLog) (master : ℕ) (log : ReadLog) → AllByRecursion IsShort logs → log_of logs master ≡ Some log → IsShort log
short_found logs master log all found = found_has IsShort (is_by master) logs log all found

-- ---- what is read next

-- what was read of a member is of that member
pub gathered_member : (log : Option ReadLog) (member : Member) → (gathered_of log member).member ≡ member
gathered_member None member = refl
gathered_member (Some log) member = refl

-- the members from one on
members_from : (range : Range) (logs : List ReadLog) (readers : List Reader) (i : ℕ) (reader : Reader) → i < length readers → reader ≡ get_or readers i reader
    → next_of range (members_of logs (drop i readers)) ≡ next_of range (gathered_at logs reader.member ∷ members_of logs (drop (i + 1) readers))
members_from range logs readers i reader within is =
    at_drop_more (λ (rest : List Reader). next_of range (members_of logs rest)) readers i reader within
    ∙ ap (λ (r : Reader). next_of range (gathered_at logs r.member ∷ members_of logs (drop (i + 1) readers))) (sym is)

-- a member has something to read
pub next_here : (range : Range) (logs : List ReadLog) (readers : List Reader) (i segment : ℕ) (reader : Reader) → i < length readers → reader ≡ get_or readers i reader
    → Some segment ≡ next_segment range (gathered_at logs reader.member)
    → Some (record { master = reader.member.master; segment = segment }) ≡ next_of range (members_of logs (drop i readers))
next_here range logs readers i segment reader within is next =
    grind (arith, gathered_at, members_of, gathered_member, log_of, members_from, reader.member, reader.member.master)

-- a member has nothing to read
pub next_behind : (range : Range) (logs : List ReadLog) (readers : List Reader) (i : ℕ) (reader : Reader) → i < length readers → reader ≡ get_or readers i reader
    → None ≡ next_segment range (gathered_at logs reader.member)
    → next_of range (members_of logs (drop i readers)) ≡ next_of range (members_of logs (drop (i + 1) readers))
next_behind range logs readers i reader within is next = grind (arith, gathered_at, members_from, members_of, reader.member)

-- ---- nothing was read

-- if nothing was read of any master, nothing was of any member
pub members_unread : (readers : List Reader) → members_of [] readers ≡ map unread (map (λ reader. reader.member) readers)
members_unread [] = refl
members_unread (reader ∷ readers) = ap (λ rest. unread reader.member ∷ rest) (members_unread readers)

-- ---- the first ones of a list

-- what is found behind some first ones that do not pass is what is found
pub find_behind : {X : Type 0} (p : X → Bool) (xs : List X) (n : ℕ) → find p (take n xs) ≡ None → find p (drop n xs) ≡ find p xs
find_behind p [] zero none = refl
find_behind p [] (suc n) none = refl
find_behind p (x ∷ xs) zero none = refl
find_behind {X} p (x ∷ xs) (suc n) none = go (p x) none (find_behind p xs n)
  where
    go : (b : Bool) → cond b (Some x) (find p (take n xs)) ≡ None → (find p (take n xs) ≡ None → find p (drop n xs) ≡ find p xs) → find p (drop n xs) ≡ cond b (Some x) (find p xs)
    go true here rest = absurd (cc here)
    go false behind rest = rest behind

-- if none passes, none passes a stricter test
find_fewer : {X : Type 0} (p q : X → Bool) → ((x : X) → p x ≡ false → q x ≡ false) → (xs : List X) → find p xs ≡ None → find q xs ≡ None
find_fewer p q fewer [] none = refl
find_fewer {X} p q fewer (x ∷ xs) none = go (p x) refl none (find_fewer p q fewer xs)
  where
    go : (b : Bool) → p x ≡ b → cond b (Some x) (find p xs) ≡ None → (find p xs ≡ None → find q xs ≡ None) → cond (q x) (Some x) (find q xs) ≡ None
    go true passes here rest = absurd (cc here)
    go false fails behind rest = ap (λ (b : Bool). cond b (Some x) (find q xs)) (fewer x fails) ∙ rest behind

-- none passes in two lists
find_in_both : {X : Type 0} (p : X → Bool) (xs ys : List X) → find p xs ≡ None → find p ys ≡ None → find p (xs ++ ys) ≡ None
find_in_both p [] ys none none_behind = none_behind
find_in_both {X} p (x ∷ xs) ys none none_behind = go (p x) none (λ rest. find_in_both p xs ys rest none_behind)
  where
    go : (b : Bool) → cond b (Some x) (find p xs) ≡ None → (find p xs ≡ None → find p (xs ++ ys) ≡ None) → cond b (Some x) (find p (xs ++ ys)) ≡ None
    go true here rest = absurd (cc here)
    go false behind rest = rest behind

-- none passes before the first that does
none_before : {X : Type 0} (p : X → Bool) (xs : List X) → find p (take (position_or_len p xs) xs) ≡ None
none_before p [] = refl
none_before {X} p (x ∷ xs) = go (p x) refl (none_before p xs)
  where
    go : (b : Bool) → p x ≡ b → find p (take (position_or_len p xs) xs) ≡ None → find p (take (cond (not b) (1 + position_or_len p xs) 0) (x ∷ xs)) ≡ None
    go true passes rest = refl
    go false fails rest =
        let one_more : 1 + position_or_len p xs ≡ suc (position_or_len p xs) = omega arith in
        ap (λ (n : ℕ). find p (take n (x ∷ xs))) one_more
        ∙ ap (λ (b : Bool). cond b (Some x) (find p (take (position_or_len p xs) xs))) fails ∙ rest

-- none passes before the first that does behind these
pub none_up_to : {X : Type 0} (p q : X → Bool) → ((x : X) → p x ≡ false → q x ≡ false) → (xs : List X) (n : ℕ) → find p (take n xs) ≡ None
    → find q (take (n + position_or_len q (drop n xs)) xs) ≡ None
none_up_to p q fewer xs n none =
    ap (find q) (take-add n (position_or_len q (drop n xs)) xs)
    ∙ find_in_both q (take n xs) (take (position_or_len q (drop n xs)) (drop n xs)) (find_fewer p q fewer (take n xs) none) (none_before q (drop n xs))
