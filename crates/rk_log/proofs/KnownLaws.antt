-- The laws of what a backup is known to hold.
use Rattle.std.proofs.Common.{◌≡◌, ℕ, zero, suc, ◌+◌, ◌<◌, ◌≤◌, max, Bool, true, false, cond, ltb, eqb, List, [], ◌∷◌, ◌++◌, length, get_or, set, Option, Some, refl, sym, ap, subst, ◌∙◌, ⊎_elim, arith, get_or-set_same, get_or-set_other}
use Rattle.std.specs.Prelude.{unwrap_or}
use Rattle.std.proofs.lemmas.Bool.{ltb-true, ltb-false, lt-ltb, le-ltb, eq-eqb, ne_eqb, cases_lt, cases_eq, cond-true, cond-false, cond_both}
use Rattle.rk_types.specs.NumberMap.{get, insert, IsInOrder}
use Rattle.rk_types.proofs.NumberMaps.{get_insert, in_order_insert, same_map}
use Rattle.rk_log.specs.Known.{Known, known_length, told}
use Rattle.rk_log.specs.Parts.{known_from, with_told_length}

-- a number that is there, or a greater one
abbrev pub greater_of : Option ℕ → ℕ → Option ℕ
greater_of o l = cond (ltb (unwrap_or o 0) l) (Some l) o

greater_less : (o : Option ℕ) (l : ℕ) → unwrap_or o 0 < l → greater_of o l ≡ Some l
greater_less o l h = cond-true (ltb (unwrap_or o 0) l) (Some l) o (lt-ltb _ _ h)

greater_more : (o : Option ℕ) (l : ℕ) → l ≤ unwrap_or o 0 → greater_of o l ≡ o
greater_more o l h = cond-false (ltb (unwrap_or o 0) l) (Some l) o (le-ltb _ _ h)

-- two numbers after another are the greater of them
greater_twice : (o : Option ℕ) (x y : ℕ) → greater_of (greater_of o x) y ≡ greater_of o (max x y)
greater_twice o x y = grind (arith, greater_less, greater_more, cases_lt)

-- what is known of a segment once a length was reported
pub get_told : (known : Known) (segment length q : ℕ) → get (told known segment length) q ≡ cond (eqb q segment) (greater_of (get known q) length) (get known q)
get_told known segment length q =
    cond_both (ltb (known_length known segment) length) (insert known segment length) known
    (λ k. get k q ≡ cond (eqb q segment) (greater_of (get known q) length) (get known q))
    (λ e.
    get_insert known segment length q ∙ at_segment e)
    (λ e. sym (untold e))
  where
    at_segment : ltb (known_length known segment) length ≡ true → cond (eqb q segment) (Some length) (get known q) ≡ cond (eqb q segment) (greater_of (get known q) length) (get known q)
    at_segment e =
        ⊎_elim
        (λ (same : q ≡ segment).
        let less : known_length known q < length = subst (λ (s : ℕ). known_length known s < length) (sym same) (ltb-true _ _ e) in
        ap (λ (o : Option ℕ). cond (eqb q segment) o (get known q)) (sym (greater_less (get known q) length less)))
        (λ (other : q ≡ segment → ⊥). cond-false _ _ _ (ne_eqb q segment other) ∙ sym (cond-false _ _ _ (ne_eqb q segment other)))
        (cases_eq q segment)

    untold : ltb (known_length known segment) length ≡ false → cond (eqb q segment) (greater_of (get known q) length) (get known q) ≡ get known q
    untold e =
        ⊎_elim
        (λ (same : q ≡ segment).
        let more : length ≤ known_length known q = subst (λ (s : ℕ). length ≤ known_length known s) (sym same) (ltb-false _ _ e) in
        cond-true _ _ _ (eq-eqb q segment same) ∙ greater_more (get known q) length more)
        (λ (other : q ≡ segment → ⊥). cond-false _ _ _ (ne_eqb q segment other))
        (cases_eq q segment)

-- and the numbers stay in order
pub told_in_order : (known : Known) (segment length : ℕ) → IsInOrder known → IsInOrder (told known segment length)
told_in_order known segment length order = grind (arith, cond_both, ltb, in_order_insert)

-- the known length of the segment that a length was reported of is the greater
pub told_length : (known : Known) (segment length q : ℕ) → q ≡ segment → known_length (told known segment length) q ≡ max (known_length known q) length
told_length known segment length q same = grind (arith, get_told, cond-true, eq-eqb, greater_less, greater_more, cases_lt)

-- and of every other it stays
pub told_other : (known : Known) (segment length q : ℕ) → (q ≡ segment → ⊥) → known_length (told known segment length) q ≡ known_length known q
told_other known segment length q other =
    ap (λ (o : Option ℕ). unwrap_or o 0) (get_told known segment length q ∙ cond-false _ _ _ (ne_eqb q segment other))

-- so no known length falls
pub told_more : (known : Known) (segment length q : ℕ) → known_length known q ≤ known_length (told known segment length) q
told_more known segment length q = grind (arith, told_length, told_other, cases_eq)

-- no bytes reported change nothing
pub told_none : (known : Known) (segment : ℕ) → told known segment 0 ≡ known
told_none known segment = cond-false (ltb (known_length known segment) 0) (insert known segment 0) known (le-ltb _ _ (omega arith))

-- two lengths reported of one segment come to the greater
pub told_twice : (known : Known) (segment x y : ℕ) → IsInOrder known → told (told known segment x) segment y ≡ told known segment (max x y)
told_twice known segment x y order = grind (arith, same_map, told_in_order, get_told, eqb, greater_twice)

-- the order of what is reported does not matter
pub told_comm : (known : Known) (a x b y : ℕ) → IsInOrder known → told (told known a x) b y ≡ told (told known b y) a x
told_comm known a x b y order =
    same_map (told (told known a x) b y) (told (told known b y) a x)
    (told_in_order (told known a x) b y (told_in_order known a x order)) (told_in_order (told known b y) a x (told_in_order known b y order)) (λ q.
    get_told (told known a x) b y q
    ∙ ap (λ (o : Option ℕ). cond (eqb q b) (greater_of o y) o) (get_told known a x q)
    ∙ swapped (eqb q a) (eqb q b) (get known q)
    ∙ ap (λ (o : Option ℕ). cond (eqb q a) (greater_of o x) o) (sym (get_told known b y q))
    ∙ sym (get_told (told known b y) a x q))
  where
    either : (o : Option ℕ) → greater_of (greater_of o x) y ≡ greater_of (greater_of o y) x
    either o =
        let m : max x y ≡ max y x = omega arith in
        greater_twice o x y ∙ ap (greater_of o) m ∙ sym (greater_twice o y x)

    swapped : (p r : Bool) (o : Option ℕ) → cond r (greater_of (cond p (greater_of o x) o) y) (cond p (greater_of o x) o) ≡ cond p (greater_of (cond r (greater_of o y) o) x) (cond r (greater_of o y) o)
    swapped true true o = either o
    swapped true false o = refl
    swapped false true o = refl
    swapped false false o = refl

-- ---- what is known of segments one after the other

-- its numbers are in order
pub known_in_order : (backup first : ℕ) (lists : List (List ℕ)) (others : Known) → IsInOrder others → IsInOrder (known_from backup first lists others)
known_in_order backup first [] others order = order
known_in_order backup first (l ∷ lists) others order = grind (arith, told_in_order, (known_in_order backup (suc first) lists others order))

-- nothing of those before them
pub known_before : (backup first : ℕ) (lists : List (List ℕ)) (others : Known) (q : ℕ) → q < first → known_length (known_from backup first lists others) q ≡ known_length others q
known_before backup first [] others q h = refl
known_before backup first (l ∷ lists) others q h =
    told_other (known_from backup (suc first) lists others) first (get_or l backup 0) q (λ e. omega arith) ∙ known_before backup (suc first) lists others q (omega arith)

-- nor of those behind them
pub known_behind : (backup first : ℕ) (lists : List (List ℕ)) (others : Known) (q : ℕ) → first + length lists ≤ q → known_length (known_from backup first lists others) q ≡ known_length others q
known_behind backup first [] others q h = refl
known_behind backup first (l ∷ lists) others q h =
    told_other (known_from backup (suc first) lists others) first (get_or l backup 0) q (λ e. omega arith) ∙ known_behind backup (suc first) lists others q (omega arith)

-- and of each of them its length
pub known_within : (backup first : ℕ) (lists : List (List ℕ)) (others : Known) (k q : ℕ) → first + k ≡ q → k < length lists → known_length others q ≡ 0
    → known_length (known_from backup first lists others) q ≡ get_or (get_or lists k []) backup 0
known_within backup first [] others k q e h none = absurd (omega arith)
known_within backup first (l ∷ lists) others zero q e h none = grind (arith, known_before, told_length)
known_within backup first (l ∷ lists) others (suc k) q e h none =
    told_other (known_from backup (suc first) lists others) first (get_or l backup 0) q (λ same. omega arith)
    ∙ known_within backup (suc first) lists others k q (omega arith) (omega arith) none

-- what is reported of others beside them
pub known_from_told : (backup first : ℕ) (lists : List (List ℕ)) (others : Known) (q length : ℕ) → IsInOrder others
    → known_from backup first lists (told others q length) ≡ told (known_from backup first lists others) q length
known_from_told backup first [] others q length order = refl
known_from_told backup first (l ∷ lists) others q length order =
    grind (arith, told_comm, known_in_order, (known_from_told backup (suc first) lists others q length order))

-- one more segment of which nothing is known
pub known_from_push : (backup first : ℕ) (lists : List (List ℕ)) (l : List ℕ) (others : Known) → get_or l backup 0 ≡ 0 → known_from backup first (lists ++ l ∷ []) others ≡ known_from backup first lists others
known_from_push backup first [] l others none = ap (told others first) none ∙ told_none others first
known_from_push backup first (x ∷ lists) l others none = ap (λ (known : Known). told known first (get_or x backup 0)) (known_from_push backup (suc first) lists l others none)

-- what a backup reports of one of them
pub known_from_set : (backup first : ℕ) (lists : List (List ℕ)) (others : Known) (k q size : ℕ) → first + k ≡ q → k < length lists
    → backup < length (get_or lists k []) → IsInOrder others
    → known_from backup first (set lists k (with_told_length backup size (get_or lists k []))) others ≡ told (known_from backup first lists others) q size
known_from_set backup first [] others k q size e h w order = absurd (omega arith)
known_from_set backup first (l ∷ lists) others zero q size e h w order = grind (arith, get_or-set_same, told_twice, known_in_order)
known_from_set backup first (l ∷ lists) others (suc k) q size e h w order =
    ap (λ (known : Known). told known first (get_or l backup 0)) (known_from_set backup (suc first) lists others k q size (omega arith) (omega arith) w order)
    ∙ told_comm (known_from backup (suc first) lists others) q size first (get_or l backup 0) (known_in_order backup (suc first) lists others order)

-- what another backup reports changes nothing
pub known_from_other : (backup teller first : ℕ) (lists : List (List ℕ)) (others : Known) (k size : ℕ) → (backup ≡ teller → ⊥)
    → known_from backup first (set lists k (with_told_length teller size (get_or lists k []))) others ≡ known_from backup first lists others
known_from_other backup teller first [] others k size other = refl
known_from_other backup teller first (l ∷ lists) others zero size other = grind (arith, get_or-set_other)
known_from_other backup teller first (l ∷ lists) others (suc k) size other =
    ap (λ (known : Known). told known first (get_or l backup 0)) (known_from_other backup teller (suc first) lists others k size other)
