-- What entries that do not touch a range record of it: nothing; and what a history leaves at a key that it has no record of.
use Rattle.rk_inv_base.proofs.Words.{◌≡◌, ℕ, suc, ◌≤◌, Bool, true, false, cond, ◌&&◌, eqb, leb, List, [], ◌∷◌, ◌++◌, None, Some, Option}
use Rattle.rk_inv_base.proofs.Words.{refl, ap, ◌∙◌, arith, drop, filter, All, flat_map, nat_tests, All-cons, All-head, All-tail, list_any}
use Rattle.rk_inv_base.proofs.Words.{Placed, Range, name-swap, Map, is_at, map_after, map_with, with_change, change_of, Entry, is_marked}
use Rattle.rk_inv_base.proofs.Words.{unmarked, unmarked_from, touches, counting, counts, is_joined_in, material_of, named, named_by}
use Rattle.rk_inv_base.proofs.Words.{with_number, Mark, All-drop, list_any_none, All-weaker}
use Rattle.rk_entry.specs.declared.entry.Entry.TheVariants as entries
use Rattle.rk_model.specs.Machine.{Entry as MapEntry}
use Rattle.rk_inv_base.proofs.Base.{none_kept}

-- an entry does not touch a range
abbrev pub Misses : Range → Entry → Type 0
Misses range entry = touches range entry ≡ false

-- so it is of parts of a log
pub drop_missed : (range : Range) (n : ℕ) (list : List Entry) → All (Misses range) list → All (Misses range) (drop n list)
drop_missed range n list all = All-drop (Misses range) n list all

pub unmarked_missed : (range : Range) (marks : List Mark) (place : ℕ) (list : List Entry) → All (Misses range) list → All (Misses range) (unmarked marks place list)
unmarked_missed range marks place [] all = all
unmarked_missed range marks place (entry ∷ list) all =
    go (is_marked marks place) (unmarked_missed range marks (suc place) list (All-tail (Misses range) entry list all))
  where
    go : (b : Bool) → All (Misses range) (unmarked marks (suc place) list) → All (Misses range) (cond b (unmarked marks (suc place) list) (entry ∷ unmarked marks (suc place) list))
    go true later = later
    go false later = All-cons (Misses range) entry (unmarked marks (suc place) list) (All-head (Misses range) entry list all) later

pub from_missed : (range : Range) (marks : List Mark) (place : ℕ) (list : List Entry) → All (Misses range) list → All (Misses range) (unmarked_from marks place list)
from_missed range marks place list all = unmarked_missed range marks place (drop place list) (drop_missed range place list all)

-- none of them touches the range
pub none_touches : (range : Range) (list : List Entry) → All (Misses range) list → list_any (touches range) list ≡ false
none_touches range list all = list_any_none (touches range) list all

-- nor counts, if the range is not empty
pub not_all : (s f l t g m : ℕ) → g ≤ m → (eqb s t && leb f m && leb g l) ≡ false → (eqb s t && leb f g && leb m l) ≡ false
not_all s f l t g m some apart = grind (arith, nat_tests)

pub counts_none : (range : Range) (entry : Entry) → range.first ≤ range.last → Misses range entry → counts range entry ≡ false
counts_none range entry some misses = grind (arith, not_all)

pub counting_none : (range : Range) (list : List Entry) → range.first ≤ range.last → All (Misses range) list → counting range list ≡ []
counting_none range list some all = grind (arith, none_kept, counts, counts_none)

-- nor names side segments
pub names_none : (range : Range) (entry : Entry) → Misses range entry → named_by range entry ≡ []
names_none range (entries.Joined joined) misses = ap (λ (b : Bool). cond b joined.segments []) misses
names_none range _ misses = refl

pub all_names_none : (range : Range) (list : List Entry) → All (Misses range) list → flat_map (named_by range) list ≡ []
all_names_none range [] all = refl
all_names_none range (entry ∷ list) all =
    ap (λ (l : List ℕ). l ++ flat_map (named_by range) list) (names_none range entry (All-head (Misses range) entry list all))
    ∙ all_names_none range list (All-tail (Misses range) entry list all)

pub material_none : (range : Range) (side : ℕ → List Entry) (list : List Entry) → range.first ≤ range.last → All (Misses range) list → material_of range side list ≡ []
material_none range side list some all = grind (arith, counting, named, counting_none, with_number, all_names_none)

-- nor joins
pub joins_none : (range : Range) (entry : Entry) → Misses range entry → is_joined_in range entry ≡ false
joins_none range (entries.Joined joined) misses = misses
joins_none range _ misses = refl

pub joined_none : (range : Range) (list : List Entry) → All (Misses range) list → filter (is_joined_in range) list ≡ []
joined_none range list all =
    none_kept (is_joined_in range) list (All-weaker (Misses range) (λ entry. is_joined_in range entry ≡ false) (joins_none range) list all)

-- a history leaves a key as it was that it has no record of
pub map_elsewhere : (start : Map) (journal : List Placed) (table : ℕ) (key : List ℕ) → All (λ placed. is_at table key placed ≡ false) journal → map_after start journal table key ≡ start table key
map_elsewhere start [] table key none = refl
map_elsewhere start (placed ∷ journal) table key none =
    map_elsewhere (map_with start placed) journal table key (All-tail (λ p. is_at table key p ≡ false) placed journal none)
    ∙ step (change_of placed.call.op placed.outcome) (All-head (λ p. is_at table key p ≡ false) placed journal none)
  where
    step : (change : Option MapEntry) → is_at table key placed ≡ false → with_change start placed.call.table placed.call.key change table key ≡ start table key
    step None apart = refl
    step (Some entry) apart =
        ap (λ (b : Bool). cond b entry (start table key)) (name-swap table placed.call.table key placed.call.key ∙ apart)
