-- How many calls there are of each client and seq, after a change of the calls and of the counts that are kept of them.
use Rattle.std.proofs.Common.{◌≡◌, ℕ, ◌+◌, ◌-◌, Bool, true, false, cond, eqb, ltb, T, ◌&&◌, not, [], ◌∷◌, Option, Some, None, refl, sym, ap, ◌∙◌, subst, ◌⊎◌, inl, inr, ⊎_elim, arith, unwrap_or}
use Rattle.std.specs.declared.cmp.Ordering.{Ordering}
use Rattle.std.specs.declared.cmp.Ordering.TheVariants.{Less, Equal, Greater}
use Rattle.std.specs.Ordering.{nat_cmp, is_eq, is_lt, eq_by_cmp}
use Rattle.std.specs.Cmp.{nat_cmp_total}
use Rattle.std.specs.BTreeMap.{BTreeMap, Updates}
use Rattle.std.specs.FinMap.Entries.{below_all, by_order}
use Rattle.std.proofs.lemmas.Bool.{and_parts, eqb-true}
use Rattle.rk_types.specs.declared.call.Call.{Call}
use Rattle.rk_types.specs.NumberMap.{NumberMap, IsInOrder, get, insert, remove}
use Rattle.rk_types.proofs.NumberMaps.{in_order_insert, in_order_remove}
use Rattle.rk_staged.specs.declared.call_counts.CallCounts.{CallCounts}
use Rattle.rk_staged.specs.Counts.{name_cmp, one_at, weight, name_of, counted_in, counted, has_call, many, IsCounted}

-- ---- the counts that are kept

-- two names are equal if their clients are, and their seqs
same_name : (a b : ℕ × ℕ) → is_eq (name_cmp a b) ≡ (eqb a.0 b.0 && eqb a.1 b.1)
same_name a b = grind (arith, eqb)

-- what is counted once a count was changed
counted_after : (old new : BTreeMap (ℕ × ℕ) ℕ) (client seq : ℕ) (count : Option ℕ) → Updates name_cmp old new (client, seq) count
    → (other asked : ℕ) → counted_in new other asked ≡ cond (eqb client other && eqb seq asked) (unwrap_or count 0) (counted_in old other asked)
counted_after old new client seq count updates other asked = grind (arith, same_name, eqb)

-- one more is counted
pub one_more : (old new : BTreeMap (ℕ × ℕ) ℕ) (client seq count : ℕ) → Updates name_cmp old new (client, seq) (Some count) → count ≡ counted_in old client seq + 1
    → (other asked : ℕ) → counted_in new other asked ≡ counted_in old other asked + one_at client seq other asked
one_more old new client seq count updates more other asked = grind (arith, counted_after, eqb, and_parts, eqb-true)

-- one less is counted
pub one_less : (old new : BTreeMap (ℕ × ℕ) ℕ) (client seq : ℕ) (count : Option ℕ) → Updates name_cmp old new (client, seq) count → unwrap_or count 0 ≡ counted_in old client seq - 1
    → (other asked : ℕ) → counted_in new other asked ≡ counted_in old other asked - one_at client seq other asked
one_less old new client seq count updates less other asked = grind (arith, counted_after, eqb, and_parts, eqb-true)

-- ---- the calls

-- a call is among them if there are more than none
pub some_counted : (calls : NumberMap Call) (client seq : ℕ) → ltb 0 (many calls client seq) ≡ has_call calls client seq
some_counted [] client seq = refl
some_counted (entry ∷ calls) client seq = grind (arith, eqb, ltb, entry.1.client, entry.1.seq, (some_counted calls client seq))

less : (o : Ordering) → T (is_lt o) → o ≡ Less
less o p = grind arith

equal : (o : Ordering) → is_eq o ≡ true → o ≡ Equal
equal o p = grind arith

first : (a b : Bool) → T (a && b) → T a
first true b p = tt
first false b p = absurd p

second : (a b : Bool) → T (a && b) → T b
second true b p = p
second false b p = absurd p

-- nothing is found under a number that is no greater than one below all
none_below : (place number : ℕ) (calls : NumberMap Call) → (is_lt (nat_cmp place number) ≡ true) ⊎ (nat_cmp place number ≡ Equal) → T (below_all nat_cmp number calls) → get calls place ≡ None
none_below place number [] before below = refl
none_below place number (entry ∷ calls) before below =
    let here : nat_cmp number entry.0 ≡ Less = less _ (first _ _ below) in
    let lower : nat_cmp place entry.0 ≡ Less =
    ⊎_elim
    (λ (is : is_lt (nat_cmp place number) ≡ true). nat_cmp_total.trans place number entry.0 (less _ (subst T (sym is) tt)) here)
    (λ (is : nat_cmp place number ≡ Equal). nat_cmp_total.congr place number entry.0 is ∙ here) before in
    ap (λ (o : Ordering). cond (is_eq o) (Some entry.1) (get calls place)) lower
    ∙ none_below place number calls before (second _ _ below)

-- the calls once one was put at a place
pub many_inserted : (calls : NumberMap Call) (place : ℕ) (call : Call) → IsInOrder calls → (client seq : ℕ)
    → many (insert calls place call) client seq + weight (name_of (get calls place)) client seq ≡ many calls client seq + one_at call.client call.seq client seq
many_inserted [] place call order client seq = omega arith
many_inserted (entry ∷ calls) place call order client seq =
    go (nat_cmp place entry.0) refl (many_inserted calls place call (second _ _ order) client seq)
  where
    go : (o : Ordering) → nat_cmp place entry.0 ≡ o
        → many (insert calls place call) client seq + weight (name_of (get calls place)) client seq ≡ many calls client seq + one_at call.client call.seq client seq
        → many (by_order o ((place, call) ∷ entry ∷ calls) ((entry.0, call) ∷ calls) (entry ∷ insert calls place call)) client seq
        + weight (name_of (cond (is_eq o) (Some entry.1) (get calls place))) client seq
        ≡ many (entry ∷ calls) client seq + one_at call.client call.seq client seq
    go Less is rest =
        let none : get calls place ≡ None = none_below place entry.0 calls (inl (ap is_lt is)) (first _ _ order) in
        rw none (omega arith)
    go Equal is rest = omega arith
    go Greater is rest = omega (arith, rest)

-- the calls once that of a place was taken out
pub many_removed : (calls : NumberMap Call) (place : ℕ) → IsInOrder calls → (client seq : ℕ)
    → many (remove calls place) client seq + weight (name_of (get calls place)) client seq ≡ many calls client seq
many_removed [] place order client seq = omega arith
many_removed (entry ∷ calls) place order client seq =
    go (eq_by_cmp nat_cmp place entry.0) refl (many_removed calls place (second _ _ order) client seq)
  where
    go : (b : Bool) → eq_by_cmp nat_cmp place entry.0 ≡ b
        → many (remove calls place) client seq + weight (name_of (get calls place)) client seq ≡ many calls client seq
        → many (cond (not b) (entry ∷ remove calls place) (remove calls place)) client seq
        + weight (name_of (cond b (Some entry.1) (get calls place))) client seq
        ≡ many (entry ∷ calls) client seq
    go true is rest =
        let none : get calls place ≡ None = none_below place entry.0 calls (inr (equal _ is)) (first _ _ order) in
        let left : many (remove calls place) client seq + weight (name_of None) client seq ≡ many calls client seq = subst (λ (o : Option Call). many (remove calls place) client seq + weight (name_of o) client seq ≡ many calls client seq) none rest in
        omega (arith, left)
    go false is rest = omega (arith, rest)

-- ---- both together

-- a call was put at a place: its count is one more, and that of what was there one less
pub counted_inserted : (old added new : CallCounts) (calls : NumberMap Call) (place : ℕ) (call : Call) (before : Option (ℕ × ℕ))
    → IsCounted old calls → before ≡ name_of (get calls place)
    → ((client seq : ℕ) → counted added client seq ≡ counted old client seq + one_at call.client call.seq client seq)
    → ((client seq : ℕ) → counted new client seq ≡ counted added client seq - weight before client seq)
    → IsCounted new (insert calls place call)
counted_inserted old added new calls place call before were was one_up one_down = grind (arith, in_order_insert, many_inserted)

-- a call was taken out: its count is one less
pub counted_removed : (old new : CallCounts) (calls : NumberMap Call) (place : ℕ) (call : Call)
    → IsCounted old calls → get calls place ≡ Some call
    → ((client seq : ℕ) → counted new client seq ≡ counted old client seq - one_at call.client call.seq client seq)
    → IsCounted new (remove calls place)
counted_removed old new calls place call were was one_down = grind (arith, in_order_remove, many_removed)
