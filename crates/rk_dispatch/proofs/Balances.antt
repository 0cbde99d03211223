-- Each step of a pass keeps the rule, and the pass with all parts knows what is in the queue.
use Rattle.std.proofs.Common.{◌≡◌, ℕ, zero, suc, ◌+◌, ◌-◌, ◌<◌, ◌≤◌, List, [], ◌∷◌, ◌++◌, set, length, get_or, refl, sym, ap, ◌∙◌, arith, cond, take}
use Rattle.std.specs.List.{All, sum_by}
use Rattle.std.proofs.lemmas.List.{nil_from_length, take_all}
use Rattle.std.proofs.lemmas.List.Elements.{All-head, All-push, All-set, All-tail}
use Rattle.std.proofs.lemmas.List.Sums.{get_or-le-sum_by, sum_by-append, sum_by-cons, sum_by-set, sum_by_push}
use mathlib.Core.Option.{some, some-injective, some-ne-none}
use lib.ListN.{get_elem?}
use Rattle.crossbeam_queue.specs.Fifo.{Forks, Learns, Merges, Pops, Pushes}
use Rattle.rk_types.specs.declared.node.Parcel.{Parcel}
use Rattle.rk_dispatch.specs.declared.account.Account.{Account}
use Rattle.rk_dispatch.specs.Balance.{AreSame, IsBalanced, IsIdle, IsLeft, first_account, is_same, joined, new_account, spent, with_given, with_taken, without_part}

-- ---- sums over all accounts

-- an account found at a place is there
at_place : (accounts : List Account) (place : ℕ) (a : Account) → get_elem? accounts place ≡ some a
    → (place < length accounts) × (get_or accounts place a ≡ a)
at_place [] place a at = absurd (some-ne-none a (sym at))
at_place (b ∷ more) zero a at = (omega arith, some-injective b a at)
at_place (b ∷ more) (suc place) a at = let rest = at_place more place a at in let below = rest.0 in (omega arith, rest.1)

-- one account changes
sum_set : (f : Account → ℕ) (accounts : List Account) (place : ℕ) (a b : Account) → get_elem? accounts place ≡ some a
    → sum_by f (set accounts place b) + f a ≡ sum_by f accounts + f b
sum_set f accounts place a b at =
    let there = at_place accounts place a at in
    let sums = sum_by-set f accounts place b a there.0 in
    let same = ap f there.1 in
    omega (arith, sums, same)

-- an account has no more than all have
at_most : (f : Account → ℕ) (accounts : List Account) (place : ℕ) (a : Account) → get_elem? accounts place ≡ some a → f a ≤ sum_by f accounts
at_most f accounts place a at =
    let there = at_place accounts place a at in
    let most = get_or-le-sum_by f accounts place a there.0 in
    let same = ap f there.1 in
    omega (arith, most, same)

abbrev parts_of : Account → ℕ
parts_of a = a.parts

-- a count of what an idle account has none of
module _ (f : Account → ℕ) (none : (a : Account) → a.given ≡ [] → a.taken ≡ [] → f a ≡ 0) where
  none_idle : (a : Account) → IsIdle a → a.parts ≡ 0 → f a ≡ 0
  none_idle a idle without = let nothing = idle without in none a nothing.0 nothing.1

  -- if no account has a part, there is none
  none_without : (accounts : List Account) → All IsIdle accounts → sum_by parts_of accounts ≡ 0 → sum_by f accounts ≡ 0
  none_without [] idle without = refl
  none_without (a ∷ more) idle without =
      let parts = sum_by-cons parts_of a more in
      let sums = sum_by-cons f a more in
      let first = none_idle a (All-head IsIdle a more idle) (omega (arith, without, parts)) in
      let rest = none_without more (All-tail IsIdle a more idle) (omega (arith, without, parts)) in
      omega (arith, sums, first, rest)

  -- if one account has all parts, it has all
  alone : (accounts : List Account) (place : ℕ) (a : Account) → get_elem? accounts place ≡ some a → All IsIdle accounts
      → sum_by parts_of accounts ≡ a.parts → sum_by f accounts ≡ f a
  alone accounts place a at idle whole =
      let parts = sum_set parts_of accounts place a spent at in
      let sums = sum_set f accounts place a spent at in
      let nothing = none spent refl refl in
      let others = none_without (set accounts place spent) (All-set IsIdle accounts place spent (λ _. (refl, refl)) idle)
      (omega (arith, parts, whole)) in
      omega (arith, sums, nothing, others)

-- ---- what is counted

-- 1 for the same parcel
abbrev one : Parcel → Parcel → ℕ
one parcel other = cond (is_same parcel other) 1 0

abbrev given_of : Parcel → Account → ℕ
given_of parcel a = sum_by (one parcel) a.given

abbrev taken_of : Parcel → Account → ℕ
taken_of parcel a = sum_by (one parcel) a.taken

-- an account with a part is not idle by nothing
busy : (a : Account) → 0 < a.parts → IsIdle a
busy a part without = absurd (omega (arith, part, without))

-- ---- the steps

-- the first account, of a queue that was just made
pub begins : IsBalanced [] (first_account ∷ [])
begins = grind (arith, busy)

-- a parcel is given
pub gives : (n place : ℕ) (a : Account) (parcel : Parcel) → 0 < a.parts
    → Pushes IsBalanced n place a parcel (λ after. after ≡ with_given a parcel)
gives n place a parcel part queued accounts room rule at =
    let after : Account = with_given a parcel in (
      after,
      (record {
        whole = let s = sum_set parts_of accounts place a after at in let w = rule.whole in omega (arith, s, w);
        balance = λ p.
            let s = sum_set (given_of p) accounts place a after at in
            let t = sum_set (taken_of p) accounts place a after at in
            let b = rule.balance p in
            let more = sum_by_push (one p) a.given parcel in
            let last = sum_by_push (one p) queued parcel in
            omega (arith, s, t, b, more, last);
        idle = All-set IsIdle accounts place after (busy after part) rule.idle;
      }),
      refl,
    )

-- a parcel is taken
pub takes : (place : ℕ) (a : Account) → 0 < a.parts → Pops IsBalanced place a (λ parcel after. after ≡ with_taken a parcel)
takes place a part parcel queued accounts rule at =
    let after : Account = with_taken a parcel in (
      after,
      (record {
        whole = let s = sum_set parts_of accounts place a after at in let w = rule.whole in omega (arith, s, w);
        balance = λ p.
            let s = sum_set (given_of p) accounts place a after at in
            let t = sum_set (taken_of p) accounts place a after at in
            let b = rule.balance p in
            let more = sum_by_push (one p) a.taken parcel in
            let first = sum_by-cons (one p) parcel queued in
            omega (arith, s, t, b, more, first);
        idle = All-set IsIdle accounts place after (busy after part) rule.idle;
      }),
      refl,
    )

-- a pass is split off
pub forks : (place : ℕ) (a : Account) → 1 < a.parts → Forks IsBalanced place a (without_part a) new_account
forks place a parts queued accounts rule at =
    let left : Account = without_part a in
    let these : List Account = set accounts place left in
    record {
      whole =
          let s = sum_set parts_of accounts place a left at in
          let more = sum_by_push parts_of these new_account in
          let w = rule.whole in
          omega (arith, s, more, w, parts);
      balance = λ p.
          let s = sum_set (given_of p) accounts place a left at in
          let t = sum_set (taken_of p) accounts place a left at in
          let more = sum_by_push (given_of p) these new_account in
          let last = sum_by_push (taken_of p) these new_account in
          let b = rule.balance p in
          omega (arith, s, t, more, last, b);
      idle =
          All-push IsIdle these new_account (All-set IsIdle accounts place left (busy left (omega (arith, parts))) rule.idle)
          (busy new_account (omega arith));
    }

-- two passes become one
pub merges : (place : ℕ) (a : Account) (other : ℕ) (b : Account) → 0 < a.parts → Merges IsBalanced place a other b (joined a b) spent
merges place a other b part queued accounts rule at apart there =
    let both : Account = joined a b in
    let these : List Account = set accounts place both in
    record {
      whole =
          let s = sum_set parts_of accounts place a both at in
          let t = sum_set parts_of these other b spent there in
          let w = rule.whole in
          omega (arith, s, t, w);
      balance = λ p.
          let s = sum_set (given_of p) accounts place a both at in
          let t = sum_set (taken_of p) accounts place a both at in
          let s_other = sum_set (given_of p) these other b spent there in
          let t_other = sum_set (taken_of p) these other b spent there in
          let more = sum_by-append (one p) a.given b.given in
          let last = sum_by-append (one p) a.taken b.taken in
          let even = rule.balance p in
          omega (arith, s, t, s_other, t_other, more, last, even);
      idle =
          All-set IsIdle these other spent (λ _. (refl, refl))
          (All-set IsIdle accounts place both (busy both (omega (arith, part))) rule.idle);
    }

-- what the pass with all parts knows
pub learns : (place : ℕ) (a : Account) → Learns IsBalanced place a (IsLeft a)
learns place a queued accounts rule at all p =
    let whole = rule.whole ∙ sym all in
    let given = alone (given_of p) (λ u given taken. ap (sum_by (one p)) given) accounts place a at rule.idle whole in
    let taken = alone (taken_of p) (λ u given taken. ap (sum_by (one p)) taken) accounts place a at rule.idle whole in
    let even = rule.balance p in
    let two = sum_by-append (one p) a.taken queued in
    omega (arith, given, taken, even, two)

-- ---- what the two takers of an exchange took

-- if nothing is left, and all was given, it is what was given
pub all_taken : (first second taken others left : List Parcel) (m n : ℕ) → length first ≤ m → length second ≤ n → length left ≡ 0
    → AreSame (take m first ++ take n second) ((((taken ++ others) ++ []) ++ []) ++ left) → AreSame (first ++ second) (taken ++ others)
all_taken first second taken others left m n all more none same p =
    let even = same p in
    let a = sum_by-append (one p) (take m first) (take n second) in
    let b = sum_by-append (one p) (((taken ++ others) ++ []) ++ []) left in
    let c = sum_by-append (one p) ((taken ++ others) ++ []) [] in
    let d = sum_by-append (one p) (taken ++ others) [] in
    let e = sum_by-append (one p) first second in
    let f = ap (sum_by (one p)) (take_all m first all) in
    let g = ap (sum_by (one p)) (take_all n second more) in
    let h = ap (sum_by (one p)) (nil_from_length left none) in
    omega (arith, even, a, b, c, d, e, f, g, h)
