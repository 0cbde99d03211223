-- What is handed over and what is noted of the ends of a grant.
use Rattle.std.proofs.Common.{◌≡◌, ℕ, ◌<◌, ◌≤◌, All, List, [], ◌∷◌, ◌++◌, None, refl, sym, ap, ◌∙◌, arith, append_assoc, append-nil}
use Rattle.std.proofs.Common.{nat_cmp, Option, subst}
use Rattle.std.specs.Cmp.{nat_cmp_is}
use Rattle.rk_inv_base.proofs.Words.{All-head, All-tail, All-weaker, All-push, All-nil, fold-append, Greater, get, insert, Ended, Carried}
use Rattle.rk_inv_base.proofs.Words.{Entry, Completions, completions_from, ended_of, ends_of, noted, Completion, floor_by, floor_of, IsNext}
use Rattle.rk_inv_base.proofs.Words.{Base, Range, Placed, LastCall, IsKnown, IsRest, call_ends, flat_map-append, call_end, items_of}
use Rattle.rk_inv_base.proofs.Words.{items_in, IsLegal, base_map, records_of, IsStaged}
use Rattle.rk_entry.specs.declared.entry.Entry.TheVariants as entries
use Rattle.rk_entry.specs.Ends.{RiseAbove}

-- ---- ends noted in order

-- each client of completions is at most this number
abbrev pub AreUpTo : ℕ → Completions → Type 0
AreUpTo bound completions = All (λ entry. entry.0 ≤ bound) completions

-- a greater number compares so
above : (a b : ℕ) → b < a → nat_cmp a b ≡ Greater
above a b more = sym (nat_cmp_is a b Greater more)

-- a client above all is not there, and goes to the end
get_behind : (bound client : ℕ) (completions : Completions) → AreUpTo bound completions → bound < client → get completions client ≡ None
get_behind bound client [] within more = refl
get_behind bound client (entry ∷ completions) within more =
    let here : entry.0 ≤ bound = All-head (λ e. e.0 ≤ bound) entry completions within in
    let less : entry.0 < client = omega (arith, here, more) in
    rw (above client entry.0 less) (get_behind bound client completions (All-tail (λ e. e.0 ≤ bound) entry completions within) more)

put_behind : (bound client : ℕ) (new : Completion) (completions : Completions) → AreUpTo bound completions → bound < client → insert completions client new ≡ completions ++ (client, new) ∷ []
put_behind bound client new [] within more = refl
put_behind bound client new (entry ∷ completions) within more =
    let here : entry.0 ≤ bound = All-head (λ e. e.0 ≤ bound) entry completions within in
    let less : entry.0 < client = omega (arith, here, more) in
    rw (above client entry.0 less) (ap (λ (rest : Completions). entry ∷ rest)
    (put_behind bound client new completions (All-tail (λ e. e.0 ≤ bound) entry completions within) more))

-- so an end of such a client is last once it is noted
noted_behind : (bound : ℕ) (completions : Completions) (ended : Ended) → AreUpTo bound completions → bound < ended.client → noted completions ended ≡ completions ++ (ended.client, record { seq = ended.seq; end = ended.end }) ∷ []
noted_behind bound completions ended within more =
    rw (get_behind bound ended.client completions within more)
    (put_behind bound ended.client (record { seq = ended.seq; end = ended.end }) completions within more)

-- the ends of completions with one more behind them
ends_push : (completions : Completions) (ended : Ended) → ends_of (completions ++ (ended.client, record { seq = ended.seq; end = ended.end }) ∷ []) ≡ ends_of completions ++ ended ∷ []
ends_push [] ended = refl
ends_push (entry ∷ completions) ended = ap (λ (rest : List Ended). ended_of entry ∷ rest) (ends_push completions ended)

noted_all : (bound : ℕ) (completions : Completions) (ends : List Ended) → AreUpTo bound completions → RiseAbove bound ends → ends_of (completions_from completions ends) ≡ ends_of completions ++ ends
noted_all bound completions [] within rising = sym (append-nil (ends_of completions))
noted_all bound completions (ended ∷ later) within rising =
    let one : ℕ × Completion = (ended.client, record { seq = ended.seq; end = ended.end }) in
    let more : bound < ended.client = rising.0 in
    let next : AreUpTo ended.client (completions ++ one ∷ []) =
    All-push (λ e. e.0 ≤ ended.client) completions one
    (All-weaker (λ e. e.0 ≤ bound) (λ e. e.0 ≤ ended.client) (λ e below. omega (arith, below, more)) completions within) (omega arith) in
    ap (λ (start : Completions). ends_of (completions_from start later)) (noted_behind bound completions ended within more)
    ∙ noted_all ended.client (completions ++ one ∷ []) later next rising.1
    ∙ ap (λ (front : List Ended). front ++ later) (ends_push completions ended)
    ∙ append_assoc (ends_of completions) (ended ∷ []) later

-- ends that rise by client stay as they are when they are noted one after the other
pub rising_noted : (ends : List Ended) → RiseAbove 0 ends → ends_of (completions_from [] ends) ≡ ends
rising_noted ends rising = noted_all 0 [] ends (All-nil _) rising

-- ---- the floor

-- the number from which the next version is taken is still one behind a Carried whose floor is not above it
pub carried_next : (truth rest : List Entry) (carried : Carried) (number : ℕ) → carried.floor ≤ number → IsNext (truth ++ rest) number → IsNext (truth ++ (rest ++ entries.Carried carried ∷ [])) number
carried_next truth rest carried number low next = grind (arith, floor_of, append_assoc, fold-append, floor_by)

-- ---- the rest

-- a Carried whose ends are known goes on behind what is staged
pub carried_rest : (base : Base) (range : Range) (truth rest : List Entry) (journal : List Placed) (asked : ℕ → Option LastCall) (carried : Carried) → All (IsKnown base journal) carried.ends → IsRest base range truth rest journal asked → IsRest base range truth (rest ++ entries.Carried carried ∷ []) journal asked
carried_rest base range truth rest journal asked carried known was =
    let new : Entry = entries.Carried carried in
    let ends : call_ends (rest ++ new ∷ []) ≡ call_ends rest =
    flat_map-append call_end rest (new ∷ []) ∙ append-nil (call_ends rest) in
    let items : items_of (truth ++ (rest ++ new ∷ [])) ≡ items_of (truth ++ rest) =
    ap items_of (sym (append_assoc truth rest (new ∷ [])))
    ∙ flat_map-append items_in (truth ++ rest) (new ∷ []) ∙ append-nil (items_of (truth ++ rest)) in
    record {
      legal = subst (λ (list : List Ended). IsLegal (base_map base) (journal ++ records_of asked list)) (sym ends) was.legal;
      live = rw (ends, items) was.live;
      staged = All-push (IsStaged base asked journal) rest new was.staged known;
      one = rw ends was.one;
    }
