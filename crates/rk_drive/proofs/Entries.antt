-- The sessions of clients that are numbered from 1 on, each under its client.
use Rattle.std.proofs.Common.{◌≡◌, ◌<◌, ℕ, ◌+◌, List, [], ◌∷◌, ◌++◌, drop, fold, length, map, refl, sym, ap, subst, ◌∙◌, arith}
use Rattle.std.specs.Prelude.{slice_index_or}
use Rattle.std.specs.List.{All, range_with_len}
use Rattle.std.specs.Ordering.{nat_cmp}
use Rattle.std.specs.FinMap.Entries.{by_order}
use Rattle.std.specs.declared.cmp.Ordering.TheVariants.{Greater}
use Rattle.std.proofs.lemmas.List.{append-nil, append_assoc, length-map}
use Rattle.std.proofs.lemmas.List.Elements.{All-append, All-cons, All-head, All-nil, All-tail, All-weaker}
use Rattle.std.proofs.lemmas.List.FromFn.{length-range_with_len}
use Rattle.std.proofs.lemmas.Grind.{common_steps}
use Rattle.rk_types.specs.NumberMap.{NumberMap, insert}
use Rattle.rk_world.specs.Client.{Session}

greater : (other number : ℕ) → other < number → nat_cmp number other ≡ Greater
greater other number less = grind (arith, common_steps, less)

-- a thing comes behind those of smaller numbers
insert_behind : {X : Type 0} (things : NumberMap X) (number : ℕ) (thing : X) → All (λ entry. entry.0 < number) things
    → insert things number thing ≡ things ++ (number, thing) ∷ []
insert_behind [] number thing below = refl
insert_behind {X} (entry ∷ things) number thing below =
    ap (λ order. by_order order ((number, thing) ∷ entry ∷ things) ((entry.0, thing) ∷ things) (entry ∷ insert things number thing))
    (greater entry.0 number (All-head (λ (e : ℕ × X). e.0 < number) entry things below))
    ∙ ap (λ rest. entry ∷ rest) (insert_behind things number thing (All-tail (λ (e : ℕ × X). e.0 < number) entry things below))

-- equal lists have equal heads and tails
pub head_same : {x y : ℕ} {xs ys : List ℕ} → x ∷ xs ≡ y ∷ ys → x ≡ y
head_same {x} is = ap (λ (all : List ℕ). slice_index_or all 0 x) is

pub tail_same : {x y : ℕ} {xs ys : List ℕ} → x ∷ xs ≡ y ∷ ys → xs ≡ ys
tail_same is = ap (λ (all : List ℕ). drop 1 all) is

-- a session under its client
abbrev pub entry_of : Session → ℕ × Session
entry_of session = (session.client, session)

-- sessions of clients with rising numbers are put under these in their order
each_behind : (things : NumberMap Session) (from : ℕ) (sessions : List Session) → All (λ entry. entry.0 < from) things
    → map (λ session. session.client) sessions ≡ range_with_len from (length sessions)
    → fold (λ (all : NumberMap Session) session. insert all session.client session) things sessions ≡ things ++ map entry_of sessions
each_behind things from [] below are = sym (append-nil things)
each_behind things from (session ∷ sessions) below are =
    let client : session.client ≡ from = head_same are in
    let rest : map (λ s. s.client) sessions ≡ range_with_len (from + 1) (length sessions) = tail_same are in
    let here : insert things session.client session ≡ things ++ entry_of session ∷ [] =
    insert_behind things session.client session (subst (λ (n : ℕ). All (λ (entry : ℕ × Session). entry.0 < n) things) (sym client) below) in
    let weaker : All (λ (entry : ℕ × Session). entry.0 < from + 1) things =
    All-weaker (λ (entry : ℕ × Session). entry.0 < from) (λ entry. entry.0 < from + 1) (λ entry less. omega (arith, less)) things below in
    let later : All (λ (entry : ℕ × Session). entry.0 < from + 1) (things ++ entry_of session ∷ []) =
    All-append (λ (entry : ℕ × Session). entry.0 < from + 1) things (entry_of session ∷ [])
    weaker (All-cons (λ (entry : ℕ × Session). entry.0 < from + 1) (entry_of session) [] (omega (arith, client)) (All-nil _)) in
    ap (λ (all : NumberMap Session). fold (λ (all : NumberMap Session) s. insert all s.client s) all sessions) here
    ∙ each_behind (things ++ entry_of session ∷ []) (from + 1) sessions later rest
    ∙ append_assoc things (entry_of session ∷ []) (map entry_of sessions)

-- sessions of clients that are numbered from 1 on
pub by_numbers : (sessions : List Session) (count : ℕ) → map (λ session. session.client) sessions ≡ range_with_len 1 count
    → fold (λ (all : NumberMap Session) session. insert all session.client session) [] sessions ≡ map entry_of sessions
by_numbers sessions count are =
    each_behind [] 1 sessions (All-nil _)
    (subst (λ (n : ℕ). map (λ session. session.client) sessions ≡ range_with_len 1 n)
    (sym (length-range_with_len 1 count) ∙ sym (ap length are) ∙ length-map sessions (λ (session : Session). session.client)) are)
