-- The receipts of sessions that ended: whose they are, and that no two are of one call.
use Rattle.std.proofs.Common.{◌≡◌, ℕ, ◌+◌, ◌<◌, ◌≤◌, T, true, false, cond, List, [], ◌∷◌, Some, length, length-append, refl, sym, subst}
use Rattle.std.proofs.Common.{⊎_elim, arith, Contains, All, is_lt, nat_cmp}
use Rattle.rk_inv_base.proofs.Words.{eq_by_cmp, All-append, All-contains, All-head, All-nil, All-tail, All-weaker, Contains-append_cases}
use Rattle.rk_inv_base.proofs.Words.{Contains-append_left, Contains-append_right, sum_by-cons, EachIn, IsInOrder, NumberMap, get, Receipt}
use Rattle.rk_inv_base.proofs.Words.{Session}
use Rattle.std.specs.FinMap.Entries.{below_all}
use Rattle.rk_model.specs.Ordered.{IsNumberedFrom}
use Rattle.rk_inv_wellformed.proofs.maps.Maps.{All_pairs, first, get_first, get_later, is_below, order_tail, second}
use Rattle.rk_laws_lanes.specs.gathered.Answers.{AreOfDistinctCalls, AreOwn, IsSameCall}
use Rattle.rk_laws_lanes.specs.gathered.Sessions.{calls_in, receipts_in}
use Rattle.rk_laws_lanes.proofs.gathered.Pairs.{pairs_append, pairs_none}

abbrev Apart : Receipt → Receipt → Type 0
Apart a b = IsSameCall a.call b.call → ⊥

-- ---- the receipts of one client

-- later receipts have later seqs
later_seqs : (seq : ℕ) (receipts : List Receipt) → IsNumberedFrom seq receipts → All (λ receipt. seq ≤ receipt.call.seq) receipts
later_seqs seq [] numbered = All-nil (λ receipt. seq ≤ receipt.call.seq)
later_seqs seq (receipt ∷ receipts) numbered = grind (arith, numbered.0, numbered.1, (later_seqs (seq + 1) receipts numbered.1))

own_apart : (seq : ℕ) (receipts : List Receipt) → IsNumberedFrom seq receipts → AreOfDistinctCalls receipts
own_apart seq [] numbered = pairs_none Apart
own_apart seq (receipt ∷ receipts) numbered = grind (arith, later_seqs, numbered.0, numbered.1, (own_apart (seq + 1) receipts numbered.1))

-- ---- all receipts

abbrev HasOwn : ℕ → Session → Type 0
HasOwn client session = AreOwn client session.receipts

-- what is behind the first pair of a map in order has greater numbers
greater : (n : ℕ) (sessions : NumberMap Session) → T (below_all nat_cmp n sessions) → All (λ entry. n < entry.0) sessions
greater n [] below = All-nil (λ entry. n < entry.0)
greater n (entry ∷ later) below =
    grind (
      arith,
      is_below,
      first,
      is_lt,
      nat_cmp,
      second,
      entry.0,
      (greater n later (second (is_lt (nat_cmp n entry.0)) (below_all nat_cmp n later) below)),
    )

-- a receipt of one client is of no call of clients with greater numbers
beside : (client : ℕ) (receipt : Receipt) → receipt.call.client ≡ client → (sessions : NumberMap Session)
    → All (λ entry. client < entry.0) sessions
    → All (λ entry. HasOwn entry.0 entry.1) sessions → All (Apart receipt) (receipts_in sessions)
beside client receipt own [] above all = All-nil (Apart receipt)
beside client receipt own (entry ∷ later) above all =
    let its : HasOwn entry.0 entry.1 = All-head (λ (e : ℕ × Session). HasOwn e.0 e.1) entry later all in
    let less = All-head (λ (e : ℕ × Session). client < e.0) entry later above in
    All-append (Apart receipt) entry.1.receipts (receipts_in later)
    (All-weaker (λ (r : Receipt). r.call.client ≡ entry.0) (Apart receipt)
    (λ r is same. let one = same.0 in omega (arith, own, less, is, one)) entry.1.receipts its.calls)
    (beside client receipt own later (All-tail (λ (e : ℕ × Session). client < e.0) entry later above)
    (All-tail (λ (e : ℕ × Session). HasOwn e.0 e.1) entry later all))

all_apart : (sessions : NumberMap Session) → IsInOrder sessions → All (λ entry. HasOwn entry.0 entry.1) sessions
    → AreOfDistinctCalls (receipts_in sessions)
all_apart [] order all = pairs_none Apart
all_apart (entry ∷ later) order all =
    let its : HasOwn entry.0 entry.1 = All-head (λ (e : ℕ × Session). HasOwn e.0 e.1) entry later all in
    let rest = All-tail (λ (e : ℕ × Session). HasOwn e.0 e.1) entry later all in
    let above = greater entry.0 later (first (below_all nat_cmp entry.0 later) _ order) in
    pairs_append Apart entry.1.receipts (receipts_in later) (own_apart 1 entry.1.receipts its.numbered)
    (all_apart later (order_tail entry later order) rest)
    (All-weaker (λ (r : Receipt). r.call.client ≡ entry.0) (λ (r : Receipt). All (Apart r) (receipts_in later))
    (λ r own. beside entry.0 r own later above rest)
    entry.1.receipts its.calls)

pub distinct_calls : (sessions : NumberMap Session) → IsInOrder sessions → EachIn HasOwn sessions
    → AreOfDistinctCalls (receipts_in sessions)
distinct_calls sessions order each = all_apart sessions order (All_pairs HasOwn sessions order each)

-- ---- whose they are

-- the session that a receipt is of
pub record IsOwner (sessions : NumberMap Session) (receipt : Receipt) : Type 0 where
  pub session : Session
  pub found : get sessions receipt.call.client ≡ Some session
  pub stands : Contains session.receipts receipt

pub owner : (sessions : NumberMap Session) (receipt : Receipt) → IsInOrder sessions → EachIn HasOwn sessions
    → Contains (receipts_in sessions) receipt → IsOwner sessions receipt
owner [] receipt order each stands = absurd (let inside = stands.1 in omega (arith, inside))
owner (entry ∷ later) receipt order each stands =
    ⊎_elim
    (λ (own : Contains entry.1.receipts receipt).
    let its : HasOwn entry.0 entry.1 = each entry.0 entry.1 (get_first entry later) in
    let is : receipt.call.client ≡ entry.0 =
    All-contains (λ (r : Receipt). r.call.client ≡ entry.0) entry.1.receipts receipt its.calls own in
    record {
      session = entry.1;
      found = subst (λ (client : ℕ). get (entry ∷ later) client ≡ Some entry.1) (sym is) (get_first entry later);
      stands = own;
    })
    (λ (other : Contains (receipts_in later) receipt).
    let its = owner later receipt (order_tail entry later order) (λ q x found. each q x (get_later entry later q x order found)) other in
    record { session = its.session; found = get_later entry later receipt.call.client its.session order its.found; stands = its.stands })
    (Contains-append_cases entry.1.receipts (receipts_in later) receipt stands)

-- a session's receipts are among those of all
pub among : (sessions : NumberMap Session) (client : ℕ) (session : Session) (receipt : Receipt) → get sessions client ≡ Some session
    → Contains session.receipts receipt → Contains (receipts_in sessions) receipt
among [] client session receipt found stands = absurd (cc found)
among (entry ∷ later) client session receipt found stands =
    elim (eq_by_cmp nat_cmp client entry.0) as
    (λ b. cond b (Some entry.1) (get later client) ≡ Some session → Contains (receipts_in (entry ∷ later)) receipt) [
      | true ↦ λ e.
          let same : entry.1 ≡ session = cc e in
          Contains-append_left entry.1.receipts (receipts_in later) receipt
          (subst (λ (s : Session). Contains s.receipts receipt) (sym same) stands)
      | false ↦ λ e. Contains-append_right entry.1.receipts (receipts_in later) receipt (among later client session receipt e stands)
    ] found

-- ---- how many

made : (sessions : NumberMap Session) → All (λ entry. entry.1.last ≡ length entry.1.receipts) sessions
    → calls_in sessions ≡ length (receipts_in sessions)
made [] all = refl
made (entry ∷ later) all =
    let own = All-head (λ (e : ℕ × Session). e.1.last ≡ length e.1.receipts) entry later all in
    let rest = made later (All-tail (λ (e : ℕ × Session). e.1.last ≡ length e.1.receipts) entry later all) in
    let split = sum_by-cons (λ (e : ℕ × Session). e.1.last) entry later in
    let joined = length-append entry.1.receipts (receipts_in later) in
    omega (arith, own, rest, split, joined)

-- sessions whose calls have a receipt each have made as many calls as they have receipts
pub calls_answered : (sessions : NumberMap Session) → IsInOrder sessions
    → EachIn (λ client session. session.last ≡ length session.receipts) sessions → calls_in sessions ≡ length (receipts_in sessions)
calls_answered sessions order each =
    made sessions (All_pairs (λ client session. session.last ≡ length session.receipts) sessions order each)
