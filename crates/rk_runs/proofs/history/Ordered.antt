-- The merged history of the lanes is ordered with the sessions of the clients, if the lanes are lawful and all agree.
use Rattle.std.proofs.Common.{◌≡◌, ℕ, ◌+◌, ◌<◌, Bool, true, false, ◌&&◌, ◌||◌, eqb, List, Option, Some, None, refl, sym, ap, subst, ◌∙◌}
use Rattle.std.proofs.Common.{⊎_elim, arith, map, length, slice_get, IfSome, All, Contains, eq-eqb, eqb-true}
use Rattle.rk_inv_base.proofs.Words.{and_parts, false≢true, All-contains, Call, Placed, Receipt, HasOwnKeys, IsRisingAbove}
use Rattle.rk_inv_base.proofs.Words.{is_mutation, journal_of, lane_of_key, Answered, AreOneMutation, Line, Session, Ledger, asked_by}
use Rattle.rk_inv_base.proofs.Words.{LastCall, IsAccepted, WasAsked}
use Rattle.rk_model.specs.Merged.{IsMergedFrom, is_kept, merged}
use Rattle.rk_model.specs.Ordered.{Caller, IsOrdered, accepted_by, answer_of, told_by}
use Rattle.rk_model.proofs.Merging.{merged-IsMergedFrom}
use Rattle.rk_model.proofs.Order.{kept_if_accepted}
use Rattle.rk_inv_base.proofs.pulls.Joining.{kept_stands, stands_kept}
use Rattle.rk_inv_lanes.proofs.Below.{mapped}
use Rattle.rk_runs.specs.history.Agreement.{Agrees, IsLastKnown, IsOutstanding, IsRecordedIn, IsToldBy, waiting}
use Rattle.rk_runs.proofs.history.Answers.{one_order}
use Rattle.rk_runs.proofs.history.Lines.{line_stands, stands_line, unmapped}
use Rattle.rk_runs.proofs.history.Receipts.{lines_in_order, one_place, one_seq, place_of, seqs_within, stands_at, told_in_order}

-- what a sound lane says of its ledger
pub record IsLawfulLane (lane : ℕ) (ledger : Ledger) : Type 0 where
  pub rising : IsRisingAbove 0 ledger.journal
  pub own_keys : HasOwnKeys lane ledger.journal
  pub once :
      (i j : ℕ) (a b : Placed) → slice_get ledger.journal i ≡ Some a → slice_get ledger.journal j ≡ Some b
      → AreOneMutation a.call b.call → i ≡ j
  pub asked : All (λ placed. WasAsked (asked_by ledger placed.call.client) ledger.journal placed.call) ledger.journal

module _ (journals : List (List Placed)) (ledgers : ℕ → Ledger) (sessions : ℕ → Session) (same : (lane : ℕ) → journal_of journals lane ≡ (ledgers lane).journal) (lawful : (lane : ℕ) → IsLawfulLane lane (ledgers lane)) (agree : (client : ℕ) → Agrees ledgers client (sessions client)) where
  abbrev history : List Line
  history = merged journals

  from : IsMergedFrom journals history
  from = merged-IsMergedFrom journals (λ lane. subst (IsRisingAbove 0) (sym (same lane)) (lawful lane).rising)

  abbrev callers : ℕ → Caller
  callers client = record { receipts = (sessions client).receipts; outstanding = (sessions client).outstanding }

  -- a line is of a record of its lane
  stands : (line : Line) → Contains history line → Contains (ledgers line.lane).journal line.placed
  stands line has = subst (λ (list : List Placed). Contains list line.placed) (same line.lane) (line_stands journals history from line has).0

  kept : (line : Line) → Contains history line → is_kept line.placed ≡ true
  kept line has = (line_stands journals history from line has).1

  -- ---- the accepted records of a client are its receipts

  told_line : (client : ℕ) (a : Answered) → Contains (map answer_of (accepted_by client history)) a → Contains (map told_by (sessions client).receipts) a
  told_line client a has =
      let found = unmapped answer_of (accepted_by client history) a has in
      let its = kept_stands (λ (line : Line). line.placed.accepted && eqb line.placed.call.client client) history found.0 found.1 in
      let parts = and_parts found.0.placed.accepted (eqb found.0.placed.call.client client) its.1 in
      let told : IsToldBy (sessions client).receipts found.0.lane found.0.placed =
      All-contains
      (λ (placed : Placed). placed.accepted ≡ true → placed.call.client ≡ client → IsToldBy (sessions client).receipts found.0.lane placed)
      (ledgers found.0.lane).journal found.0.placed ((agree client).told found.0.lane) (stands found.0 its.0) parts.0
      (eqb-true found.0.placed.call.client client parts.1) in
      subst (Contains (map told_by (sessions client).receipts)) (told.tells ∙ found.2)
      (mapped told_by (sessions client).receipts told.receipt told.stands)

  line_told : (client : ℕ) (a : Answered) → Contains (map told_by (sessions client).receipts) a → Contains (map answer_of (accepted_by client history)) a
  line_told client a has =
      let found = unmapped told_by (sessions client).receipts a has in
      let receipt : Receipt = found.0 in
      let placed : Placed = record { call = receipt.call; outcome = receipt.outcome; stamp = receipt.stamp; accepted = true } in
      let at : slice_get (ledgers receipt.lane).journal receipt.place ≡ Some placed =
      All-contains (IsRecordedIn ledgers) (sessions client).receipts receipt (agree client).recorded found.1 in
      let own : receipt.call.client ≡ client = All-contains (λ (r : Receipt). r.call.client ≡ client) (sessions client).receipts receipt (agree client).own_calls found.1 in
      let line : Line = record { lane = receipt.lane; placed = placed } in
      let there : Contains history line =
      stands_line journals history from receipt.lane placed
      (subst (λ (list : List Placed). Contains list placed) (sym (same receipt.lane)) (stands_at (ledgers receipt.lane).journal receipt.place placed at))
      (kept_if_accepted placed refl) in
      subst (Contains (map answer_of (accepted_by client history))) found.2
      (mapped answer_of (accepted_by client history) line
      (stands_kept (λ (l : Line). l.placed.accepted && eqb l.placed.call.client client) history line there
      (eq-eqb receipt.call.client client own)))

  answered : (client : ℕ) → map answer_of (accepted_by client history) ≡ map told_by (sessions client).receipts
  answered client = grind (arith, one_order, lines_in_order, eqb, from, told_in_order, told_line, line_told)

  -- ---- a record that is not accepted is of the outstanding call

  -- two records of one mutation in a lane are one
  one_record : (lane : ℕ) (a b : Placed) → Contains (ledgers lane).journal a → Contains (ledgers lane).journal b → AreOneMutation a.call b.call → a ≡ b
  one_record lane a b first second one =
      let at_a = place_of (ledgers lane).journal a first in
      let at_b = place_of (ledgers lane).journal b second in
      let i : at_a.0 ≡ at_b.0 = (lawful lane).once at_a.0 at_b.0 a b at_a.1 at_b.1 one in
      let is : Some a ≡ Some b = sym at_a.1 ∙ ap (slice_get (ledgers lane).journal) i ∙ at_b.1 in
      cc is

  not_accepted : (lane : ℕ) (placed : Placed) → Contains (ledgers lane).journal placed → is_mutation placed.call.op ≡ true → placed.accepted ≡ false → IsAccepted (ledgers lane).journal placed.call → ⊥
  not_accepted lane placed has mutation unaccepted accepted =
      let is : placed ≡ accepted.placed =
      one_record lane placed accepted.placed has accepted.stands
      (record {
        mutation = mutation;
        client = ap (λ (c : Call). c.client) (sym accepted.call_is);
        seq = ap (λ (c : Call). c.seq) (sym accepted.call_is);
      }) in
      false≢true (sym unaccepted ∙ ap (λ (p : Placed). p.accepted) is ∙ accepted.accepted)

  mutation_of : (placed : Placed) → is_kept placed ≡ true → placed.accepted ≡ false → is_mutation placed.call.op ≡ true
  mutation_of placed keeps unaccepted = ap (λ (b : Bool). b || is_mutation placed.call.op) (sym unaccepted) ∙ keeps

  outstanding_in : (lane : ℕ) (placed : Placed) (last : Option LastCall) → Contains (ledgers lane).journal placed → is_mutation placed.call.op ≡ true → placed.accepted ≡ false → WasAsked last (ledgers lane).journal placed.call → IsLastKnown (ledgers lane).journal (sessions placed.call.client) last
      → (sessions placed.call.client).outstanding ≡ Some placed.call
  outstanding_in lane placed None has mutation unaccepted was known = absurd was
  outstanding_in lane placed (Some last) has mutation unaccepted was known =
      ⊎_elim
      (λ (is : last.call ≡ placed.call).
      ⊎_elim
      (λ (accepted : IsAccepted (ledgers lane).journal last.call).
      absurd (not_accepted lane placed has mutation unaccepted (subst (IsAccepted (ledgers lane).journal) is accepted)))
      (λ (out : IsOutstanding (sessions placed.call.client) last). out.call_is ∙ ap Some is) known)
      (λ (before : (placed.call.seq < last.call.seq) × IsAccepted (ledgers lane).journal placed.call).
      absurd (not_accepted lane placed has mutation unaccepted before.1))
      was

  open_line : (line : Line) → Contains history line → line.placed.accepted ≡ false → (sessions line.placed.call.client).outstanding ≡ Some line.placed.call
  open_line line has unaccepted =
      outstanding_in line.lane line.placed (asked_by (ledgers line.lane) line.placed.call.client) (stands line has)
      (mutation_of line.placed (kept line has) unaccepted) unaccepted
      (All-contains (λ (placed : Placed). WasAsked (asked_by (ledgers line.lane) placed.call.client) (ledgers line.lane).journal placed.call)
      (ledgers line.lane).journal line.placed (lawful line.lane).asked (stands line has))
      ((agree line.placed.call.client).asked line.lane)

  -- ---- no mutation is recorded twice

  -- the receipt of an accepted line
  receipt_of : (line : Line) → Contains history line → line.placed.accepted ≡ true → IsToldBy (sessions line.placed.call.client).receipts line.lane line.placed
  receipt_of line has accepted =
      All-contains
      (λ (placed : Placed). placed.accepted ≡ true → placed.call.client ≡ line.placed.call.client → IsToldBy (sessions line.placed.call.client).receipts line.lane placed)
      (ledgers line.lane).journal line.placed ((agree line.placed.call.client).told line.lane) (stands line has) accepted refl

  lane_here : (line : Line) → Contains history line → lane_of_key line.placed.call.key ≡ line.lane
  lane_here line has =
      All-contains (λ (placed : Placed). lane_of_key placed.call.key ≡ line.lane) (ledgers line.lane).journal line.placed (lawful line.lane).own_keys (stands line has)

  -- an outstanding call comes after all that have receipts
  apart : (a b : Line) → Contains history a → Contains history b → a.placed.call.client ≡ b.placed.call.client → a.placed.call.seq ≡ b.placed.call.seq → a.placed.accepted ≡ true → b.placed.accepted ≡ false → ⊥
  apart a b has_a has_b client_is seq_is accepted unaccepted =
      let client : ℕ = b.placed.call.client in
      let receipts : List Receipt = (sessions client).receipts in
      let told : IsToldBy receipts a.lane a.placed =
      subst (λ (c : ℕ). IsToldBy (sessions c).receipts a.lane a.placed) client_is (receipt_of a has_a accepted) in
      let within = seqs_within 1 receipts (agree client).numbered told.receipt told.stands in
      let its : told.receipt.call.seq ≡ a.placed.call.seq = ap (λ (x : Answered). x.call.seq) told.tells in
      let out : (sessions client).outstanding ≡ Some b.placed.call = open_line b has_b unaccepted in
      let call : (b.placed.call.client ≡ client) × (b.placed.call.seq ≡ (sessions client).last) =
      subst (λ (o : Option Call). IfSome o (λ c. (c.client ≡ client) × (c.seq ≡ (sessions client).last))) out (agree client).outstanding in
      let next : (sessions client).last ≡ length receipts + 1 = (agree client).last ∙ ap (λ (o : Option Call). length receipts + waiting o) out in
      omega (arith, within.1, its, seq_is, call.1, next)

  same_lane : (a b : Line) → Contains history a → Contains history b → AreOneMutation a.placed.call b.placed.call → (x y : Bool) → a.placed.accepted ≡ x → b.placed.accepted ≡ y → a.lane ≡ b.lane
  same_lane a b has_a has_b one true true is_a is_b =
      let receipts : List Receipt = (sessions b.placed.call.client).receipts in
      let first : IsToldBy receipts a.lane a.placed =
      subst (λ (c : ℕ). IsToldBy (sessions c).receipts a.lane a.placed) one.client (receipt_of a has_a is_a) in
      let second : IsToldBy receipts b.lane b.placed = receipt_of b has_b is_b in
      let seqs : first.receipt.call.seq ≡ second.receipt.call.seq =
      ap (λ (x : Answered). x.call.seq) first.tells ∙ one.seq ∙ sym (ap (λ (x : Answered). x.call.seq) second.tells) in
      let is : first.receipt ≡ second.receipt =
      one_seq 1 receipts (agree b.placed.call.client).numbered first.receipt second.receipt first.stands second.stands seqs in
      sym (ap (λ (x : Answered). x.lane) first.tells) ∙ ap (λ (r : Receipt). r.lane) is ∙ ap (λ (x : Answered). x.lane) second.tells
  same_lane a b has_a has_b one true false is_a is_b = absurd (apart a b has_a has_b one.client one.seq is_a is_b)
  same_lane a b has_a has_b one false true is_a is_b =
      absurd (apart b a has_b has_a (sym one.client) (sym one.seq) is_b is_a)
  same_lane a b has_a has_b one false false is_a is_b =
      let first : (sessions b.placed.call.client).outstanding ≡ Some a.placed.call =
      subst (λ (c : ℕ). (sessions c).outstanding ≡ Some a.placed.call) one.client (open_line a has_a is_a) in
      let both : Some a.placed.call ≡ Some b.placed.call = sym first ∙ open_line b has_b is_b in
      let is : a.placed.call ≡ b.placed.call = cc both in
      sym (lane_here a has_a) ∙ ap (λ (c : Call). lane_of_key c.key) is ∙ lane_here b has_b

  once : (i j : ℕ) (a b : Line) → slice_get history i ≡ Some a → slice_get history j ≡ Some b → AreOneMutation a.placed.call b.placed.call → i ≡ j
  once i j a b at_i at_j one =
      let has_a = stands_at history i a at_i in
      let has_b = stands_at history j b at_j in
      let lanes : a.lane ≡ b.lane = same_lane a b has_a has_b one a.placed.accepted b.placed.accepted refl refl in
      let records : a.placed ≡ b.placed =
      one_record b.lane a.placed b.placed (subst (λ (lane : ℕ). Contains (ledgers lane).journal a.placed) lanes (stands a has_a)) (stands b has_b) one in
      one_place history from.ordered i j b (at_i ∙ (λ k. Some (record { lane = lanes k; placed = records k }))) at_j

  pub ordered : IsOrdered journals history callers
  ordered = grind (arith, answered, once, open_line, stands_at)
