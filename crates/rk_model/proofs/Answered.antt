-- A history stays ordered with its callers when a caller's next call is recorded, accepted and answered.
use Rattle.std.proofs.Common.{◌≡◌, ◌≢◌, ℕ, ◌+◌, ◌<◌, Bool, true, false, cond, ◌&&◌, eqb, List, [], ◌∷◌, ◌++◌, Option, Some, None, length, refl, sym, ap, ◌∙◌, subst, ⊎_elim, arith}
use Rattle.std.proofs.lemmas.Bool.{true_from_ne_false, cases_eq, cases_Bool, and_from, eq-eqb, ne_eqb, and_right}
use Rattle.std.proofs.lemmas.List.{append-nil, map-append}
use Rattle.std.proofs.lemmas.List.Elements.{All-nil, All-cons, All-push, All-weaker, All-map, filter-append}
use Rattle.std.specs.Prelude.{All, map, filter, slice_get}
use Rattle.rk_types.specs.declared.call.Call.{Call}
use Rattle.rk_types.specs.declared.history.Placed.{Placed}
use Rattle.rk_types.specs.declared.history.Receipt.{Receipt}
use Rattle.rk_model.specs.declared.line.Line.{Line}
use Rattle.rk_model.specs.Merged.{merged, journal_of, appended}
use Rattle.rk_model.specs.Ordered.{Caller, Answered, told_by, answer_of, accepted_by, IsNumberedFrom, IsRecorded, AreOneMutation, IsOrdered, IsSettled, KeepsNow, IsAnswered}
use Rattle.rk_model.proofs.Order.{kept_if_accepted}
use Rattle.rk_model.proofs.Places.{slice_get_end, slice_get_push_cases, passes_filter, all_at, all_from_places, All-unmap, journal_of-same, journal_of-keeps}
use Rattle.rk_model.proofs.Appended.{merged_appended, All-merged}

-- a line of this client is accepted
abbrev pub IsSettledLine : ℕ → Line → Type 0
IsSettledLine client line = line.placed.call.client ≡ client → line.placed.accepted ≡ true

-- one more receipt, with the next seq
numbered_push :
    (seq : ℕ) (receipts : List Receipt) (receipt : Receipt)
    → IsNumberedFrom seq receipts → receipt.call.seq ≡ seq + length receipts → IsNumberedFrom seq (receipts ++ receipt ∷ [])
numbered_push seq [] receipt numbered next = (omega arith, tt)
numbered_push seq (first ∷ receipts) receipt numbered next =
    (numbered.0, numbered_push (seq + 1) receipts receipt numbered.1 (omega arith))

-- receipts that are numbered from a seq on have seqs below the next one
seqs_below :
    (seq : ℕ) (receipts : List Receipt)
    → IsNumberedFrom seq receipts → All (λ receipt. receipt.call.seq < seq + length receipts) receipts
seqs_below seq [] numbered = All-nil (λ receipt. receipt.call.seq < seq + 0)
seqs_below seq (first ∷ receipts) numbered =
    All-cons (λ (receipt : Receipt). receipt.call.seq < seq + length (first ∷ receipts)) first receipts (omega arith)
    (All-weaker (λ (receipt : Receipt). receipt.call.seq < seq + 1 + length receipts)
    (λ (receipt : Receipt). receipt.call.seq < seq + length (first ∷ receipts))
    (λ receipt below. omega arith) receipts (seqs_below (seq + 1) receipts numbered.1))

-- the accepted lines of a client, with one more line that is one of them
accepted_by-push_own :
    (client : ℕ) (history : List Line) (line : Line)
    → line.placed.accepted ≡ true → line.placed.call.client ≡ client
    → accepted_by client (history ++ line ∷ []) ≡ accepted_by client history ++ line ∷ []
accepted_by-push_own client history line accepted own =
    let is_own : Line → Bool = λ (l : Line). l.placed.accepted && eqb l.placed.call.client client in
    filter-append is_own history (line ∷ [])
    ∙ ap (λ rest. filter is_own history ++ rest)
    (ap (λ b. cond b (line ∷ []) [])
    (and_from line.placed.accepted (eqb line.placed.call.client client) accepted (eq-eqb line.placed.call.client client own)))

-- and with one more line that is another client's
accepted_by-push_other :
    (client : ℕ) (history : List Line) (line : Line)
    → line.placed.call.client ≢ client
    → accepted_by client (history ++ line ∷ []) ≡ accepted_by client history
accepted_by-push_other client history line apart =
    let is_own : Line → Bool = λ (l : Line). l.placed.accepted && eqb l.placed.call.client client in
    filter-append is_own history (line ∷ [])
    ∙ ap (λ rest. filter is_own history ++ rest)
    (ap (λ b. cond b (line ∷ []) [])
    (and_right line.placed.accepted (eqb line.placed.call.client client) (ne_eqb line.placed.call.client client apart)))
    ∙ append-nil (filter is_own history)

-- the receipts of each caller are still numbered
numbered_answered :
    (journals : List (List Placed)) (before after : ℕ → Caller) (lane : ℕ) (placed : Placed) (receipt : Receipt)
    → IsAnswered journals before after lane placed receipt
    → ((client : ℕ) → IsNumberedFrom 1 (before client).receipts) → (client : ℕ) → IsNumberedFrom 1 (after client).receipts
numbered_answered journals before after lane placed receipt answered numbered client =
    ⊎_elim
    (λ (same : client ≡ placed.call.client).
    let seq : receipt.call.seq ≡ placed.call.seq = ap (λ (a : Answered). a.call.seq) answered.told in
    rw (same, answered.kept.own)
    (numbered_push 1 (before placed.call.client).receipts receipt (numbered placed.call.client)
    (omega (arith, answered.next))))
    (λ (apart : client ≢ placed.call.client). rw (answered.kept.others client apart) (numbered client))
    (cases_eq client placed.call.client)

-- an accepted record has the parts that its receipt states
recorded_as :
    (lane : ℕ) (placed : Placed) (receipt : Receipt)
    → placed.accepted ≡ true → told_by receipt ≡ answer_of (record { lane = lane; placed = placed })
    → Some placed ≡ Some (record { call = receipt.call; outcome = receipt.outcome; stamp = receipt.stamp; accepted = true })
recorded_as lane placed receipt accepted told =
    let as_placed : Answered → Bool → Option Placed =
    λ (a : Answered) (b : Bool). Some (record { call = a.call; outcome = a.outcome; stamp = a.stamp; accepted = b }) in
    ap (as_placed (answer_of (record { lane = lane; placed = placed }))) accepted
    ∙ ap (λ (a : Answered). as_placed a true) (sym told)

-- the receipts of each caller are still those of accepted records
recorded_answered :
    (journals : List (List Placed)) (before after : ℕ → Caller) (lane : ℕ) (placed : Placed) (receipt : Receipt)
    → IsAnswered journals before after lane placed receipt
    → ((client : ℕ) → All (IsRecorded journals) (before client).receipts)
    → (client : ℕ) → All (IsRecorded (appended journals lane placed)) (after client).receipts
recorded_answered journals before after lane placed receipt answered recorded client =
    let still : (c : ℕ) → All (IsRecorded (appended journals lane placed)) (before c).receipts = λ c.
    All-weaker (IsRecorded journals) (IsRecorded (appended journals lane placed))
    (λ (r : Receipt) there.
    journal_of-keeps journals lane r.lane r.place placed
    (record { call = r.call; outcome = r.outcome; stamp = r.stamp; accepted = true }) answered.in_range there)
    (before c).receipts (recorded c) in
    let own_lane : receipt.lane ≡ lane = ap (λ (a : Answered). a.lane) answered.told in
    let here : IsRecorded (appended journals lane placed) receipt =
    rw (own_lane, answered.place, journal_of-same journals lane placed answered.in_range)
    (slice_get_end (journal_of journals lane) placed
    ∙ recorded_as lane placed receipt answered.accepted answered.told) in
    ⊎_elim
    (λ (same : client ≡ placed.call.client).
    rw (same, answered.kept.own)
    (All-push (IsRecorded (appended journals lane placed)) (before placed.call.client).receipts receipt
    (still placed.call.client) here))
    (λ (apart : client ≢ placed.call.client). rw (answered.kept.others client apart) (still client))
    (cases_eq client placed.call.client)

-- the accepted lines of each caller are still what its receipts state
answered_answered :
    (journals : List (List Placed)) (history : List Line) (before after : ℕ → Caller)
    (lane : ℕ) (placed : Placed) (receipt : Receipt)
    → IsAnswered journals before after lane placed receipt
    → ((client : ℕ) → map answer_of (accepted_by client history) ≡ map told_by (before client).receipts)
    → (client : ℕ)
    → map answer_of (accepted_by client (history ++ record { lane = lane; placed = placed } ∷ []))
    ≡ map told_by (after client).receipts
answered_answered journals history before after lane placed receipt answered each client =
    let line : Line = record { lane = lane; placed = placed } in
    ⊎_elim
    (λ (same : client ≡ placed.call.client).
    rw (same, answered.kept.own, accepted_by-push_own placed.call.client history line answered.accepted refl)
    (map-append answer_of (accepted_by placed.call.client history) (line ∷ [])
    ∙ ap (λ front. front ++ answer_of line ∷ []) (each placed.call.client)
    ∙ ap (λ (last : Answered). map told_by (before placed.call.client).receipts ++ last ∷ []) (sym answered.told)
    ∙ sym (map-append told_by (before placed.call.client).receipts (receipt ∷ []))))
    (λ (apart : client ≢ placed.call.client).
    rw (answered.kept.others client apart, accepted_by-push_other client history line (λ same. apart (sym same))) (each client))
    (cases_eq client placed.call.client)

-- each accepted line of a caller has a seq of one of its receipts
seq_of_accepted :
    (history : List Line) (caller : Caller) (client place : ℕ) (line : Line)
    → IsNumberedFrom 1 caller.receipts
    → map answer_of (accepted_by client history) ≡ map told_by caller.receipts
    → slice_get history place ≡ Some line → line.placed.accepted ≡ true → line.placed.call.client ≡ client
    → line.placed.call.seq < 1 + length caller.receipts
seq_of_accepted history caller client place line numbered each there accepted own =
    let bound : ℕ = 1 + length caller.receipts in
    let told : All (λ (a : Answered). a.call.seq < bound) (map told_by caller.receipts) =
    All-map (λ (a : Answered). a.call.seq < bound) told_by caller.receipts (seqs_below 1 caller.receipts numbered) in
    passes_filter (λ (l : Line). l.placed.call.seq < bound)
    (λ (l : Line). l.placed.accepted && eqb l.placed.call.client client) history place line
    (All-unmap (λ (a : Answered). a.call.seq < bound) answer_of (accepted_by client history) (rw each told))
    there (and_from line.placed.accepted (eqb line.placed.call.client client) accepted (eq-eqb line.placed.call.client client own))

-- no line is the mutation of a caller's next call: an accepted one has a seq of a receipt, and no other is there
not_yet_there :
    (journals : List (List Placed)) (before after : ℕ → Caller) (lane : ℕ) (placed : Placed) (receipt : Receipt)
    → IsAnswered journals before after lane placed receipt → IsOrdered journals (merged journals) before
    → (place : ℕ) (line : Line) → slice_get (merged journals) place ≡ Some line
    → line.placed.call.client ≡ placed.call.client → line.placed.call.seq ≡ placed.call.seq → ⊥
not_yet_there journals before after lane placed receipt answered ordered place line there client seq =
    let caller : Caller = before placed.call.client in
    ⊎_elim
    (λ (accepted : line.placed.accepted ≡ true).
    let below = seq_of_accepted (merged journals) caller placed.call.client place line
    (ordered.numbered placed.call.client) (ordered.answered placed.call.client) there accepted client in
    omega (arith, answered.next))
    (λ (unaccepted : line.placed.accepted ≡ false).
    let accepted : line.placed.accepted ≡ true =
    all_at (IsSettledLine placed.call.client) (merged journals) place line answered.settled there client in
    cc)
    (cases_Bool line.placed.accepted)

-- no mutation occurs twice with one more line, whose mutation was not there
once_push :
    (history : List Line) (last : Line)
    → ((i j : ℕ) (a b : Line) → slice_get history i ≡ Some a → slice_get history j ≡ Some b
    → AreOneMutation a.placed.call b.placed.call → i ≡ j)
    → ((place : ℕ) (line : Line) → slice_get history place ≡ Some line
    → line.placed.call.client ≡ last.placed.call.client → line.placed.call.seq ≡ last.placed.call.seq → ⊥)
    → (i j : ℕ) (a b : Line)
    → slice_get (history ++ last ∷ []) i ≡ Some a → slice_get (history ++ last ∷ []) j ≡ Some b
    → AreOneMutation a.placed.call b.placed.call → i ≡ j
once_push history last once new i j a b at_i at_j same =
    ⊎_elim
    (λ (old_i : slice_get history i ≡ Some a).
    ⊎_elim
    (λ (old_j : slice_get history j ≡ Some b). once i j a b old_i old_j same)
    (λ (last_j : (j ≡ length history) × (last ≡ b)).
    absurd (new i a old_i (rw last_j.1 same.client) (rw last_j.1 same.seq)))
    (slice_get_push_cases history last b j at_j))
    (λ (last_i : (i ≡ length history) × (last ≡ a)).
    ⊎_elim
    (λ (old_j : slice_get history j ≡ Some b).
    absurd (new j b old_j (rw last_i.1 (sym same.client)) (rw last_i.1 (sym same.seq))))
    (λ (last_j : (j ≡ length history) × (last ≡ b)). last_i.0 ∙ sym last_j.0)
    (slice_get_push_cases history last b j at_j))
    (slice_get_push_cases history last a i at_i)

-- each record that was not accepted is still its caller's outstanding call
asked_answered :
    (journals : List (List Placed)) (history : List Line) (before after : ℕ → Caller)
    (lane : ℕ) (placed : Placed) (receipt : Receipt)
    → IsAnswered journals before after lane placed receipt → IsSettled placed.call.client history
    → ((i : ℕ) (line : Line) → slice_get history i ≡ Some line → line.placed.accepted ≡ false
    → (before line.placed.call.client).outstanding ≡ Some line.placed.call)
    → (i : ℕ) (line : Line)
    → slice_get (history ++ record { lane = lane; placed = placed } ∷ []) i ≡ Some line → line.placed.accepted ≡ false
    → (after line.placed.call.client).outstanding ≡ Some line.placed.call
asked_answered journals history before after lane placed receipt answered settled asked i line there unaccepted =
    let last : Line = record { lane = lane; placed = placed } in
    ⊎_elim
    (λ (old : slice_get history i ≡ Some line).
    let waiting : (before line.placed.call.client).outstanding ≡ Some line.placed.call = asked i line old unaccepted in
    ⊎_elim
    (λ (same : line.placed.call.client ≡ placed.call.client).
    let accepted : line.placed.accepted ≡ true = all_at (IsSettledLine placed.call.client) history i line settled old same in
    absurd (cc))
    (λ (apart : line.placed.call.client ≢ placed.call.client).
    ap (λ (caller : Caller). caller.outstanding) (answered.kept.others line.placed.call.client apart) ∙ waiting)
    (cases_eq line.placed.call.client placed.call.client))
    (λ (new : (i ≡ length history) × (last ≡ line)).
    let accepted : line.placed.accepted ≡ true = ap (λ (l : Line). l.placed.accepted) (sym new.1) ∙ answered.accepted in
    absurd (cc))
    (slice_get_push_cases history last line i there)

-- an ordered history stays so when a caller's next call is recorded with the latest stamp, accepted and answered
pub ordered_answered :
    (journals : List (List Placed)) (before after : ℕ → Caller) (lane : ℕ) (placed : Placed) (receipt : Receipt)
    → IsOrdered journals (merged journals) before
    → IsAnswered journals before after lane placed receipt
    → IsOrdered (appended journals lane placed) (merged (appended journals lane placed)) after
ordered_answered journals before after lane placed receipt ordered answered =
    let history : List Line = merged journals in
    let last : Line = record { lane = lane; placed = placed } in
    let grown : merged (appended journals lane placed) ≡ history ++ last ∷ [] =
    merged_appended journals lane placed answered.in_range answered.latest (kept_if_accepted placed answered.accepted) in
    let then' : IsOrdered (appended journals lane placed) (history ++ last ∷ []) after = record {
      numbered = numbered_answered journals before after lane placed receipt answered ordered.numbered;
      recorded = recorded_answered journals before after lane placed receipt answered ordered.recorded;
      answered = answered_answered journals history before after lane placed receipt answered ordered.answered;
      once =
          once_push history last ordered.once
          (not_yet_there journals before after lane placed receipt answered ordered);
      asked = asked_answered journals history before after lane placed receipt answered answered.settled ordered.asked;
    } in
    subst (λ (h : List Line). IsOrdered (appended journals lane placed) h after) (sym grown) then'

-- if a caller has no call outstanding, all that is recorded of it is accepted
pub settled_if_idle :
    (journals : List (List Placed)) (history : List Line) (callers : ℕ → Caller) (client : ℕ)
    → IsOrdered journals history callers → (callers client).outstanding ≡ None → IsSettled client history
settled_if_idle journals history callers client ordered idle =
    all_from_places (IsSettledLine client) history
    (λ place line there own.
    true_from_ne_false line.placed.accepted
    (λ unaccepted.
    let waiting : (callers line.placed.call.client).outstanding ≡ Some line.placed.call =
    ordered.asked place line there unaccepted in
    let none : (callers line.placed.call.client).outstanding ≡ None =
    ap (λ (c : ℕ). (callers c).outstanding) own ∙ idle in
    absurd (cc)))

-- if all that the journals have of a client is accepted, all that is recorded of it is
pub settled_if_accepted :
    (journals : List (List Placed)) (client : ℕ)
    → ((lane : ℕ) → All (λ placed. placed.call.client ≡ client → placed.accepted ≡ true) (journal_of journals lane))
    → IsSettled client (merged journals)
settled_if_accepted journals client accepted =
    All-merged (λ (placed : Placed). placed.call.client ≡ client → placed.accepted ≡ true) journals accepted

-- the callers' receipts are as before when one of them asks a call
pub receipts_asked :
    (before after : ℕ → Caller) (client : ℕ) (call : Call)
    → KeepsNow before after client (record { receipts = (before client).receipts; outstanding = Some call })
    → (other : ℕ) → (after other).receipts ≡ (before other).receipts
receipts_asked before after client call kept other =
    ⊎_elim
    (λ (same : other ≡ client).
    ap (λ (c : ℕ). (after c).receipts) same ∙ ap (λ (caller : Caller). caller.receipts) kept.own
    ∙ ap (λ (c : ℕ). (before c).receipts) (sym same))
    (λ (apart : other ≢ client). ap (λ (caller : Caller). caller.receipts) (kept.others other apart))
    (cases_eq other client)

-- an empty history is ordered with callers that have no receipt
pub ordered_at_first :
    (journals : List (List Placed)) (callers : ℕ → Caller)
    → merged journals ≡ [] → ((client : ℕ) → (callers client).receipts ≡ []) → IsOrdered journals (merged journals) callers
ordered_at_first journals callers empty none =
    let then' : IsOrdered journals [] callers = record {
      numbered = λ client. rw (none client) tt;
      recorded = λ client. rw (none client) (All-nil (IsRecorded journals));
      answered = λ client. ap (map told_by) (sym (none client));
      once = λ i j a b at_i at_j same. absurd (cc);
      asked = λ i line there unaccepted. absurd (cc);
    } in
    subst (λ (h : List Line). IsOrdered journals h callers) (sym empty) then'
