-- Gathered lanes and sessions in which each call was answered agree with each other, so they have one history.
use Rattle.std.proofs.Common.{◌≡◌, ℕ, ◌<◌, Bool, true, false, ◌||◌, List, Option, Some, None, refl, sym, ap, ◌∙◌, subst, inl, ⊎_elim}
use Rattle.std.proofs.Common.{Contains, IfSome, map, slice_get, unwrap_or, All}
use Rattle.rk_inv_base.proofs.Words.{false≢true, none-some, All-contains, All-contains_itself, All-nil, All-weaker, get, Placed, Receipt}
use Rattle.rk_inv_base.proofs.Words.{Line, IsRisingAbove, is_mutation, journal_of, Answered, Session, new_session, Cluster, lane_at}
use Rattle.rk_inv_base.proofs.Words.{session_at, asked_by, World, new_world, LastCall, IsAccepted, WasAsked}
use Rattle.std.proofs.lemmas.List.Sorted.{IsPermutation-trans}
use Rattle.rk_model.specs.Merged.{is_kept, merged}
use Rattle.rk_model.specs.Ordered.{IsRecorded, answer_of, told_by}
use Rattle.rk_model.proofs.Merging.{merged-IsMergedFrom}
use Rattle.rk_world.specs.Cluster.{HasOneHistory, journals_of}
use Rattle.rk_runs.specs.history.Agreement.{Agrees, IsLastKnown, IsRecordedIn, IsToldBy}
use Rattle.rk_runs.proofs.history.Lines.{stands_line, unmapped}
use Rattle.rk_runs.proofs.history.Ordered.{ordered}
use Rattle.rk_runs.proofs.history.Receipts.{place_of, stands_at}
use Rattle.rk_laws_lanes.specs.gathered.Answers.{AreOfDistinctCalls, HasJustTheAnswers, MutationsAreAccepted, accepted_answers}
use Rattle.rk_laws_lanes.specs.gathered.Gathered.{AreAnswered, AreGathered, IsEnded, IsRepeatedRead}
use Rattle.rk_laws_lanes.specs.gathered.Sessions.{receipts_in}
use Rattle.rk_laws_lanes.proofs.gathered.AllTold.{all_told, each_told}
use Rattle.rk_laws_lanes.proofs.gathered.Lanes.{lawful, legal}
use Rattle.rk_runs.proofs.history.Clusters.{ledgers_of}
use Rattle.rk_runs.proofs.history.Journals.{each_lane, journals_are}
use Rattle.rk_laws_lanes.proofs.gathered.Orderly.{new_orderly}
use Rattle.rk_laws_lanes.proofs.gathered.Merged.{merged_answers}
use Rattle.rk_laws_lanes.proofs.gathered.Sessions.{among, distinct_calls, owner}

module _ (masters : ℕ) (cluster : Cluster) (gathered : AreGathered masters cluster) where
  abbrev journals : List (List Placed)
  journals = journals_of cluster

  abbrev receipts : List Receipt
  receipts = receipts_in cluster.sessions

  pub apart : AreOfDistinctCalls receipts
  apart = distinct_calls cluster.sessions gathered.order (λ client session found. (gathered.ended client session found).orderly.receipts)

  -- ---- a client's session by itself

  ended_by : (client : ℕ) (found : Option Session) → get cluster.sessions client ≡ found
      → IsEnded client (unwrap_or found (new_session client))
  ended_by client None none = record { orderly = new_orderly client; answered = refl }
  ended_by client (Some session) some = gathered.ended client session some

  ended : (client : ℕ) → IsEnded client (session_at cluster client)
  ended client = ended_by client (get cluster.sessions client) refl

  recorded_by : (client : ℕ) (found : Option Session) → get cluster.sessions client ≡ found
      → All (IsRecordedIn (ledgers_of cluster)) (unwrap_or found (new_session client)).receipts
  recorded_by client None none = All-nil _
  recorded_by client (Some session) some =
      All-weaker (Contains session.receipts) (IsRecordedIn (ledgers_of cluster))
      (λ (receipt : Receipt) stands.
      ap (λ (journal : List Placed). slice_get journal receipt.place) (sym (journals_are cluster receipt.lane))
      ∙ All-contains (IsRecorded journals) receipts receipt gathered.recorded (among cluster.sessions client session receipt some stands))
      session.receipts (All-contains_itself session.receipts)

  module _ (answered : AreAnswered cluster) where
    -- ---- what it has of the lanes

    -- an accepted record of a client has a receipt of that client
    told : (client lane : ℕ) (placed : Placed) → Contains (ledgers_of cluster lane).journal placed → placed.accepted ≡ true
        → placed.call.client ≡ client → IsToldBy (session_at cluster client).receipts lane placed
    told client lane placed stands accepted mine =
        let at = place_of (ledgers_of cluster lane).journal placed stands in
        let found =
        unmapped told_by receipts _
        (each_told journals receipts apart gathered.recorded answered.records lane at.0 placed
        (ap (λ (journal : List Placed). slice_get journal at.0) (journals_are cluster lane) ∙ at.1) accepted) in
        let its =
        owner cluster.sessions found.0 gathered.order
        (λ client session there. (gathered.ended client session there).orderly.receipts) found.1 in
        let client_is : found.0.call.client ≡ client = ap (λ (a : Answered). a.call.client) found.2 ∙ mine in
        let session_is : session_at cluster client ≡ its.session =
        ap (λ (o : Option Session). unwrap_or o (new_session client))
        (subst (λ (c : ℕ). get cluster.sessions c ≡ Some its.session) client_is its.found) in
        record {
          receipt = found.0;
          stands = subst (λ (s : Session). Contains s.receipts found.0) (sym session_is) its.stands;
          tells = found.2;
        }

    -- what it asked last in a lane is accepted
    known : (journal : List Placed) (session : Session) (last : Option LastCall) → IfSome last (λ last. IsAccepted journal last.call)
        → IsLastKnown journal session last
    known journal session None is = tt
    known journal session (Some last) is = inl is

    pub agrees : (client : ℕ) → Agrees (ledgers_of cluster) client (session_at cluster client)
    agrees client =
        let its = (ended client).orderly in
        record {
          own = its.client_is;
          numbered = its.receipts.numbered;
          own_calls = its.receipts.calls;
          last = its.last;
          outstanding = its.outstanding;
          rising = its.rising;
          seen = its.seen;
          recorded = recorded_by client (get cluster.sessions client) refl;
          told = λ lane.
              All-weaker (Contains (ledgers_of cluster lane).journal)
              (λ (placed : Placed). placed.accepted ≡ true → placed.call.client ≡ client → IsToldBy
              (session_at cluster client).receipts lane placed)
              (told client lane) (ledgers_of cluster lane).journal (All-contains_itself (ledgers_of cluster lane).journal);
          asked =
              each_lane cluster (λ lane w. IsLastKnown w.ledger.journal (session_at cluster client) (asked_by w.ledger client))
              (λ lane inside.
              let w : World = lane_at cluster lane in
              known w.ledger.journal (session_at cluster client) (asked_by w.ledger client)
              (answered.last lane (new_world lane 0 0) inside client))
              (λ lane. tt);
        }

    pub history : HasOneHistory cluster
    history = record {
      legal = legal cluster masters gathered.lanes;
      ordered =
          ordered journals (ledgers_of cluster) (session_at cluster) (journals_are cluster) (lawful cluster masters gathered.lanes) agrees;
    }

    -- ---- nothing else is in it

    -- a record of a mutation is in the history, and what is not accepted there would be outstanding
    mutation_accepted : (lane : ℕ) (placed : Placed) → Contains (journal_of journals lane) placed → is_mutation placed.call.op ≡ true
        → (flag : Bool) → placed.accepted ≡ flag → placed.accepted ≡ true
    mutation_accepted lane placed stands mutation true is = is
    mutation_accepted lane placed stands mutation false is =
        let line : Line = record { lane = lane; placed = placed } in
        let kept : is_kept placed ≡ true = ap (λ (b : Bool). b || is_mutation placed.call.op) is ∙ mutation in
        let there : Contains (merged journals) line =
        stands_line journals (merged journals)
        (merged-IsMergedFrom journals
        (λ lane. subst (IsRisingAbove 0) (sym (journals_are cluster lane)) (lawful cluster masters gathered.lanes lane).rising))
        lane placed stands kept in
        let at = place_of (merged journals) line there in
        let out : (session_at cluster placed.call.client).outstanding ≡ Some placed.call = history.ordered.asked at.0 line at.1 is in
        absurd (none-some placed.call (sym (ended placed.call.client).answered ∙ out))

    mutations_accepted : MutationsAreAccepted journals
    mutations_accepted lane =
        All-weaker (Contains (journal_of journals lane)) (λ placed. is_mutation placed.call.op ≡ true → placed.accepted ≡ true)
        (λ placed stands mutation. mutation_accepted lane placed stands mutation placed.accepted refl)
        (journal_of journals lane) (All-contains_itself (journal_of journals lane))

    pub just_the_answers : HasJustTheAnswers journals receipts
    just_the_answers =
        IsPermutation-trans (map told_by receipts) (accepted_answers journals) (map answer_of (merged journals))
        (all_told journals receipts apart gathered.recorded answered.records) (merged_answers journals mutations_accepted)

    -- a record that is not accepted is a read, of a call that has an accepted record
    repeated_in : (journal : List Placed) (placed : Placed) (last : Option LastCall) → IfSome last (λ last. IsAccepted journal last.call)
        → WasAsked last journal placed.call → IsAccepted journal placed.call
    repeated_in journal placed None known was = absurd was
    repeated_in journal placed (Some last) known was =
        ⊎_elim (λ (is : last.call ≡ placed.call). subst (IsAccepted journal) is known)
        (λ (earlier : (placed.call.seq < last.call.seq) × IsAccepted journal placed.call). earlier.1) was

    repeated_there : (lane : ℕ) → All (λ placed. IsAccepted (ledgers_of cluster lane).journal placed.call) (ledgers_of cluster lane).journal
    repeated_there =
        each_lane cluster (λ lane w. All (λ placed. IsAccepted w.ledger.journal placed.call) w.ledger.journal)
        (λ lane inside.
        let w : World = lane_at cluster lane in
        All-weaker (λ placed. WasAsked (asked_by w.ledger placed.call.client) w.ledger.journal placed.call)
        (λ placed. IsAccepted w.ledger.journal placed.call)
        (λ placed was. repeated_in w.ledger.journal placed (asked_by w.ledger placed.call.client)
        (answered.last lane (new_world lane 0 0) inside placed.call.client) was)
        w.ledger.journal (gathered.lanes lane inside).sound.asked.recorded)
        (λ lane. All-nil _)

    pub repeated : (lane place : ℕ) (placed : Placed) → slice_get (journal_of journals lane) place ≡ Some placed → placed.accepted ≡ false
        → IsRepeatedRead (journal_of journals lane) placed
    repeated lane place placed at unaccepted =
        let stands = stands_at (journal_of journals lane) place placed at in
        record {
          read = by_flag (is_mutation placed.call.op) refl stands;
          accepted =
              All-contains (λ (placed : Placed). IsAccepted (journal_of journals lane) placed.call) (journal_of journals lane) placed
              (subst (λ (journal : List Placed). All (λ placed. IsAccepted journal placed.call) journal) (sym (journals_are cluster lane))
              (repeated_there lane)) stands;
        }
      where
        by_flag : (mutation : Bool) → is_mutation placed.call.op ≡ mutation → Contains (journal_of journals lane) placed
            → is_mutation placed.call.op ≡ false
        by_flag false is stands = is
        by_flag true is stands = absurd (false≢true (sym unaccepted ∙ mutation_accepted lane placed stands is placed.accepted refl))
