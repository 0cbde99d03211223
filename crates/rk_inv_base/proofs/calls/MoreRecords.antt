-- A journal with more records behind it: what was known, asked, accepted or stated by it still is.
use Rattle.rk_inv_base.proofs.Words.{arith, ◌≡◌, ℕ, ◌<◌, List, [], ◌∷◌, ◌++◌, Option, Some, ⊎_elim, inl, inr, ◌⊎◌, length, slice_get}
use Rattle.rk_inv_base.proofs.Words.{Contains, Contains-append_left, Call, Ended, Placed, Node, IsRisingAbove, Reply, Body, Base, ends_told}
use Rattle.rk_inv_base.proofs.Words.{LastCall, IsAccepted, IsRequest, RequestSays, WasAsked, IsKnown, IsRecorded, Says, IsRecordAt, Outcome}
use Rattle.rk_inv_base.proofs.Words.{slice_get_front, slice_get_push_cases, last_stamp_from}
use Rattle.rk_inv_base.proofs.calls.OtherJournals.{asked_by_other, is_request_by, request_by_other, request_says_by, says_by}

-- ---- places

-- with one more, each record was there, or is the new one, at the end
pub got_cases : (journal : List Placed) (new : Placed) (i : ℕ) (placed : Placed) → slice_get (journal ++ new ∷ []) i ≡ Some placed → (slice_get journal i ≡ Some placed) ⊎ ((i ≡ length journal) × (new ≡ placed))
got_cases journal new i placed at = slice_get_push_cases journal new placed i at

-- stamps rise with one more record, whose stamp is above the last
pub rising_push : (stamp : ℕ) (journal : List Placed) (new : Placed) → IsRisingAbove stamp journal → last_stamp_from stamp journal < new.stamp → IsRisingAbove stamp (journal ++ new ∷ [])
rising_push stamp [] new rising above = (above, tt)
rising_push stamp (first ∷ journal) new rising above = (rising.0, rising_push first.stamp journal new rising.1 above)

-- ---- what the journal knows

module _ (journal more : List Placed) where
  pub known_still : (base : Base) (end : Ended) → IsKnown base journal end → IsKnown base (journal ++ more) end
  known_still base end =
      ⊎_elim
      (λ (recorded : IsRecorded journal end).
      inl (record {
        placed = recorded.placed;
        stands = Contains-append_left journal more recorded.placed recorded.stands;
        fits = recorded.fits;
      }))
      (λ (start : Contains (ends_told base) end). inr start)

  -- what is accepted, and what was asked
  pub accepted_still : (call : Call) → IsAccepted journal call → IsAccepted (journal ++ more) call
  accepted_still call was = record {
    placed = was.placed;
    stands = Contains-append_left journal more was.placed was.stands;
    call_is = was.call_is;
    accepted = was.accepted;
  }

  pub asked_still : (last : Option LastCall) (call : Call) → WasAsked last journal call → WasAsked last (journal ++ more) call
  asked_still = asked_by_other journal (journal ++ more) accepted_still

  -- ---- messages

  -- a Reply names the same record
  told_still : (client : ℕ) (reply : Reply) (outcome : Outcome) → IsRecordAt journal client reply outcome → IsRecordAt (journal ++ more) client reply outcome
  told_still client reply outcome fits = grind (arith, slice_get_front)

  pub says_still : (to : Node) (body : Body) → Says journal to body → Says (journal ++ more) to body
  says_still = says_by journal (journal ++ more) told_still

  -- a Request is of a call that was asked
  pub request_says_still : (asked : ℕ → Option LastCall) (from : Node) (body : Body) → RequestSays asked journal from body → RequestSays asked (journal ++ more) from body
  request_says_still asked =
      request_says_by asked asked journal (journal ++ more) (request_by_other journal (journal ++ more) accepted_still asked)

  pub is_request_still : (asked : ℕ → Option LastCall) (client : ℕ) (from : Node) (body : Body) → IsRequest asked journal client from body → IsRequest asked (journal ++ more) client from body
  is_request_still asked =
      is_request_by asked asked journal (journal ++ more) (request_by_other journal (journal ++ more) accepted_still asked)
