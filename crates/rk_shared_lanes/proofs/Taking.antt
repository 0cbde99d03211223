-- Lanes and sessions that are taken out of their locks and passes, one after the other.
use Rattle.rk_shared_lanes.proofs.Words.{◌≡◌, ◌^◌, ◌<◌, ◌≤◌, ℕ, ◌+◌, List, [], ◌∷◌, ◌++◌, length, sym, ap, ◌∙◌, arith, Option, All}
use Rattle.rk_shared_lanes.proofs.Words.{All-push, sum_by_push, Call, LANES, Segments, Session, MayAct, LaneState, waiting, Counts}
use Rattle.rk_shared_lanes.proofs.Words.{accepted_count, IsOrderly, HasCountedCalls, IsNoneBelow, IsSoundOrSpent, MakesOnly}
use Rattle.rk_shared_lanes.proofs.Words.{AllSoundOrSpent, IsOfRoster, powers_of}
use Rattle.std.proofs.Common.{length-append}
use Rattle.rk_shared_lanes.specs.Together.{AllCounted, AllOrderly, accepted_of, asked_of, calls_of, receipts_of}

-- the amount of shares of some lanes
pub record IsSum (share : ℕ × ℕ) (parts amount : ℕ) : Type 0 where
  pub parts_are : share.0 ≡ parts
  pub amount_is : share.1 ≡ amount

module _ {R : Type 0} (segments : R → Option Segments) (faults : R → ℕ) (tells : Type 0) (masters backups : ℕ) (clients : List ℕ) (counts : Counts) where
  -- lanes that were taken out of their locks, beside the shares of all of them
  pub record AreTaken (lanes : List (LaneState R)) (accepted asked number : ℕ × ℕ) : Type 0 where
    pub accepted_parts : accepted.0 ≡ length lanes
    pub accepted_is : tells → accepted.1 ≡ accepted_of lanes
    pub asked_is : IsSum asked (length lanes) (asked_of lanes)
    pub number_is : IsSum number (length lanes) (powers_of lanes)
    pub few : All (λ lane. lane.number < LANES) lanes
    pub roster : All (IsOfRoster masters backups clients) lanes
    pub none_below : All (IsNoneBelow faults counts) lanes
    pub counted : tells → AllCounted lanes
    pub sound : tells → AllSoundOrSpent segments lanes

  pub none_taken : (accepted asked number : ℕ × ℕ) → (accepted.0 ≡ 0) × (accepted.1 ≡ 0) → (asked.0 ≡ 0) × (asked.1 ≡ 0) → (number.0 ≡ 0) × (number.1 ≡ 0)
      → AreTaken [] accepted asked number
  none_taken accepted asked number a b c = grind arith

  pub one_more_taken : (lanes : List (LaneState R)) (lane : LaneState R) (accepted asked number accepted_now asked_now number_now : ℕ × ℕ)
      → (accepted_now.0 ≡ accepted.0 + 1) × (tells → accepted_now.1 ≡ accepted.1 + accepted_count lane.ledger)
      → (asked_now.0 ≡ asked.0 + 1) × (asked_now.1 ≡ asked.1 + lane.ledger.asked)
      → (number_now.0 ≡ number.0 + 1) × (number_now.1 ≡ number.1 + 9 ^ lane.number)
      → lane.number < LANES → IsOfRoster masters backups clients lane → IsNoneBelow faults counts lane → (tells → HasCountedCalls lane.ledger) → (tells → IsSoundOrSpent segments lane)
      → AreTaken lanes accepted asked number → AreTaken (lanes ++ lane ∷ []) accepted_now asked_now number_now
  one_more_taken lanes lane accepted asked number accepted_now asked_now number_now a b c few roster above counted sound it =
      let long : length (lanes ++ lane ∷ []) ≡ length lanes + 1 = length-append lanes (lane ∷ []) in
      let asked_sum = sum_by_push (λ (l : LaneState R). l.ledger.asked) lanes lane in
      let power_sum = sum_by_push (λ (l : LaneState R). 9 ^ l.number) lanes lane in
      let accepted_sum = sum_by_push (λ (l : LaneState R). accepted_count l.ledger) lanes lane in
      record {
        accepted_parts = a.0 ∙ ap (λ (n : ℕ). n + 1) it.accepted_parts ∙ sym long;
        accepted_is = λ told. a.1 told ∙ ap (λ (n : ℕ). n + accepted_count lane.ledger) (it.accepted_is told) ∙ sym accepted_sum;
        asked_is = record {
          parts_are = b.0 ∙ ap (λ (n : ℕ). n + 1) it.asked_is.parts_are ∙ sym long;
          amount_is = b.1 ∙ ap (λ (n : ℕ). n + lane.ledger.asked) it.asked_is.amount_is ∙ sym asked_sum;
        };
        number_is = record {
          parts_are = c.0 ∙ ap (λ (n : ℕ). n + 1) it.number_is.parts_are ∙ sym long;
          amount_is = c.1 ∙ ap (λ (n : ℕ). n + 9 ^ lane.number) it.number_is.amount_is ∙ sym power_sum;
        };
        few = All-push (λ (l : LaneState R). l.number < LANES) lanes lane it.few few;
        roster = All-push (IsOfRoster masters backups clients) lanes lane it.roster roster;
        none_below = All-push (IsNoneBelow faults counts) lanes lane it.none_below above;
        counted = λ told. All-push (λ (l : LaneState R). HasCountedCalls l.ledger) lanes lane (it.counted told) (counted told);
        sound = λ told. All-push (IsSoundOrSpent segments) lanes lane (it.sound told) (sound told);
      }

module _ (tells : Type 0) (masters : ℕ) (makes : Call → Type 0) where
  -- sessions that were taken out of their passes, beside the shares of all of them
  pub record AreReturned (sessions : List Session) (got made : ℕ × ℕ) : Type 0 where
    pub got_is : IsSum got (length sessions) (receipts_of sessions)
    pub made_parts : made.0 ≡ length sessions
    pub made_is : made.1 ≤ calls_of sessions
    pub acts : All (MayAct masters) sessions
    pub orderly : tells → AllOrderly sessions
    pub calls : tells → All (MakesOnly makes) sessions

  pub one_more_returned : (sessions : List Session) (session : Session) (got made got_now made_now : ℕ × ℕ)
      → (got_now.0 ≡ got.0 + 1) × (got_now.1 ≡ got.1 + length session.receipts)
      → (made_now.0 ≡ made.0 + 1) × (made_now.1 ≤ made.1 + (length session.receipts + waiting session.outstanding))
      → MayAct masters session → (tells → IsOrderly session.client session) → (tells → MakesOnly makes session)
      → AreReturned sessions got made → AreReturned (sessions ++ session ∷ []) got_now made_now
  one_more_returned sessions session got made got_now made_now a b acts orderly calls it =
      let long : length (sessions ++ session ∷ []) ≡ length sessions + 1 = length-append sessions (session ∷ []) in
      let got_sum = sum_by_push (λ (s : Session). length s.receipts) sessions session in
      let made_sum = sum_by_push (λ (s : Session). length s.receipts + waiting s.outstanding) sessions session in
      let before = it.made_is in
      let now = b.1 in
      record {
        got_is = record {
          parts_are = a.0 ∙ ap (λ (n : ℕ). n + 1) it.got_is.parts_are ∙ sym long;
          amount_is = a.1 ∙ ap (λ (n : ℕ). n + length session.receipts) it.got_is.amount_is ∙ sym got_sum;
        };
        made_parts = b.0 ∙ ap (λ (n : ℕ). n + 1) it.made_parts ∙ sym long;
        made_is = omega (arith, before, now, made_sum);
        acts = All-push (MayAct masters) sessions session it.acts acts;
        orderly = λ told. All-push (λ (s : Session). IsOrderly s.client s) sessions session (it.orderly told) (orderly told);
        calls = λ told. All-push (MakesOnly makes) sessions session (it.calls told) (calls told);
      }
