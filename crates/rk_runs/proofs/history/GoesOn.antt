-- What an event makes of a lane: its journal gets more records at most, none of which is accepted, and what clients asked stays.
use Rattle.std.proofs.Common.{arith, ◌≡◌, ℕ, false, List, [], ◌∷◌, ◌++◌, Option, Some, None, refl, ap, ◌∙◌, append-nil, append_assoc}
use Rattle.std.proofs.Common.{filter, fold, is_some, not, unwrap_or, All}
use Rattle.rk_inv_base.proofs.Words.{All-append, All-cons, All-nil, get, Call, Ended, Outcome, Placed, row_of, Row, Rebuilt, Called}
use Rattle.rk_inv_base.proofs.Words.{Coordinator, is_noticed, coordinator_step, next_record, Ledger, asked_by, seen_of, with_all_served}
use Rattle.rk_inv_base.proofs.Words.{with_client, with_ends, with_marks, with_rebuilt, with_record, master_step, master_turn, migrating}
use Rattle.rk_inv_base.proofs.Words.{row_migrated, notice_one, notice_order, rows_split_of, happened, ledger_after, seen_in, worked_at}
use Rattle.rk_inv_base.proofs.Words.{Worked, World, crashed_masters, master_at, Event, LastCall, Mark, Served}
use Rattle.rk_world.specs.Ledger.{with_end, with_served}
use Rattle.rk_inv_wellformed.proofs.lanes.Ledgers.{ended_is, kept_by_fold, served_is}
use Rattle.rk_inv_base.proofs.calls.Come.{asked_same}
use Rattle.rk_inv_lanes.proofs.lanes.Events.{Covers, event_covered}
use Rattle.rk_inv_lanes.proofs.lanes.Reports.{IsMade, told_made}

-- ---- ledgers

-- a journal with more records at most, none of which is accepted; what a client asked last is as it was
pub record Grows (client : ℕ) (before after : Ledger) : Type 0 where
  pub more : List Placed
  pub journal_is : after.journal ≡ before.journal ++ more
  pub unaccepted : All (λ placed. placed.accepted ≡ false) more
  pub asked : asked_by after client ≡ asked_by before client

module _ (client : ℕ) where
  -- a ledger with the same journal and the same calls
  pub same_ledger : (before after : Ledger) → after.journal ≡ before.journal → asked_by after client ≡ asked_by before client → Grows client before after
  same_ledger before after journal asked = grind (arith, append-nil)

  -- one more record
  recorded : (start ledger : Ledger) (call : Call) (outcome : Outcome) (seen : ℕ) → Grows client start ledger → Grows client start (with_record ledger call outcome seen)
  recorded start ledger call outcome seen grows =
      let new : List Placed = next_record ledger.journal call outcome seen ∷ [] in
      record {
        more = grows.more ++ new;
        journal_is = ap (λ (list : List Placed). list ++ new) grows.journal_is ∙ append_assoc start.journal grows.more new;
        unaccepted =
            All-append (λ (placed : Placed). placed.accepted ≡ false) grows.more new grows.unaccepted
            (All-cons (λ (placed : Placed). placed.accepted ≡ false) (next_record ledger.journal call outcome seen) [] refl (All-nil _));
        asked = grows.asked;
      }

  one_served : (start ledger : Ledger) (seen : ℕ) (served : Served) → Grows client start ledger → Grows client start (with_served seen ledger served)
  one_served start ledger seen served grows = grind (arith, served_is, recorded, seen_of, asked_by)

  marked : (start ledger : Ledger) (marks : List Mark) → Grows client start ledger → Grows client start (record ledger { marks = marks })
  marked start ledger marks grows = grind arith

  worked_grows : (ledger : Ledger) (master seen : ℕ) (worked : Worked) → Grows client ledger (ledger_after ledger master seen worked)
  worked_grows ledger master seen worked =
      let served : Ledger = with_all_served seen ledger worked.served in
      marked ledger served (with_marks served worked.marked).marks
      (kept_by_fold (Grows client ledger) (with_served seen) (λ state one grows. one_served ledger state seen one grows) worked.served ledger
      (same_ledger ledger ledger refl refl))

  one_ended : (start ledger : Ledger) (end : Ended) → Grows client start ledger → Grows client start (with_end ledger end)
  one_ended start ledger end grows = grind (arith, ended_is, recorded)

  rebuilt_grows : (ledger : Ledger) (rebuilt : Option Rebuilt) → Grows client ledger (with_rebuilt ledger rebuilt)
  rebuilt_grows ledger None = same_ledger ledger ledger refl refl
  rebuilt_grows ledger (Some rebuilt) =
      marked ledger (with_ends ledger rebuilt.ends) (with_rebuilt ledger (Some rebuilt)).marks
      (kept_by_fold (Grows client ledger) with_end (λ state end grows. one_ended ledger state end grows) rebuilt.ends ledger
      (same_ledger ledger ledger refl refl))

-- ---- coordinators

-- a coordinator has as many masters as before
masters_stay : (coordinator : Coordinator) → IsMade (λ body made. made.coordinator.masters ≡ coordinator.masters) coordinator
masters_stay coordinator = grind arith

migrated_keeps : (coordinator : Coordinator) (found : Option Row) (to : ℕ) → (row_migrated coordinator found to).masters ≡ coordinator.masters
migrated_keeps coordinator found to = grind (arith, migrating)

noticed_keeps : (count : ℕ) (list : List ℕ) (coordinator : Coordinator) → coordinator.masters ≡ count → (fold notice_one coordinator list).masters ≡ count
noticed_keeps count list coordinator is =
    kept_by_fold (λ (c : Coordinator). c.masters ≡ count) notice_one (λ state dead keeps. keeps) list coordinator is

rows_keep : (coordinator : Coordinator) (found : Option Row) (at new : ℕ) → (rows_split_of coordinator found at new).masters ≡ coordinator.masters
rows_keep coordinator None at new = refl
rows_keep coordinator (Some row) at new = refl

-- ---- lanes

-- a lane after something: its number, its start and its masters are as they were, and its ledger goes on
pub record GoesOn (before after : World) : Type 0 where
  pub lane_is : after.lane ≡ before.lane
  pub base_is : after.base ≡ before.base
  pub masters_are : after.coordinator.masters ≡ before.coordinator.masters
  pub ledger : (client : ℕ) → Grows client before.ledger after.ledger

module _ (w : World) where
  -- what changed is not among these
  pub as_it_was : (after : World) → after.lane ≡ w.lane → after.base ≡ w.base → after.coordinator.masters ≡ w.coordinator.masters → after.ledger ≡ w.ledger → GoesOn w after
  as_it_was after lane base masters ledger = grind (arith, same_ledger, asked_by)

  worked_on : (master seen : ℕ) (worked : Worked) → GoesOn w (worked_at w master seen worked).world
  worked_on master seen worked = search worked_grows

-- a client that is not there asked nothing before
never_asked : (found : Option (Option LastCall)) → is_some found ≡ false → unwrap_or found None ≡ None
never_asked None new = refl
never_asked (Some last) new = absurd (cc new)

module _ (w : World) (event : Event) (called : Called) where
  goes_on : Covers (GoesOn w) w event called
  goes_on = record {
    quiet = λ backups may. as_it_was w _ refl refl refl refl;
    steps = λ number master message is found to lives.
        worked_on w master (seen_in message.body) (master_step (master_at w master) message);
    turns = λ master. worked_on w master 0 (master_turn (master_at w master));
    hears = λ message. record {
      lane_is = refl;
      base_is = refl;
      masters_are = told_made (masters_stay w.coordinator) message.from message.body;
      ledger = λ client. rebuilt_grows client w.ledger (coordinator_step w.coordinator message).rebuilt;
    };
    duties = as_it_was w _ refl refl refl refl;
    answers = λ backup sender body backups may. as_it_was w _ refl refl refl refl;
    again = λ client message found. as_it_was w _ refl refl refl refl;
    adds = λ tablet range master is. as_it_was w _ refl refl refl refl;
    comes = λ client is new. record {
      lane_is = refl;
      base_is = refl;
      masters_are = refl;
      ledger = λ c. same_ledger c w.ledger (with_client w.ledger client) refl
          (asked_same w.ledger client (never_asked (get w.ledger.clients client) new) c);
    };
    forgets = λ number is. as_it_was w _ refl refl refl refl;
    moves = λ tablet to. as_it_was w _ refl refl (migrated_keeps w.coordinator (row_of w.coordinator.rows tablet) to) refl;
    parts = λ tablet at new. as_it_was w _ refl refl (rows_keep w.coordinator (row_of w.coordinator.rows tablet) at new) refl;
    splits = λ tablet at new number master term.
        as_it_was w _ refl refl (rows_keep w.coordinator (row_of w.coordinator.rows tablet) at new) refl;
    crashes = λ master is. as_it_was w _ refl refl refl refl;
    notices = λ master. as_it_was w _ refl refl
        (noticed_keeps w.coordinator.masters
        (notice_order w.coordinator.rows master (filter (λ other. not (is_noticed w.coordinator other)) (crashed_masters w)))
        w.coordinator refl) refl;
  }

  -- an event leaves a lane's number, start and masters, and its ledger goes on
  pub event_goes_on : GoesOn w (happened w event called).world
  event_goes_on = event_covered goes_on
