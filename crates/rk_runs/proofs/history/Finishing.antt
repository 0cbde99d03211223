-- In a run a row that moves comes to be owned by an event that finishes its migration.
use Rattle.std.proofs.Common.{arith, ◌≡◌, ℕ, Some, None, sym, subst, ◌∙◌, Ok}
use Rattle.rk_inv_base.proofs.Words.{get, Member, Node, row_of, Moving, Owned, Row, Message, Called, Gave, refusal, Stepped, delivered}
use Rattle.rk_inv_base.proofs.Words.{delivered_to, happened, step, stepped_by, World, Event, IsSound}
use Rattle.rk_inv_lanes.proofs.Below.{finishes, only_joined}
use Rattle.rk_runs.specs.history.Runs.{IsFinishedBy}

-- what a replica answers changes nothing of a delivery to the coordinator
any_answer : (w : World) (number : ℕ) (message : Message) (called : Called) → get w.wire.messages number ≡ Some message → message.to ≡ Node.Coordinator → step w (Event.Deliver number) called ≡ step w (Event.Deliver number) (Gave None)
any_answer w number message called there for_coordinator = grind (arith, refusal, happened, delivered_to, delivered, stepped_by)

pub finished_by : (w : World) (event : Event) (called : Called) (stepped : Stepped) (row now : Row) (source target : Member) (owner from : ℕ) → IsSound w → row_of w.coordinator.rows row.tablet ≡ Some row
    → row.phase ≡ Moving source.master source.from target.master target.from → step w event called ≡ Ok stepped
    → row_of stepped.world.coordinator.rows row.tablet ≡ Some now → now.phase ≡ Owned owner from
    → IsFinishedBy w event stepped row source target
finished_by w event called stepped row now source target owner from sound found moving is now_found owned =
    let told = only_joined w row source target sound found moving event called stepped now owner from is now_found owned in
    let delivers : step w (Event.Deliver told.number) called ≡ Ok stepped = subst (λ (e : Event). step w e called ≡ Ok stepped) told.event_is is in
    record {
      number = told.number;
      event_is = told.event_is;
      finishes =
          finishes w told.number told.told.message row source target sound found moving told.heard told.told.there told.told.to told.told.body stepped
          (sym (any_answer w told.number told.told.message called told.told.there told.told.to) ∙ delivers);
    }
