-- What is done with a call, at the tablet that is served here and has its key.
use Rattle.rk_master.proofs.Words.{arith, ◌≡◌, ℕ, true, false, List, Option, Some, option_map, option_copied, find, Call, newest, items_of}
use Rattle.rk_master.proofs.Words.{Tablet, Master, serves_key, TabletLane, tablet_of, tablets_of, choice_of, fresh_choice}
use denote.Ref.{Bor}
use Rattle.rk_model.specs.Merged.{is_mutation}
use Rattle.rk_table.specs.Items.{found}
use Rattle.rk_done.specs.Completions.{look}
use Rattle.rk_world.specs.Master.{serving}
use Rattle.rk_world.specs.Requests.{mutation_choice}

-- a row of the tablets that is lent
abbrev Row : Type 0
Row = ℕ × TabletLane

-- the tablet that a search found is the tablet that is served
pub served_found : (master : Master) (rows lent : List Row) (table : ℕ) (key : List ℕ) (result : Option (Bor Row)) (row : Bor Row)
    → master.tablets ≡ tablets_of rows → lent ≡ rows
    → option_map (λ entry. (entry.0, tablet_of entry.1)) (option_copied result) ≡ find (λ entry. serves_key table key entry.1) (tablets_of lent)
    → result ≡ Some row → serving master table key ≡ Some (row.now.0, tablet_of row.now.1)
served_found master rows lent table key result row tablets_are lent_is searched is =
    grind (arith, serves_key, tablets_of, tablet_of, option_copied)

-- a mutation
pub mutation_chosen : (master : Master) (call : Call) (number : ℕ) (tablet : Tablet) → serving master call.table call.key ≡ Some (number, tablet) → is_mutation call.op ≡ true
    → mutation_choice master number tablet call (look tablet.completions call.client call.seq) ≡ choice_of master call
mutation_chosen master call number tablet served mutates = grind (arith, fresh_choice, newest, items_of)

-- a read
pub read_chosen : (master : Master) (call : Call) (number : ℕ) (tablet : Tablet) → serving master call.table call.key ≡ Some (number, tablet) → is_mutation call.op ≡ false
    → fresh_choice number tablet call (found call.table call.key master.records) ≡ choice_of master call
read_chosen master call number tablet served reads = grind (arith, fresh_choice, newest, items_of)
