-- What a master makes of a message or of its turn, and work that goes on after other work.
use Rattle.std.specs.Prelude.{List, [], ◌∷◌, ◌++◌}
use Rattle.rk_types.specs.declared.node.Node.{Node}
use Rattle.rk_types.specs.declared.node.Node.TheVariants as nodes
use Rattle.rk_message.specs.declared.message.Body.{Body}
use Rattle.rk_message.specs.declared.message.Message.{Message}
use Rattle.rk_world.specs.declared.work.Served.{Served}
use Rattle.rk_world.specs.declared.work.Mark.{Mark}
use Rattle.rk_world.specs.Master.{Master}

-- what a master makes of a message or of its turn: the master after it, what it sends, the calls that it served
-- (reads at once, mutations once they are applied), and the piece of its log that a rebuild made
pub record Worked : Type 0 where
  pub master : Master
  pub sends : List Message
  pub served : List Served
  pub marked : List Mark

-- the master is so now, and sends nothing
abbrev pub changed : Master → Worked
changed master = record { master = master; sends = []; served = []; marked = [] }

-- the master changes and sends a message
abbrev pub sending : Master → Message → Worked
sending master message = record { master = master; sends = message ∷ []; served = []; marked = [] }

-- work that goes on after other work
abbrev pub then_works : Worked → (Master → Worked) → Worked
then_works first next =
    let later = next first.master in
    record {
      master = later.master;
      sends = first.sends ++ later.sends;
      served = first.served ++ later.served;
      marked = first.marked ++ later.marked;
    }

-- a message from this master
abbrev pub from_master : Master → Node → Body → Message
from_master master to body = record { from = nodes.Master master.number; to = to; body = body }
