-- The last requests of clients, as a lane keeps them.
use Rattle.std.specs.Prelude.{⊤}
use Rattle.rk_types.specs.NumberMap.{EachIn, NumberMap}
use Rattle.rk_types.specs.declared.node.Node.{Node}
use Rattle.rk_types.specs.declared.node.Node.TheVariants as nodes
use Rattle.rk_message.specs.declared.message.Message.{Message}

-- a node is a master
abbrev pub IsOfMaster : Node → Type 0
IsOfMaster (nodes.Master master) = ⊤
IsOfMaster node = ⊥

-- each request is for a master
abbrev pub AreForMasters : NumberMap Message → Type 0
AreForMasters requests = EachIn (λ client request. IsOfMaster request.to) requests
