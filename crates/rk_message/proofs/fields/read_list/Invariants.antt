use Rattle.std.proofs.Common.{◌≡◌, ◌-◌}
use Rattle.rk_message.specs.Fields.{read_list}
use Rattle.rk_message.proofs.Loops.{behind}
use Rattle.rk_message.proofs.fields.read_list.Given as goal

-- what is still to be read completes what was read to all
abbrev pub invariant-elements : goal.invariant-elements
invariant-elements g l = behind l.elements (read_list g.T.Element.read_as (l.count - l.counter) l.rest) ≡ read_list g.T.Element.read_as l.count l.bytes
