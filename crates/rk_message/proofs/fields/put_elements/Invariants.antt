use Rattle.std.proofs.Common.{take}
use Rattle.std.specs.List.{sum_by}
use Rattle.rk_entry.specs.Numbers.{Gains}
use Rattle.rk_message.specs.Fields.{elements_bytes}
use Rattle.rk_message.proofs.fields.put_elements.Given as goal

-- the elements so far are at the end
abbrev pub invariant-elements : goal.invariant-elements
invariant-elements g l = Gains l.fn.into l.into (elements_bytes g.T.Element.spelled (take l.element-index l.elements)) (sum_by g.T.Element.count (take l.element-index l.elements))
