-- The kinds of messages that work in a lane looks for.
use Rattle.std.specs.Prelude.{Bool}
use Rattle.rk_message.specs.declared.message.Message.{Message}
use Rattle.rk_attempts.specs.Wires.{has_records, is_for_node, is_for_turn, is_to_client}
use Rattle.rk_attempts.specs.declared.selection.Selection.{Selection}
use Rattle.rk_attempts.specs.declared.selection.Selection.TheVariants as selections

-- whether a message is of this kind
abbrev pub is_selected : Selection → Message → Bool
is_selected (selections.ToClient client) message = is_to_client client message
is_selected selections.ForNode message = is_for_node message
is_selected selections.ForTurn message = is_for_turn message
is_selected selections.WithRecords message = has_records message
