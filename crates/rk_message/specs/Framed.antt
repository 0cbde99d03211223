-- The message that bytes spell.
use Rattle.std.specs.Prelude.{◌≡◌, ℕ, List, Result, Ok, Err}
use Rattle.rk_types.specs.declared.node.Node.{Node}
use Rattle.rk_types.specs.declared.node.Node.TheVariants.{Coordinator}
use Rattle.rk_entry.specs.declared.error.DecodeError.{DecodeError}
use Rattle.rk_message.specs.declared.kind.Kind.{Kind}
use Rattle.rk_message.specs.declared.message.Message.{Message}
use Rattle.rk_message.specs.declared.message.Body.TheVariants.{Own}
use Rattle.rk_message.specs.Kinds.{kind_of}
use Rattle.rk_message.specs.Frames.{IsLawfulMessage, frame_bytes, read_frame}

-- the message that was read; if none was, a message that says nothing
abbrev pub message_in : Result (Message × List ℕ) DecodeError → Message
message_in (Ok read) = read.0
message_in (Err _) = record { from = Coordinator; to = Coordinator; body = Own (record { tablet = 0; term = 0 }) }

-- the message that these bytes spell
unfoldable pub spelled : List ℕ → Message
spelled bytes = message_in (read_frame bytes)

-- these bytes are the frame of a lawful message of this kind to this receiver
pub record IsFrame (to : Node) (kind : Kind) (bytes : List ℕ) : Type 0 where
  pub lawful : IsLawfulMessage (spelled bytes)
  pub bytes_are : bytes ≡ frame_bytes (spelled bytes)
  pub to_is : to ≡ (spelled bytes).to
  pub kind_is : kind ≡ kind_of (spelled bytes).body
