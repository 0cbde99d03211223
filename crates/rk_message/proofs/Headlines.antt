-- The laws of messages and their frames.
use Rattle.std.specs.Prelude.{◌≡◌, ◌++◌, List, ℕ, length, Ok}
use Rattle.rk_message.specs.declared.message.Message.{Message}
use Rattle.rk_message.specs.Frames.{frame_bytes, frame_len, IsLawfulMessage, read_frame}

-- Each message has one spelling, and no spelling begins another: bytes that begin with two spellings begin with one.
pub one_frame : (a b : Message) (x y : List ℕ) → IsLawfulMessage a → IsLawfulMessage b → frame_bytes a ++ x ≡ frame_bytes b ++ y
    → (a ≡ b) × (x ≡ y)
one_frame = Rattle.rk_message.proofs.FrameLaws.one_framed

-- What is spelled is read again, whatever follows it, and its spelling takes as many bytes as are counted.
pub frame_round_trip : (message : Message) (rest : List ℕ) → IsLawfulMessage message
    → read_frame (frame_bytes message ++ rest) ≡ Ok (message, rest)
frame_round_trip = Rattle.rk_message.proofs.FrameLaws.frame_again

pub frame_length_is_counted : (message : Message) → length (frame_bytes message) ≡ frame_len message
frame_length_is_counted = Rattle.rk_message.proofs.FrameLaws.length-frame_bytes
