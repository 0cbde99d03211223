-- The frame of a lawful message spells it.
use Rattle.std.proofs.Common.{◌≡◌, ℕ, List, [], refl, ap, sym, ◌∙◌, append-nil}
use Rattle.rk_message.specs.declared.message.Message.{Message}
use Rattle.rk_message.specs.Kinds.{kind_of}
use Rattle.rk_message.specs.Frames.{IsLawfulMessage, frame_bytes, read_frame}
use Rattle.rk_message.specs.Framed.{IsFrame, message_in, spelled}
use Rattle.rk_message.proofs.FrameLaws.{frame_again}

pub spelled_again : (message : Message) → IsLawfulMessage message → spelled (frame_bytes message) ≡ message
unfolding spelled
spelled_again message lawful =
    ap (λ (bytes : List ℕ). message_in (read_frame bytes)) (sym (append-nil (frame_bytes message))) ∙ ap message_in (frame_again message [] lawful)

pub framed : (message : Message) → IsLawfulMessage message → IsFrame message.to (kind_of message.body) (frame_bytes message)
framed message lawful =
    let is = spelled_again message lawful in
    record { lawful = rw is lawful; bytes_are = rw is refl; to_is = rw is refl; kind_is = rw is refl }
