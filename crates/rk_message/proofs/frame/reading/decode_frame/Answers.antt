use Rattle.std.proofs.Common.{ℕ, List, Ok, ap, ◌∙◌, sym, arith}
use Rattle.std.proofs.lemmas.Result.{err_from_is_err_and}
use Rattle.rk_entry.proofs.Readings.{fails_only, reads_only}
use Rattle.rk_message.specs.Frames.{frame_bytes, read_frame}
use Rattle.rk_message.proofs.FrameLaws.{frame_again, frame_shorter, rest_after, stands_first}
use Rattle.rk_message.proofs.frame.reading.decode_frame.Goals as goal

pub returns-in_err-message-clause-only : goal.returns-in_err-message-clause-only
returns-in_err-message-clause-only c = λ message rest lawful is.
    let p = err_from_is_err_and c.from_residual.result c.from_residual.ensures.1 in
    rw (p.1, p.2) (fails_only read_frame c.in_err-message.field-0.0 c.args.bytes.now (frame_bytes message) message rest c.in_err-message.ensures (frame_again message rest lawful) is)

pub overflow_sub-result : goal.overflow_sub-result
overflow_sub-result c = frame_shorter c.args.bytes.now c.in_ok-message.message c.in_ok-message.rest.now c.in_ok-message.ensures

pub returns-clause-found : goal.returns-clause-found
returns-clause-found c = stands_first c.args.bytes.now c.in_ok-message.message c.in_ok-message.rest.now (λ i. omega (arith, c.type_inv.bytes i)) c.in_ok-message.ensures

pub returns-clause-only : goal.returns-clause-only
returns-clause-only c = λ message rest lawful is.
    reads_only read_frame c.args.bytes.now (frame_bytes message) c.in_ok-message.message message c.in_ok-message.rest.now rest c.in_ok-message.ensures (frame_again message rest lawful) is

pub returns-clause-exact : goal.returns-clause-exact
returns-clause-exact c =
    c.in_ok-message.ensures
    ∙ ap (λ (rest : List ℕ). Ok (c.in_ok-message.message, rest)) (sym (rest_after c.args.bytes.now c.in_ok-message.message c.in_ok-message.rest.now c.in_ok-message.ensures))
