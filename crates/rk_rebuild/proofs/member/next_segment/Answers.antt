use Rattle.rk_rebuild.proofs.Words.{◌≡◌, ◌<◌, length, sym, ap, arith, ◌+◌, Bool, true, cond, Option, Some, drop, ◌∙◌, subst, find, Gathered}
use Rattle.rk_rebuild.proofs.Words.{ReadLog, Reader, gathered_of, is_unread}
use Rattle.rk_world.specs.Gather.{next_segment, next_side}
use Rattle.rk_rebuild.specs.Logs.{IsUpTo}
use Rattle.rk_rebuild.proofs.Logs.{find_behind, short_found}
use Rattle.rk_rebuild.proofs.member.next_segment.Goals as goal

pub overflow_cast-result : goal.overflow_cast-result
overflow_cast-result c =
    let short : length c.in-Some.log.now.main < 2147483648 = short_found c.args.logs.now c.args.reader.now.member.master c.in-Some.log.now c.requires (sym c.in-Some.ensures) in
    let same : length c.as_slice-2.result.now ≡ length c.in-Some.log.now.main = ap length c.as_slice-2.ensures in
    omega arith

pub overflow_add-result : goal.overflow_add-result
overflow_add-result c =
    let short : length c.in-Some.log.now.main < 2147483648 = short_found c.args.logs.now c.args.reader.now.member.master c.in-Some.log.now c.requires (sym c.in-Some.ensures) in
    let same : length c.as_slice-2.result.now ≡ length c.in-Some.log.now.main = ap length c.as_slice-2.ensures in
    omega arith

pub returns-then-log : goal.returns-then-log
returns-then-log c = λ range knows.
    let reader : Reader = c.args.reader.now in
    let log : ReadLog = c.in-Some.log.now in
    let here : Gathered = gathered_of (Some log) reader.member in
    let up : IsUpTo range here reader.named reader.done =
    subst
    (λ (o : Option ReadLog). (gathered_of o reader.member).main_read ≡ true → IsUpTo range (gathered_of o reader.member) reader.named reader.done)
    (sym c.in-Some.ensures) knows c.if-log.true in
    c.next_side.ensures
    ∙ ap (find (is_unread log.sides)) (c.left_of.ensures ∙ ap (drop reader.done) c.as_slice.ensures)
    ∙ find_behind (is_unread log.sides) reader.named reader.done up.before
    ∙ ap (find (is_unread log.sides)) up.named
    ∙ sym (ap (λ (b : Bool). cond b (next_side range here) (Some (length log.main + 1))) c.if-log.true)
    ∙ ap (λ (o : Option ReadLog). next_segment range (gathered_of o reader.member)) c.in-Some.ensures
