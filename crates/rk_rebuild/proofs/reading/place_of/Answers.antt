use Rattle.rk_rebuild.proofs.Words.{false, [], length, sym, ap, ◌∙◌, arith, eq-eqb, ReadLog, is_by}
use Rattle.std.proofs.lemmas.List.Sums.{position_or_len_is}
use Rattle.rk_rebuild.proofs.reading.place_of.Goals as goal

-- a default log
abbrev other : ReadLog
other = record { master = 0; main = []; main_read = false; sides = [] }

pub returns-then-log-master : goal.returns-then-log-master
returns-then-log-master c =
    let log = c.index-logs-place.result in
    sym (position_or_len_is (is_by c.args.master) c.args.logs.now c.loop-place.place log (omega arith)
    (λ k before. c.loop-place.invariant k log before)
    (λ within. ap (is_by c.args.master) (sym c.index-logs-place.is) ∙ eq-eqb log.master c.args.master c.if-log-master.true))

pub returns : goal.returns
returns c =
    sym (position_or_len_is (is_by c.args.master) c.args.logs.now (length c.args.logs.now) other (omega arith)
    (λ k before. c.loop-place.invariant k other (omega arith))
    (λ within. absurd (omega arith)))
