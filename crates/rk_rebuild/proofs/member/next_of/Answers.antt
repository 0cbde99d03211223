use Rattle.rk_rebuild.proofs.Words.{sym, ◌∙◌, KnowsNamed}
use Rattle.rk_rebuild.proofs.Logs.{next_here, next_behind, stands_has}
use Rattle.rk_rebuild.proofs.member.next_of.Goals as goal

pub returns-in-Some : goal.returns-in-Some
returns-in-Some c = λ range knows.
    let reader = c.reader-item.result in
    let known = stands_has (KnowsNamed range c.args.logs.now) c.args.readers.now c.loop-reader.reader-index reader knows c.loop-reader-test.true c.reader-item.is in
    next_here range c.args.logs.now c.args.readers.now c.loop-reader.reader-index c.in-Some.segment reader c.loop-reader-test.true c.reader-item.is (c.in-Some.ensures range known)
    ∙ sym (c.loop-reader.invariant range knows)

pub loop-reader-preserved : goal.loop-reader-preserved
loop-reader-preserved c = λ range knows.
    let reader = c.reader-item.result in
    let known = stands_has (KnowsNamed range c.args.logs.now) c.args.readers.now c.loop-reader.reader-index reader knows c.loop-reader-test.true c.reader-item.is in
    c.loop-reader.invariant range knows
    ∙ next_behind range c.args.logs.now c.args.readers.now c.loop-reader.reader-index reader c.loop-reader-test.true c.reader-item.is (c.in_default.ensures range known)
