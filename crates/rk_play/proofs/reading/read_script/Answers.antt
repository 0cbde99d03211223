-- A script that is not too long was fed whole when the source is at its end, and only then it is refused.
use Rattle.rk_play.proofs.Words.{◌≡◌, ◌++◌, take, sym, ap, subst, ◌∙◌, arith, length-append, Ok, Err, Consumes-trans, err_from_is_err_and}
use Rattle.rk_play.proofs.Words.{WasFed, ScriptLength, ParseError, Says, script_error_by}
use Rattle.std.proofs.Common.{length-take}
use Rattle.rk_script.specs.declared.script.ParseError.TheVariants as of_script
use Rattle.rk_play.specs.declared.reading.ScriptError.TheVariants as errors
use Rattle.rk_play.proofs.Feeding.{reads_few, reads_on, reads_too_long, reads_whole, refusal_from}
use Rattle.rk_play.proofs.reading.read_script.Goals as goal

pub pieces-preserved : goal.pieces-preserved
pieces-preserved g c =
    let reads = c.pieces.invariant.reads in
    record {
      reads =
          reads_on _ _ _ _ reads c.feed.new.self _ c.in_ok-count.ensures.bytes.0 (c.feed.ensures.fed reads.fed reads.was_fed)
          (λ over. absurd (cc (sym c.in_ok-feed.was ∙ c.feed.ensures.long.1 over)));
      kept = c.in_ok-count.ensures.cause.kept ∙ c.pieces.invariant.kept;
      piece = omega arith;
    }

pub returns-then-count-eq0-clause-ok : goal.returns-then-count-eq0-clause-ok
returns-then-count-eq0-clause-ok g c =
    let reads = c.pieces.invariant.reads in
    reads_whole _ _ _ _ reads c.in_ok-count.count c.next.new.into (Ok c.in_ok-finish.field-0.items) c.if-count-eq0.true c.in_ok-count.ensures.bytes.0
    (c.in_ok-count.ensures.bytes.1 c.if-count-eq0.true (omega arith)) (c.in_ok-finish.ensures.ok reads.fed reads.was_fed)

pub returns-then-count-eq0-clause-front : goal.returns-then-count-eq0-clause-front
returns-then-count-eq0-clause-front g c =
    reads_few _ _ _ _ c.pieces.invariant.reads _ c.in_ok-count.ensures.bytes.0 (omega (arith, length-take c.in_ok-count.count c.next.new.into))

pub returns-in_err-finish-clause-refused : goal.returns-in_err-finish-clause-refused
returns-in_err-finish-clause-refused g c = λ line code is.
    let reads = c.pieces.invariant.reads in
    let from = err_from_is_err_and c.from_residual-in_err-finish.result c.from_residual-in_err-finish.ensures.1 in
    let told : script_error_by c.in_err-finish.field-0.0 ≡ errors.Refused line code = cc (from.1, from.2, is) in
    let same : c.in_err-finish.field-0.0 ≡ of_script.Refused line code = refusal_from _ line code told in
    reads_whole _ _ _ _ reads c.in_ok-count.count c.next.new.into (Err (of_script.Refused line code)) c.if-count-eq0.true c.in_ok-count.ensures.bytes.0
    (c.in_ok-count.ensures.bytes.1 c.if-count-eq0.true (omega arith))
    (c.in_err-finish.ensures.err (λ wanting. absurd (cc (sym same ∙ wanting))) reads.fed reads.was_fed ∙ ap Err same)

pub returns-in_err-feed-clause-refused : goal.returns-in_err-feed-clause-refused
returns-in_err-feed-clause-refused g c = λ line code is.
    let reads = c.pieces.invariant.reads in
    let piece = take c.in_ok-count.count c.next.new.into in
    let from = err_from_is_err_and c.from_residual-in_err-feed.result c.from_residual-in_err-feed.ensures.1 in
    let told : script_error_by c.in_err-feed.field-0.0 ≡ errors.Refused line code = cc (from.1, from.2, is) in
    let same : c.in_err-feed.field-0.0 ≡ of_script.Refused line code = refusal_from _ line code told in
    let long : c.in_err-feed.field-0.0 ≡ of_script.Refused 0 ScriptLength = c.in_err-feed.ensures.err (λ wanting. absurd (cc (sym same ∙ wanting))) in
    let was : WasFed c.feed.new.self (reads.fed ++ piece) = c.feed.ensures.fed reads.fed reads.was_fed in
    subst (λ (error : ParseError). Says (g.S.Source.left c.args.source.now) (g.S.Source.left c.next.new.self) (Err error)) (sym long ∙ same)
    (reads_too_long _ _ (reads.fed ++ piece) (Consumes-trans _ _ _ reads.fed piece reads.consumed c.in_ok-count.ensures.bytes.0)
    (omega (arith, was.count, c.feed.ensures.long.0 (c.in_err-feed.was ∙ ap Err long)))
    (omega (arith, reads.few, length-append reads.fed piece, length-take c.in_ok-count.count c.next.new.into)))

pub returns-in_err-feed-clause-front : goal.returns-in_err-feed-clause-front
returns-in_err-feed-clause-front g c =
    reads_few _ _ _ _ c.pieces.invariant.reads _ c.in_ok-count.ensures.bytes.0 (omega (arith, length-take c.in_ok-count.count c.next.new.into))
