use Rattle.std.proofs.Common.{ap, sym, ◌∙◌, arith}
use Rattle.std.proofs.lemmas.List.{length-set}
use Rattle.rk_drive.proofs.Passes.{client_of, one_set}
use Rattle.rk_drive.proofs.calling.look_all.Goals as goal

pub returns-in_err-came : goal.returns-in_err-came
returns-in_err-came g c = record {
  clients =
      one_set c.loop-index.passes c.loop-index.index c.index-passes-index.result c.look.new.pass (omega (arith, c.loop-index-test.true, c.loop-index.invariant.end))
      c.index-passes-index.is (c.in_err-came.ensures.client ∙ sym (ap client_of c.index-passes-index.is)) ∙ c.loop-index.invariant.clients;
}

pub loop-index-preserved : goal.loop-index-preserved
loop-index-preserved g c = record {
  clients =
      one_set c.loop-index.passes c.loop-index.index c.index-passes-index.result c.look.new.pass (omega (arith, c.loop-index-test.true, c.loop-index.invariant.end))
      c.index-passes-index.is (c.in_ok-came.ensures.client ∙ sym (ap client_of c.index-passes-index.is)) ∙ c.loop-index.invariant.clients;
  end = c.loop-index.invariant.end ∙ sym (length-set c.loop-index.passes c.loop-index.index c.look.new.pass);
}
