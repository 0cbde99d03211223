use Rattle.rk_settle.proofs.Words.{ap, ◌∙◌, Phase}
use Rattle.rk_settle.specs.Reaches.{is_at_reach}
use Rattle.rk_settle.proofs.Reached.{moving_moved, opening_moved}
use Rattle.rk_settle.proofs.reaching.is_at_reach.Goals as goal

pub returns-in_default-reach : goal.returns-in_default-reach
returns-in_default-reach g c =
    λ w is.
    ap (λ (phase : Phase). is_at_reach w c.args.row.now phase c.args.reach) c.in-Opening.is
    ∙ opening_moved w c.args.row.now c.in-Opening.source c.in-Opening.target c.in-Opening.sfrom c.in-Opening.dfrom c.args.reach c.in_default-reach.not-Begun c.in_default-reach.not-Frozen
    ∙ c.is_moved_to.ensures w is

pub returns-in_default-reach-2 : goal.returns-in_default-reach-2
returns-in_default-reach-2 g c =
    λ w is.
    ap (λ (phase : Phase). is_at_reach w c.args.row.now phase c.args.reach) c.in-Moving.is
    ∙ moving_moved w c.args.row.now c.in-Moving.source c.in-Moving.target c.in-Moving.sfrom c.in-Moving.dfrom c.args.reach c.in_default-reach-2.not-Frozen
    ∙ c.is_moved_to-in_default-reach-2.ensures w is
