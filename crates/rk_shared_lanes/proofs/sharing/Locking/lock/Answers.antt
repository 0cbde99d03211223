use Rattle.std.proofs.Common.{ℕ, ◌^◌, ap, ◌∙◌, arith}
use Rattle.rk_shared_lanes.proofs.Unasked.{unasked_kept}
use Rattle.rk_shared_lanes.proofs.sharing.Locking.lock.Goals as goal

pub invariant_of-new : goal.invariant_of-new
invariant_of-new g c =
    let power = c.power_of_nine.ensures ∙ ap (λ (n : ℕ). 9 ^ n) c.number.ensures in
    let none = c.split_off-number.ensures.amount in
    let raised = c.add.ensures.amount in (
      c.requires.masters,
      unasked_kept c.args.lane c.requires.unasked g.R.Replica.segments g.R.Replica.faults g.N.Roster.tells g.N.Roster.masters g.N.Roster.backups g.N.Roster.clients g.N.Roster.counts
          (c.split_off-accepted.result.parts, c.split_off-accepted.result.amount) (c.split_off-asked.result.parts, c.split_off-asked.result.amount)
          (c.add.new.share.parts, c.add.new.share.amount) c.requires.few c.requires.roster c.requires.counts c.requires.sound
          (c.split_off-accepted.ensures.parts, c.split_off-accepted.ensures.amount) (c.split_off-asked.ensures.parts, c.split_off-asked.ensures.amount)
          (c.add.ensures.parts ∙ c.split_off-number.ensures.parts, omega (arith, power, none, raised)),
    )
