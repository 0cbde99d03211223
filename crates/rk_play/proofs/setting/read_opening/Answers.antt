-- The commands before the first that sets no number have set theirs once.
use Rattle.rk_play.proofs.Words.{◌≡◌, true, arith, is_some}
use Rattle.rk_play.proofs.Openings.{early_backups, early_masters, next_is, opened_all, opened_before}
use Rattle.rk_play.proofs.setting.read_opening.Goals as goal

pub returns-then-is_some-clause-err : goal.returns-then-is_some-clause-err
returns-then-is_some-clause-err c =
    let set : is_some c.commands.opening.masters ≡ true = cc in
    early_masters c.args.commands.now c.commands.opening c.commands.numbered-index c.numbered-item.result _ c.in-Masters.masters c.commands.invariant
    (next_is c.args.commands.now c.commands.numbered-index c.numbered-item.result (omega arith) c.numbered-item.is) c.in-Masters.is set

pub returns-then-is_some-2-clause-err : goal.returns-then-is_some-2-clause-err
returns-then-is_some-2-clause-err c =
    let set : is_some c.commands.opening.backups ≡ true = cc in
    early_backups c.args.commands.now c.commands.opening c.commands.numbered-index c.numbered-item.result _ c.in-Backups.backups c.commands.invariant
    (next_is c.args.commands.now c.commands.numbered-index c.numbered-item.result (omega arith) c.numbered-item.is) c.in-Backups.is set

pub returns-in_default : goal.returns-in_default
returns-in_default c = record {
  ok =
      opened_before c.args.commands.now c.commands.opening c.commands.numbered-index c.numbered-item.result _ c.commands.invariant
      (next_is c.args.commands.now c.commands.numbered-index c.numbered-item.result (omega arith) c.numbered-item.is) c.in_default.not-Masters c.in_default.not-Backups;
  err = tt;
}

pub returns-clause-ok : goal.returns-clause-ok
returns-clause-ok c = opened_all c.args.commands.now c.commands.opening c.commands.numbered-index c.commands.invariant (omega arith)
