use Rattle.std.proofs.Common.{◌∙◌, sym, refl, arith}
use Rattle.rk_lane.proofs.Quiet.{crashed, has_room_for_crash}
use Rattle.rk_lane.proofs.changes.crash.Goals as goal

pub push_reserved-requires : goal.push_reserved-requires
push_reserved-requires c =
    omega (
      arith,
      has_room_for_crash c.args.parts.now c.args.master c.requires.kept c.requires.may.may (sym c.has_crashed.ensures ∙ c.if-has_crashed.false),
      c.args.parts.now.crashed.ok.0,
    )

pub returns-clause-ok : goal.returns-clause-ok
returns-clause-ok c =
    crashed c.args.parts.now (record c.args.parts.now { crashed = c.push_reserved.new.self }) c.args.master c.quiet.result c.requires.kept c.requires.may
    (sym c.has_crashed.ensures ∙ c.if-has_crashed.false) refl c.push_reserved.ensures.items c.push_reserved.ensures.capacity c.quiet.ensures
