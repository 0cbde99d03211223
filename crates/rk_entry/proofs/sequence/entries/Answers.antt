use Rattle.std.proofs.Common.{arith}
use Rattle.rk_entry.proofs.StandLaws.{reached_none, reached_next, reached_last}
use Rattle.rk_entry.proofs.sequence.entries.Goals as goal

pub entries-init : goal.entries-init
entries-init c = rw c.new-entries.ensures.items (reached_none c.args.bytes.now)

pub entries-smaller : goal.entries-smaller
entries-smaller c =
    let next = reached_next c.args.bytes.now c.split_at.result.1.now c.entries.entries.items c.entries.taken c.in_ok-entry.field-0 c.in-Some.entry c.in-Some.count
    c.entries.invariant c.split_at.ensures.back (record { found = c.in_ok-entry.ensures.found; exact = c.in_ok-entry.ensures.exact }) c.in-Some.is in
    omega (arith, next.1.0, next.1.1)

pub entries-preserved : goal.entries-preserved
entries-preserved c =
    let next = reached_next c.args.bytes.now c.split_at.result.1.now c.entries.entries.items c.entries.taken c.in_ok-entry.field-0 c.in-Some.entry c.in-Some.count
    c.entries.invariant c.split_at.ensures.back (record { found = c.in_ok-entry.ensures.found; exact = c.in_ok-entry.ensures.exact }) c.in-Some.is in
    rw c.in_ok-push.ensures.items next.0

pub returns-clause-stand : goal.returns-clause-stand
returns-clause-stand c =
    (reached_last c.args.bytes.now c.split_at.result.1.now c.entries.entries.items c.entries.taken c.in_ok-entry.field-0
    c.entries.invariant c.split_at.ensures.back (record { found = c.in_ok-entry.ensures.found; exact = c.in_ok-entry.ensures.exact }) c.in_default.is).0

pub returns-clause-exact : goal.returns-clause-exact
returns-clause-exact c =
    (reached_last c.args.bytes.now c.split_at.result.1.now c.entries.entries.items c.entries.taken c.in_ok-entry.field-0
    c.entries.invariant c.split_at.ensures.back (record { found = c.in_ok-entry.ensures.found; exact = c.in_ok-entry.ensures.exact }) c.in_default.is).1
