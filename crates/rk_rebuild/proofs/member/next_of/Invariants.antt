use Rattle.rk_rebuild.proofs.Words.{◌≡◌, drop, Range, AllByRecursion, KnowsNamed, members_of}
use Rattle.rk_world.specs.Gather.{next_of}
use Rattle.rk_rebuild.proofs.member.next_of.Given as goal

abbrev pub invariant-loop-reader : goal.invariant-loop-reader
invariant-loop-reader l =
    (range : Range) → AllByRecursion (KnowsNamed range l.logs) l.readers
    → next_of range (members_of l.logs l.readers) ≡ next_of range (members_of l.logs (drop l.reader-index l.readers))
