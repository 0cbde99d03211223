use Rattle.std.proofs.Common.{length, ap, ◌∙◌, arith}
use Rattle.rk_entry.specs.declared.entry.Entry.TheVariants.{Refused, Carried, Joined}
use Rattle.rk_entry.proofs.Sizes.{held_spelled, spelled_count}
use Rattle.rk_entry.proofs.writing.entry_len.Goals as goal

pub returns-in-Held : goal.returns-in-Held
returns-in-Held c = rw c.in-Held.is (c.spelled.ensures.bytes ∙ held_spelled c.in-Held.held)

pub returns-in-Refused : goal.returns-in-Refused
returns-in-Refused c =
    rw c.in-Refused.is (omega (arith, ap length c.bytes.ensures.value, spelled_count (Refused c.in-Refused.refused)))

pub returns-in-Carried : goal.returns-in-Carried
returns-in-Carried c =
    rw c.in-Carried.is (omega (arith, ap length c.as_slice.ensures, spelled_count (Carried c.in-Carried.carried)))

pub returns-in-Joined : goal.returns-in-Joined
returns-in-Joined c =
    rw c.in-Joined.is (omega (arith, ap length c.as_slice-in-Joined.ensures, spelled_count (Joined c.in-Joined.joined)))
