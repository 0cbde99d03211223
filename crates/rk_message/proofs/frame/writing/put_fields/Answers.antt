use Rattle.std.proofs.Common.{◌<◌, ◌^◌, arith, subst}
use Rattle.rk_message.specs.declared.message.Body.{Body}
use Rattle.rk_message.specs.Frames.{fields_count}
use Rattle.rk_message.proofs.EntriesLaws.{entries_few}
use Rattle.rk_message.proofs.frame.writing.put_fields.Goals as goal

pub put_pulled-requires-clause-few : goal.put_pulled-requires-clause-few
put_pulled-requires-clause-few c =
    let within = subst (λ (body : Body). fields_count body < 2 ^ 32) c.in-Pulled.is c.requires.within in
    omega (arith, within, entries_few c.in-Pulled.pulled.entries)

pub put_got-requires-clause-few_entries : goal.put_got-requires-clause-few_entries
put_got-requires-clause-few_entries c =
    let within = subst (λ (body : Body). fields_count body < 2 ^ 32) c.in-Got.is c.requires.within in
    omega (arith, within, entries_few c.in-Got.got.entries)
