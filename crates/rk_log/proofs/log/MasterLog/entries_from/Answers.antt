use Rattle.std.proofs.Common.{◌≡◌, ◌∙◌, ◌-◌, List, drop, length, ap, subst, arith}
use Rattle.std.specs.Prelude.{IfOk}
use Rattle.rk_entry.specs.declared.entry.Entry.{Entry}
use Rattle.rk_log.specs.declared.ends.EntryEnd.{EntryEnd}
use Rattle.rk_log.specs.Parts.{parts_of}
use Rattle.rk_log.proofs.Behind.{entries_read, start_in}
use Rattle.rk_log.proofs.log.MasterLog.entries_from.Goals as goal

pub overflow_sub-start : goal.overflow_sub-start
overflow_sub-start c =
    omega (
      arith,
      c.start_of-start.ensures,
      (start_in (parts_of c.self.inside) c.args.self.now c.args.place c.self.invariant.consistent c.self.view_is c.requires).0,
      ap (λ (e : EntryEnd). e.segment) c.start_of-start.ensures,
    )

pub split_at-requires : goal.split_at-requires
split_at-requires c =
    omega (
      arith,
      (start_in (parts_of c.self.inside) c.args.self.now c.args.place c.self.invariant.consistent c.self.view_is c.requires).1,
      ap (λ (e : EntryEnd). e.segment) c.start_of-start.ensures,
      ap length c.deref.ensures.value,
    )

pub returns : goal.returns
returns c =
    subst (λ (l : List Entry). IfOk c.read_behind.result (λ entries. entries.items ≡ l))
    (entries_read (parts_of c.self.inside) c.args.self.now c.args.place c.start_of-start.result _ c.self.invariant.consistent c.self.view_is c.requires c.start_of-start.ensures
    (c.split_at.ensures.back ∙ ap (drop (c.start_of-start.result.segment - 1)) c.deref.ensures.value)) c.read_behind.ensures
