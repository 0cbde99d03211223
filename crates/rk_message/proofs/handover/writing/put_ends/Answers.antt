use Rattle.std.proofs.Common.{◌+◌, ℕ, sym, subst}
use Rattle.rk_entry.specs.Numbers.{HasRoom, Gains}
use Rattle.rk_entry.specs.Ends.{end_bytes}
use Rattle.rk_entry.specs.declared.kind.TheConstants.{END_BYTES}
use Rattle.rk_message.specs.declared.fields.TheConstants.{COUNT_BYTES}
use Rattle.rk_message.specs.Fields.{list_bytes}
use Rattle.rk_message.specs.Handover.{ends_bytes}
use Rattle.rk_message.proofs.ListLaws.{sum_by_same}
use Rattle.rk_message.proofs.handover.writing.put_ends.Goals as goal

pub put_list-requires-clause-room : goal.put_list-requires-clause-room
put_list-requires-clause-room c = subst (λ (n : ℕ). HasRoom c.args.into.now (COUNT_BYTES + n)) (sym (sum_by_same END_BYTES c.args.ends.now)) c.requires.room

pub returns : goal.returns
unfolding ends_bytes
returns c = subst (λ (n : ℕ). Gains c.args.into.now c.put_list.new.into (list_bytes end_bytes c.args.ends.now) (COUNT_BYTES + n)) (sum_by_same END_BYTES c.args.ends.now) c.put_list.ensures
