use Rattle.std.proofs.Common.{◌+◌, ℕ, sym, subst}
use Rattle.rk_entry.specs.Numbers.{HasRoom, Gains}
use Rattle.rk_message.specs.declared.fields.TheConstants.{COUNT_BYTES}
use Rattle.rk_message.specs.declared.rebuilding.TheConstants.{MEMBER_BYTES}
use Rattle.rk_message.specs.Fields.{list_bytes}
use Rattle.rk_message.specs.Rebuilding.{member_bytes}
use Rattle.rk_message.proofs.ListLaws.{sum_by_same}
use Rattle.rk_message.proofs.rebuilding.writing.put_lineage.Goals as goal

pub put_list-requires-clause-room : goal.put_list-requires-clause-room
put_list-requires-clause-room c = subst (λ (n : ℕ). HasRoom c.args.into.now (COUNT_BYTES + n)) (sym (sum_by_same MEMBER_BYTES c.args.lineage.now)) c.requires.room

pub returns : goal.returns
returns c = subst (λ (n : ℕ). Gains c.args.into.now c.put_list.new.into (list_bytes member_bytes c.args.lineage.now) (COUNT_BYTES + n)) (sum_by_same MEMBER_BYTES c.args.lineage.now) c.put_list.ensures
