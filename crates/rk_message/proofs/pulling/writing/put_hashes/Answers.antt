use Rattle.std.proofs.Common.{◌+◌, ℕ, sym, subst}
use Rattle.std.specs.Int.{w64}
use Rattle.rk_entry.specs.Numbers.{number_bytes, HasRoom, Gains}
use Rattle.rk_message.specs.declared.fields.TheConstants.{COUNT_BYTES}
use Rattle.rk_message.specs.declared.pulling.TheConstants.{HASH_BYTES}
use Rattle.rk_message.specs.Fields.{list_bytes}
use Rattle.rk_message.proofs.ListLaws.{sum_by_same}
use Rattle.rk_message.proofs.pulling.writing.put_hashes.Goals as goal

pub put_list-requires-clause-room : goal.put_list-requires-clause-room
put_list-requires-clause-room c = subst (λ (n : ℕ). HasRoom c.args.into.now (COUNT_BYTES + n)) (sym (sum_by_same HASH_BYTES c.args.hashes.now)) c.requires.room

pub returns : goal.returns
returns c = subst (λ (n : ℕ). Gains c.args.into.now c.put_list.new.into (list_bytes (number_bytes w64) c.args.hashes.now) (COUNT_BYTES + n)) (sum_by_same HASH_BYTES c.args.hashes.now) c.put_list.ensures
