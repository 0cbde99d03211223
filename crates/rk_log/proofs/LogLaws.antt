-- What is committed is held, and stays committed.
use Rattle.std.proofs.Common.{◌≡◌, ℕ, ◌-◌, ◌<◌, ◌≤◌, true, Option, Some, None, refl, sym, ap, ◌∙◌, ⊎_elim, arith}
use Rattle.std.specs.Prelude.{slice_get, IfSome}
use Rattle.rk_log.specs.Known.{nothing}
use Rattle.std.proofs.lemmas.Bool.{le-leb, leb-true, cases_lt}
use Rattle.std.proofs.lemmas.List.{set_past}
use Rattle.std.proofs.lemmas.List.Sums.{prefix_len_passes}
use Rattle.std.proofs.lemmas.Option.{get_or_from_slice_get}
use Rattle.rk_entry.specs.declared.entry.Entry.{Entry}
use Rattle.rk_log.specs.declared.ends.EntryEnd.{EntryEnd}
use Rattle.rk_log.specs.Cut.{ends}
use Rattle.rk_log.specs.Known.{Known, known_length, reaches}
use Rattle.rk_log.specs.Log.{Log, IsBackup, HoldsEntry, is_held, committed, known_of, with_entry, with_told}
use Rattle.rk_log.proofs.Prefixes.{prefix_len_weaker, prefix_len_push_le, list_all_each, list_all-set}
use Rattle.rk_log.proofs.Cuts.{ends_push}
use Rattle.rk_log.proofs.KnownLaws.{told_more}

-- a committed entry is held by each backup
pub committed_held : (log : Log) (place backup : ℕ) → place < committed log → IsBackup log backup → HoldsEntry log backup place
committed_held log place backup h numbered = at (slice_get (ends log.entries) place) refl
  where
    at : (o : Option EntryEnd) → slice_get (ends log.entries) place ≡ o → IfSome o (λ end. end.offset ≤ known_length (known_of log backup) end.segment)
    at None e = tt
    at (Some end) e =
        let passes : is_held log.known end ≡ true =
        ap (is_held log.known) (sym (get_or_from_slice_get (ends log.entries) place end end e)) ∙ prefix_len_passes (is_held log.known) (ends log.entries) place end h in
        leb-true _ _ (list_all_each (λ (known : Known). reaches known end) log.known (backup - 1) nothing passes (omega (arith, numbered.first, numbered.last)))

-- one more entry
pub committed_entry : (log : Log) (entry : Entry) → committed log ≤ committed (with_entry log entry)
committed_entry log entry = grind (arith, prefix_len_push_le, ends_push)

-- a reported length
pub committed_told : (log : Log) (backup segment size : ℕ) → committed log ≤ committed (with_told log backup segment size)
committed_told log backup segment size =
    grind (arith, prefix_len_weaker, list_all-set, le-leb, leb-true, list_all_each, told_more, set_past, cases_lt)
