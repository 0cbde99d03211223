-- The laws of logs, over what contracts see of them.
use Rattle.std.specs.Prelude.{◌≡◌, ◌≢◌, ◌+◌, ◌<◌, ◌≤◌, ℕ, List, ◌++◌, length, max, slice_get, Option, IfSome}
use Rattle.std.specs.List.{AllByRecursion, concat}
use Rattle.std.proofs.Common.{◌-◌, true, [], get_or, Some, ap, subst, ◌∙◌, arith, refl, get_or-set_same, get_or-set_other, sym}
use Rattle.std.proofs.lemmas.Bool.{le-leb}
use Rattle.std.proofs.lemmas.List.{get_or_default}
use Rattle.std.proofs.lemmas.Option.{slice_get-get_or}
use Rattle.rk_entry.specs.declared.entry.Entry.{Entry}
use Rattle.rk_entry.specs.Entries.{spelled_all}
use Rattle.rk_entry.specs.Lawful.{IsLawfulEntry}
use Rattle.rk_log.specs.Cut.{cut, cut_after, ends}
use Rattle.rk_log.specs.Known.{known_length, nothing, Known, reaches, told}
use Rattle.rk_log.specs.Log.{Log, IsBackup, HoldsEntry, committed, known_of, with_entry, with_side, with_told, is_held}
use Rattle.rk_log.specs.Stored.{spelled_in, stored_entries}
use Rattle.rk_log.specs.declared.ends.EntryEnd.{EntryEnd}
use Rattle.rk_log.specs.declared.copied.TheConstants.{FIRST_SEGMENT}
use Rattle.rk_log.proofs.Prefixes.{pass_then, list_all_from}
use Rattle.rk_log.proofs.Cuts.{length-ends}
use Rattle.rk_log.proofs.KnownLaws.{told_length, told_other}
use Rattle.rk_log.proofs.CutLaws.{cut_again, written_all}

-- Every backup is known to hold each committed entry; and if every backup is known to hold so many entries, counted
-- from the first, at least as many are committed.
pub committed_is_held_by_all : (log : Log) (place backup : ℕ) → place < committed log → IsBackup log backup → HoldsEntry log backup place
committed_is_held_by_all = Rattle.rk_log.proofs.LogLaws.committed_held

pub held_by_all_is_committed : (log : Log) (count : ℕ) → count ≤ length log.entries
    → ((place backup : ℕ) → place < count → IsBackup log backup → HoldsEntry log backup place) → count ≤ committed log
held_by_all_is_committed log count le holds =
    omega (
      arith,
      pass_then (is_held log.known) (ends log.entries) count (omega (arith, length-ends [] log.entries)) (λ place d h.
          list_all_from (λ (known : Known). reaches known (get_or (ends log.entries) place d)) log.known (λ k none l. at place d h k none l)),
    )
  where
    at : (place : ℕ) (d : EntryEnd) → place < count → (k : ℕ) (none : Known) → k < length log.known → reaches (get_or log.known k none) (get_or (ends log.entries) place d) ≡ true
    at place d h k none l =
        let there : slice_get (ends log.entries) place ≡ Some (get_or (ends log.entries) place d) = slice_get-get_or (ends log.entries) place d (omega (arith, length-ends [] log.entries)) in
        let own : IfSome (Some (get_or (ends log.entries) place d)) (λ end. end.offset ≤ known_length (known_of log (k + 1)) end.segment) =
        subst (λ (o : Option EntryEnd). IfSome o (λ end. end.offset ≤ known_length (known_of log (k + 1)) end.segment)) there
        (holds place (k + 1) h (record { first = omega arith; last = omega arith })) in
        let place_is : k + 1 - 1 ≡ k = omega arith in
        let same : known_of log (k + 1) ≡ get_or log.known k none = ap (λ (n : ℕ). get_or log.known n nothing) place_is ∙ get_or_default log.known k nothing none l in
        le-leb _ _ (omega (arith, own, ap (λ (known : Known). known_length known (get_or (ends log.entries) place d).segment) same))

-- What is committed stays committed, whatever is put behind it, put beside it, or reported.
pub committed_stays_with_an_entry : (log : Log) (entry : Entry) → committed log ≤ committed (with_entry log entry)
committed_stays_with_an_entry = Rattle.rk_log.proofs.LogLaws.committed_entry

pub committed_stays_with_a_side_segment : (log : Log) (bytes : List ℕ) → committed (with_side log bytes) ≡ committed log
committed_stays_with_a_side_segment log bytes = refl

pub committed_stays_when_told : (log : Log) (backup segment told : ℕ) → committed log ≤ committed (with_told log backup segment told)
committed_stays_when_told = Rattle.rk_log.proofs.LogLaws.committed_told

-- What a backup reports of a segment lowers no known length, and raises none but that of this segment at this backup.
pub known_lengths_never_fall : (log : Log) (backup segment told : ℕ) → IsBackup log backup
    → known_length (known_of (with_told log backup segment told) backup) segment ≡ max (known_length (known_of log backup) segment) told
known_lengths_never_fall log backup segment size numbered = grind (arith, told_length, get_or-set_same)

pub known_lengths_of_other_segments_stay : (log : Log) (backup segment told other : ℕ) → IsBackup log backup → other ≢ segment
    → known_length (known_of (with_told log backup segment told) backup) other ≡ known_length (known_of log backup) other
known_lengths_of_other_segments_stay log backup segment size other numbered apart = grind (arith, told_other, get_or-set_same)

pub known_lengths_of_other_backups_stay : (log : Log) (backup segment told other : ℕ) → IsBackup log backup → IsBackup log other
    → other ≢ backup → known_of (with_told log backup segment told) other ≡ known_of log other
known_lengths_of_other_backups_stay log backup segment size other numbered numbered_other apart =
    get_or-set_other log.known (backup - 1) (other - 1) (told (known_of log backup) segment size) nothing (λ e. apart (omega (arith, numbered.first, numbered_other.first)))

-- Entries that are put behind others go on from the segments of those; all segments together are the spellings of the
-- entries, one after the other; and lawful entries are read back from them, also from where they are stored.
pub entries_go_on_from_segments : (entries more : List Entry) → cut (entries ++ more) ≡ cut_after (cut entries) more
entries_go_on_from_segments = Rattle.rk_log.proofs.Cuts.cut-append []

pub segments_are_the_spellings : (entries : List Entry) → concat (cut entries) ≡ spelled_all entries
segments_are_the_spellings = Rattle.rk_log.proofs.CutLaws.cut_whole

pub entries_are_read_back : (entries : List Entry) → AllByRecursion IsLawfulEntry entries → spelled_in (cut entries) ≡ entries
entries_are_read_back = Rattle.rk_log.proofs.CutLaws.cut_again

pub entries_are_read_back_where_they_are_stored : (entries : List Entry) (most : ℕ) (segments : ℕ → Option (List ℕ))
    → AllByRecursion IsLawfulEntry entries → length (cut entries) ≤ most → ((k : ℕ) → segments (1 + k) ≡ slice_get (cut entries) k)
    → stored_entries most segments ≡ entries
entries_are_read_back_where_they_are_stored entries most segments lawful le is =
    ap spelled_in (written_all segments FIRST_SEGMENT most (cut entries) (λ k n e. ap segments (sym e) ∙ is k) le) ∙ cut_again entries lawful
