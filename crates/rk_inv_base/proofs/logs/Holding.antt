-- Every backup holds what is applied.
use Rattle.rk_inv_base.proofs.Words.{ℕ, ◌<◌, ◌≤◌, List, length, Option, Some, None, subst, arith, IfSome, slice_get, Entry, ends, Known}
use Rattle.rk_inv_base.proofs.Words.{known_length, Log, IsBackup, known_of, EntryEnd, Written, IsLog, committed_held}

-- what is known to be stored is stored
pub told_stored : (known : Known) (stored : ℕ → List ℕ) → ((segment : ℕ) → known_length known segment ≤ length (stored segment)) → (found : Option EntryEnd) → IfSome found (λ end. end.offset ≤ known_length known end.segment) → IfSome found (λ end. end.offset ≤ length (stored end.segment))
told_stored known stored told None holds = tt
told_stored known stored told (Some end) holds = omega (arith, holds, told end.segment)

pub applied_stored : (log : Log) (written : Written) (stored : ℕ → ℕ → List ℕ) (backup place : ℕ) → IsLog log written stored → IsBackup log backup → place < written.applied → IfSome (slice_get (ends written.entries) place) (λ end. end.offset ≤ length (stored backup end.segment))
applied_stored log written stored backup place kept there applied =
    let copy = kept.copies backup there in
    subst (λ (list : List Entry). IfSome (slice_get (ends list) place) (λ end. end.offset ≤ length (stored backup end.segment))) kept.entries_are
    (told_stored (known_of log backup) (stored backup) copy.told (slice_get (ends log.entries) place)
    (committed_held log place backup (omega (arith, applied, kept.held)) there))
