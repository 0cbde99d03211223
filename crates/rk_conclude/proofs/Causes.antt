-- Which status a drive may end with, and why.
use Rattle.rk_conclude.proofs.Words.{◌≡◌, ◌≤◌, ℕ, refl, subst, arith, Status}
use Rattle.rk_types.specs.declared.status.Status.TheVariants as statuses
use Rattle.rk_outside.specs.Faults.{Rose}
use Rattle.rk_conclude.specs.Concluded.{HasSinkCause, MayEnd}
use Rattle.rk_conclude.specs.Reports.{IsAudited}

pub audited_may : (status : Status) → IsAudited status → MayEnd status
audited_may status audited = grind arith

pub audited_cause : (status : Status) (before now : ℕ) → IsAudited status → before ≤ now → now ≡ before → HasSinkCause status before now
audited_cause status before now audited later kept = record { later = later; kept = λ other. kept; rose = λ fault. absurd (subst IsAudited fault audited) }

-- nor is it that replicas failed
pub audited_other : (status : Status) → IsAudited status → status ≡ statuses.ReplicaFault → ⊥
audited_other status audited fault = subst IsAudited fault audited

pub failed_cause : (before now : ℕ) → before ≤ now → Rose before now → HasSinkCause statuses.WriteFault before now
failed_cause before now later rose = record { later = later; kept = λ other. absurd (other refl); rose = λ fault. rose }

pub idle_cause : (status : Status) (count : ℕ) → (status ≡ statuses.WriteFault → ⊥) → HasSinkCause status count count
idle_cause status count other = record { later = omega arith; kept = λ apart. refl; rose = λ fault. absurd (other fault) }
