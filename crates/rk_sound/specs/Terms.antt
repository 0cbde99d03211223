-- Terms: no master and no message speaks of a tablet at a term above its row's, nor of a range at a term that another row there
-- has reached. So the row's own order is greater wherever it should act, and what is late has a smaller term or an equal one;
-- the steps that take a Prepare, a Close or a Rebuild need it.
use Rattle.std.specs.Prelude.{◌≡◌, ◌≢◌, ◌≤◌, ◌<◌, ℕ, true, false, List, Option, Some, None, IfSome, All}
use Rattle.rk_types.specs.NumberMap.{NumberMap, EachIn}
use Rattle.rk_types.specs.Range.{meets}
use Rattle.rk_types.specs.declared.range.Range.{Range}
use Rattle.rk_transfer.specs.declared.handover.Handover.{Handover}
use Rattle.rk_tablet_map.specs.declared.row.Row.{Row}
use Rattle.rk_message.specs.declared.handover.Tenure.{Tenure}
use Rattle.rk_message.specs.declared.message.Body.{Body}
use Rattle.rk_message.specs.declared.message.Body.TheVariants as bodies
use Rattle.rk_message.specs.declared.message.Message.{Message}
use Rattle.rk_world.specs.RoleTests.{is_absent}

-- the tablet and the term that a message speaks of
abbrev pub tenure_in : Body → Option Tenure
tenure_in (bodies.Prepare prepare) = Some prepare.tenure
tenure_in (bodies.Ready ready) = Some ready.tenure
tenure_in (bodies.Close tenure) = Some tenure
tenure_in (bodies.Transfer transfer) = Some transfer.tenure
tenure_in (bodies.Grant grant) = Some grant.tenure
tenure_in (bodies.Pull pull) = Some pull.tenure
tenure_in (bodies.Pulled pulled) = Some pulled.tenure
tenure_in (bodies.Want want) = Some want.tenure
tenure_in (bodies.Got message) = Some message.tenure
tenure_in (bodies.Joined tenure) = Some tenure
tenure_in (bodies.Own tenure) = Some tenure
tenure_in (bodies.Release tenure) = Some tenure
tenure_in (bodies.Rebuild rebuild) = Some rebuild.tenure
tenure_in (bodies.Read read) = Some read.tenure
tenure_in (bodies.Copy copy) = Some copy.tenure
tenure_in (bodies.Rebuilt rebuilt) = Some rebuilt.tenure
tenure_in _ = None

-- the range that a message asks a master to take
abbrev pub range_in : Body → Option Range
range_in (bodies.Prepare prepare) = Some prepare.range
range_in (bodies.Rebuild rebuild) = Some rebuild.range
range_in _ = None

-- a term of a tablet is at most that of the tablet's row
abbrev pub IsWithinTerm : Row → ℕ → ℕ → Type 0
IsWithinTerm row tablet term = row.tablet ≡ tablet → term ≤ row.term

-- a term of a tablet with this range is below that of each other row that meets the range
abbrev pub IsBelowOthers : Row → ℕ → ℕ → Range → Type 0
IsBelowOthers row tablet term range = row.tablet ≢ tablet → meets row.range range ≡ true → term < row.term

-- what a master has of a tablet, beside a row; at the row's term it has the row's range
pub record HandoverFits (row : Row) (tablet : ℕ) (handover : Handover) : Type 0 where
  pub within : IsWithinTerm row tablet handover.term
  pub below : IsBelowOthers row tablet handover.term handover.range
  pub exact : row.tablet ≡ tablet → handover.term ≡ row.term → handover.range ≡ row.range

-- what a message says, beside a row
pub record SentFits (row : Row) (body : Body) : Type 0 where
  pub within : IfSome (tenure_in body) (λ tenure. IsWithinTerm row tenure.tablet tenure.term)
  pub below :
      IfSome (tenure_in body) (λ tenure. IfSome (range_in body) (λ range. IsBelowOthers row tenure.tablet tenure.term range))

pub record Terms (rows : List Row) (handovers : ℕ → ℕ → Handover) (wire : NumberMap Message) : Type 0 where
  pub kept : (master tablet : ℕ) → All (λ row. HandoverFits row tablet (handovers master tablet)) rows
  -- a tablet that is not absent has a term of at least 1
  pub begun :
      (master tablet : ℕ) → is_absent (handovers master tablet).role ≡ false → 1 ≤ (handovers master tablet).term
  -- two tablets of one master that are not absent do not meet
  pub apart :
      (master a b : ℕ) → a ≢ b
      → is_absent (handovers master a).role ≡ false → is_absent (handovers master b).role ≡ false
      → meets (handovers master a).range (handovers master b).range ≡ false
  pub sent : EachIn (λ number message. All (λ row. SentFits row message.body) rows) wire
