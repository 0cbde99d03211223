-- Messages that come too late: of another term than what their receiver has of the tablet.
use Rattle.std.specs.Prelude.{◌≡◌, ◌≤◌, ◌<◌, ◌⊎◌, ◌==◌, ◌&&◌, ℕ, Bool, true, false, Option, Some, None, Contains}
use Rattle.rk_types.specs.Range.{meets}
use Rattle.rk_types.specs.declared.range.Range.{Range}
use Rattle.rk_tablet_map.specs.Rows.{row_of}
use Rattle.rk_tablet_map.specs.declared.phase.Phase.{Phase}
use Rattle.rk_tablet_map.specs.declared.phase.Phase.TheVariants.{Owned, Opening, Moving, Rebuilding}
use Rattle.rk_tablet_map.specs.declared.row.Row.{Row}
use Rattle.rk_transfer.specs.Handover.{Move, Close, Grant, Own, Release, moved}
use Rattle.rk_message.specs.declared.handover.Tenure.{Tenure}
use Rattle.rk_message.specs.declared.message.Body.{Body}
use Rattle.rk_message.specs.declared.message.Body.TheVariants as bodies
use Rattle.rk_sound.specs.Handing.{is_wanting}
use Rattle.rk_sound.specs.Terms.{tenure_in}
use Rattle.rk_world.specs.Coordinator.{Coordinator, is_noticed}
use Rattle.rk_world.specs.Master.{Master, tablet_at}
use Rattle.rk_world.specs.RoleTests.{is_frozen_at}
use Rattle.rk_world.specs.Tablet.{Tablet}

-- ---- at a master

-- the term at which a master keeps a tablet, 0 for a tablet that it does not know
abbrev pub kept_term : Master → ℕ → ℕ
kept_term master tablet = (tablet_at master tablet).handover.term

-- what a message says is of a smaller term than the master keeps for the tablet
abbrev pub IsOlderThan : Master → Option Tenure → Type 0
IsOlderThan master None = ⊥
IsOlderThan master (Some tenure) = tenure.term < kept_term master tenure.tablet

-- a message is older than what its receiver keeps
abbrev pub IsOlder : Master → Body → Type 0
IsOlder master body = IsOlderThan master (tenure_in body)

-- a master keeps a tablet whose range meets this one, at this term or a greater one
pub record KeepsNewer (master : Master) (term : ℕ) (range : Range) : Type 0 where
  pub number : ℕ
  pub tablet : Tablet
  pub kept : Contains master.tablets (number, tablet)
  pub meeting : meets tablet.handover.range range ≡ true
  pub newer : term ≤ tablet.handover.term

-- an order to begin anew with a tablet comes late if the master keeps that tablet, or another tablet that meets the range, at this term
-- or a greater one
abbrev pub IsSurpassed : Master → Tenure → Range → Type 0
IsSurpassed master tenure range = (tenure.term ≤ kept_term master tenure.tablet) ⊎ KeepsNewer master tenure.term range

-- a message is of another term than the master keeps for the tablet
abbrev pub IsOfOtherTerm : Master → Tenure → Type 0
IsOfOtherTerm master tenure = kept_term master tenure.tablet ≡ tenure.term → ⊥

-- a message about a tablet comes late to a master: a Prepare, a Rebuild and a Close, which bring a new term, if that is not greater than
-- what the master keeps; each other message if it is not of the very term that the master keeps
abbrev pub IsLate : Master → Body → Type 0
IsLate master (bodies.Prepare prepare) = IsSurpassed master prepare.tenure prepare.range
IsLate master (bodies.Rebuild rebuild) = IsSurpassed master rebuild.tenure rebuild.range
IsLate master (bodies.Close tenure) = tenure.term ≤ kept_term master tenure.tablet
IsLate master (bodies.Grant grant) = IsOfOtherTerm master grant.tenure
IsLate master (bodies.Own tenure) = IsOfOtherTerm master tenure
IsLate master (bodies.Release tenure) = IsOfOtherTerm master tenure
IsLate master (bodies.Copy copy) = IsOfOtherTerm master copy.tenure
IsLate master (bodies.Pull pull) = IsOfOtherTerm master pull.tenure
IsLate master (bodies.Pulled pulled) = IsOfOtherTerm master pulled.tenure
IsLate master (bodies.Want want) = IsOfOtherTerm master want.tenure
IsLate master (bodies.Got message) = IsOfOtherTerm master message.tenure
IsLate master _ = ⊥

-- the tablet and the move that an order asks for of an existing role; a Prepare and a Rebuild begin anew
abbrev pub move_asked : Master → Body → Option (ℕ × Move)
move_asked master (bodies.Close tenure) = Some (tenure.tablet, Close tenure.term)
move_asked master (bodies.Grant grant) = Some (grant.tenure.tablet, Grant grant.tenure.term grant.floor)
move_asked master (bodies.Own tenure) = Some (tenure.tablet, Own tenure.term master.applied)
move_asked master (bodies.Release tenure) = Some (tenure.tablet, Release tenure.term)
move_asked master _ = None

-- a tablet does not make a move
abbrev pub DoesNotMove : Master → Option (ℕ × Move) → Type 0
DoesNotMove master None = ⊥
DoesNotMove master (Some (tablet, move)) = moved (tablet_at master tablet).handover move ≡ None

-- a master passes a message over: it comes late, or it asks for a move that the tablet does not make in its role at its term
abbrev pub IsPassedOver : Master → Body → Type 0
IsPassedOver master body = IsLate master body ⊎ DoesNotMove master (move_asked master body)

-- whether a master says again what it said when it followed an order: if it waits for its grant since that very Prepare, or if it
-- is frozen since that very Close
abbrev pub says_again : Master → Body → Bool
says_again master (bodies.Prepare prepare) =
    is_wanting (tablet_at master prepare.tenure.tablet).handover.role && (kept_term master prepare.tenure.tablet == prepare.tenure.term)
says_again master (bodies.Close tenure) = is_frozen_at (tablet_at master tenure.tablet) tenure.term
says_again master _ = false

-- ---- at the coordinator

-- a row of a tablet is at another term
pub record HasOtherTerm (coordinator : Coordinator) (tenure : Tenure) : Type 0 where
  pub row : Row
  pub found : row_of coordinator.rows tenure.tablet ≡ Some row
  pub other : row.term ≡ tenure.term → ⊥

-- what a master reports of a tablet comes late: the master was noticed dead, no row has the tablet, or its row is at another term
abbrev pub IsLateReport : Coordinator → ℕ → Tenure → Type 0
IsLateReport coordinator sender tenure =
    (is_noticed coordinator sender ≡ true)
    ⊎ ((row_of coordinator.rows tenure.tablet ≡ None) ⊎ HasOtherTerm coordinator tenure)

-- whether a row waits for what a master reports: while the tablet opens for the target to be ready and then for the source to be frozen,
-- while it moves for the target to have all, and while it is rebuilt for that to be done
abbrev pub is_waited_for : Phase → ℕ → Body → Bool
is_waited_for (Opening source sfrom target None) sender (bodies.Ready ready) = sender == target
is_waited_for (Opening source sfrom target (Some dfrom)) sender (bodies.Transfer transfer) = sender == source
is_waited_for (Moving source sfrom target dfrom) sender (bodies.Joined tenure) = sender == target
is_waited_for (Rebuilding lineage to) sender (bodies.Rebuilt rebuilt) = sender == to
is_waited_for phase sender body = false

-- whether a master owns a row
abbrev pub is_owner : ℕ → Phase → Bool
is_owner sender (Owned master from) = sender == master
is_owner sender _ = false

-- whether the owner of a row is sent its Own again: if it reports that it has ended its work on it
abbrev pub is_told_again : Phase → ℕ → Body → Bool
is_told_again phase sender (bodies.Joined tenure) = is_owner sender phase
is_told_again phase sender (bodies.Rebuilt rebuilt) = is_owner sender phase
is_told_again phase sender _ = false
