-- Posts: what a master is to a row, and what that asks of the role and the term that it keeps, as data.
use Rattle.std.specs.Prelude.{◌≡◌, ◌<◌, ◌≤◌, ℕ, ◌==◌, Bool, true, ◌||◌, ◌&&◌, nat_lt, if◌then◌else◌, List, [], ◌∷◌, Option, Some, None, ◌⊎◌}
use Rattle.rk_types.specs.declared.lineage.Member.{Member}
use Rattle.rk_transfer.specs.Handover.{is_serving}
use Rattle.rk_transfer.specs.declared.handover.Handover.{Handover}
use Rattle.rk_transfer.specs.declared.role.Role.{Role}
use Rattle.rk_transfer.specs.declared.role.Role.TheVariants as roles
use Rattle.rk_tablet_map.specs.declared.phase.Phase.{Phase}
use Rattle.rk_tablet_map.specs.declared.phase.Phase.TheVariants.{Owned, Opening, Moving, Rebuilding}
use Rattle.rk_world.specs.Lineage.{is_member}
use Rattle.rk_world.specs.RoleTests.{is_rebuilding}

-- what a master is to a row
pub data Post : Type 0 where
  -- it owns the tablet, from this place of its log on
  Owner : (place : ℕ) → Post
  -- it gives the tablet away, and the coordinator has no report yet of what the next owner has to know
  OpeningSource : Post
  -- it is to make ready for the tablet
  InvitedTarget : Post
  -- it made ready, and its entries begin at this place
  ReadyTarget : (place : ℕ) → Post
  -- it has given the tablet away
  MovingSource : Post
  -- it takes the tablet over, from this place of its log on
  MovingTarget : (place : ℕ) → Post
  -- it is to rebuild the tablet, which was its own alone
  OnlyRebuilder : (place : ℕ) → Post
  -- it is to rebuild the tablet, which it had given away
  FirstRebuilder : (place : ℕ) → Post
  -- it is to rebuild the tablet, which it had taken over
  LastRebuilder : (place : ℕ) → Post
  -- it is to rebuild the tablet, of which it had nothing
  OutsideRebuilder : Post
  -- it had the tablet, and another one is to rebuild it
  FormerMember : Post
  -- it has nothing to do with the tablet
  Bystander : Post

-- what the master that is to rebuild a tablet is to the row, by the lineage
abbrev pub rebuilder_post : List Member → ℕ → Post
rebuilder_post [] master = OutsideRebuilder
rebuilder_post (only ∷ []) master = if only.master == master then OnlyRebuilder only.from else OutsideRebuilder
rebuilder_post (first ∷ last ∷ more) master =
    if first.master == master then FirstRebuilder first.from
    else if last.master == master then LastRebuilder last.from
    else OutsideRebuilder

-- what the target is to a row that opens, by the place that it reported
abbrev pub target_post : Option ℕ → Post
target_post None = InvitedTarget
target_post (Some place) = ReadyTarget place

-- what a master is to a row in this phase
abbrev pub post_of : Phase → ℕ → Post
post_of (Owned owner from) master = if owner == master then Owner from else Bystander
post_of (Opening source sfrom target dfrom) master =
    if source == master then OpeningSource else if target == master then target_post dfrom else Bystander
post_of (Moving source sfrom target dfrom) master =
    if source == master then MovingSource else if target == master then MovingTarget dfrom else Bystander
post_of (Rebuilding lineage to) master =
    if to == master then rebuilder_post lineage master else if is_member lineage master then FormerMember else Bystander

-- what a post may ask of what a master has
pub data Bond : Type 0 where
  -- this cannot be
  Never : Bond
  -- the term of the master is the row's
  Equal : Bond
  -- the term of the master is below the row's
  Smaller : Bond
  -- the term of the master is at most the row's
  AtMost : Bond
  -- the role has the place that the row has
  SamePlace : (own place : ℕ) → Bond
  -- the entry that closes the role is applied
  Closed : (entry : ℕ) → Bond
  Both : (one other : Bond) → Bond
  Either : (one other : Bond) → Bond

-- what a post asks of each role
abbrev pub bond_of : Post → Role → Bond
bond_of (Owner place) roles.Serving = Equal
bond_of (Owner place) (roles.Joining (Some entry)) = Both Equal (Closed entry)
bond_of (Owner place) (roles.Rebuilding from (Some entry)) = Both Equal (Both (Closed entry) (SamePlace from place))
bond_of OpeningSource roles.Serving = Smaller
bond_of OpeningSource (roles.Joining (Some entry)) = Both Smaller (Closed entry)
bond_of OpeningSource (roles.Rebuilding from (Some entry)) = Both Smaller (Closed entry)
bond_of OpeningSource roles.Closing = Equal
bond_of OpeningSource roles.Frozen = Equal
bond_of InvitedTarget roles.Absent = Smaller
bond_of InvitedTarget roles.Frozen = Smaller
bond_of InvitedTarget (roles.Wanting from) = AtMost
bond_of (ReadyTarget place) (roles.Wanting from) = Both Equal (SamePlace from place)
bond_of MovingSource roles.Frozen = Equal
bond_of (MovingTarget place) (roles.Wanting from) = Both Equal (SamePlace from place)
bond_of (MovingTarget place) roles.Receiving = Equal
bond_of (MovingTarget place) (roles.Joining entry) = Equal
bond_of (OnlyRebuilder place) roles.Serving = Smaller
bond_of (OnlyRebuilder place) (roles.Joining (Some entry)) = Both Smaller (Closed entry)
bond_of (OnlyRebuilder place) roles.Closing = Smaller
bond_of (OnlyRebuilder place) roles.Frozen = Smaller
bond_of (OnlyRebuilder place) (roles.Rebuilding from None) = Both Equal (SamePlace from place)
bond_of (OnlyRebuilder place) (roles.Rebuilding from (Some entry)) =
    Either (Both Smaller (Closed entry)) (Both Equal (SamePlace from place))
bond_of (FirstRebuilder place) roles.Frozen = Smaller
bond_of (FirstRebuilder place) (roles.Rebuilding from entry) = Both Equal (SamePlace from place)
bond_of (LastRebuilder place) (roles.Wanting from) = Both Smaller (SamePlace from place)
bond_of (LastRebuilder place) roles.Receiving = Smaller
bond_of (LastRebuilder place) (roles.Joining entry) = Smaller
bond_of (LastRebuilder place) (roles.Rebuilding from entry) = Both Equal (SamePlace from place)
bond_of OutsideRebuilder roles.Absent = Smaller
bond_of OutsideRebuilder roles.Frozen = Smaller
bond_of OutsideRebuilder (roles.Wanting from) = Smaller
bond_of OutsideRebuilder (roles.Rebuilding from entry) = Equal
bond_of Bystander roles.Absent = AtMost
bond_of Bystander roles.Frozen = AtMost
bond_of Bystander (roles.Wanting from) = Smaller
bond_of _ _ = Never

-- what a bond says of the row's term, the term of the master and how many entries of the master are applied
abbrev pub Holds : Bond → ℕ → ℕ → ℕ → Type 0
Holds Never term own applied = ⊥
Holds Equal term own applied = own ≡ term
Holds Smaller term own applied = own < term
Holds AtMost term own applied = own ≤ term
Holds (SamePlace from place) term own applied = from ≡ place
Holds (Closed entry) term own applied = entry < applied
Holds (Both one other) term own applied = Holds one term own applied × Holds other term own applied
Holds (Either one other) term own applied = Holds one term own applied ⊎ Holds other term own applied

-- whether the counter and the completions that a master has of a tablet are those from which calls are answered, or will
-- be: it serves, or it owns the tablet or gives it away, or it rebuilt the tablet for a row that is rebuilt once more
abbrev pub speaks : Post → Handover → ℕ → Bool
speaks (Owner place) handover term = true
speaks OpeningSource handover term = true
speaks (OnlyRebuilder place) handover term =
    is_serving handover.role || (is_rebuilding handover.role && nat_lt handover.term term)
speaks _ handover term = is_serving handover.role

-- what a master has of a tablet still counts: the master lives, or it has the row's term, so that what it reported before it
-- crashed may still be taken
abbrev pub StillCounts : Bool → ℕ → ℕ → Type 0
StillCounts live own term = (live ≡ true) ⊎ (own ≡ term)
