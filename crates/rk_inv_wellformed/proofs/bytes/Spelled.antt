-- What a master of a well formed lane appends when it takes a message can be spelled, whether or not its log has room for it.
use Rattle.std.proofs.Common.{◌==◌, ℕ, All, IfSome, arith, inl}
use Rattle.rk_inv_wellformed.proofs.Words.{Node, IsLawfulEntry, role_granted, Grant, Body, CopySegment, Rebuild, IsFormedMaster}
use Rattle.rk_inv_wellformed.proofs.Words.{IsFormedBody, IsFormedGrant, Limits, limits_of, Master, tablet_at, Tablet, World, master_at}
use Rattle.rk_inv_wellformed.specs.Appended.{GrantSpells, StandsOn}
use Rattle.rk_world.specs.Handovers as handing
use Rattle.rk_world.specs.Rebuilds as rebuilds
use Rattle.rk_inv_wellformed.proofs.bytes.Sizes.{place_fits}
use Rattle.rk_inv_wellformed.proofs.lanes.Backups.{lawful_of}
use Rattle.rk_inv_wellformed.proofs.lanes.More.{more_raised, raised}
use Rattle.rk_inv_wellformed.proofs.lanes.Worlds.{formed_limits, master_of, room_at}
use Rattle.rk_inv_wellformed.proofs.masters.Changes.{tablet_there, after_grant, moved_is}
use Rattle.rk_inv_wellformed.proofs.masters.Handovers.{carried_is_formed, granted_is_formed}
use Rattle.rk_inv_wellformed.proofs.masters.Rebuilding.{formed_copy, formed_rebuild}
use Rattle.rk_inv_wellformed.proofs.masters.Work.{AreLimits}

-- the entries of a well formed master can be spelled
written_lawful : {limits : Limits} {number : ℕ} {master : Master} → IsFormedMaster limits number master → All IsLawfulEntry master.log.entries
written_lawful {limits} formed place other within = lawful_of limits _ (formed.written place other within)

module _ (limits : Limits) (number : ℕ) (master : Master) (grant : Grant) (are : AreLimits limits) where
  abbrev target : Tablet
  target = tablet_at master grant.tenure.tablet

  -- a master takes a Grant
  pub grant_spells : IsFormedGrant limits grant → IsFormedMaster limits number master → GrantSpells master grant
  grant_spells told formed = moved_is (λ moved. IfSome moved (λ handover. IsLawfulEntry (handing.carried_entry handover grant)))
      (target.handover.term == grant.tenure.term) (record target.handover { counter = grant.floor }) (role_granted target.handover.role) tt
      (λ r is.
      let after = after_grant target.handover.role r is in
      let old = tablet_there grant.tenure.tablet after.there formed in
      (carried_is_formed limits number master grant are (granted_is_formed limits number master grant r after.now told old) told).lawful)

-- ---- in a lane

module _ (w : World) (master number : ℕ) (from to : Node) where
  wide_limits : {body : Body} → StandsOn w master number from to body → AreLimits (raised (limits_of w))
  wide_limits stands = grind (arith, formed_limits)

  says : {body : Body} → StandsOn w master number from to body → IsFormedBody (limits_of w) from body
  says {body} stands = (stands.formed.wire.each number (record { from = from; to = to; body = body }) stands.found).says

  pub grants_spell : (grant : Grant) → StandsOn w master number from to (Body.Grant grant) → GrantSpells (master_at w master) grant
  grants_spell grant stands = grant_spells (limits_of w) master (master_at w master) grant
      (formed_limits w stands.formed stands.room) (says stands) (master_of w master stands.there stands.formed)

  pub rebuilds_spell : (rebuild : Rebuild) → StandsOn w master number from to (Body.Rebuild rebuild)
      → All IsLawfulEntry (rebuilds.rebuild_taken (master_at w master) rebuild).master.log.entries
  rebuilds_spell rebuild stands =
      let body = Body.Rebuild rebuild in
      written_lawful (formed_rebuild (more_raised (limits_of w)) (wide_limits stands) (says stands) (master_of w master stands.there stands.formed)
      (place_fits (master_at w master) (room_at w master stands.there stands.formed stands.room).bytes) (inl (omega arith))).master

  pub copies_spell : (copy : CopySegment) → StandsOn w master number from to (Body.Copy copy)
      → All IsLawfulEntry (rebuilds.copy_taken (master_at w master) copy).master.log.entries
  copies_spell copy stands =
      let body = Body.Copy copy in
      written_lawful (formed_copy (more_raised (limits_of w)) (wide_limits stands) (says stands) (master_of w master stands.there stands.formed)
      (inl (omega arith))).master
