-- Tests of the role that a master has for a tablet.
use Rattle.std.specs.Prelude.{ℕ, Bool, true, false, ◌==◌, ◌&&◌, None}
use Rattle.rk_transfer.specs.declared.role.Role.{Role}
use Rattle.rk_transfer.specs.declared.role.Role.TheVariants as roles
use Rattle.rk_world.specs.Tablet.{Tablet}

-- whether a role is that of a target that pulls
abbrev pub is_receiving : Role → Bool
is_receiving roles.Receiving = true
is_receiving _ = false

-- whether a role is that of a tablet that is frozen
abbrev pub is_frozen : Role → Bool
is_frozen roles.Frozen = true
is_frozen _ = false

-- whether a role is that of a master that does nothing for the tablet
abbrev pub is_absent : Role → Bool
is_absent roles.Absent = true
is_absent _ = false

-- whether a rebuild still gathers
abbrev pub is_gathering : Role → Bool
is_gathering (roles.Rebuilding from None) = true
is_gathering _ = false

-- whether a master rebuilds
abbrev pub is_rebuilding : Role → Bool
is_rebuilding (roles.Rebuilding from entry) = true
is_rebuilding _ = false

-- whether a master in this role has nothing of its tablet staged
abbrev pub is_idle : Role → Bool
is_idle roles.Absent = true
is_idle roles.Frozen = true
is_idle (roles.Wanting from) = true
is_idle _ = false

-- whether staged calls of a tablet may be left in a role
abbrev pub may_have_staged : Role → Bool
may_have_staged roles.Serving = true
may_have_staged roles.Receiving = true
may_have_staged (roles.Joining entry) = true
may_have_staged roles.Closing = true
may_have_staged (roles.Rebuilding from entry) = true
may_have_staged _ = false

-- whether a tablet is frozen at a term
abbrev pub is_frozen_at : Tablet → ℕ → Bool
is_frozen_at tablet term = is_frozen tablet.handover.role && (tablet.handover.term == term)

-- whether a tablet pulls at a term
abbrev pub is_receiving_at : Tablet → ℕ → Bool
is_receiving_at tablet term = is_receiving tablet.handover.role && (tablet.handover.term == term)
