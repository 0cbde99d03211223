-- The lineage of a tablet: the masters whose logs hold it.
use Rattle.std.specs.Prelude.{ℕ, List, [], ◌∷◌}
use Rattle.rk_types.specs.declared.lineage.Member.{Member}
use Rattle.rk_tablet_map.specs.declared.phase.Phase.{Phase}
use Rattle.rk_tablet_map.specs.declared.phase.Phase.TheVariants.{Owned, Opening, Moving, Rebuilding}

-- a master of a lineage, with its place
abbrev pub member : ℕ → ℕ → Member
member master from = record { master = master; from = from }

-- the masters, each with the place from which its log counts, the oldest first
abbrev pub lineage_of : Phase → List Member
lineage_of (Owned master from) = member master from ∷ []
lineage_of (Opening source sfrom target dfrom) = member source sfrom ∷ []
lineage_of (Moving source sfrom target dfrom) = member source sfrom ∷ member target dfrom ∷ []
lineage_of (Rebuilding lineage to) = lineage
