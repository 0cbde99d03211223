-- Where a tablet is, in lines: one for all lanes if it is the same in each, and else one for each lane.
use Rattle.std.specs.Prelude.{ℕ, ◌+◌, Bool, List, [], ◌∷◌, ◌++◌, codes, decimal, if◌then◌else◌, bytes_eq}
use Rattle.std.specs.List.{list_all}
use Rattle.rk_tablet_map.specs.declared.phase.Phase.{Phase}
use Rattle.rk_tablet_map.specs.declared.phase.Phase.TheVariants.{Owned, Opening, Moving, Rebuilding}

-- the masters of a phase; the places from which their logs count are not shown
abbrev pub state_text : Phase → List ℕ
state_text (Owned master from) = codes "owned " ++ decimal master
state_text (Opening source sfrom target dfrom) = codes "opening " ++ decimal source ++ codes " " ++ decimal target
state_text (Moving source sfrom target dfrom) = codes "moving " ++ decimal source ++ codes " " ++ decimal target
state_text (Rebuilding lineage to) = codes "rebuilding " ++ decimal to

-- whether two phases are shown alike
abbrev pub is_like : Phase → Phase → Bool
is_like a b = bytes_eq (state_text a) (state_text b)

-- a tablet that is the same in all lanes
abbrev pub whole_line : ℕ → Phase → List ℕ
whole_line tablet phase = codes "tablet " ++ decimal tablet ++ codes " " ++ state_text phase ++ codes "\n"

-- a tablet in one lane
abbrev pub lane_line : ℕ → ℕ → Phase → List ℕ
lane_line tablet lane phase =
    codes "tablet " ++ decimal tablet ++ codes " lane " ++ decimal lane ++ codes " " ++ state_text phase ++ codes "\n"

-- a tablet lane by lane, from this lane on
abbrev pub lane_lines : ℕ → ℕ → List Phase → List ℕ
lane_lines tablet lane [] = []
lane_lines tablet lane (phase ∷ phases) = lane_line tablet lane phase ++ lane_lines tablet (lane + 1) phases

-- the lines of a tablet with these phases, the first that of lane 0
abbrev pub tablet_lines : ℕ → List Phase → List ℕ
tablet_lines tablet [] = []
tablet_lines tablet (first ∷ others) =
    if list_all (is_like first) others then whole_line tablet first else lane_lines tablet 0 (first ∷ others)
