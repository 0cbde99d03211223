-- The part Rebuilds when the entry of a call is appended.
use Rattle.rk_inv_base.proofs.Words.{arith, ◌≡◌, ℕ, Bool, true, List, Contains, ne_eqb, cond-false, cond-true, All-contains, Ended, Held}
use Rattle.rk_inv_base.proofs.Words.{Member, Segments, Entry, Completions, Handover, Role, Rebuilding, Row, Log, known_of, EntryEnd, Gather}
use Rattle.rk_inv_base.proofs.Words.{is_member, own_place, Written, member_material, Mark, stored_of, FormerMember, Holds, bond_of, post_of}
use Rattle.rk_inv_base.proofs.Words.{rebuilder_post, IsRebuilder, MarkFits, NeededOf, READ_BACKUP, StandsLast, has_merged, RoleFits, View}
use Rattle.rk_inv_base.proofs.Words.{RolesOf, lineage_of, CountsFor}
use Rattle.rk_tablet_map.specs.Phase.{member as member_at}

-- a master that rebuilds a row, by what is needed, what masters have written and what backups store
abbrev pub IsRebuilderBy : (ℕ → EntryEnd → Type 0) → (ℕ → Log) → (ℕ → Written) → (ℕ → Segments) → Row → List Member → ℕ → List Entry → Handover → Completions → Gather → List Ended → List Held → Type 0
IsRebuilderBy Needed logs written stored row lineage master truth handover completions gather ends table =
    IsRebuilder row lineage master truth (member_material written row.range (member_at master (own_place handover.role))) Needed
    (λ q. known_of (logs q) READ_BACKUP) (λ q. stored_of stored q READ_BACKUP) (written master) handover completions gather ends table

-- and what is needed is given by what masters have written
abbrev pub IsRebuilderIn : (ℕ → Log) → (ℕ → Written) → (ℕ → Segments) → Row → List Member → ℕ → List Entry → Handover → Completions → Gather → List Ended → List Held → Type 0
IsRebuilderIn logs written stored row lineage master truth handover completions gather ends table =
    IsRebuilderBy (NeededOf row written lineage) logs written stored row lineage master truth handover completions gather ends table

-- a mark fits a tablet of the same term that has merged as much, if its piece still comes last
pub mark_same : (row : Row) (master : ℕ) (old new : Handover) (live : Bool) (was is : Written) (mark : Mark) → new.term ≡ old.term → has_merged new.role ≡ has_merged old.role → StandsLast row.range is mark → MarkFits row master old live was mark → MarkFits row master new live is mark
mark_same row master old new live was is mark term merged behind fit = grind (arith, lineage_of, has_merged)

-- a former member has no tablet that counts
pub former_never : (role : Role) (term own applied : ℕ) → Holds (bond_of FormerMember role) term own applied → ⊥
former_never role term own applied holds = holds

-- so a living master is no member of a row that another one rebuilds
pub former_alone : (v : View) (row : Row) → ((q : ℕ) → CountsFor v row q → RoleFits row q (v.handovers q row.tablet) (v.written q).applied) → (lineage : List Member) (to q : ℕ) → row.phase ≡ Rebuilding lineage to → v.live q ≡ true → (q ≡ to → ⊥) → is_member lineage q ≡ true → ⊥
former_alone v row fitting lineage to q is lives away member =
    grind (arith, post_of, cond-false, rebuilder_post, is_member, ne_eqb, cond-true, former_never, bond_of)

pub former_gone : (v : View) → RolesOf v → (row : Row) → Contains v.rows row → (lineage : List Member) (to q : ℕ) → row.phase ≡ Rebuilding lineage to → v.live q ≡ true → (q ≡ to → ⊥) → is_member lineage q ≡ true → ⊥
former_gone v roles row has =
    former_alone v row
    (λ q. All-contains (λ r. CountsFor v r q → RoleFits r q (v.handovers q r.tablet) (v.written q).applied) v.rows row (roles.fitting q) has)
