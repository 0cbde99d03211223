-- Laws of the part Roles: what tablets that look the same keep of it.
use Rattle.rk_inv_base.proofs.Words.{arith, ◌≡◌, ℕ, Bool, List, slice_index_or, Handover, Phase, Row, Written, post_of, RoleFits, KeepTerm}
use Rattle.rk_inv_base.proofs.Words.{Roles}
use Rattle.rk_inv_base.proofs.Base.{still_counts, LooksAs}

-- a tablet that looks as before fits its master's post as before
pub role_looks : (row : Row) (master : ℕ) (old new : Handover) (applied applied' : ℕ) → LooksAs old new → applied' ≡ applied → RoleFits row master old applied → RoleFits row master new applied'
role_looks row master old new applied applied' looks same fits =
    rw same (rw looks.term (looks.role.fits (post_of row.phase master) row.term old.term applied fits))

-- who hands a tablet over and who takes it keep the row's term as before
pub terms_look : (phase : Phase) (terms terms' : ℕ → ℕ) (term : ℕ) → ((q : ℕ) → terms' q ≡ terms q) → KeepTerm phase terms term → KeepTerm phase terms' term
terms_look phase terms terms' term same at = grind arith

module _ (rows : List Row) (handovers handovers' : ℕ → ℕ → Handover) (written written' : ℕ → Written) (live : ℕ → Bool) where
  -- each tablet looks as before, and as much is applied
  pub roles_looks : Roles rows handovers written live → ((q r : ℕ) → LooksAs (handovers q r) (handovers' q r)) → ((q : ℕ) → (written' q).applied ≡ (written q).applied) → Roles rows handovers' written' live
  roles_looks old looks same = grind (arith, slice_index_or, role_looks, terms_look, still_counts)
