-- What a master does for its tablets on its turn, for one after the other.
use Rattle.rk_master.proofs.Words.{arith, ◌≡◌, ℕ, ◌+◌, ◌<◌, ◌≤◌, List, [], ◌∷◌, ◌++◌, length, drop, slice_get, get_or, Option, Some, refl}
use Rattle.rk_master.proofs.Words.{sym, ap, ◌∙◌, subst, append_assoc, append-nil, NumberMap, Message, Role, Master, with_tablet, duties}
use Rattle.rk_master.proofs.Words.{Tablet, Worked, Work, behind, marks_of, tablet_of, tablets_of, worked_of, IsAt, Row}
use Rattle.std.proofs.lemmas.List.{drop_all}
use Rattle.rk_transfer.specs.declared.role.Role.TheVariants as roles
use Rattle.rk_world.specs.MasterTurn.{pull_of, receiving_duty, tablet_duty, want_of, with_outstanding}
use Rattle.rk_master.proofs.Applying.{behind_changed}
use Rattle.rk_staged.proofs.Keeping.{from_place}
use Rattle.rk_master.proofs.Places.{at_itself}

-- a row that was read at a place is there by its number
pub at_read : (rows : List Row) (i : ℕ) (read : Row) → i < length rows → read ≡ get_or rows i read → IsAt read.0 rows i
at_read rows i read within is = subst (λ (row : Row). IsAt row.0 rows i) (sym is) (at_itself rows i read within)

-- ---- one tablet

-- a target asked its source, first for the outstanding hashes
pub asked_so : (work more : Work) (master after : Master) (sends : List Message) (number : ℕ) (tablet asking : Tablet)
    → asking ≡ with_outstanding tablet → after ≡ with_tablet master number asking
    → sends ≡ work.sends.items ++ want_of master number asking asking.pulling.hashes.outstanding
    → more.sends.items ≡ sends ++ pull_of master number asking ∷ [] → more.served.items ≡ work.served.items → more.marked ≡ work.marked
    → worked_of after more ≡ behind work (receiving_duty master number tablet)
asked_so work more master after sends number tablet asking asking_is after_is wanted pulled served marked =
    grind (arith, behind, with_tablet, append_assoc, append-nil, marks_of)

-- nothing is done in a role without a duty
pub no_duty : (work : Work) (master : Master) (number : ℕ) (tablet : Tablet) (role : Role) → (role ≡ roles.Receiving → ⊥)
    → ((entry : Option ℕ) → role ≡ roles.Joining entry → ⊥) → ((from : ℕ) (entry : Option ℕ) → role ≡ roles.Rebuilding from entry → ⊥)
    → worked_of master work ≡ behind work (tablet_duty master number tablet role)
no_duty work master number tablet roles.Absent receives joins rebuilds = behind_changed work master
no_duty work master number tablet roles.Serving receives joins rebuilds = behind_changed work master
no_duty work master number tablet roles.Closing receives joins rebuilds = behind_changed work master
no_duty work master number tablet roles.Frozen receives joins rebuilds = behind_changed work master
no_duty work master number tablet (roles.Wanting from) receives joins rebuilds = behind_changed work master
no_duty work master number tablet roles.Receiving receives joins rebuilds = absurd (receives refl)
no_duty work master number tablet (roles.Joining entry) receives joins rebuilds = absurd (joins entry refl)
no_duty work master number tablet (roles.Rebuilding from entry) receives joins rebuilds = absurd (rebuilds from entry refl)

-- ---- one tablet after the other

-- the duty for one more tablet is done
pub duty_done : (work more : Work) (master after : Master) (rows : List Row) (at : ℕ) (row : Row) → slice_get rows at ≡ Some row
    → worked_of after more ≡ behind work (tablet_duty master row.0 (tablet_of row.1) row.1.handover.role)
    → behind more (duties after (tablets_of (drop (at + 1) rows))) ≡ behind work (duties master (tablets_of (drop at rows)))
duty_done work more master after rows at row there made =
    (λ i. record {
      master = (duties (master_is i) rest).master;
      sends = sends_are i ++ (duties (master_is i) rest).sends;
      served = served_are i ++ (duties (master_is i) rest).served;
      marked = marked_are i ++ (duties (master_is i) rest).marked;
    })
    ∙ (λ i. record {
      master = later.master;
      sends = append_assoc work.sends.items first.sends later.sends i;
      served = append_assoc work.served.items first.served later.served i;
      marked = append_assoc (marks_of work.marked) first.marked later.marked i;
    })
    ∙ ap (λ (xs : List Row). behind work (duties master (tablets_of xs))) (sym (from_place rows at row there))
  where
    rest : NumberMap Tablet
    rest = tablets_of (drop (at + 1) rows)

    first : Worked
    first = tablet_duty master row.0 (tablet_of row.1) row.1.handover.role

    later : Worked
    later = duties first.master rest

    master_is : after ≡ first.master
    master_is = ap (λ (w : Worked). w.master) made

    sends_are : more.sends.items ≡ work.sends.items ++ first.sends
    sends_are = ap (λ (w : Worked). w.sends) made

    served_are : more.served.items ≡ work.served.items ++ first.served
    served_are = ap (λ (w : Worked). w.served) made

    marked_are : marks_of more.marked ≡ marks_of work.marked ++ first.marked
    marked_are = ap (λ (w : Worked). w.marked) made

-- none is left behind the last one
pub duties_done : (work : Work) (master : Master) (rows : List Row) (at : ℕ) → length rows ≤ at → worked_of master work ≡ behind work (duties master (tablets_of (drop at rows)))
duties_done work master rows at done =
    behind_changed work master ∙ ap (λ (xs : List Row). behind work (duties master (tablets_of xs))) (sym (drop_all at rows done))
