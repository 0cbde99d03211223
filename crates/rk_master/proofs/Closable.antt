-- What closes the roles of tablets can be spelled, also after one of them changed.
use Rattle.rk_master.proofs.Words.{◌≡◌, ℕ, zero, suc, ◌<◌, eqb, List, [], ◌∷◌, length, get_or, set, None, sym, subst, arith, w64, nat_cmp}
use Rattle.rk_master.proofs.Words.{Ordering, Less, Equal, Greater, by_order, NumberMap, insert, Call, Range, IsLawfulRange, IsNumber, Role}
use Rattle.rk_master.proofs.Words.{noting, Tablet, AreTablets, given_up_but, can_close, IsClosable, AreClosable, tablet_of, tablets_of}
use Rattle.rk_master.proofs.Words.{TabletLane, Row}
use Rattle.rk_types.specs.declared.call.Ended.{Ended}
use Rattle.rk_entry.specs.declared.entry.Joined.{Joined}
use Rattle.rk_transfer.specs.declared.role.Role.TheVariants as roles
use Rattle.rk_master.proofs.Places.{at_itself, order_there}

-- what the entry that closes the role of a tablet records
abbrev pub closing_joined : Tablet → Joined
closing_joined tablet = record { range = tablet.handover.range; term = tablet.handover.term; segments = tablet.pulling.sealed }

-- it can in a role for which nothing is needed
pub closable_in : (tablet : Tablet) (role : Role) → tablet.handover.role ≡ role → ((joined : Joined) → can_close role joined) → IsClosable tablet
closable_in tablet role is can = subst (λ (r : Role). can_close r (closing_joined tablet)) (sym is) (can (closing_joined tablet))

-- it can in the role of a target that pulls, if its range and its term can be spelled
pub closable_as : (tablet : Tablet) → tablet.handover.role ≡ roles.Receiving → IsLawfulRange tablet.handover.range × IsNumber w64 1 tablet.handover.term → IsClosable tablet
closable_as tablet is can = subst (λ (r : Role). can_close r (closing_joined tablet)) (sym is) can

-- and in any other role than that of a target
pub closable_else : (tablet : Tablet) → (tablet.handover.role ≡ roles.Receiving → ⊥) → (tablet.handover.role ≡ roles.Joining None → ⊥) → IsClosable tablet
closable_else tablet not_receiving not_joining = grind (arith, can_close)

-- it can at each place
pub closable_at : (rows : List Row) (i : ℕ) (d : Row) → i < length rows → AreClosable (tablets_of rows) → IsClosable (tablet_of (get_or rows i d).1)
closable_at [] i d within lawful = absurd (omega (arith, within))
closable_at (row ∷ rows) zero d within lawful = lawful.0
closable_at (row ∷ rows) (suc i) d within lawful = closable_at rows i d (omega (arith, within)) lawful.1

-- after one was changed at its place
pub closable_set : (rows : List Row) (i : ℕ) (row : Row) → AreClosable (tablets_of rows) → IsClosable (tablet_of row.1) → AreClosable (tablets_of (set rows i row))
closable_set [] i row lawful new = tt
closable_set (first ∷ rows) zero row lawful new = (new, lawful.1)
closable_set (first ∷ rows) (suc i) row lawful new = (lawful.0, closable_set rows i row lawful.1 new)

-- and after one was put under a number
pub closable_insert : (tablets : NumberMap Tablet) (number : ℕ) (tablet : Tablet) → AreClosable tablets → IsClosable tablet → AreClosable (insert tablets number tablet)
closable_insert [] number tablet lawful new = (new, tt)
closable_insert (entry ∷ tablets) number tablet lawful new = go (nat_cmp number entry.0) (closable_insert tablets number tablet lawful.1 new)
  where
    go : (o : Ordering) → AreClosable (insert tablets number tablet)
        → AreClosable (by_order o ((number, tablet) ∷ entry ∷ tablets) ((entry.0, tablet) ∷ tablets) (entry ∷ insert tablets number tablet))
    go Less rest = (new, lawful)
    go Equal rest = (new, lawful.1)
    go Greater rest = (lawful.0, rest)

-- an end that is noted leaves it as it is
pub noted_closable : (call : Call) (end : Ended) (tablet : Tablet) → IsClosable tablet → IsClosable (noting call end tablet)
noted_closable call end tablet lawful = grind arith

-- and so does a tablet that is given up
pub given_up_closable : (kept : ℕ) (range : Range) (number : ℕ) (tablet : Tablet) → IsClosable tablet → IsClosable (given_up_but kept range number tablet)
given_up_closable kept range number tablet lawful = grind (arith, eqb)

-- ---- the tablets of a master

-- they stay lawful if one is changed at its place and what closes its role can be spelled
pub lawful_set : (rows : List Row) (i : ℕ) (d : Row) (lane : TabletLane) → i < length rows → AreTablets rows → IsClosable (tablet_of lane)
    → AreTablets (set rows i ((get_or rows i d).0, lane))
lawful_set rows i d lane within old new = record {
  order = order_there rows (get_or rows i d).0 i d lane old.order (at_itself rows i d within);
  closable = closable_set rows i ((get_or rows i d).0, lane) old.closable new;
}

-- so they do if it was read there
pub lawful_read : (rows : List Row) (i : ℕ) (read : Row) (lane : TabletLane) → i < length rows → read ≡ get_or rows i read → AreTablets rows → IsClosable (tablet_of lane)
    → AreTablets (set rows i (read.0, lane))
lawful_read rows i read lane within is old new =
    subst (λ (r : Row). AreTablets (set rows i (r.0, lane))) (sym is) (lawful_set rows i read lane within old new)
