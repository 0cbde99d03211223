-- What backups report, once one of them took a message.
use Rattle.rk_lane.proofs.Words.{◌≡◌, ◌≤◌, ◌-◌, ◌+◌, ℕ, zero, suc, List, [], ◌∷◌, map, set, slice_get, Option, None, Some, refl, sym, ap}
use Rattle.rk_lane.proofs.Words.{subst, ◌∙◌, ⊎_elim, arith, cases_eq, get_other, get_same, NumberMap, get, insert, Node, Segments}
use Rattle.rk_lane.proofs.Words.{WhereTold, number_of, replica_of, BackupLane, AreNumbered, AreTold, IsTold}
use Rattle.std.proofs.lemmas.List.{map-set}
use Rattle.rk_types.specs.declared.node.Node.TheVariants as nodes
use Rattle.rk_outside.specs.Faults.{Rose}
use Rattle.rk_lane.specs.Events.{OneFailed, fault_counts}

-- ---- one place of a list is set

set_here : {X : Type 0} (list : List X) (place : ℕ) (old x : X) → slice_get list place ≡ Some old → slice_get (set list place x) place ≡ Some x
set_here [] place old x there = absurd (cc there)
set_here (first ∷ rest) zero old x there = refl
set_here (first ∷ rest) (suc place) old x there = set_here rest place old x there

set_other : {X : Type 0} (list : List X) (place other : ℕ) (x : X) → (other ≡ place → ⊥) → slice_get (set list place x) other ≡ slice_get list other
set_other [] place other x apart = refl
set_other (first ∷ rest) zero zero x apart = absurd (apart refl)
set_other (first ∷ rest) zero (suc other) x apart = refl
set_other (first ∷ rest) (suc place) zero x apart = refl
set_other (first ∷ rest) (suc place) (suc other) x apart = set_other rest place other x (λ same. apart (ap suc same))

set_back : {X : Type 0} (list : List X) (place : ℕ) (x : X) → slice_get list place ≡ Some x → set list place x ≡ list
set_back {X} [] place x there = refl
set_back {X} (first ∷ rest) zero x there = let same : first ≡ x = cc there in ap (λ (y : X). y ∷ rest) (sym same)
set_back {X} (first ∷ rest) (suc place) x there = ap (λ (list : List X). first ∷ list) (set_back rest place x there)

map_there : {X Y : Type 0} (f : X → Y) (list : List X) (place : ℕ) (x : X) → slice_get list place ≡ Some x → slice_get (map f list) place ≡ Some (f x)
map_there {X} f [] place x there = absurd (cc there)
map_there {X} f (first ∷ rest) zero x there = let same : first ≡ x = cc there in ap (λ (y : X). Some (f y)) same
map_there {X} f (first ∷ rest) (suc place) x there = map_there f rest place x there

-- ---- what is there then

-- backups, of which the one of a number is another one
abbrev pub with_backup : {R : Type 0} → List (BackupLane R) → ℕ → BackupLane R → List (BackupLane R)
with_backup backups number backup = set backups (number - 1) backup

-- what backups store, once what one of them stores has changed, if that was reported
abbrev pub stored_then : ℕ → (Segments → Segments) → NumberMap Segments → Option Segments → NumberMap Segments
stored_then number change stored None = stored
stored_then number change stored (Some its) = insert stored number (change its)

-- ---- what one reports

-- reported segments that changed are still reported
pub told_change : (change : Segments → Segments) (old new : Option Segments) (segments : Segments) → WhereTold (λ a b. b ≡ change a) old new → old ≡ Some segments
    → new ≡ Some (change segments)
told_change change old new segments told is = grind arith

module _ {R : Type 0} (before : List (BackupLane R)) (number : ℕ) (old new : BackupLane R)
    (first : 1 ≤ number) (there : slice_get before (number - 1) ≡ Some old) where
  abbrev after : List (BackupLane R)
  after = with_backup before number new

  -- they stay numbered
  pub numbered_after : number_of new ≡ number_of old → AreNumbered before → AreNumbered after
  numbered_after same numbered place backup at = grind (arith, set_here, number_of, set_other, cases_eq)

  -- ---- faults

  module _ (faults : R → ℕ) where
    counts_set : fault_counts faults after ≡ set (fault_counts faults before) (number - 1) (faults (replica_of new))
    counts_set = map-set (λ (backup : BackupLane R). faults (replica_of backup)) before (number - 1) new

    count_there : slice_get (fault_counts faults before) (number - 1) ≡ Some (faults (replica_of old))
    count_there = map_there (λ (backup : BackupLane R). faults (replica_of backup)) before (number - 1) old there

    -- if its count rose it alone failed
    pub one_failed : (receiver : Option Node) → receiver ≡ Some (nodes.Backup number) → Rose (faults (replica_of old)) (faults (replica_of new)) → OneFailed faults receiver before after
    one_failed receiver whose rose = record {
      place = number - 1;
      whose = whose ∙ (let same : number ≡ number - 1 + 1 = omega (arith, first) in ap (λ (n : ℕ). Some (nodes.Backup n)) same);
      before = faults (replica_of old);
      now = faults (replica_of new);
      there = count_there;
      counts = counts_set;
      rose = rose;
    }

    -- if it stays they all do
    pub none_failed : faults (replica_of new) ≡ faults (replica_of old) → fault_counts faults after ≡ fault_counts faults before
    none_failed same =
        counts_set
        ∙ ap (set (fault_counts faults before) (number - 1)) same
        ∙ set_back (fault_counts faults before) (number - 1) (faults (replica_of old)) count_there

  -- ---- segments

  module _ (segments : R → Option Segments) (change : Segments → Segments)
      (told : WhereTold (λ a b. b ≡ change a) (segments (replica_of old)) (segments (replica_of new)))
      (stored : NumberMap Segments) (are : AreTold segments before stored) where
    -- what another one reports it still does
    other_tells : (q : ℕ) (its : Segments) → (q ≡ number → ⊥) → IsTold segments before q its → IsTold segments after q its
    other_tells q its apart tells = record {
      place = tells.place;
      number_is = tells.number_is;
      backup = tells.backup;
      there = set_other before (number - 1) tells.place new (λ same. apart (omega (arith, same, first, tells.number_is))) ∙ tells.there;
      tells = tells.tells;
    }

    -- what it reported has changed
    it_tells : (its : Segments) → IsTold segments before number its → IsTold segments after number (change its)
    it_tells its tells =
        let place : tells.place ≡ number - 1 = omega (arith, tells.number_is) in
        let same_backup : Some tells.backup ≡ Some old = sym tells.there ∙ ap (slice_get before) place ∙ there in
        let same : tells.backup ≡ old = cc same_backup in
        record {
          place = number - 1;
          number_is = omega (arith, first);
          backup = new;
          there = set_here before (number - 1) old new there;
          tells =
              told_change change (segments (replica_of old)) (segments (replica_of new)) its told
              (ap (λ (backup : BackupLane R). segments (replica_of backup)) (sym same) ∙ tells.tells);
        }

    -- that is what they report then
    pub told_then : (found : Option Segments) → get stored number ≡ found → AreTold segments after (stored_then number change stored found)
    told_then None found q its at =
        other_tells q its
        (λ same. let never : None ≡ Some its = sym found ∙ ap (get stored) (sym same) ∙ at in cc never)
        (are q its at)
    told_then (Some mine) found q its at =
        ⊎_elim
        (λ (is : q ≡ number).
        let same : Some (change mine) ≡ Some its = sym (get_same stored number (change mine) q is) ∙ at in
        let its_is : change mine ≡ its = cc same in
        subst (λ (n : ℕ). IsTold segments after n its) (sym is)
        (subst (IsTold segments after number) its_is (it_tells mine (are number mine found))))
        (λ (apart : q ≡ number → ⊥).
        other_tells q its apart (are q its (sym (get_other stored number (change mine) q apart) ∙ at)))
        (cases_eq q number)
