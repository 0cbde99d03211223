-- Lemmas on segments by places, a master and a segment each, and on the trees that keep them.
use Rattle.std.proofs.Common.{◌≡◌, ◌≢◌, ℕ, Bool, false, cond, List, [], ◌∷◌, Some, ◌⊎◌, ⊎_elim, refl, sym, ap, ◌∙◌}
use Rattle.std.specs.BTreeMap.{BTreeMap, UpdatesBy, WritesThrough, is_at}
use Rattle.std.specs.BTreeMap.{get as get_in}
use Rattle.std.specs.Map.{lookup}
use Rattle.std.specs.Cmp.{IsTotalOrder}
use Rattle.std.specs.FinMap.{IsAntisymmetric, from_entries, get, insert, find, get-from_entries, get-insert, same_map}
use Rattle.std.specs.Ordering.{nat_cmp, ordering_then, is_eq, eq_by_cmp}
use Rattle.std.specs.declared.cmp.Ordering.{Ordering}
use Rattle.std.specs.declared.cmp.Ordering.TheVariants.{Less, Equal, Greater}
use Rattle.std.proofs.lemmas.Cmp.{then_total, on_total, nat_cmp_total, tied_itself, eq_by_cmp_equiv}
use Rattle.std.proofs.lemmas.Map.Lookups.{exact_unsigned}
use Rattle.std.proofs.lemmas.Map.Steps.{set_value_same}
use Rattle.rk_outside.specs.Segments.{ChangesAt}
use Rattle.rk_outside.specs.Replicas.{place_cmp, SegmentMap, segments_in, by_number}

-- places are in a total order
place_cmp_total : IsTotalOrder place_cmp
place_cmp_total = then_total (on_total (λ p. p.0) nat_cmp_total) (on_total (λ p. p.1) nat_cmp_total)

-- two places tie only if they are equal
same_place : (a b m s : ℕ) (first second : Ordering) → nat_cmp a m ≡ first → nat_cmp b s ≡ second → ordering_then first second ≡ Equal → ◌≡◌ {A = ℕ × ℕ} (a, b) (m, s)
same_place a b m s Less second p q e = absurd (cc)
same_place a b m s Greater second p q e = absurd (cc)
same_place a b m s Equal Less p q e = absurd (cc)
same_place a b m s Equal Greater p q e = absurd (cc)
same_place a b m s Equal Equal p q e = λ i. (exact_unsigned a m p i, exact_unsigned b s q i)

place_cmp-IsAntisymmetric : IsAntisymmetric place_cmp
place_cmp-IsAntisymmetric x y e = same_place x.0 x.1 y.0 y.1 _ _ refl refl e

-- two places do not tie if their masters or their segments differ
apart_by : (a b m s : ℕ) (first second : Ordering) → nat_cmp a m ≡ first → nat_cmp b s ≡ second → (a ≢ m) ⊎ (b ≢ s) → is_eq (ordering_then first second) ≡ false
apart_by a b m s Less second p q apart = refl
apart_by a b m s Greater second p q apart = refl
apart_by a b m s Equal Less p q apart = refl
apart_by a b m s Equal Greater p q apart = refl
apart_by a b m s Equal Equal p q apart =
    absurd (⊎_elim (λ (other : a ≢ m). other (exact_unsigned a m p)) (λ (other : b ≢ s). other (exact_unsigned b s q)) apart)

-- what is found among entries, by either word
find-lookup : (place : ℕ × ℕ) (entries : List ((ℕ × ℕ) × List ℕ)) → find place_cmp place entries ≡ lookup (is_at (place_cmp place)) entries
find-lookup place [] = refl
find-lookup place (e ∷ es) = ap (cond (is_eq (place_cmp place e.0)) (Some e.1)) (find-lookup place es)

-- the segments of a tree are those that it finds
pub get-segments_in : (tree : BTreeMap (ℕ × ℕ) (List ℕ)) (place : ℕ × ℕ) → get (segments_in tree) place ≡ get_in place_cmp tree place
get-segments_in tree place = get-from_entries place_cmp_total tree.entries place ∙ find-lookup place tree.entries

-- a tree with a new value at one place has the segments with that value inserted
pub segments_in-updated : (master segment : ℕ) (value : List ℕ) (old new : BTreeMap (ℕ × ℕ) (List ℕ)) → UpdatesBy place_cmp (place_cmp (master, segment)) old new (Some value)
    → segments_in new ≡ insert (segments_in old) (master, segment) value
segments_in-updated master segment value old new updates =
    same_map place_cmp_total place_cmp-IsAntisymmetric _ _ (λ place.
    get-segments_in new place ∙ updates.0 place
    ∙ ap (λ (here : Bool). cond here (Some value) (get_in place_cmp old place)) ((eq_by_cmp_equiv place_cmp_total).symm (master, segment) place)
    ∙ ap (cond (eq_by_cmp place_cmp place (master, segment)) (Some value)) (sym (get-segments_in old place))
    ∙ sym (get-insert place_cmp_total (segments_in old) (master, segment) value place))

-- a tree in which the value that was found is written back has the same segments
pub segments_in-written_back : (master segment : ℕ) (value : List ℕ) (old new : BTreeMap (ℕ × ℕ) (List ℕ)) → get_in place_cmp old (master, segment) ≡ Some value
    → WritesThrough place_cmp (place_cmp (master, segment)) old value new → segments_in new ≡ segments_in old
segments_in-written_back master segment value old new found written =
    ap (from_entries {R = place_cmp}) (written.0 ∙ set_value_same (is_at (place_cmp (master, segment))) old.entries value found)

-- segments with a value inserted change there alone
pub ChangesAt-insert : (master segment : ℕ) (value : List ℕ) (written : SegmentMap) → ChangesAt master segment (Some value) (by_number written) (by_number (insert written (master, segment) value))
ChangesAt-insert master segment value written = record {
  here = get-insert place_cmp_total written (master, segment) value (master, segment)
      ∙ ap (λ (o : Ordering). cond (is_eq o) (Some value) (get written (master, segment))) (tied_itself place_cmp_total (master, segment));
  others = λ m s apart. get-insert place_cmp_total written (master, segment) value (m, s)
      ∙ ap (λ (here : Bool). cond here (Some value) (get written (m, s))) (apart_by m s master segment _ _ refl refl apart);
}
