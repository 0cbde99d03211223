-- A tablet whose records are shown: in each lane a master that lives owns it.
use Rattle.rk_play.proofs.Words.{◌≡◌, ◌<◌, ◌+◌, ℕ, suc, Bool, true, false, not, ◌||◌, List, [], ◌∷◌, Option, None, Some, length}
use Rattle.rk_play.proofs.Words.{slice_index_or, refl, sym, ap, ◌∙◌, arith, list_all, range_with_len, Cluster, lane_at, World, new_world}
use Rattle.rk_play.proofs.Words.{code_where, owner_in, Unknown, there_within, dump_code, is_held, lives_owner}
use Rattle.std.proofs.Common.{◌&&◌, is_some}
use Rattle.std.specs.List.{list_any}
use Rattle.rk_cluster.specs.Codes.{first_code}
use Rattle.rk_cluster.specs.Looks.{all_lanes, has_dead_owner, is_dead_owner, is_owned, is_tablet}
use Rattle.rk_cluster.specs.declared.code.Code.TheVariants.{NotOwned}

-- ---- lanes by their numbers, and worlds one by one

-- within a list it does not matter what is past its end
same_within : (worlds : List World) (place : ℕ) (d e : World) → place < length worlds → slice_index_or worlds place d ≡ slice_index_or worlds place e
same_within worlds place d e within = cc (sym (there_within worlds place d within) ∙ there_within worlds place e within)

module _ (test : World → Bool) where
  any_from : (worlds : List World) (look : ℕ → World) (first : ℕ)
      → ((place : ℕ) (d : World) → place < length worlds → look (first + place) ≡ slice_index_or worlds place d)
      → list_any (λ number. test (look number)) (range_with_len first (length worlds)) ≡ list_any test worlds
  any_from [] look first there = refl
  any_from (w ∷ worlds) look first there =
      let at : first ≡ first + 0 = omega arith in
      let here : look first ≡ w = ap look at ∙ there 0 w (omega arith) in
      let rest = any_from worlds look (first + 1) (λ place d within.
      let next : first + 1 + place ≡ first + suc place = omega arith in
      ap look next ∙ there (suc place) d (omega (arith, within))) in
      λ i. test (here i) || rest i

  any_lane : (cluster : Cluster) → list_any (λ number. test (lane_at cluster number)) (all_lanes cluster) ≡ list_any test cluster.lanes
  any_lane cluster =
      any_from cluster.lanes (lane_at cluster) 0 (λ place d within.
      let same : 0 + place ≡ place = omega arith in
      ap (lane_at cluster) same ∙ same_within cluster.lanes place (new_world place 0 0) d within)

-- ---- owners that live

lives_is : (w : World) (owner : Option ℕ) → lives_owner w owner ≡ (is_some owner && not (is_dead_owner w owner))
lives_is w None = refl
lives_is w (Some owner) = refl

one_more : (owned died all any held : Bool) → (not all || any) ≡ not held → (not (owned && all) || (died || any)) ≡ not ((owned && not died) && held)
one_more owned died all any held same = grind arith

held_in : (tablet : ℕ) (worlds : List World)
    → (not (list_all (λ w. is_some (owner_in w tablet)) worlds) || list_any (λ w. is_dead_owner w (owner_in w tablet)) worlds)
    ≡ not (list_all (λ w. lives_owner w (owner_in w tablet)) worlds)
held_in tablet [] = refl
held_in tablet (w ∷ worlds) =
    let owner = owner_in w tablet in
    let held = list_all (λ w. lives_owner w (owner_in w tablet)) worlds in
    one_more (is_some owner) (is_dead_owner w owner) (list_all (λ w. is_some (owner_in w tablet)) worlds)
    (list_any (λ w. is_dead_owner w (owner_in w tablet)) worlds) held (held_in tablet worlds)
    ∙ ap (λ (lives : Bool). not (lives && held)) (sym (lives_is w owner))

-- the code, if the tablet is there and held so or not
pub dump_held : (cluster : Cluster) (tablet : ℕ) (held : Bool) → is_tablet cluster tablet ≡ true → is_held cluster tablet ≡ held
    → dump_code cluster tablet ≡ first_code (code_where false Unknown ∷ code_where (not held) NotOwned ∷ [])
dump_held cluster tablet held there is =
    let owned : (not (is_owned cluster tablet) || has_dead_owner cluster (all_lanes cluster) tablet) ≡ not held =
    ap (λ (died : Bool). not (is_owned cluster tablet) || died) (any_lane (λ w. is_dead_owner w (owner_in w tablet)) cluster)
    ∙ held_in tablet cluster.lanes ∙ ap not is in
    λ i. first_code (code_where (not (there i)) Unknown ∷ code_where (owned i) NotOwned ∷ [])
