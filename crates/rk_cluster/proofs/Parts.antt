-- What occurs by each thing of a list, one after the other, once the first of them have come.
use Rattle.rk_cluster.proofs.Words.{◌≡◌, ◌≤◌, ◌<◌, ◌+◌, ◌++◌, ℕ, List, [], ◌∷◌, drop, length, map, map-append, slice_index_or, take}
use Rattle.rk_cluster.proofs.Words.{take_all, Option, None, Some, sym, ap, subst, ◌∙◌, append_assoc, Segments, Occurrence, Acts, ActsOne}
use Rattle.rk_cluster.proofs.Words.{AreCutShort, Carries, ClusterState, EndsWorn, IsShortOf}
use Rattle.std.proofs.lemmas.List.{take-append-drop, take_more}
use Rattle.rk_cluster.proofs.Carrying.{carries_all, worn_acts}
use Rattle.rk_cluster.proofs.Shortage.{came_short, carries_then}
use Rattle.rk_cluster.proofs.Worlds.{drop_next}

module _ {R X : Type 0} (segments : R → Option Segments) (occurs : X → Occurrence) (all : List X) where
  -- so many have come
  abbrev pub HaveCome : ClusterState R → ClusterState R → ℕ → Type 0
  HaveCome start now index = Carries segments start now (map occurs (take index all)) []

  -- with those that are left they are all
  in_parts : (index : ℕ) → map occurs (take index all) ++ map occurs (drop index all) ≡ map occurs all
  in_parts index = sym (map-append occurs (take index all) (drop index all)) ∙ ap (map occurs) (take-append-drop index all)

  pub come_none : (state : ClusterState R) → HaveCome state state 0
  come_none state = carries_all segments state []

  -- one more comes
  pub come_one : (start now next : ClusterState R) (index : ℕ) (d : X) → index < length all
      → ActsOne segments now next (occurs (slice_index_or all index d)) [] None → HaveCome start now index → HaveCome start next (index + 1)
  come_one start now next index d within one came =
      let x = slice_index_or all index d in
      subst (λ (list : List Occurrence). Carries segments start next list [])
      (sym (ap (map occurs) (take_more all index d within) ∙ map-append occurs (take index all) (x ∷ [])))
      (carries_then segments start now next (map occurs (take index all)) (occurs x) came one)

  -- or it ends since something is worn
  pub come_worn : (start now next : ClusterState R) (index number : ℕ) (d : X) → index < length all
      → ActsOne segments now next (occurs (slice_index_or all index d)) [] (Some number) → HaveCome start now index
      → EndsWorn segments start next (map occurs all) number
  come_worn start now next index number d within one came more =
      let left = map occurs (drop index all) in
      subst (λ (list : List Occurrence). Acts segments start next list [] (Some number))
      (sym (append_assoc (map occurs (take index all)) left more) ∙ ap (λ (list : List Occurrence). list ++ more) (in_parts index))
      (came next (left ++ more) [] (Some number)
      (subst (λ (list : List X). Acts segments now next (map occurs list ++ more) [] (Some number)) (sym (drop_next all index d within))
      (worn_acts segments now next (occurs (slice_index_or all index d)) (map occurs (drop (index + 1) all) ++ more) number one)))

  -- or memory was wanting
  pub come_short : (start now next : ClusterState R) (index : ℕ) → HaveCome start now index → IsShortOf now next
      → AreCutShort segments start next (map occurs all)
  come_short start now next index came since =
      subst (AreCutShort segments start next) (in_parts index)
      (came_short segments start now next (map occurs (take index all)) (map occurs (drop index all)) came since)

  -- all have come
  pub come_all : (start now : ClusterState R) (index : ℕ) → length all ≤ index → HaveCome start now index → Carries segments start now (map occurs all) []
  come_all start now index past came = subst (λ (list : List X). Carries segments start now (map occurs list) []) (take_all index all past) came
