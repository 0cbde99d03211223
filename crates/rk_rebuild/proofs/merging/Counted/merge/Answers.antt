use Rattle.rk_rebuild.proofs.Words.{◌≡◌, List, [], ◌∷◌, ◌++◌, map, refl, ap, ◌∙◌, flat_map, Bor, get, Ended, Held, Entry, completions_from}
use Rattle.rk_rebuild.proofs.Words.{items_of, ends_by_place, lent}
use Rattle.rk_world.specs.Ends.{told}
use Rattle.rk_world.specs.Merge.{copies_of, floor_of, merged_ends, first_told}
use Rattle.rk_rebuild.specs.Told.{ends_told}
use Rattle.rk_rebuild.proofs.merging.Counted.merge.Goals as goal

-- what lists of lists give
told_joined : (members : List (List Entry)) → flat_map (λ ends. ends) (map told members) ≡ flat_map told members
told_joined [] = refl
told_joined (entries ∷ members) = ap (λ ends. told entries ++ ends) (told_joined members)

-- the ends that members record, merged
ends_merged : (members : List (List Entry)) → ends_told (map told members) ≡ merged_ends members
ends_merged members =
    ap (λ (all : List Ended). map (λ end. first_told end (get (completions_from [] all) end.client)) (ends_by_place all (map told members)))
    (told_joined members)

pub returns : goal.returns
returns c = λ members is.
    let own : List Held = items_of (lent c.args.own.now) in
    let all : List Entry = flat_map (λ entries. entries) members in
    let copies : c.from_vec.result ≡ copies_of own (items_of all) =
    c.from_vec.ensures ∙ c.in_ok-copies_of.ensures
    ∙ ap (λ (es : List (Bor Entry)). copies_of own (items_of (lent es))) c.as_slice.ensures.value
    ∙ ap (λ (es : List Entry). copies_of own (items_of es)) is.all in
    let floor : c.in_ok-floor_of.field-0 ≡ floor_of all =
    c.in_ok-floor_of.ensures
    ∙ ap (λ (es : List (Bor Entry)). floor_of (lent es)) c.as_slice-2.ensures.value
    ∙ ap floor_of is.all in
    let ends : c.from_vec-2.result ≡ merged_ends members =
    c.from_vec-2.ensures ∙ c.in_ok-merged_ends.ensures
    ∙ ap ends_told (c.as_slice-3.ensures.value ∙ is.told)
    ∙ ends_merged members in
    λ i. record { copies = copies i; floor = floor i; ends = ends i }
