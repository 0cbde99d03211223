use Rattle.rk_side_log.proofs.Words.{◌≡◌, ◌∙◌, ◌+◌, ◌++◌, ◌∷◌, [], ℕ, List, length, set, sym, ap, subst, arith, length-set, is_ok, Side}
use Rattle.rk_side_log.proofs.Words.{IsFilled, bytes_in, items_read}
use Rattle.rk_side_log.proofs.Filled.{GoesInto, bytes_most, items_filled, filled_again}
use Rattle.rk_side_log.proofs.Views.{length-bytes_in, goes_seen, taken_at, put_seen}
use Rattle.rk_side_log.proofs.side_log.SideLog.put.Goals as goal

pub place_for-place-requires-clause-few : goal.place_for-place-requires-clause-few
place_for-place-requires-clause-few g c = omega (arith, bytes_most g.item c.args.bytes.now c.requires.0 c.requires.1.0)

-- where the entry goes
here : (g : _) (c : goal.After-index_mut-arg-1 g) → GoesInto (bytes_in c.self.inside.segments.items) (items_read (bytes_in c.self.inside.segments.items)) g.item c.args.bytes.now c.place_for-place.result
here g c =
    goes_seen c.self.inside.segments.items c.as_slice.result.now c.self.inside.used c.args.self.now g.item c.args.bytes.now c.place_for-place.result
    c.self.invariant c.self.view_is c.requires c.as_slice.ensures.value c.place_for-place.ensures

pub index_mut-requires : goal.index_mut-requires
index_mut-requires g c = omega (arith, (here g c).within, length-bytes_in c.self.inside.segments.items)

pub append-requires : goal.append-requires
append-requires g c = omega (arith, bytes_most g.item c.args.bytes.now c.requires.0 c.requires.1.0)

-- the same, once the entry was put
here_then : (g : _) (c : goal.After-self-1 g) → GoesInto (bytes_in c.self.inside.segments.items) (items_read (bytes_in c.self.inside.segments.items)) g.item c.args.bytes.now c.place_for-place.result
here_then g c =
    goes_seen c.self.inside.segments.items c.as_slice.result.now c.self.inside.used c.args.self.now g.item c.args.bytes.now c.place_for-place.result
    c.self.invariant c.self.view_is c.requires c.as_slice.ensures.value c.place_for-place.ensures

pub unwrap-requires : goal.unwrap-requires
unwrap-requires g c =
    let there = here_then g c in
    taken_at c.self.inside.segments.items c.place_for-place.result c.index_mut.result.now c.args.bytes.now c.append.result
    (omega (arith, there.within, length-bytes_in c.self.inside.segments.items)) c.index_mut.ensures.value there.fits c.append.ensures.room

-- ---- once it is there

-- the segments are filled with the item too
filled_now : (g : _) (c : goal.After-self-2-1 g)
    → IsFilled (bytes_in (set c.self.inside.segments.items c.place_for-place.result c.append.new.self)) (c.place_for-place.result + 1) (items_read (bytes_in c.self.inside.segments.items) ++ g.item ∷ [])
filled_now g c =
    let segments = c.self.inside.segments.items in
    let place = c.place_for-place.result in
    let there = goes_seen segments c.as_slice.result.now c.self.inside.used c.args.self.now g.item c.args.bytes.now place
    c.self.invariant c.self.view_is c.requires c.as_slice.ensures.value c.place_for-place.ensures in
    subst (λ (now : List (List ℕ)). IsFilled now (place + 1) (items_read (bytes_in segments) ++ g.item ∷ []))
    (sym
    (put_seen segments place c.index_mut.result.now c.append.new.self c.args.bytes.now c.append.result (omega (arith, there.within, length-bytes_in segments))
    c.index_mut.ensures.value (ap is_ok c.unwrap.ensures) c.append.ensures.ok))
    there.filled

pub invariant_of-self : goal.invariant_of-self
invariant_of-self g c = filled_again _ _ _ (filled_now g c)

pub returns : goal.returns
returns g c =
    let segments = c.self.inside.segments.items in
    let items : items_read (bytes_in (set segments c.place_for-place.result c.append.new.self)) ≡ c.args.self.now.items ++ g.item ∷ [] =
    items_filled _ _ _ (filled_now g c) ∙ ap (λ (s : Side). s.items ++ g.item ∷ []) c.self.view_is in
    let made : length (set segments c.place_for-place.result c.append.new.self) ≡ c.args.self.now.made =
    length-set segments c.place_for-place.result c.append.new.self ∙ ap (λ (s : Side). s.made) c.self.view_is in
    λ i. record { items = items i; made = made i }
