-- What a target's tablet becomes while it pulls, and what it awaits.
use Rattle.std.specs.Prelude.{ℕ, ◌+◌, ◌&&◌, Bool, List, [], ◌∷◌, slice_set}
use Rattle.rk_types.specs.declared.held.Held.{Held}
use Rattle.rk_types.specs.declared.held.Token.{Token}
use Rattle.rk_priority.specs.Hashes.{got, is_batch, no_hashes}
use Rattle.rk_message.specs.declared.pulling.Got.{Got}
use Rattle.rk_message.specs.declared.pulling.Pulled.{Pulled}
use Rattle.rk_world.specs.Pulls.{is_token, with_pulling}
use Rattle.rk_world.specs.RoleTests.{is_receiving_at}
use Rattle.rk_world.specs.Tablet.{Tablet}

-- the tablet, whose worker has these items
abbrev pub with_side : Tablet → ℕ → List Held → Tablet
with_side tablet worker items =
    with_pulling tablet (record tablet.pulling { sides = slice_set tablet.pulling.sides worker items })

-- the tablet, whose token moved on behind one more batch
abbrev pub with_token : Tablet → Token → Tablet
with_token tablet next =
    with_pulling tablet (record tablet.pulling { token = next; batches = tablet.pulling.batches + 1 })

-- the tablet, for which these hashes have come
abbrev pub with_resolved : Tablet → List ℕ → Tablet
with_resolved tablet hashes =
    with_pulling tablet (record tablet.pulling { hashes = got tablet.pulling.hashes hashes })

-- no worker has an item
abbrev pub no_sides : List (List Held)
no_sides = [] ∷ [] ∷ [] ∷ [] ∷ []

-- the tablet, whose side logs are so and became the side segments of these numbers; no hash is wanted any more
abbrev pub with_sealed : Tablet → List (List Held) → List ℕ → Tablet
with_sealed tablet sides numbers =
    with_pulling tablet (record tablet.pulling { hashes = no_hashes; sides = sides; sealed = numbers })

-- whether a tablet pulls at the term of a batch, and awaits that one
abbrev pub awaits : Tablet → Pulled → Bool
awaits tablet pulled =
    is_receiving_at tablet pulled.tenure.term && is_token pulled.token tablet.pulling.token

-- whether a tablet pulls at the term of a Got, and asked for its hashes
abbrev pub asked_for : Tablet → Got → Bool
asked_for tablet message =
    is_receiving_at tablet message.tenure.term && is_batch tablet.pulling.hashes.outstanding message.hashes
