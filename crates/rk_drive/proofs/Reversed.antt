-- Passes come in the order that is reverse to that of the sessions.
use Rattle.std.proofs.Common.{arith, ◌≡◌, List, [], ◌∷◌, map, refl, reverse, ap, ◌∙◌}
use Rattle.std.proofs.lemmas.Grind.{reverse_onto}
use Rattle.std.proofs.lemmas.List.{map-append, reverse-reverse}
use Rattle.rk_world.specs.Client.{Session}
use Rattle.rk_shared_lanes.specs.Passes.{PassState}
use Rattle.rk_shared_lanes.specs.Together.{clients_of, sessions_of}
use Rattle.rk_drive.specs.Workers.{clients_in}

map_reversed : {X Y : Type 0} (f : X → Y) (xs : List X) → map f (reverse xs) ≡ reverse (map f xs)
map_reversed f [] = refl
map_reversed f (x ∷ xs) = grind (arith, reverse_onto, map-append, (map_reversed f xs))

module _ (first last : List PassState) (sessions : List Session) (given : sessions_of first ≡ reverse sessions) (same : clients_in last ≡ clients_in first) where
  -- the clients of passes that are of the clients of those that sessions were put into
  pub clients_back : reverse (clients_of (sessions_of last)) ≡ clients_of sessions
  clients_back =
      ap reverse (same ∙ ap clients_of given ∙ map_reversed (λ (session : Session). session.client) sessions) ∙ reverse-reverse (clients_of sessions)

  -- so are the sessions' that come out of them
  pub clients_out : clients_of (reverse (sessions_of last)) ≡ clients_of sessions
  clients_out = map_reversed (λ (session : Session). session.client) (sessions_of last) ∙ clients_back
