-- A client's last request, to be sent once more.
use Rattle.std.specs.Prelude.{◌≡◌, ◌∷◌, [], Option, Some, None, ⊤}
use Rattle.std.specs.Global.{Vec}
use Rattle.rk_message.specs.declared.message.Message.{Message}

-- a list of just this request, if there is one, else none
abbrev pub IsLastRequest : Option Message → Option (Vec Message) → Type 0
IsLastRequest None None = ⊤
IsLastRequest (Some request) (Some sends) = sends.items ≡ request ∷ []
IsLastRequest None (Some sends) = ⊥
IsLastRequest (Some request) None = ⊥
