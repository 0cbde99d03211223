-- Lists of which neither the order nor the repeats matter.
use Rattle.std.specs.Prelude.{◌≡◌, List, Contains, ◌↔◌}
use Rattle.rk_types.specs.declared.held.Held.{Held}

-- two items of one key and one version are equal
abbrev pub IsPlain : List Held → Type 0
IsPlain items =
    (a b : Held) → Contains items a → Contains items b
    → a.table ≡ b.table → a.key ≡ b.key → a.version ≡ b.version → a ≡ b

-- what is in one list is in the other
abbrev pub HaveSame : List Held → List Held → Type 0
HaveSame xs ys = (item : Held) → Contains xs item ↔ Contains ys item
