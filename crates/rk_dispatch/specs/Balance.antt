-- What the passes of a queue know, and its rule: what was given is what was taken and what is in the queue, each as often.
use Rattle.std.specs.Prelude.{◌≡◌, ◌==◌, ◌&&◌, ℕ, ◌+◌, ◌-◌, Bool, List, [], ◌∷◌, ◌++◌}
use Rattle.std.specs.List.{All, count_by, sum_by}
use Rattle.rk_types.specs.declared.node.Parcel.{Parcel}
use Rattle.rk_dispatch.specs.declared.account.Account.{Account}

-- ---- lists of parcels

-- whether two parcels name the same message
abbrev pub is_same : Parcel → Parcel → Bool
is_same a b = (a.lane == b.lane) && (a.number == b.number)

-- how often a parcel occurs in a list
abbrev pub times : Parcel → List Parcel → ℕ
times parcel parcels = count_by (is_same parcel) parcels

-- two lists have the same parcels, each as often
abbrev pub AreSame : List Parcel → List Parcel → Type 0
AreSame these those = (parcel : Parcel) → times parcel these ≡ times parcel those

-- ---- what a pass knows

-- how many parts of the right to know the whole there are
abbrev pub PARTS : ℕ
PARTS = 1024

abbrev pub account : ℕ → List Parcel → List Parcel → Account
account parts given taken = record { parts = parts; given = given; taken = taken }

-- the account of the first pass, and that of a pass that is split off
abbrev pub first_account : Account
first_account = account PARTS [] []

abbrev pub new_account : Account
new_account = account 1 [] []

-- an account without one of its parts
abbrev pub without_part : Account → Account
without_part a = record a { parts = a.parts - 1 }

-- one account of what two have
abbrev pub joined : Account → Account → Account
joined a b = account (a.parts + b.parts) (a.given ++ b.given) (a.taken ++ b.taken)

-- what is left of an account whose content another one took in
abbrev pub spent : Account
spent = account 0 [] []

-- an account after a parcel was given, or taken
abbrev pub with_given : Account → Parcel → Account
with_given a parcel = record a { given = a.given ++ parcel ∷ [] }

abbrev pub with_taken : Account → Parcel → Account
with_taken a parcel = record a { taken = a.taken ++ parcel ∷ [] }

-- ---- the rule

-- an account without a part has given and taken nothing
abbrev pub IsIdle : Account → Type 0
IsIdle a = a.parts ≡ 0 → (a.given ≡ []) × (a.taken ≡ [])

-- a queue that holds these parcels, and whose passes have these accounts
pub record IsBalanced (queued : List Parcel) (accounts : List Account) : Type 0 where
  pub whole : sum_by (λ a. a.parts) accounts ≡ PARTS
  pub balance : (parcel : Parcel)
      → sum_by (λ a. times parcel a.given) accounts ≡ sum_by (λ a. times parcel a.taken) accounts + times parcel queued
  pub idle : All IsIdle accounts

-- what is known of a queue that holds these parcels: who has all parts has given what it has taken and what is left in the queue
abbrev pub IsLeft : Account → List Parcel → Type 0
IsLeft a left = a.parts ≡ PARTS → AreSame a.given (a.taken ++ left)
