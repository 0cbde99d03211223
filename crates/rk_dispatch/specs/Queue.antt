-- Passes of a queue of parcels, and what a call found in it.
use Rattle.std.specs.Prelude.{◌≡◌, ℕ, List, []}
use Rattle.crossbeam_queue.specs.Fifo.{Held}
use Rattle.crossbeam_queue.specs.Passes.{IsPassOf, Pass, ruled_capacity, view}
use Rattle.rk_types.specs.declared.node.Parcel.{Parcel}
use Rattle.rk_dispatch.specs.declared.account.Account.{Account}
use Rattle.rk_dispatch.specs.declared.parcels.Parcels.{Parcels}
use Rattle.rk_dispatch.specs.Balance.{IsLeft, account}

abbrev pub ParcelPass : Type 0
ParcelPass = Pass Parcel Account

-- the pass is one of this queue
abbrev pub IsOf : Parcels → ParcelPass → Type 0
IsOf parcels pass = IsPassOf parcels.queue pass

-- how many parcels the queue takes
abbrev pub capacity_of : Parcels → ℕ
capacity_of parcels = ruled_capacity parcels.queue

-- what the holder of a pass has given and taken, and its parts of the right to know the whole
abbrev pub account_of : ParcelPass → Account
account_of pass = view pass

-- at one moment of the call the queue was full, or empty; an account that has all parts records what was in it then
abbrev pub WasFull : Parcels → Account → Type 0
WasFull parcels a = Held (capacity_of parcels) (IsLeft a)

abbrev pub WasEmpty : Account → Type 0
WasEmpty a = Held 0 (IsLeft a)

-- the pass of a worker that has given these parcels and taken none, or taken these and given none
abbrev pub HasGiven : Parcels → List Parcel → ParcelPass → Type 0
HasGiven parcels given pass = IsOf parcels pass × (account_of pass ≡ account 1 given [])

abbrev pub HasTaken : Parcels → List Parcel → ParcelPass → Type 0
HasTaken parcels taken pass = IsOf parcels pass × (account_of pass ≡ account 1 [] taken)
