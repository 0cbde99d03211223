-- What is in lists that are made of others: of each element's list, and of the numbers that entries name.
use Rattle.std.proofs.Common.{ℕ, List, [], Contains, flat_map}
use Rattle.rk_inv_base.proofs.Words.{Range, Entry, named, named_by}
use Rattle.rk_inv_tablets.proofs.ready.OwnItems.{flat_stands, number_stands, named_from as joined_named}
pub use Rattle.rk_inv_base.proofs.Words.{slice_get_front as stands_front}
pub use Rattle.rk_inv_tablets.proofs.ready.OwnItems.{flat_from, flat_stands as flat_of, at_place as place_there}

-- ---- numbers that are named

-- a number that entries name is named by one of them
pub named_from : (range : Range) (list : List Entry) (n : ℕ) → Contains (named range list) n → (entry : Entry) × Contains list entry × Contains (named_by range entry) n
named_from range list n at = let found = joined_named range list n at in (found.0, found.1, found.2)

-- and the other way round
pub named_of : (range : Range) (list : List Entry) (entry : Entry) (n : ℕ) → Contains list entry → Contains (named_by range entry) n → Contains (named range list) n
named_of range list entry n at its = number_stands [] (flat_map (named_by range) list) n (flat_stands (named_by range) list entry n at its)
