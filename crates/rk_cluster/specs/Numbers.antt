-- The number that is written for each code.
use Rattle.std.specs.Prelude.{ℕ}
use Rattle.rk_cluster.specs.declared.code.Code.{Code}
use Rattle.rk_cluster.specs.declared.code.Code.TheVariants.{Alive, BadSplit, Busy, Crashed, LastMaster, Limit, NoPlace, NotMigrating, NotOwned, NothingSent, OwnsAll, Taken, TooLate, Unknown}

abbrev pub number_of : Code → ℕ
number_of TooLate = 7
number_of Taken = 8
number_of Unknown = 9
number_of Busy = 10
number_of NothingSent = 11
number_of NotOwned = 12
number_of OwnsAll = 13
number_of Crashed = 14
number_of LastMaster = 15
number_of NotMigrating = 16
number_of NoPlace = 17
number_of Limit = 18
number_of BadSplit = 19
number_of Alive = 21
