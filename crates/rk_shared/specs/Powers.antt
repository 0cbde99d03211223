-- Numbers of lanes as powers of nine: eight of them add up to this only if they are those of 0 to 7, each once.
use Rattle.std.specs.Prelude.{ℕ}

-- the powers of nine of the numbers of all lanes, 1 + 9 + .. + 9^7
abbrev pub ALL_NUMBERS : ℕ
ALL_NUMBERS = 5380840
