-- How numbers are spelled in a script, and the ranges of those that commands name.
use Rattle.std.specs.Prelude.{ℕ, ◌-◌, ◌^◌, ◌==◌, ◌&&◌, ◌||◌, Bool, not, nat_lt, nat_le, List, length, slice_index, Result, Ok, Err, if◌then◌else◌}
use Rattle.std.specs.List.{list_all}
use Rattle.std.specs.Char.{is_ascii_digit}
use Rattle.std.specs.Str.Parse.{digits_value}
use Rattle.rk_types.specs.declared.hashing.TheConstants.{LANES}
use Rattle.rk_script.specs.declared.code.Code.{Code}
use Rattle.rk_script.specs.declared.code.Code.TheVariants.{BadNumber}
use Rattle.rk_script.specs.declared.numbers.TheConstants.{ZERO, FEWEST_MASTERS, MOST_MASTERS, MOST_BACKUPS, MOST_TABLETS, HASH_DIGITS}

-- whether a word is a number in decimal digits, without a sign and without a leading zero
abbrev pub is_decimal : List ℕ → Bool
is_decimal word =
    list_all is_ascii_digit word && nat_lt 0 (length word) && (length word == 1 || not (slice_index word 0 == ZERO))

-- the number that a word spells, if it is of a range
abbrev pub number_in : ℕ → ℕ → List ℕ → Result ℕ Code
number_in least most word =
    if is_decimal word && nat_le least (digits_value 10 word) && nat_le (digits_value 10 word) most
    then Ok (digits_value 10 word)
    else Err BadNumber

-- how many masters there are, and how many backups
abbrev pub masters_of : List ℕ → Result ℕ Code
masters_of word = number_in FEWEST_MASTERS MOST_MASTERS word

abbrev pub backups_of : List ℕ → Result ℕ Code
backups_of word = number_in 1 MOST_BACKUPS word

-- a master, a tablet, a table and a client, each by its number
abbrev pub master_of : List ℕ → Result ℕ Code
master_of word = number_in 1 MOST_MASTERS word

abbrev pub tablet_of : List ℕ → Result ℕ Code
tablet_of word = number_in 1 MOST_TABLETS word

abbrev pub table_of : List ℕ → Result ℕ Code
table_of word = number_in 1 (2 ^ 64 - 1) word

abbrev pub client_of : List ℕ → Result ℕ Code
client_of word = number_in 1 (2 ^ 32 - 1) word

-- the version that a record is to have, 0 for a record that is not there
abbrev pub version_of : List ℕ → Result ℕ Code
version_of word = number_in 0 (2 ^ 64 - 1) word

-- a lane, and a place on its wire
abbrev pub lane_of : List ℕ → Result ℕ Code
lane_of word = number_in 0 (LANES - 1) word

abbrev pub place_of : List ℕ → Result ℕ Code
place_of word = number_in 1 (2 ^ 32 - 1) word

-- whether a byte is a hexadecimal digit in lower case
abbrev pub is_lower_hex : ℕ → Bool
is_lower_hex byte = is_ascii_digit byte || (nat_le 97 byte && nat_le byte 102)

-- a hash, in sixteen hexadecimal digits
abbrev pub hash_of : List ℕ → Result ℕ Code
hash_of word =
    if length word == HASH_DIGITS && list_all is_lower_hex word then Ok (digits_value 16 word) else Err BadNumber
