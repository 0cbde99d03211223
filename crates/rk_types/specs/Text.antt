-- Which bytes are a key, and which are a value.
use Rattle.std.specs.Prelude.{ℕ, List, length, position, ◌||◌, nat_lt, if◌then◌else◌, Option, Some}
use Rattle.std.specs.Option.{option_map}
use Rattle.rk_types.specs.declared.text.TextError.{TextError}
use Rattle.rk_types.specs.declared.text.TextError.TheVariants.{Length, Byte}
use Rattle.rk_types.specs.declared.text.TheConstants.{LONGEST_KEY, LONGEST_VALUE, FIRST_TEXT_BYTE, LAST_TEXT_BYTE}

-- the place of the first byte that is no printed character other than the blank
abbrev pub bad_byte : List ℕ → Option ℕ
bad_byte bytes = position (λ byte. nat_lt byte FIRST_TEXT_BYTE || nat_lt LAST_TEXT_BYTE byte) bytes

-- what is wrong with bytes of which there may be `shortest` to `longest`; the length is tested first
abbrev pub text_fault : ℕ → ℕ → List ℕ → Option TextError
text_fault shortest longest bytes =
    if nat_lt (length bytes) shortest || nat_lt longest (length bytes)
    then Some (Length (length bytes))
    else option_map Byte (bad_byte bytes)

-- what is wrong with bytes as a key
abbrev pub key_fault : List ℕ → Option TextError
key_fault bytes = text_fault 1 LONGEST_KEY bytes

-- what is wrong with bytes as a value
abbrev pub value_fault : List ℕ → Option TextError
value_fault bytes = text_fault 0 LONGEST_VALUE bytes
