-- std reads hexadecimal digits.
use Rattle.std.proofs.Common.{◌≡◌}
use Rattle.std.specs.Str.Parse.{digits_value}
use Rattle.rk_script.proofs.Digits.{IsOk-from_value, hex_ascii, parses_hex}
use Rattle.rk_script.proofs.numbers.hexadecimal.Goals as goal

pub text-requires : goal.text-requires
text-requires c = hex_ascii c.args.word.now c.requires.digits

pub unwrap-requires : goal.unwrap-requires
unwrap-requires c =
    IsOk-from_value (λ number. number ≡ digits_value 16 c.args.word.now) c.from_str_radix.result
    (parses_hex c.args.word.now c.from_str_radix.result c.requires.length c.requires.digits (rw c.text.ensures at c.from_str_radix.ensures.value))

pub returns : goal.returns
returns c =
    rw c.unwrap.ensures at
    (parses_hex c.args.word.now c.from_str_radix.result c.requires.length c.requires.digits (rw c.text.ensures at c.from_str_radix.ensures.value))
