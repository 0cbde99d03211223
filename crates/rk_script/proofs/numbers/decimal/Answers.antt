-- std reads decimal digits.
use Rattle.std.proofs.Common.{◌≡◌, ◌≤◌, ◌^◌}
use Rattle.std.specs.Str.Parse.{digits_value}
use Rattle.rk_script.proofs.Digits.{IfNone-from_err, decimal_ascii, parses_decimal}
use Rattle.rk_script.proofs.numbers.decimal.Goals as goal

pub text-requires : goal.text-requires
text-requires c = decimal_ascii c.args.word.now c.requires

pub returns-clause-none : goal.returns-clause-none
returns-clause-none c =
    rw c.ok.ensures.value
    (IfNone-from_err (λ number. number ≡ digits_value 10 c.args.word.now) (2 ^ 64 ≤ digits_value 10 c.args.word.now) c.parse.result
    (parses_decimal c.args.word.now c.parse.result c.requires (rw c.text.ensures at c.parse.ensures.value.0)))
