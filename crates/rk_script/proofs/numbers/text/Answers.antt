-- ASCII is text.
use Rattle.rk_script.proofs.Digits.{IsOk-from_ascii}
use Rattle.rk_script.proofs.numbers.text.Goals as goal

pub unwrap-requires : goal.unwrap-requires
unwrap-requires c = IsOk-from_ascii _ _ c.args.word.now c.requires c.from_utf8.result c.from_utf8.ensures.cases
