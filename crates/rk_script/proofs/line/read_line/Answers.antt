-- The first words of the line say what it says.
use Rattle.rk_script.specs.Lines.{words_of}
use Rattle.rk_script.proofs.WordLemmas.{said_in-take}
use Rattle.rk_script.proofs.line.read_line.Goals as goal

pub returns-clause-ok : goal.returns-clause-ok
returns-clause-ok c =
    rw (← said_in-take c.args.line.now (words_of c.args.line.now), ← c.in_ok-words.ensures, ← c.as_slice.ensures.value) c.read_words.ensures.ok

pub returns-clause-err : goal.returns-clause-err
returns-clause-err c =
    rw (← said_in-take c.args.line.now (words_of c.args.line.now), ← c.in_ok-words.ensures, ← c.as_slice.ensures.value) c.read_words.ensures.err
