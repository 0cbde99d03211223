-- What was put now goes behind what was put before.
use Rattle.std.proofs.Common.{◌≡◌, ℕ, List, ◌++◌, arith, take, drop, sym, ap, ◌∙◌, append_assoc, take-append-drop}
use Rattle.std.proofs.KnownBytes.{Appends-trans}
use Rattle.rk_outside.proofs.writing.put_all.Goals as goal

-- bytes before a rest are the same bytes with the front of the rest, before what is left of it
moved : (all done rest left : List ℕ) (n : ℕ) → all ≡ done ++ rest → left ≡ drop n rest → all ≡ (done ++ take n rest) ++ left
moved all done rest left n e d =
    e ∙ ap (λ l. done ++ l) (sym (take-append-drop n rest)) ∙ sym (append_assoc done (take n rest) (drop n rest)) ∙ ap (λ l. (done ++ take n rest) ++ l) (sym d)

pub puts-preserved : goal.puts-preserved
puts-preserved g c = record {
  done = c.puts.invariant.done ++ take c.in_ok-taken.taken c.puts.rest.now;
  parts = moved _ _ _ _ _ c.puts.invariant.parts c.split_at.ensures.back;
  written = Appends-trans _ _ _ _ _ c.puts.invariant.written c.in_ok-taken.ensures.bytes;
  kept = c.in_ok-taken.ensures.cause.kept (λ some. omega arith) ∙ c.puts.invariant.kept;
}
