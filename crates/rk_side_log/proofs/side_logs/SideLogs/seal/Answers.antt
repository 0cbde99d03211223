use Rattle.rk_side_log.proofs.Words.{◌≡◌, ◌∙◌, ℕ, List, length, replicate, sym, ap, subst, arith, All, IsLawfulHeld, Held, NumberedBytes}
use Rattle.rk_side_log.proofs.Words.{Side, no_side, items_of_each, made_in, unsealed_in}
use Rattle.std.proofs.Common.{Vec}
use Rattle.std.proofs.lemmas.List.Elements.{All-map}
use Rattle.std.specs.Global.{Global}
use Rattle.rk_side_log.proofs.Sealing.{made_none, unsealed_no_sides}
use Rattle.rk_side_log.proofs.side_logs.SideLogs.seal.Goals as goal

pub invariant_of-self : goal.invariant_of-self
invariant_of-self c = record {
  bytes_are = sym (ap (λ (l : List Side). unsealed_in (items_of_each l)) c.seal_all.ensures.empty ∙ unsealed_no_sides (length c.self.inside.workers));
  none_sealed = ap (λ (v : Vec NumberedBytes Global). v.items) c.replace.ensures.after ∙ c.new.ensures.items;
  room = omega (arith, ap made_in c.seal_all.ensures.empty, made_none (length c.self.inside.workers));
}

pub returns-clause-empty : goal.returns-clause-empty
returns-clause-empty c =
    let four : length c.self.inside.workers ≡ 4 = omega arith in
    ap items_of_each c.seal_all.ensures.empty ∙ ap (λ (n : ℕ). items_of_each (replicate n no_side)) four

pub returns-clause-lawful : goal.returns-clause-lawful
returns-clause-lawful c =
    subst (λ (l : List (List Held)). All (All IsLawfulHeld) l) c.self.view_is
    (All-map (All IsLawfulHeld) (λ (s : Side). s.items) c.self.inside.workers c.seal_all.ensures.lawful)
