use Rattle.rk_settle.proofs.Words.{◌≡◌, ◌<◌, ◌+◌, ◌-◌, ◌∷◌, ◌++◌, ℕ, suc, List, sym, ap, subst, ◌∙◌, arith, on_ok_weaker, flat_map}
use Rattle.rk_settle.proofs.Words.{range_with_len, LANES, AreTasks, lane_tasks, Task}
use Rattle.rk_settle.specs.declared.task.Task.TheVariants as tasks
use Rattle.rk_settle.proofs.Named.{round_are}
use Rattle.rk_settle.proofs.settling.round.Goals as goal

-- what the last lanes do, so many
abbrev last_lanes : ℕ → List Task
last_lanes many = flat_map lane_tasks (range_with_len (LANES - many) many)

-- the lane before them does it before them
one_more : (many : ℕ) (old was new : List Task) → many < LANES → was ≡ last_lanes many ++ old → new ≡ lane_tasks (LANES - 1 - many) ++ was
    → new ≡ last_lanes (many + 1) ++ old
one_more many old was new within before pushed =
    let place : LANES - 1 - many ≡ LANES - (many + 1) = omega arith in
    let next : LANES - many ≡ LANES - (many + 1) + 1 = omega arith in
    let more : suc many ≡ many + 1 = omega arith in
    pushed
    ∙ (λ i. lane_tasks (place i) ++ before i)
    ∙ ap (λ (first : ℕ). lane_tasks (LANES - (many + 1)) ++ flat_map lane_tasks (range_with_len first many) ++ old) next
    ∙ ap (λ (count : ℕ). flat_map lane_tasks (range_with_len (LANES - (many + 1)) count) ++ old) more

pub loop-before-preserved : goal.loop-before-preserved
loop-before-preserved c =
    one_more c.loop-before.before c.push_all.new.self c.loop-before.tasks c.push_all-in-loop-before.new.self c.loop-before-test.true c.loop-before.invariant c.in_ok-push_all-2.ensures

pub returns-clause-pushed : goal.returns-clause-pushed
returns-clause-pushed c =
    let all : c.loop-before.before ≡ LANES = omega (arith, c.loop-before-test.false, c.loop-before.auto.before-end) in
    on_ok_weaker c.push.result
    (λ pushed.
    pushed
    ∙ ap (λ (rest : List Task). tasks.Begins ∷ rest)
    (c.loop-before.invariant
    ∙ ap (λ (many : ℕ). last_lanes many ++ c.push_all.new.self) all
    ∙ ap (λ (rest : List Task). last_lanes LANES ++ rest) c.in_ok-push_all.ensures))
    c.push.ensures

pub returns-clause-lawful : goal.returns-clause-lawful
returns-clause-lawful c =
    on_ok_weaker c.push.result (λ pushed masters before. subst (AreTasks masters) (sym pushed) (round_are masters c.args.tasks.now before)) (returns-clause-pushed c)
