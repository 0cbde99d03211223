-- That tasks name lanes and masters that are there.
use Rattle.rk_settle.proofs.Words.{◌<◌, ◌≤◌, ◌+◌, ◌++◌, ◌∷◌, ℕ, suc, List, [], map, All, arith, All-append, All-cons, All-nil, flat_map}
use Rattle.rk_settle.proofs.Words.{range_with_len, LANES, IsMaster, AreTasks, IsTask, lane_tasks, turns_of, forgets, round_of, Task}
use Rattle.std.proofs.Common.{zero}
use Rattle.std.proofs.lemmas.List.Elements.{All-map, All-weaker}
use Rattle.rk_types.specs.declared.node.Node.TheVariants as nodes
use Rattle.rk_settle.specs.Tasks.{asks, takes_turn}
use Rattle.rk_settle.specs.declared.task.Task.TheVariants as tasks

module _ (masters : ℕ) where
  -- messages are forgotten
  pub forgets_are : (lane : ℕ) (numbers : List ℕ) → lane < LANES → AreTasks masters (map (forgets lane) numbers)
  forgets_are lane numbers there = All-map (IsTask masters) (forgets lane) numbers (λ (k : ℕ) (d : ℕ) within. (there, (tt, tt)))

  -- clients take their turns
  pub asks_are : (lane : ℕ) (clients : List ℕ) → lane < LANES → AreTasks masters (map (asks lane) clients)
  asks_are lane clients there = All-map (IsTask masters) (asks lane) clients (λ (k : ℕ) (d : ℕ) within. (there, tt))

  masters_are : (lane : ℕ) (live : List ℕ) → lane < LANES → All (IsMaster masters) live → AreTasks masters (map (λ master. takes_turn lane (nodes.Master master)) live)
  masters_are lane live there are =
      All-map (IsTask masters) (λ master. takes_turn lane (nodes.Master master)) live
      (All-weaker (IsMaster masters) (λ master. IsTask masters (takes_turn lane (nodes.Master master))) (λ (master : ℕ) is. (there, (tt, is))) live are)

  -- clients, the coordinator and masters do
  pub turns_are : (lane : ℕ) (clients live : List ℕ) → lane < LANES → All (IsMaster masters) live → AreTasks masters (turns_of lane clients live)
  turns_are lane clients live there are =
      All-append (IsTask masters) (map (asks lane) clients) (takes_turn lane nodes.Coordinator ∷ map (λ master. takes_turn lane (nodes.Master master)) live)
      (asks_are lane clients there)
      (All-cons (IsTask masters) (takes_turn lane nodes.Coordinator) (map (λ master. takes_turn lane (nodes.Master master)) live)
      (there, (tt, tt)) (masters_are lane live there are))

  lanes_are : (first count : ℕ) → first + count ≤ LANES → AreTasks masters (flat_map lane_tasks (range_with_len first count))
  lanes_are first zero within = All-nil (IsTask masters)
  lanes_are first (suc count) within =
      let there : first < LANES = omega (arith, within) in
      let later : List Task = flat_map lane_tasks (range_with_len (first + 1) count) in
      All-cons (IsTask masters) (tasks.Turns first) (tasks.Empties first ∷ later) there
      (All-cons (IsTask masters) (tasks.Empties first) later there (lanes_are (first + 1) count (omega (arith, within))))

  -- a round, and then the next
  pub round_are : (old : List Task) → AreTasks masters old → AreTasks masters (round_of (flat_map lane_tasks (range_with_len 0 LANES)) ++ tasks.Settles ∷ old)
  round_are old are = grind (arith, lane_tasks, lanes_are)
