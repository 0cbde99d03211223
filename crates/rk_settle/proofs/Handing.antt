-- Messages that are handed out: several moves at once.
use Rattle.rk_settle.proofs.Words.{arith, ◌≡◌, ℕ, Bool, true, false, List, [], ◌∷◌, filter, Option, None, Some, refl, sym, ap, ◌∙◌}
use Rattle.rk_settle.proofs.Words.{Segments, Cluster, lane_at, CountsGoOn, ClusterState, IsOf, is_number_off, sent_after, Moves, MovesAll}
use Rattle.rk_settle.proofs.Words.{Stops, forgets, Progress, SettleError, Task, Said}
use Rattle.std.proofs.Common.{find, cond, Result, Ok, Err, IfErr}
use Rattle.rk_message.specs.Wire.{Traffic}
use Rattle.rk_settle.specs.Exchange.{oldest_after}
use Rattle.rk_settle.specs.States.{StopsLater}
use Rattle.rk_settle.specs.declared.task.Task.TheVariants as made
use Rattle.rk_settle.specs.declared.topic.Topic.{Topic}
use Rattle.rk_settle.proofs.Moving.{more_moved, none_moved, one_moved, unfolds_moves}

-- if none is found that passes a test, none passes it
none_passes : {X : Type 0} (test : X → Bool) (list : List X) → find test list ≡ None → filter test list ≡ []
none_passes test [] none = refl
none_passes test (item ∷ list) none = passes_none (test item) refl (none_passes test list)
  where
    passes_none : (b : Bool) → test item ≡ b → (find test list ≡ None → filter test list ≡ []) → filter test (item ∷ list) ≡ []
    passes_none true is later = absurd (cc (ap (λ (b : Bool). cond b (Some item) (find test list)) (sym is) ∙ none))
    passes_none false is later =
        ap (λ (b : Bool). cond b (item ∷ filter test list) (filter test list)) is
        ∙ later (ap (λ (b : Bool). cond b (Some item) (find test list)) (sym is) ∙ none)

module _ {R : Type 0} (segments : R → Option Segments) (faults : R → ℕ) (state : ClusterState R) (lane : ℕ) (topic : Topic) (wire : Traffic)
    (wire_is : (cluster : Cluster) → IsOf segments state cluster → (lane_at cluster lane).wire ≡ wire) (from : ℕ) (rest : List Task) (progress : Progress) where
  -- messages of which none is to be forgotten are sorted at once
  pub sorts_none : (last : ℕ) → find (is_number_off wire topic) (sent_after wire last) ≡ None
      → Moves segments faults state state (made.Sorts lane topic from last ∷ rest) (made.Hands lane topic from ∷ rest) progress progress
  sorts_none last none = grind (arith, unfolds_moves, forgets, none_passes, is_number_off, sent_after)

  -- no message is left to hand out
  pub hands_none : oldest_after wire from ≡ None → Moves segments faults state state (made.Hands lane topic from ∷ rest) rest progress progress
  hands_none is = grind (arith, unfolds_moves)

  -- the oldest one is handed out
  pub hands_one : (number : ℕ) → oldest_after wire from ≡ Some number
      → Moves segments faults state state (made.Hands lane topic from ∷ rest)
      (made.Delivers lane number ∷ forgets lane number ∷ made.Sorts lane topic number wire.sent ∷ rest) progress progress
  hands_one number is = grind (arith, forgets, unfolds_moves)

module _ {R : Type 0} (segments : R → Option Segments) (faults : R → ℕ) where
  -- a command stops at its first move
  pub stops_first : (old new : ClusterState R) (left : List Task) (progress : Progress) (has : List Said) (e : SettleError) → has ≡ progress.said.items
      → CountsGoOn faults [] old new → Stops segments old new left progress e → StopsLater segments faults old new left progress has e
  stops_first old new left progress has e said counts stops = search none_moved

  -- or after more moves
  pub stops_then : (begun now next : ClusterState R) (first left : List Task) (was is : Progress) (has : List Said) (e : SettleError) → MovesAll segments faults begun now first left was is
      → StopsLater segments faults now next left is has e → StopsLater segments faults begun next first was has e
  stops_then begun now next first left was is has e all it = record {
    now = it.now;
    left = it.left;
    is = it.is;
    moves = more_moved segments faults begun now it.now first left it.left was is it.is all it.moves;
    said = it.said;
    counts = it.counts;
    stops = it.stops;
  }

-- a message that is handed out is delivered and forgotten; what its receiver sent then is to be sorted
module _ {R : Type 0} (segments : R → Option Segments) (faults : R → ℕ) (old mid : ClusterState R) (lane : ℕ) (topic : Topic) (wire : Traffic)
    (wire_is : (cluster : Cluster) → IsOf segments old cluster → (lane_at cluster lane).wire ≡ wire) (from number : ℕ) (found : oldest_after wire from ≡ Some number)
    (rest : List Task) (was is : Progress) where
  abbrev pub sorts_on : List Task
  sorts_on = made.Sorts lane topic number wire.sent ∷ rest

  abbrev pub forgets_first : List Task
  forgets_first = forgets lane number ∷ sorts_on

  -- it is to be delivered
  pub found_one : MovesAll segments faults old old (made.Hands lane topic from ∷ rest) (made.Delivers lane number ∷ forgets_first) was was
  found_one = grind (arith, one_moved, hands_one)

  -- it was delivered
  pub delivered : Moves segments faults old mid (made.Delivers lane number ∷ forgets_first) forgets_first was is
      → MovesAll segments faults old mid (made.Hands lane topic from ∷ rest) forgets_first was is
  delivered move = grind (arith, found_one, more_moved, one_moved)

  -- and is forgotten
  pub handed : (new : ClusterState R) → Moves segments faults old mid (made.Delivers lane number ∷ forgets_first) forgets_first was is
      → Moves segments faults mid new forgets_first sorts_on is is → MovesAll segments faults old new (made.Hands lane topic from ∷ rest) sorts_on was is
  handed new move forgotten = grind (arith, delivered, more_moved, one_moved)

-- what follows from two things that hold of an error
pub of_both : {T E : Type 0} (result : Result T E) (P Q S : E → Type 0) → ((e : E) → P e → Q e → S e) → IfErr result P → IfErr result Q → IfErr result S
of_both (Ok it) P Q S then one other = tt
of_both (Err e) P Q S then one other = then e one other
