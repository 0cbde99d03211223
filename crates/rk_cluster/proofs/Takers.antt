-- Who takes a turn in a lane: the clients that ask there, and the masters that live.
use Rattle.rk_cluster.proofs.Words.{◌≡◌, ◌<◌, ◌≤◌, ◌+◌, ◌-◌, ◌++◌, ℕ, suc, Bool, true, false, cond, List, [], ◌∷◌, All, filter, map, Option}
use Rattle.rk_cluster.proofs.Words.{None, Some, IfSome, refl, sym, ap, subst, ◌∙◌, append_assoc, append-nil, arith, flat_map}
use Rattle.rk_cluster.proofs.Words.{range_with_len, nat_cmp, eq_by_cmp, unsigned_tied, All-cons, All-map, All-nil, All-push, All-weaker}
use Rattle.rk_cluster.proofs.Words.{NumberMap, numbers, Call, Session, Occurrence, Master, IsMaster, IsFormedWithRoom, LaneState, Running}
use Rattle.rk_cluster.proofs.Words.{world_with, asks_in, in_lane, IsDeed, occurrences, clients_in, is_call_in, live_in, turns_of}
use Rattle.rk_cluster.proofs.Words.{HasSession, all_ask}
use Rattle.std.proofs.Common.{eq-eqb}
use Rattle.rk_types.specs.declared.node.Node.TheVariants as nodes
use Rattle.rk_world.specs.World.{lives}
use Rattle.rk_world.specs.declared.event.Event.TheVariants as events
use Rattle.rk_lane.proofs.Noticed.{filter_next}
use Rattle.rk_cluster.specs.Makes.{asks_by}
use Rattle.rk_cluster.specs.Turns.{turn_of}

-- ---- clients

-- the next session of those that are left
pub client_next : (lane client : ℕ) (session : Session) (rest later : NumberMap Session) (items : List ℕ) → rest ≡ (client, session) ∷ later
    → (items ++ cond (is_call_in lane session.outstanding) (client ∷ []) []) ++ clients_in lane later ≡ items ++ clients_in lane rest
client_next lane client session rest later items is = grind (arith, append_assoc, is_call_in, clients_in)

has_later : (entry : ℕ × Session) (rest : NumberMap Session) (client : ℕ) → HasSession rest client → HasSession (entry ∷ rest) client
has_later entry rest client has = grind (arith, eq_by_cmp, nat_cmp, entry.0, entry.1)

have_by : (b : Bool) (entry : ℕ × Session) (rest kept : NumberMap Session) → All (HasSession (entry ∷ rest)) (numbers kept)
    → All (HasSession (entry ∷ rest)) (numbers (cond b (entry ∷ kept) kept))
have_by b entry rest kept have = grind (arith, numbers, unsigned_tied, eq-eqb)

-- those who ask in a lane have sessions
pub clients_have : (lane : ℕ) (sessions : NumberMap Session) → All (HasSession sessions) (clients_in lane sessions)
clients_have lane [] = All-nil (HasSession [])
clients_have lane (entry ∷ rest) = grind (arith, have_by, is_call_in, has_later, clients_in, entry.1.outstanding, (clients_have lane rest))

asks_first : (lane client : ℕ) (session : Session) (call : Option Call) (kept : NumberMap Session)
    → all_ask lane (numbers (cond (is_call_in lane call) ((client, session) ∷ kept) kept)) ≡ asks_by lane client call ++ all_ask lane (numbers kept)
asks_first lane client session call kept = grind (arith, is_call_in)

-- the turns of those who ask in a lane are what each session makes there
pub all_ask_is : (lane : ℕ) (sessions : NumberMap Session) → all_ask lane (clients_in lane sessions) ≡ flat_map (λ entry. asks_in lane entry.0 entry.1) sessions
all_ask_is lane [] = refl
all_ask_is lane (entry ∷ rest) =
    grind (arith, asks_first, is_call_in, asks_in, entry.0, entry.1, entry.1.outstanding, (all_ask_is lane rest))

-- ---- masters

numbers_by : {X : Type 0} (b : Bool) (p : ℕ → Bool) (number : ℕ) (thing : X) (kept : NumberMap X) (rest : List ℕ) → numbers kept ≡ filter p rest
    → numbers (cond b ((number, thing) ∷ kept) kept) ≡ cond b (number ∷ filter p rest) (filter p rest)
numbers_by true p number thing kept rest is = ap (λ (list : List ℕ). number ∷ list) is
numbers_by false p number thing kept rest is = is

-- the numbers of those whose numbers pass a test are the numbers that do
numbers_filter : {X : Type 0} (p : ℕ → Bool) (things : NumberMap X) → numbers (filter (λ entry. p entry.0) things) ≡ filter p (numbers things)
numbers_filter p [] = refl
numbers_filter p (entry ∷ rest) = numbers_by (p entry.0) p entry.0 entry.1 (filter (λ it. p it.0) rest) (numbers rest) (numbers_filter p rest)

-- what holds of all that runs holds of it
pub where_running : (Holds : Running → Type 0) (o : Option Running) → ((running : Running) → o ≡ Some running → Holds running) → IfSome o Holds
where_running Holds None gives = tt
where_running Holds (Some running) gives = gives running refl

module _ {R : Type 0} (at : LaneState R) (masters : ℕ) where
  -- of the masters up to some number, those that live are collected
  pub record IsCollecting (found : List ℕ) (index : ℕ) : Type 0 where
    pub there : All (IsMaster masters) found
    pub live : (running : Running) → at.running ≡ Some running
        → found ++ filter (lives (world_with at running [])) (range_with_len (index + 1) (masters - index)) ≡ live_in at running

  pub collecting_none : ((running : Running) → at.running ≡ Some running → IsFormedWithRoom (world_with at running []))
      → ((running : Running) → at.running ≡ Some running → running.coordinator.masters ≡ masters) → IsCollecting [] 0
  collecting_none formed counted = record {
    there = All-nil (IsMaster masters);
    live = λ running runs.
        let w = world_with at running [] in
        let all : masters - 0 ≡ running.coordinator.masters = omega (arith, counted running runs) in
        ap (λ (count : ℕ). filter (lives w) (range_with_len 1 count)) all
        ∙ ap (filter (lives w)) (sym (formed running runs).formed.masters_are)
        ∙ sym (numbers_filter (lives w) running.masters);
  }

  there_by : (b : Bool) (found : List ℕ) (master : ℕ) → All (IsMaster masters) found → IsMaster masters master → All (IsMaster masters) (found ++ cond b (master ∷ []) [])
  there_by true found master there is = All-push (IsMaster masters) found master there is
  there_by false found master there is = subst (All (IsMaster masters)) (sym (append-nil found)) there

  pub collecting_one : (found next : List ℕ) (index : ℕ) (alive : Bool) → index < masters
      → ((running : Running) → at.running ≡ Some running → alive ≡ lives (world_with at running []) (index + 1))
      → next ≡ found ++ cond alive ((index + 1) ∷ []) [] → IsCollecting found index → IsCollecting next (index + 1)
  collecting_one found next index alive within known is before = record {
    there = subst (All (IsMaster masters)) (sym is) (there_by alive found (index + 1) before.there (record { first = omega arith; last = omega (arith, within) }));
    live = λ running runs.
        let p = lives (world_with at running []) in
        let more : masters - index ≡ suc (masters - (index + 1)) = omega (arith, within) in
        ap (λ (list : List ℕ). list ++ filter p (range_with_len (index + 1 + 1) (masters - (index + 1))))
        (is ∙ ap (λ (b : Bool). found ++ cond b ((index + 1) ∷ []) []) (known running runs))
        ∙ filter_next p (index + 1) (masters - index) (masters - (index + 1)) found more
        ∙ before.live running runs;
  }

  pub collected : (found : List ℕ) (index : ℕ) → masters ≤ index → IsCollecting found index → (running : Running) → at.running ≡ Some running → found ≡ live_in at running
  collected found index past before running runs = grind (arith, append-nil, world_with)

-- ---- turns

-- the turns of masters that are there are deeds that may be done
pub turns_fit : (count masters lane : ℕ) (live : List ℕ) → lane < count → All (IsMaster masters) live → All (IsDeed count masters) (turns_of lane live)
turns_fit count masters lane live there are =
    All-cons (IsDeed count masters) (turn_of lane nodes.Coordinator) (map (λ master. turn_of lane (nodes.Master master)) live)
    (record { there = there; plain = tt; may = tt })
    (All-map (IsDeed count masters) (λ master. turn_of lane (nodes.Master master)) live
    (All-weaker (IsMaster masters) (λ master. IsDeed count masters (turn_of lane (nodes.Master master))) (λ (master : ℕ) is. record { there = there; plain = tt; may = is }) live are))

masters_turn : (lane : ℕ) (masters : NumberMap Master)
    → occurrences (map (λ master. turn_of lane (nodes.Master master)) (numbers masters)) ≡ map (λ entry. in_lane lane (events.Turn (nodes.Master entry.0))) masters
masters_turn lane [] = refl
masters_turn lane (entry ∷ rest) = ap (λ (list : List Occurrence). in_lane lane (events.Turn (nodes.Master entry.0)) ∷ list) (masters_turn lane rest)

-- what occurs by the turns of the coordinator and of some masters
pub turns_are : (lane : ℕ) (masters : NumberMap Master)
    → occurrences (turns_of lane (numbers masters)) ≡ in_lane lane (events.Turn nodes.Coordinator) ∷ map (λ entry. in_lane lane (events.Turn (nodes.Master entry.0))) masters
turns_are lane masters = ap (λ (list : List Occurrence). in_lane lane (events.Turn nodes.Coordinator) ∷ list) (masters_turn lane masters)
