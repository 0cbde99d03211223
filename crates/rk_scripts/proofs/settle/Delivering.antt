-- A message of a lane is delivered and forgotten: it is taken off the wire, and the other lanes are as they were.
use Rattle.std.proofs.Common.{◌≡◌, ◌<◌, ℕ, Bool, true, false, cond, List, [], ◌∷◌, length, Option, None, Some, is_some, refl, sym, ap}
use Rattle.std.proofs.Common.{subst, ◌∙◌, arith, true≢false}
use Rattle.rk_scripts.proofs.Words.{get, LANES, Node, Message, Called, Gave, accept, Accepts, Cluster, Happens, Occurrence, lane_at}
use Rattle.rk_scripts.proofs.Words.{session_at, refusal, step, stepped_by, World, acted, worn_in, is_lost_at_backup, is_client}
use Rattle.rk_scripts.proofs.Words.{deliver_in_makes, delivery, delivery_of, has_receiver, Fate, Kept, Course, occurrence_error, occurring}
use Rattle.rk_scripts.proofs.Words.{forgets, Arrival, Loses, arrived, forgotten, taken_off, AreAdded, added_after, Event, address_fault}
use Rattle.rk_cluster.specs.Replicas.{answer_of}
use Rattle.rk_inv_lanes.specs.wires.Emptied.{Accepts as takes, Delivers as reaches}
use Rattle.rk_runs.specs.duties.Added.{MayGetSession}
use Rattle.rk_scripts.proofs.settle.Going.{Comes, Goes, IsAt, alone_fresh, goes_on, occurs_move, still_move}
use Rattle.rk_scripts.proofs.settle.Lanes.{ChangesLane, changes_none, stepped_changes, visited_changes}
use Rattle.rk_scripts.proofs.settle.Setting.{Setting, eight}
use Rattle.rk_scripts.proofs.settle.Tasks.{Task, delivers}
use Rattle.rk_scripts.proofs.settle.Worn.{fresh_event}

-- ---- what is worn does not depend on what the call of a replica comes to

-- what a replica answers that a delivery calls
abbrev answered : Cluster → ℕ → ℕ → Fate → Called
answered cluster lane number fate = answer_of cluster lane (Event.Deliver number) fate

delivery_worn : (cluster : Cluster) (lane number : ℕ) (fate other : Fate) (to : Node)
    → (acted cluster (delivery cluster lane number fate to)).worn ≡ (acted cluster (delivery cluster lane number other to)).worn
delivery_worn cluster lane number fate other to = grind (arith, lane_at, refusal, worn_in, stepped_by)

-- ---- what a delivery makes

-- a client that has a session
pub has_session : (cluster : Cluster) (client : ℕ) → is_client cluster client ≡ true → MayGetSession cluster client
has_session cluster client there none = absurd (true≢false (sym there ∙ ap is_some none))

-- a message to a node other than a client is delivered, and is not refused
pub record IsDelivered (w : World) (number : ℕ) (arrival : Arrival) : Type 0 where
  pub called : Called
  pub is : arrival ≡ reaches called
  pub fresh : refusal w (Event.Deliver number) ≡ None

-- how a message to a node may arrive
abbrev pub ArrivesAt : World → ℕ → Node → Arrival → Type 0
ArrivesAt w number (Node.Client client) arrival = Unit {0}
ArrivesAt w number to arrival = IsDelivered w number arrival

-- a message of a lane has arrived, and no other lane has changed
record HasArrived (lane number : ℕ) (w : World) (to : Node) (before after : Cluster) : Type 0 where
  arrival : Arrival
  changes : ChangesLane lane (arrived w number arrival) before after
  fits : ArrivesAt w number to arrival

-- an event that is delivered in a lane that is not worn
delivered_fresh : (w : World) (number : ℕ) (message : Message) (called : Called) → get w.wire.messages number ≡ Some message → address_fault number message.to ≡ None
    → worn_in (step w (Event.Deliver number) called) ≡ None → refusal w (Event.Deliver number) ≡ None
delivered_fresh w number message called found addressed fresh = grind (arith, fresh_event)

delivery_arrives : (cluster : Cluster) (lane number : ℕ) (message : Message) (fate : Fate) → lane < length cluster.lanes → (to : Node) → message.to ≡ to
    → get (lane_at cluster lane).wire.messages number ≡ Some message → (acted cluster (delivery cluster lane number fate to)).worn ≡ None
    → HasArrived lane number (lane_at cluster lane) to cluster (acted cluster (delivery cluster lane number fate to)).cluster
delivery_arrives cluster lane number message fate within (Node.Client client) to_is found fresh = record {
  arrival = takes (session_at cluster client);
  changes = visited_changes cluster lane within client (accept (lane_at cluster lane) number (session_at cluster client));
  fits = tt;
}
delivery_arrives cluster lane number message fate within _ to_is found fresh = record {
  arrival = reaches (answered cluster lane number fate);
  changes = stepped_changes cluster lane within (step (lane_at cluster lane) (Event.Deliver number) (answered cluster lane number fate));
  fits = record {
    called = answered cluster lane number fate;
    is = refl;
    fresh = delivered_fresh (lane_at cluster lane) number message (answered cluster lane number fate) found (ap (address_fault number) to_is) fresh;
  };
}

-- what is lost is for a client
lost_fits : (cluster : Cluster) (w : World) (number : ℕ) (to : Node) → has_receiver cluster to ≡ false → ArrivesAt w number to Loses
lost_fits cluster w number (Node.Client client) away = tt
lost_fits cluster w number _ away = absurd (true≢false away)

delivery_adds : (cluster : Cluster) (lane number : ℕ) (fate : Fate) (to : Node) → has_receiver cluster to ≡ true → AreAdded cluster
    → AreAdded (acted cluster (delivery cluster lane number fate to)).cluster
delivery_adds cluster lane number fate (Node.Client client) there all =
    added_after cluster (Accepts lane number client) (has_session cluster client there) all
delivery_adds cluster lane number fate _ there all =
    added_after cluster (Happens lane (Event.Deliver number) (answered cluster lane number fate)) tt all

-- ---- moves

module _ (s : Setting) (lane : ℕ) (inside : lane < LANES) (number : ℕ) (rest : List Task) where
  -- a message has arrived, and these tasks are left
  record Arrives (w : World) (to : Node) (origin : Cluster) (course : Course) : Type 0 where
    left : course.tasks ≡ rest
    arrives : HasArrived lane number w to origin course.cluster

  delivering : (before : Cluster) (course : Course) (message : Message) → Comes s before course → course.tasks ≡ delivers lane number ∷ rest
      → get (lane_at course.cluster lane).wire.messages number ≡ Some message → Goes s before course (Arrives (lane_at course.cluster lane) message.to course.cluster)
  delivering before course message comes are found = go (has_receiver course.cluster message.to) refl
    where
      fate : Fate
      fate = s.adversary course

      failed : Bool
      failed = is_lost_at_backup course.cluster lane number fate

      makes : (it : Fate) (b : Bool) → has_receiver course.cluster message.to ≡ b
          → deliver_in_makes course.cluster lane number it ≡ cond b (delivery course.cluster lane number it message.to ∷ []) []
      makes it b is = ap (λ (o : Option Message). delivery_of course.cluster lane number it o) found
          ∙ ap (λ (c : Bool). cond c (delivery course.cluster lane number it message.to ∷ []) []) is

      go : (b : Bool) → has_receiver course.cluster message.to ≡ b → Goes s before course (Arrives (lane_at course.cluster lane) message.to course.cluster)
      go true there =
          occurs_move s before course (delivers lane number) rest (delivery course.cluster lane number fate message.to) failed (Arrives (lane_at course.cluster lane) message.to course.cluster) comes are
          (ap (λ (list : List Occurrence). occurring course list failed rest) (makes fate true there))
          (λ none.
          delivery_worn course.cluster lane number fate Kept message.to
          ∙ alone_fresh course.cluster (delivery course.cluster lane number Kept message.to)
          (ap (occurrence_error course.cluster) (sym (makes Kept true there)) ∙ none))
          (delivery_adds course.cluster lane number fate message.to there comes.sane.added)
          (λ next at fresh. record {
            left = at.tasks_are;
            arrives = grind (arith, lane_at, delivery_arrives, eight, course.cluster, message.to, at.cluster_is, comes.sane);
          })
      go false away =
          still_move s before course (delivers lane number) rest rest (Arrives (lane_at course.cluster lane) message.to course.cluster) comes are
          (subst (λ (list : List Occurrence). IsAt course.cluster rest (occurring course list failed rest)) (sym (makes fate false away))
          (record { cluster_is = refl; tasks_are = refl }))
          (λ next at. record {
            left = at.tasks_are;
            arrives = record {
              arrival = Loses;
              changes = subst (ChangesLane lane (lane_at course.cluster lane) course.cluster) (sym at.cluster_is) (changes_none lane course.cluster);
              fits = lost_fits course.cluster (lane_at course.cluster lane) number message.to away;
            };
          })

module _ (s : Setting) (lane : ℕ) (inside : lane < LANES) (number : ℕ) (rest : List Task) where
  -- a message was taken off the wire of a lane, no other lane has changed, and these tasks are left
  pub record IsOff (w : World) (to : Node) (origin : Cluster) (course : Course) : Type 0 where
    pub left : course.tasks ≡ rest
    pub arrival : Arrival
    pub fits : ArrivesAt w number to arrival
    pub changes : ChangesLane lane (taken_off w number arrival) origin course.cluster

  -- it is forgotten
  forgetting : (before : Cluster) (w : World) (to : Node) (origin : Cluster) (course : Course) → Comes s before course
      → Arrives s lane inside number (forgets lane number ∷ rest) w to origin course → Goes s before course (IsOff w to origin)
  forgetting before w to origin course comes arrives =
      let now : World = lane_at course.cluster lane in
      let first = arrives.arrives.changes in
      let then_changes = stepped_changes course.cluster lane (omega (arith, inside, eight s course comes.sane)) (step now (Event.Forget number) (Gave None)) in
      occurs_move s before course (forgets lane number) rest (Happens lane (Event.Forget number) (Gave None)) false (IsOff w to origin) comes arrives.left refl
      (alone_fresh course.cluster (Happens lane (Event.Forget number) (Gave None)))
      (added_after course.cluster (Happens lane (Event.Forget number) (Gave None)) tt comes.sane.added)
      (λ next at fresh. record {
        left = at.tasks_are;
        arrival = arrives.arrives.arrival;
        fits = arrives.arrives.fits;
        changes =
            subst (ChangesLane lane (taken_off w number arrives.arrives.arrival) origin) (sym at.cluster_is)
            (record {
              here = then_changes.here ∙ ap (λ (v : World). forgotten v number) first.here;
              beside = λ q apart. then_changes.beside q apart ∙ first.beside q apart;
              count = then_changes.count ∙ first.count;
            });
      })

  -- a message is delivered and forgotten
  pub taking_off : (before : Cluster) (course : Course) (message : Message) → Comes s before course → course.tasks ≡ delivers lane number ∷ forgets lane number ∷ rest
      → get (lane_at course.cluster lane).wire.messages number ≡ Some message → Goes s before course (IsOff (lane_at course.cluster lane) message.to course.cluster)
  taking_off before course message comes are found =
      goes_on s before course (Arrives s lane inside number (forgets lane number ∷ rest) (lane_at course.cluster lane) message.to course.cluster) (IsOff (lane_at course.cluster lane) message.to course.cluster)
      (delivering s lane inside number (forgets lane number ∷ rest) before course message comes are found)
      (λ later comes_later arrives. forgetting before (lane_at course.cluster lane) message.to course.cluster later comes_later arrives)
