-- An order of the coordinator in an exchange: it is delivered to its master, and what that answers on the topic to the coordinator.
use Rattle.std.proofs.Common.{◌≡◌, ◌<◌, ◌≤◌, ℕ, Bool, true, false, cond, List, [], fold, map, Option, None, Some, refl, sym, ap, subst, ◌∙◌}
use Rattle.std.proofs.Common.{inl, inr, ⊎_elim, arith, ◌⊎◌}
use Rattle.rk_scripts.proofs.Words.{false≢true, get, Node, Traffic, with_message, without_message, Message, Called, Coordinator}
use Rattle.rk_scripts.proofs.Words.{coordinator_step, Master, master_step, refusal, filled, world_stepped, delivered, delivered_to}
use Rattle.rk_scripts.proofs.Words.{ledger_after, losing, seen_in, stepped_by, worked_at, Worked, World, has_crashed, master_at, with_top}
use Rattle.rk_scripts.proofs.Words.{with_wire, StepError, Placed, is_on, master_other, master_same, Arrival, Delivers, forgotten, taken_off}
use Rattle.rk_scripts.proofs.Words.{Event}
use Rattle.rk_scripts.proofs.settle.Delivering.{ArrivesAt}
use Rattle.rk_scripts.proofs.settle.ExchangeTasks.{Topic}
use Rattle.rk_scripts.proofs.settle.Pending.{AreOff, HasOne, IsPending, OnlyAt, OnlyOff, forgotten_cases, off_without, pending_without}
use Rattle.rk_scripts.proofs.settle.Pending.{sent_off, sent_pending}
use Rattle.rk_scripts.proofs.settle.Tracking.{IsOffAt, IsTracked}

-- the messages are sent on a wire
abbrev pub sent_on : Traffic → List Message → Traffic
sent_on wire list = fold (λ it message. with_message message it) wire list

-- nodes are as they were
pub record IsSameAs (w v : World) : Type 0 where
  pub coordinator : v.coordinator ≡ w.coordinator
  pub each : (q : ℕ) → master_at v q ≡ master_at w q
  pub crashed : v.crashed ≡ w.crashed

-- one master has changed
pub record HasChanged (w : World) (m : ℕ) (now : Master) (v : World) : Type 0 where
  pub coordinator : v.coordinator ≡ w.coordinator
  pub here : master_at v m ≡ now
  pub others : (q : ℕ) → (q ≡ m → ⊥) → master_at v q ≡ master_at w q
  pub crashed : v.crashed ≡ w.crashed

-- and the coordinator
pub record HasAnswered (w : World) (m : ℕ) (now : Master) (chief : Coordinator) (v : World) : Type 0 where
  pub coordinator : v.coordinator ≡ chief
  pub here : master_at v m ≡ now
  pub others : (q : ℕ) → (q ≡ m → ⊥) → master_at v q ≡ master_at w q
  pub crashed : v.crashed ≡ w.crashed

-- a wire after messages were sent, with or without one message
abbrev pub IsSentOn : ℕ → Traffic → List Message → Traffic → Type 0
IsSentOn n wire list now = (now ≡ sent_on wire list) ⊎ (now ≡ without_message n (sent_on wire list))

module _ (topic : Topic) where
  -- beyond the message that is alone, nothing is on the topic
  pub off_beyond : (from number : ℕ) (wire : Traffic) → from < number → OnlyAt topic from number wire → OnlyOff topic number wire
  off_beyond from number wire after only n message beyond found = grind (arith, is_on)

  pub off_sent : (n : ℕ) (wire now : Traffic) (list : List Message) → AreOff topic list → OnlyOff topic n wire → IsSentOn n wire list now → OnlyOff topic n now
  off_sent n wire now list all off is =
      ⊎_elim (λ (same : now ≡ sent_on wire list). subst (OnlyOff topic n) (sym same) (sent_off topic n list wire all off))
      (λ (without : now ≡ without_message n (sent_on wire list)).
      subst (OnlyOff topic n) (sym without) (off_without topic n n (sent_on wire list) (sent_off topic n list wire all off)))
      is

  pub pending_sent : (n : ℕ) (wire now : Traffic) (ours : Message) (list : List Message) → HasOne topic ours list → n ≤ wire.sent → OnlyOff topic n wire → IsSentOn n wire list now
      → IsPending topic n ours now
  pending_sent n wire now ours list has within off is =
      let pending = sent_pending topic n ours list wire has within off in
      ⊎_elim (λ (same : now ≡ sent_on wire list). subst (IsPending topic n ours) (sym same) pending)
      (λ (without : now ≡ without_message n (sent_on wire list)). subst (IsPending topic n ours) (sym without)
      (pending_without topic n n ours (sent_on wire list) pending (λ same. omega (arith, same, pending.after))))
      is

  -- a message that is forgotten is not the one on the topic
  off_apart : (w : World) (from n : ℕ) (ours : Message) → is_on topic ours.body ≡ true → (pending : IsPending topic from ours w.wire) → IsOffAt topic w n → pending.number ≡ n → ⊥
  off_apart w from n ours on pending off same =
      false≢true (sym (off ours (ap (λ (k : ℕ). get w.wire.messages k) (sym same) ∙ pending.found)) ∙ on)

  -- ---- the order is delivered

  module _ (w : World) (m : ℕ) (ours : Message) (to_is : ours.to ≡ Node.Master m) (on : is_on topic ours.body ≡ true) (living : has_crashed w m ≡ false) where
    -- what the master makes of it
    abbrev pub made : Worked
    made = master_step (master_at w m) ours

    -- the order is on its way
    pub record IsOrdered (from : ℕ) (v : World) : Type 0 where
      pub same : IsSameAs w v
      pub pending : IsPending topic from ours v.wire

    ordered_forgets : (from n : ℕ) (v : World) → IsOffAt topic v n → IsOrdered from v → IsOrdered from (forgotten v n)
    ordered_forgets from n v off ordered = forgotten_cases (IsOrdered from) v n ordered
        (record {
          same = record { coordinator = ordered.same.coordinator; each = ordered.same.each; crashed = ordered.same.crashed };
          pending = pending_without topic from n ours v.wire ordered.pending (off_apart v from n ours on ordered.pending off);
        })

    -- the master has taken it, and sent its answers
    pub record IsTaken (n : ℕ) (v u : World) : Type 0 where
      pub changed : HasChanged w m made.master u
      pub journal : List Placed
      pub wire : IsSentOn n v.wire (map (filled journal made.served) made.sends) u.wire

    taken_at : (from n : ℕ) (v : World) (message : Message) (arrival : Arrival) → from < n → get v.wire.messages n ≡ Some message → is_on topic message.body ≡ true
        → ArrivesAt v n message.to arrival → IsOrdered from v → IsTaken n v (taken_off v n arrival)
    taken_at from n v message arrival after found on_topic fits ordered =
        let at : n ≡ ordered.pending.number = ordered.pending.only n message after found on_topic in
        let one : Some message ≡ Some ours = sym found ∙ (ap (λ (k : ℕ). get v.wire.messages k) at ∙ ordered.pending.found) in
        let is : message ≡ ours = cc one in
        let arrives : ArrivesAt v n (Node.Master m) arrival = subst (λ (to : Node). ArrivesAt v n to arrival) (ap (λ (it : Message). it.to) is ∙ to_is) fits in
        subst (λ (a : Arrival). IsTaken n v (taken_off v n a)) (sym arrives.is) (by arrives.called arrives.fresh (found ∙ ap Some is))
      where
        living_now : has_crashed v m ≡ false
        living_now = ap (λ (crashed : List ℕ). has_crashed (record v { crashed = crashed }) m) ordered.same.crashed ∙ living

        made_now : Worked
        made_now = master_step (master_at v m) ours

        same_made : made_now ≡ made
        same_made = ap (λ (it : Master). master_step it ours) (ordered.same.each m)

        taken : IsTaken n v (forgotten (worked_at v m (seen_in ours.body) made).world n)
        taken =
            let ledger = ledger_after v.ledger m (seen_in ours.body) made in
            let changed : HasChanged w m made.master (worked_at v m (seen_in ours.body) made).world = record {
              coordinator = ordered.same.coordinator;
              here = master_same v m made.master m refl;
              others = λ q apart. master_other v m made.master q apart ∙ ordered.same.each q;
              crashed = ordered.same.crashed;
            } in
            forgotten_cases (IsTaken n v) (worked_at v m (seen_in ours.body) made).world n
            (record { changed = changed; journal = ledger.journal; wire = inl refl })
            (record {
              changed = record { coordinator = changed.coordinator; here = changed.here; others = changed.others; crashed = changed.crashed };
              journal = ledger.journal;
              wire = inr refl;
            })

        by : (called : Called) → refusal v (Event.Deliver n) ≡ None → get v.wire.messages n ≡ Some ours → IsTaken n v (taken_off v n (Delivers called))
        by called fresh there =
            subst (λ (refused : Option StepError). IsTaken n v (forgotten (world_stepped v (stepped_by v (Event.Deliver n) called refused)) n)) (sym fresh)
            (subst (λ (o : Option Message). IsTaken n v (forgotten (delivered v o called).world n)) (sym there)
            (subst (λ (to : Node). IsTaken n v (forgotten (delivered_to v ours to called).world n)) (sym to_is)
            (subst (λ (b : Bool). IsTaken n v (forgotten (cond b (losing v) (worked_at v m (seen_in ours.body) made_now)).world n)) (sym living_now)
            (subst (λ (it : Worked). IsTaken n v (forgotten (worked_at v m (seen_in ours.body) it).world n)) (sym same_made) taken))))

    -- an exchange in which the order comes first, and then what `Next` says
    pub ordered_tracked : (masters lane : ℕ) (Next : ℕ → World → Type 0) → IsTracked topic masters lane Next
        → ((n : ℕ) (v u : World) → OnlyOff topic n v.wire → n ≤ v.wire.sent → IsTaken n v u → Next n u)
        → IsTracked topic masters lane (λ from v. IsOrdered from v ⊎ Next from v)
    ordered_tracked masters lane Next next enter = record {
      forgets = λ from n v off either.
          ⊎_elim (λ (ordered : IsOrdered from v). inl (ordered_forgets from n v off ordered)) (λ (later : Next from v). inr (next.forgets from n v off later)) either;
      takes = λ from n v message arrival good after found on_topic fits either.
          ⊎_elim
          (λ (ordered : IsOrdered from v).
          let at : n ≡ ordered.pending.number = ordered.pending.only n message after found on_topic in
          let off : OnlyOff topic n v.wire =
          subst (λ (k : ℕ). OnlyOff topic k v.wire) (sym at) (off_beyond from ordered.pending.number v.wire ordered.pending.after ordered.pending.only) in
          inr (enter n v (taken_off v n arrival) off (omega (arith, at, ordered.pending.within)) (taken_at from n v message arrival after found on_topic fits ordered)))
          (λ (later : Next from v). inr (next.takes from n v message arrival good after found on_topic fits later)) either;
    }

    -- ---- nothing more comes

    pub record IsOver (Nodes : World → Type 0) (from : ℕ) (v : World) : Type 0 where
      pub nodes_are : Nodes v
      pub off : OnlyOff topic from v.wire

    pub over_tracked : (masters lane : ℕ) (Nodes : World → Type 0) → ((v : World) (n : ℕ) → Nodes v → Nodes (with_top (with_wire v (without_message n v.wire))))
        → IsTracked topic masters lane (IsOver Nodes)
    over_tracked masters lane Nodes keeps = record {
      forgets = λ from n v off over.
          forgotten_cases (IsOver Nodes from) v n over (record { nodes_are = keeps v n over.nodes_are; off = off_without topic from n v.wire over.off });
      takes = λ from n v message arrival good after found on_topic fits over. absurd (false≢true (sym (over.off n message after found) ∙ on_topic));
    }

    -- ---- the answer is delivered

    module _ (reply : Message) (answers : reply.to ≡ Node.Coordinator) (on_it : is_on topic reply.body ≡ true) (silent : (coordinator_step w.coordinator reply).sends ≡ []) where
      -- the answer is on its way
      pub record IsAnswering (from : ℕ) (v : World) : Type 0 where
        pub changed : HasChanged w m made.master v
        pub pending : IsPending topic from reply v.wire

      -- the coordinator has taken it
      abbrev pub Answered : World → Type 0
      Answered v = HasAnswered w m made.master (coordinator_step w.coordinator reply).coordinator v

      answered_at : (from n : ℕ) (v : World) (message : Message) (arrival : Arrival) → from < n → get v.wire.messages n ≡ Some message → is_on topic message.body ≡ true
          → ArrivesAt v n message.to arrival → IsAnswering from v → IsOver Answered n (taken_off v n arrival)
      answered_at from n v message arrival after found on_topic fits answering =
          let at : n ≡ answering.pending.number = answering.pending.only n message after found on_topic in
          let one : Some message ≡ Some reply = sym found ∙ (ap (λ (k : ℕ). get v.wire.messages k) at ∙ answering.pending.found) in
          let is : message ≡ reply = cc one in
          let arrives : ArrivesAt v n Node.Coordinator arrival = subst (λ (to : Node). ArrivesAt v n to arrival) (ap (λ (it : Message). it.to) is ∙ answers) fits in
          let off : OnlyOff topic n v.wire =
          subst (λ (k : ℕ). OnlyOff topic k v.wire) (sym at) (off_beyond from answering.pending.number v.wire answering.pending.after answering.pending.only) in
          subst (λ (a : Arrival). IsOver Answered n (taken_off v n a)) (sym arrives.is) (by off arrives.called arrives.fresh (found ∙ ap Some is))
        where
          quiet : (coordinator_step v.coordinator reply).sends ≡ []
          quiet = ap (λ (it : Coordinator). (coordinator_step it reply).sends) answering.changed.coordinator ∙ silent

          answered_now : Answered (record v { coordinator = (coordinator_step v.coordinator reply).coordinator })
          answered_now = record {
            coordinator = ap (λ (it : Coordinator). (coordinator_step it reply).coordinator) answering.changed.coordinator;
            here = answering.changed.here;
            others = answering.changed.others;
            crashed = answering.changed.crashed;
          }

          by : OnlyOff topic n v.wire → (called : Called) → refusal v (Event.Deliver n) ≡ None → get v.wire.messages n ≡ Some reply → IsOver Answered n (taken_off v n (Delivers called))
          by off called fresh there =
              subst (λ (refused : Option StepError). IsOver Answered n (forgotten (world_stepped v (stepped_by v (Event.Deliver n) called refused)) n)) (sym fresh)
              (subst (λ (o : Option Message). IsOver Answered n (forgotten (delivered v o called).world n)) (sym there)
              (subst (λ (to : Node). IsOver Answered n (forgotten (delivered_to v reply to called).world n)) (sym answers)
              (forgotten_cases (IsOver Answered n) (delivered_to v reply Node.Coordinator called).world n
              (record { nodes_are = record { coordinator = answered_now.coordinator; here = answered_now.here; others = answered_now.others; crashed = answered_now.crashed }; off = subst (λ (list : List Message). OnlyOff topic n (sent_on v.wire list)) (sym quiet) off })
              (record {
                nodes_are = record { coordinator = answered_now.coordinator; here = answered_now.here; others = answered_now.others; crashed = answered_now.crashed };
                off = subst (λ (list : List Message). OnlyOff topic n (without_message n (sent_on v.wire list))) (sym quiet) (off_without topic n n v.wire off);
              }))))

      -- the answer comes, and nothing more
      pub answering_tracked : (masters lane : ℕ) → IsTracked topic masters lane (λ from v. IsAnswering from v ⊎ IsOver Answered from v)
      answering_tracked masters lane =
          let over = over_tracked masters lane Answered (λ v n it. record { coordinator = it.coordinator; here = it.here; others = it.others; crashed = it.crashed }) in
          record {
            forgets = λ from n v off either.
                ⊎_elim
                (λ (answering : IsAnswering from v).
                inl
                (forgotten_cases (IsAnswering from) v n answering
                (record {
                  changed = record {
                    coordinator = answering.changed.coordinator;
                    here = answering.changed.here;
                    others = answering.changed.others;
                    crashed = answering.changed.crashed;
                  };
                  pending = pending_without topic from n reply v.wire answering.pending (off_apart v from n reply on_it answering.pending off);
                })))
                (λ (later : IsOver Answered from v). inr (over.forgets from n v off later)) either;
            takes = λ from n v message arrival good after found on_topic fits either.
                ⊎_elim
                (λ (answering : IsAnswering from v). inr (answered_at from n v message arrival after found on_topic fits answering))
                (λ (later : IsOver Answered from v). inr (over.takes from n v message arrival good after found on_topic fits later)) either;
          }
