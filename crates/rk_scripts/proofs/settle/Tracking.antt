-- What holds of a lane all through an exchange, if each message on its topic that is delivered keeps it.
use Rattle.std.proofs.Common.{◌≡◌, ◌<◌, ◌≤◌, ◌+◌, ◌-◌, ℕ, zero, suc, Bool, true, false, not, List, [], ◌∷◌, ◌++◌, All, filter, find, map}
use Rattle.std.proofs.Common.{Option, None, Some, is_some, refl, sym, ap, subst, ◌∙◌, append_assoc, ⊎_elim, arith, Contains}
use Rattle.rk_scripts.proofs.Words.{range_with_len, cases_lt, false≢true, All-head, All-tail, All-weaker, filter_passes, none-some, get}
use Rattle.rk_scripts.proofs.Words.{LANES, Message, Gave, Cluster, Happens, lane_at, step, World, Course, hand_by, is_number_off, is_there}
use Rattle.rk_scripts.proofs.Words.{oldest_after, sent_after, forgets, is_on, find_passes, IsGoodLane, Lasts, Arrival, arrived}
use Rattle.rk_scripts.proofs.Words.{deliveries_left, forgotten, taken_off, masters_in_order, taken_off_fewer, added_after, Event}
use Rattle.rk_settle.specs.Exchange.{is_message_off}
use Rattle.rk_inv_base.proofs.Words.{stands_cases}
use Rattle.rk_inv_base.proofs.calls.Records.{filter_stands}
use Rattle.rk_inv_wellformed.proofs.maps.Lists.{all_find, range_within}
use Rattle.rk_scripts.proofs.settle.Noticing.{in_where, stands_in, is_in, one_of, in_range}
use Rattle.rk_scripts.proofs.settle.Delivering.{ArrivesAt, IsOff, taking_off}
use Rattle.rk_scripts.proofs.settle.ExchangeTasks.{Topic, hands, sorts}
use Rattle.rk_scripts.proofs.settle.Exchanging.{forgotten_no_more, tested_there}
use Rattle.rk_scripts.proofs.settle.Going.{Comes, Goes, IsAt, alone_fresh, goes_here, goes_on, occurs_move, still_move}
use Rattle.rk_scripts.proofs.settle.Lanes.{IsSameBeside, stepped_changes}
use Rattle.rk_scripts.proofs.settle.NoticesFirst.{formed_at}
use Rattle.rk_inv_lanes.proofs.late.Tests.{none_passes}
use Rattle.rk_scripts.proofs.settle.Pending.{arrived_old, forgotten_gone, forgotten_less}
use Rattle.rk_scripts.proofs.settle.Setting.{Setting, eight}
use Rattle.rk_scripts.proofs.settle.Staging.{good_at}
use Rattle.rk_scripts.proofs.settle.Tasks.{Task, delivers}

-- ---- lists

-- what is in a list and passes is in the filtered one
pub is_in_filtered : (test : ℕ → Bool) (list : List ℕ) (n : ℕ) → is_in n list ≡ true → test n ≡ true → is_in n (filter test list) ≡ true
is_in_filtered test list n there passes = in_where (filter test list) n (filter_stands test list n (stands_in list n there) passes)

-- what is found in a range is not before it
found_past : (test : ℕ → Bool) (count start found : ℕ) → find test (range_with_len start count) ≡ Some found → start ≤ found
found_past test count start found is =
    (all_find (λ n. (start ≤ n) × (n < start + count)) test (range_with_len start count) found (range_within start count) is).0

-- what lies between two numbers is among those after the first
between : (from sent n : ℕ) → from < n → n ≤ sent → (from + 1 ≤ n) × (n < (from + 1) + (sent - from))
between from sent n after within = (omega (arith, after), omega (arith, after, within))

module _ (topic : Topic) where
  -- what lies under a number, if something does, is off the topic
  abbrev pub IsOffAt : World → ℕ → Type 0
  IsOffAt w n = (message : Message) → get w.wire.messages n ≡ Some message → is_on topic message.body ≡ false

  -- what lies between two numbers is on the topic
  abbrev AreOnTo : ℕ → ℕ → World → Type 0
  AreOnTo from last w = (n : ℕ) (message : Message) → from < n → n ≤ last → get w.wire.messages n ≡ Some message → is_on topic message.body ≡ true

  -- all that lies beyond a number is
  abbrev AreOn : ℕ → World → Type 0
  AreOn from w = (n : ℕ) (message : Message) → from < n → get w.wire.messages n ≡ Some message → is_on topic message.body ≡ true

  -- nothing lies beyond a number
  abbrev pub HasNone : ℕ → World → Type 0
  HasNone from w = (n : ℕ) (message : Message) → from < n → get w.wire.messages n ≡ Some message → ⊥

  -- what holds once all messages up to a number were handed out, and is kept when a message off the topic is forgotten, and when the
  -- oldest one behind the number is delivered and forgotten
  pub record IsTracked (masters lane : ℕ) (Holds : ℕ → World → Type 0) : Type 0 where
    pub forgets : (from n : ℕ) (w : World) → IsOffAt w n → Holds from w → Holds from (forgotten w n)
    pub takes :
        (from n : ℕ) (w : World) (message : Message) (arrival : Arrival) → IsGoodLane Lasts masters lane w → from < n
        → get w.wire.messages n ≡ Some message → is_on topic message.body ≡ true → ArrivesAt w n message.to arrival → Holds from w → Holds n (taken_off w n arrival)

  off_is : (w : World) (n : ℕ) → is_number_off w.wire topic n ≡ true → IsOffAt w n
  off_is w n off message found = grind (arith, is_on, false≢true)

  off_tested : (w : World) (n : ℕ) (message : Message) → get w.wire.messages n ≡ Some message → is_on topic message.body ≡ false → is_number_off w.wire topic n ≡ true
  off_tested w n message found off = ap (is_message_off topic) found ∙ ap not off

module _ (s : Setting) (lane : ℕ) (inside : lane < LANES) (origin : Cluster) (topic : Topic) (Holds : ℕ → World → Type 0) (tracked : IsTracked topic s.masters lane Holds) where
  -- these messages are to be forgotten, of those that were off the topic before, and nothing new came
  record IsSorting (first : World) (off list : List ℕ) (from : ℕ) (rest : List Task) (course : Course) : Type 0 where
    left : course.tasks ≡ rest
    beside : IsSameBeside lane origin course.cluster
    few : deliveries_left (lane_at course.cluster lane) ≤ deliveries_left first
    holds : Holds from (lane_at course.cluster lane)
    each :
        (n : ℕ) (message : Message) → get (lane_at course.cluster lane).wire.messages n ≡ Some message
        → (get first.wire.messages n ≡ Some message) × (is_in n off ≡ true → is_in n list ≡ true)

  -- what is beyond the number is on the topic
  record IsHanding (most from : ℕ) (rest : List Task) (course : Course) : Type 0 where
    left : course.tasks ≡ rest
    beside : IsSameBeside lane origin course.cluster
    few : deliveries_left (lane_at course.cluster lane) ≤ most
    holds : Holds from (lane_at course.cluster lane)
    on : AreOn topic from (lane_at course.cluster lane)

  -- the exchange has ended
  pub record IsTrackedTo (rest : List Task) (course : Course) : Type 0 where
    pub left : course.tasks ≡ rest
    pub beside : IsSameBeside lane origin course.cluster
    pub from : ℕ
    pub holds : Holds from (lane_at course.cluster lane)
    pub none : HasNone topic from (lane_at course.cluster lane)

  forgets_track : (first : World) (off list : List ℕ) (from : ℕ) (rest : List Task) (before : Cluster) (course : Course) → Comes s before course
      → All (λ n. IsOffAt topic first n) list → IsSorting first off list from (map (forgets lane) list ++ rest) course
      → Goes s before course (IsSorting first off [] from rest)
  forgets_track first off [] from rest before course comes all sorting = goes_here s before course (IsSorting first off [] from rest) comes sorting
  forgets_track first off (number ∷ list) from rest before course comes all sorting =
      let w : World = lane_at course.cluster lane in
      let behind : List Task = map (forgets lane) list ++ rest in
      let Q : Course → Type 0 = IsSorting first off list from behind in
      let changes = stepped_changes course.cluster lane (omega (arith, inside, eight s course comes.sane)) (step w (Event.Forget number) (Gave None)) in
      let is_off : IsOffAt topic w number = λ message found. All-head (λ n. IsOffAt topic first n) number list all message (sorting.each number message found).0 in
      goes_on s before course Q (IsSorting first off [] from rest)
      (occurs_move s before course (forgets lane number) behind (Happens lane (Event.Forget number) (Gave None)) false Q comes sorting.left refl
      (alone_fresh course.cluster (Happens lane (Event.Forget number) (Gave None)))
      (added_after course.cluster (Happens lane (Event.Forget number) (Gave None)) tt comes.sane.added)
      (λ next at fresh.
      let here : lane_at next.cluster lane ≡ forgotten w number = ap (λ (cluster : Cluster). lane_at cluster lane) at.cluster_is ∙ changes.here in
      record {
        left = at.tasks_are;
        beside = subst (IsSameBeside lane origin) (sym at.cluster_is) (λ q apart. changes.beside q apart ∙ sorting.beside q apart);
        few = subst (λ (now : World). deliveries_left now ≤ deliveries_left first) (sym here) (omega (arith, forgotten_no_more w number, sorting.few));
        holds = subst (Holds from) (sym here) (tracked.forgets from number w is_off sorting.holds);
        each = subst
            (λ (now : World). (n : ℕ) (message : Message) → get now.wire.messages n ≡ Some message
            → (get first.wire.messages n ≡ Some message) × (is_in n off ≡ true → is_in n list ≡ true)) (sym here)
            (λ n message found.
            let old = sorting.each n message (forgotten_less w number n message found) in
            (old.0, λ in_off. still n message found (old.1 in_off)));
      }))
      (λ later comes_later on. forgets_track first off list from rest before later comes_later (All-tail (λ n. IsOffAt topic first n) number list all) on)
    where
      still : (n : ℕ) (message : Message) → get (forgotten (lane_at course.cluster lane) number).wire.messages n ≡ Some message → is_in n (number ∷ list) ≡ true → is_in n list ≡ true
      still n message found there = ⊎_elim
          (λ (same : number ≡ n).
          absurd (none-some message (sym (forgotten_gone (lane_at course.cluster lane) number) ∙ (ap (λ (k : ℕ). get (forgotten (lane_at course.cluster lane) number).wire.messages k) same ∙ found))))
          (λ (behind : Contains list n). in_where list n behind) (stands_cases number list n (stands_in (number ∷ list) n there))

  -- messages are sorted
  sorts_track : (from last : ℕ) (rest : List Task) (before : Cluster) (course : Course) → Comes s before course → course.tasks ≡ sorts lane topic from last ∷ rest
      → IsSameBeside lane origin course.cluster → Holds from (lane_at course.cluster lane) → AreOnTo topic from last (lane_at course.cluster lane)
      → Goes s before course (IsHanding (deliveries_left (lane_at course.cluster lane)) from (hands lane topic from ∷ rest))
  sorts_track from last rest before course comes are beside holds on =
      let left : List Task = map (forgets lane) off ++ hands lane topic from ∷ rest in
      let Q : Course → Type 0 = IsHanding (deliveries_left w) from (hands lane topic from ∷ rest) in
      goes_on s before course (IsSorting w off off from left) Q
      (still_move s before course (sorts lane topic from last) rest left (IsSorting w off off from left) comes are
      (record { cluster_is = refl; tasks_are = append_assoc (map (forgets lane) off) (hands lane topic from ∷ []) rest })
      (λ next at.
      subst (λ (cluster : Cluster). (tasks : next.tasks ≡ left) → IsSorting w off off from left (record next { cluster = cluster })) (sym at.cluster_is)
      (λ tasks. record { left = tasks; beside = beside; few = omega arith; holds = holds; each = λ n message found. (found, λ there. there) }) at.tasks_are))
      (λ later comes_later sorting.
      goes_on s before later (IsSorting w off [] from (hands lane topic from ∷ rest)) Q
      (forgets_track w off off from (hands lane topic from ∷ rest) before later comes_later
      (All-weaker (λ n. is_number_off w.wire topic n ≡ true) (λ n. IsOffAt topic w n) (λ n is. off_is topic w n is) off
      (filter_passes (is_number_off w.wire topic) (sent_after w.wire last)))
      sorting)
      (λ end comes_end done.
      goes_here s before end Q comes_end
      (record {
        left = done.left;
        beside = done.beside;
        few = done.few;
        holds = done.holds;
        on = λ n message after found. let old = done.each n message found in on_now n message after old.0 (λ in_off. false≢true (old.1 in_off));
      })))
    where
      w : World
      w = lane_at course.cluster lane

      off : List ℕ
      off = filter (is_number_off w.wire topic) (sent_after w.wire last)

      on_now : (n : ℕ) (message : Message) → from < n → get w.wire.messages n ≡ Some message → (is_in n off ≡ true → ⊥) → is_on topic message.body ≡ true
      on_now n message after found kept =
          ⊎_elim (λ (later : last < n). go (is_on topic message.body) refl later) (λ (early : n ≤ last). on n message after early found) (cases_lt last n)
        where
          go : (b : Bool) → is_on topic message.body ≡ b → last < n → is_on topic message.body ≡ true
          go true is later = is
          go false is later =
              let within : n ≤ w.wire.sent = ((formed_at s course comes.sane lane inside).wire.numbered n message found).1 in
              let there = between last w.wire.sent n later within in
              absurd (kept (is_in_filtered (is_number_off w.wire topic) (sent_after w.wire last) n
              (in_range (last + 1) (w.wire.sent - last) n there.0 there.1) (off_tested topic w n message found is)))

  -- messages are handed out
  hands_track : (fuel from most : ℕ) (rest : List Task) (before : Cluster) (course : Course) → Comes s before course → IsHanding most from (hands lane topic from ∷ rest) course
      → most < fuel → Goes s before course (IsTrackedTo rest)
  hands_track zero from most rest before course comes handing few = absurd (omega (arith, few))
  hands_track (suc fuel) from most rest before course comes handing few = go (hands_track fuel) (oldest_after (lane_at course.cluster lane).wire from) refl
    where
      w : World
      w = lane_at course.cluster lane

      within : (n : ℕ) (message : Message) → get w.wire.messages n ≡ Some message → n ≤ w.wire.sent
      within n message found = ((formed_at s course comes.sane lane inside).wire.numbered n message found).1

      go : ((from most : ℕ) (rest : List Task) (before : Cluster) (course : Course) → Comes s before course → IsHanding most from (hands lane topic from ∷ rest) course
          → most < fuel → Goes s before course (IsTrackedTo rest))
          → (oldest : Option ℕ) → oldest_after w.wire from ≡ oldest → Goes s before course (IsTrackedTo rest)
      go again None is =
          still_move s before course (hands lane topic from) rest rest (IsTrackedTo rest) comes handing.left
          (record { cluster_is = refl; tasks_are = ap (λ (o : Option ℕ). hand_by w.wire lane topic o ++ rest) is })
          (λ next at. record {
            left = at.tasks_are;
            beside = subst (IsSameBeside lane origin) (sym at.cluster_is) handing.beside;
            from = from;
            holds = subst (λ (cluster : Cluster). Holds from (lane_at cluster lane)) (sym at.cluster_is) handing.holds;
            none = subst (λ (cluster : Cluster). HasNone topic from (lane_at cluster lane)) (sym at.cluster_is)
                (λ n message after found.
                let there = between from w.wire.sent n after (within n message found) in
                let missing : is_there w.wire n ≡ false =
                one_of (λ (k : ℕ). is_there w.wire k ≡ false) (sent_after w.wire from) n (none_passes (is_there w.wire) (sent_after w.wire from) is)
                (in_range (from + 1) (w.wire.sent - from) n there.0 there.1) in
                false≢true (sym missing ∙ ap is_some found));
          })
      go again (Some number) is =
          let passes = find_passes (is_there w.wire) (sent_after w.wire from) number is in
          let there = tested_there w.wire.messages number passes in
          let behind : List Task = sorts lane topic number w.wire.sent ∷ rest in
          let left : List Task = delivers lane number ∷ forgets lane number ∷ behind in
          goes_on s before course (IsAt course.cluster left) (IsTrackedTo rest)
          (still_move s before course (hands lane topic from) rest left (IsAt course.cluster left) comes handing.left
          (record { cluster_is = refl; tasks_are = ap (λ (o : Option ℕ). hand_by w.wire lane topic o ++ rest) is }) (λ next at. at))
          (λ later comes_later at.
          goes_on s before later (IsOff s lane inside number behind w there.message.to course.cluster) (IsTrackedTo rest)
          (subst (λ (cluster : Cluster). Goes s before later (IsOff s lane inside number behind (lane_at cluster lane) there.message.to cluster)) at.cluster_is
          (taking_off s lane inside number behind before later there.message comes_later at.tasks_are
          (subst (λ (cluster : Cluster). get (lane_at cluster lane).wire.messages number ≡ Some there.message) (sym at.cluster_is) there.found)))
          (λ last comes_last off.
          let here : lane_at last.cluster lane ≡ taken_off w number off.arrival = off.changes.here in
          let after : from < number = omega (arith, found_past (is_there w.wire) (w.wire.sent - from) (from + 1) number is) in
          let fewer = taken_off_fewer w number there.message off.arrival (masters_in_order w (formed_at s course comes.sane lane inside)) there.found in
          goes_on s before last (IsHanding (deliveries_left (lane_at last.cluster lane)) number (hands lane topic number ∷ rest)) (IsTrackedTo rest)
          (sorts_track number w.wire.sent rest before last comes_last off.left (λ q apart. off.changes.beside q apart ∙ handing.beside q apart)
          (subst (Holds number) (sym here)
          (tracked.takes from number w there.message off.arrival (good_at s course comes.sane lane inside) after there.found
          (handing.on number there.message after there.found) off.fits handing.holds))
          (subst (AreOnTo topic number w.wire.sent) (sym here)
          (λ n message beyond early found.
          handing.on n message (omega (arith, after, beyond))
          (sym (arrived_old w number off.arrival n early) ∙ forgotten_less (arrived w number off.arrival) number n message found))))
          (λ end comes_end next.
          again number (deliveries_left (lane_at last.cluster lane)) rest before end comes_end next
          (omega (arith, few, fewer, handing.few, ap deliveries_left here)))))

  -- what was sent from a number on is delivered or forgotten
  pub tracking : (from : ℕ) (rest : List Task) (before : Cluster) (course : Course) → Comes s before course → course.tasks ≡ sorts lane topic from from ∷ rest
      → IsSameBeside lane origin course.cluster → Holds from (lane_at course.cluster lane) → Goes s before course (IsTrackedTo rest)
  tracking from rest before course comes are beside holds =
      goes_on s before course (IsHanding (deliveries_left (lane_at course.cluster lane)) from (hands lane topic from ∷ rest)) (IsTrackedTo rest)
      (sorts_track from from rest before course comes are beside holds (λ n message after early found. absurd (omega (arith, after, early))))
      (λ later comes_later handing.
      hands_track (deliveries_left (lane_at course.cluster lane) + 1) from (deliveries_left (lane_at course.cluster lane)) rest before later comes_later handing (omega arith))
