-- If the counts of faults of a cluster went on, so did those of the replicas of its run, some of which were lent to it.
use Rattle.rk_play.proofs.Words.{◌≡◌, ◌*◌, ◌+◌, ◌++◌, ℕ, zero, suc, Bool, true, false, List, [], ◌∷◌, drop, length, map, slice_get, None}
use Rattle.rk_play.proofs.Words.{Some, refl, sym, ap, subst, ◌∙◌, arith, length-append, if◌then◌else◌, take-append-drop, LANES, LaneState}
use Rattle.rk_play.proofs.Words.{replicas_of, CountsGoOn, GoOn, Fate, ClusterState, go_on_same, MOST_FAULTS, AreGivenBack, replica_counts}
use Rattle.std.specs.Prelude.{nat_lt}
use Rattle.std.proofs.lemmas.Bool.{ltb-false, ltb-true}
use Rattle.std.proofs.lemmas.List.{length-map, length-take, map-append}
use Rattle.std.proofs.Math.Seq.{drop-append_seam}
use Rattle.std.specs.Global.{Vec}
use Rattle.rk_cluster.specs.Dealt.{IsEighth}
use Rattle.rk_cluster.specs.Faults.{RoseBy, times_lost}
use Rattle.rk_cluster.proofs.Faults.{rose_same}
use Rattle.rk_cluster.proofs.Order.{none_beyond, replicas_go_on}
use Rattle.rk_settle.specs.Faults.{FailsInRounds, RoseInRounds}
use Rattle.rk_lending.specs.Lent.{HasLent}
use Rattle.rk_play.specs.Runs.{NoneFell}
use Rattle.rk_lending.specs.declared.lending.Kept.{Kept}
use Rattle.rk_lending.specs.declared.lending.TheConstants.{REPLICAS}

-- ---- lists

-- counts that are alike behind others do not matter
rose_before : (many : ℕ) (before now back : List ℕ) (place : ℕ) → length before ≡ length now → RoseBy many (slice_get before place) (slice_get now place)
    → RoseBy many (slice_get (before ++ back) place) (slice_get (now ++ back) place)
rose_before many [] [] back place same rose = grind (arith, rose_same)
rose_before many [] (is ∷ now) back place same rose = absurd (cc same)
rose_before many (was ∷ before) [] back place same rose = absurd (cc same)
rose_before many (was ∷ before) (is ∷ now) back zero same rose = rose
rose_before many (was ∷ before) (is ∷ now) back (suc place) same rose =
    let rest : length before ≡ length now = cc same in rose_before many before now back place rest rose

-- what is behind as many
drop_all : {X : Type 0} (front back : List X) (count : ℕ) → length front ≡ count → drop count (front ++ back) ≡ back
drop_all front back count many =
    ap (λ (n : ℕ). drop n (front ++ back)) (sym many) ∙ drop-append_seam front back

-- ---- no count falls

module _ {R : Type 0} (faults : R → ℕ) (before after : List R) where
  -- of replicas that are as they were
  pub none_fell_same : after ≡ before → NoneFell faults before after
  none_fell_same same there =
      subst (λ (replicas : List R). GoOn [] (replica_counts faults before) (replica_counts faults replicas)) (sym same) (go_on_same (replica_counts faults before))

  -- nor if none comes back
  pub none_fell_gone : after ≡ [] → NoneFell faults before after
  none_fell_gone gone there = absurd (there gone)

-- ---- the replicas of a run

module _ {R : Type 0} (faults : R → ℕ) (old now : ClusterState R) (backups : ℕ) (replicas room its back : Vec R) (kept : Kept R)
    (many : length replicas.items ≡ REPLICAS) (lent : HasLent backups replicas room its kept) (given : AreGivenBack now.lanes kept.others.items back.items) where
  -- as many came back as were lent
  as_many : length given.its ≡ LANES * backups
  as_many = grind (arith, length-append)

  were_lent : length its.items ≡ LANES * backups
  were_lent = grind (arith, length-take)

  -- those that were not lent are as they were
  pub others_stay : drop (LANES * backups) back.items ≡ drop (LANES * backups) replicas.items
  others_stay =
      ap (drop (LANES * backups)) given.whole ∙ drop_all given.its kept.others.items (LANES * backups) as_many ∙ lent.others_are

  -- those that were lent, before the others
  whole : its.items ++ kept.others.items ≡ replicas.items
  whole = (λ i. lent.its_are i ++ lent.others_are i) ∙ take-append-drop (LANES * backups) replicas.items

  module _ (eight : length old.lanes ≡ LANES)
      (dealt : (number : ℕ) (lane : LaneState R) → slice_get old.lanes number ≡ Some lane → IsEighth its.items number (replicas_of lane.backups)) where
    -- if the counts of the cluster went on, so did those of the replicas of the run
    pub lent_go_on : (fates : List Fate) → CountsGoOn faults fates old now → GoOn fates (replica_counts faults replicas.items) (replica_counts faults back.items)
    lent_go_on fates on lane place = go (nat_lt lane LANES) refl
      where
        same : length (map faults its.items) ≡ length (map faults given.its)
        same = length-map its.items faults ∙ were_lent ∙ sym as_many ∙ sym (length-map given.its faults)

        before : map faults its.items ++ map faults kept.others.items ≡ map faults replicas.items
        before = sym (map-append faults its.items kept.others.items) ∙ ap (map faults) whole

        after : map faults given.its ++ map faults kept.others.items ≡ map faults back.items
        after = sym (map-append faults given.its kept.others.items) ∙ ap (map faults) (sym given.whole)

        go : (here : Bool) → nat_lt lane LANES ≡ here
            → RoseBy (times_lost lane place fates) (if here then slice_get (map faults replicas.items) (LANES * place + lane) else None)
            (if here then slice_get (map faults back.items) (LANES * place + lane) else None)
        go true is =
            subst (λ (counts : List ℕ). RoseBy (times_lost lane place fates) (slice_get counts (LANES * place + lane)) (slice_get (map faults back.items) (LANES * place + lane))) before
            (subst
            (λ (counts : List ℕ).
            RoseBy (times_lost lane place fates) (slice_get (map faults its.items ++ map faults kept.others.items) (LANES * place + lane)) (slice_get counts (LANES * place + lane)))
            after
            (rose_before (times_lost lane place fates) (map faults its.items) (map faults given.its) (map faults kept.others.items) (LANES * place + lane) same
            (replicas_go_on faults fates old.lanes now.lanes eight given.eight on its.items given.its dealt given.each lane place (ltb-true lane LANES is))))
        go false is = none_beyond faults fates old.lanes now.lanes eight given.eight on lane place (ltb-false lane LANES is)

    -- if replicas failed in so many rounds, so did those of the run
    pub lent_in_rounds : FailsInRounds faults MOST_FAULTS old now → RoseInRounds MOST_FAULTS (replica_counts faults replicas.items) (replica_counts faults back.items)
    lent_in_rounds fails =
        record { failed = fails.failed; are_lost = fails.are_lost; often = fails.often; rose = lent_go_on fails.failed fails.rose }
