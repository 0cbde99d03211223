-- Worked examples: two journals with the receipts of their accepted records, an open call, and a cluster that meets all premises.
use Rattle.std.proofs.Common.{◌≡◌, ℕ, ◌≤◌, Bool, true, false, [], ◌∷◌, List, refl, arith, map, All}
use Rattle.rk_inv_base.proofs.Words.{All-from_recursion, All-nil, length-map-range_with_len, Call, LANES, Placed, Receipt, MOST_BACKUPS}
use Rattle.rk_inv_base.proofs.Words.{Session, Cluster, Joins, cluster_run, new_cluster, IsRun, Ledger, with_asked, MOST_MASTERS, World}
use Rattle.rk_inv_base.proofs.Words.{new_world}
use Rattle.std.proofs.lemmas.List.Sorted.{IsPermutation-refl}
use Rattle.rk_types.specs.declared.call.Op.TheVariants.{Get, Put}
use Rattle.rk_types.specs.declared.call.Outcome.TheVariants.{Found, Written}
use Rattle.rk_model.specs.Ordered.{IsRecorded, told_by}
use Rattle.rk_world.specs.Cluster.{journals_of}
use Rattle.rk_world.specs.Ledger.{new_ledger}
use Rattle.rk_inv_wellformed.proofs.maps.Maps.{each_from_pairs}
use Rattle.rk_laws_lanes.proofs.OfRuns.{good_in_run}
use Rattle.rk_laws_lanes.specs.gathered.Answers.{HasJustTheAnswers, accepted_in}
use Rattle.rk_laws_lanes.specs.gathered.Gathered.{AreCounted, AreGathered, IsEnded}
use Rattle.rk_laws_lanes.specs.gathered.OpenCalls.{HasCountedCalls, HasOpenCall}
use Rattle.rk_laws_lanes.proofs.gathered.OpenCalls.{new_counted}
use Rattle.rk_laws_lanes.proofs.gathered.Orderly.{new_orderly}

-- ---- journals and receipts

-- client 1 writes in lane 1 and reads in lane 0, which also has a record of that read that nobody accepted
abbrev write : Call
write = record { client = 1; seq = 1; table = 1; key = 98 ∷ []; op = Put (120 ∷ []) }

abbrev read : Call
read = record { client = 1; seq = 2; table = 1; key = 97 ∷ []; op = Get }

abbrev journals : List (List Placed)
journals =
    (record { call = read; outcome = Found 1 (121 ∷ []); stamp = 2; accepted = true }
    ∷ record { call = read; outcome = Found 1 (121 ∷ []); stamp = 3; accepted = false } ∷ [])
    ∷ (record { call = write; outcome = Written 1; stamp = 1; accepted = true } ∷ []) ∷ []

abbrev receipts : List Receipt
receipts =
    record { call = write; outcome = Written 1; lane = 1; place = 0; stamp = 1 }
    ∷ record { call = read; outcome = Found 1 (121 ∷ []); lane = 0; place = 0; stamp = 2 } ∷ []

two_are_recorded : All (IsRecorded journals) receipts
two_are_recorded = All-from_recursion (IsRecorded journals) receipts (refl, (refl, tt))

two_are_accepted : accepted_in journals ≡ 2
two_are_accepted = refl

-- the merged history has the two answers, in the order of their stamps
just_the_two : HasJustTheAnswers journals receipts
just_the_two = IsPermutation-refl (map told_by receipts)

-- ---- open calls

-- a ledger that was asked for the write, before and after its record is accepted
abbrev asked : Bool → Ledger
asked accepted =
    record (with_asked new_ledger 1 (record { call = write; seen = 0 })) {
      journal = record { call = write; outcome = Written 1; stamp = 1; accepted = accepted } ∷ [];
    }

open_before : HasOpenCall (asked false) 1
open_before = refl

closed_after : HasOpenCall (asked true) 1 → ⊥
closed_after is = cc is

-- ---- a cluster

-- any new cluster that a client joined meets all premises
module _ (masters backups : ℕ) (few : masters ≤ MOST_MASTERS) (backed : 1 ≤ backups) (few_backups : backups ≤ MOST_BACKUPS) where
  abbrev joined : Cluster
  joined = cluster_run (new_cluster masters backups) (Joins 1 ∷ [])

  joins : IsRun (new_cluster masters backups) (Joins 1 ∷ [])
  joins = (record { least_is = omega arith; fits = omega arith }, tt, tt, tt)

  pub joined_gathered : AreGathered masters joined
  joined_gathered = record {
    lanes = λ lane inside.
        let eight = length-map-range_with_len (λ (number : ℕ). new_world number masters backups) 0 LANES in
        good_in_run masters backups lane (Joins 1 ∷ []) few backed few_backups joins (omega (arith, inside, eight));
    order = tt;
    ended =
        each_from_pairs IsEnded joined.sessions
        (All-from_recursion (λ (pair : ℕ × Session). IsEnded pair.0 pair.1) joined.sessions
        (record { orderly = new_orderly 1; answered = refl }, tt));
    recorded = All-nil (IsRecorded (journals_of joined));
  }

  pub joined_counted : AreCounted joined
  joined_counted = record {
    lanes =
        All-from_recursion (λ (w : World). HasCountedCalls w.ledger) joined.lanes
        (new_counted, (new_counted, (new_counted, (new_counted, (new_counted, (new_counted, (new_counted, (new_counted, tt))))))));
    calls = omega arith;
  }
