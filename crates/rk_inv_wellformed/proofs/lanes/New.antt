-- A new lane is well formed and has room, and a new session may act, also once it asked its next call.
use Rattle.std.proofs.Common.{◌≡◌, ◌≤◌, ℕ, List, [], ◌∷◌, map, replicate, sum, All, refl, subst, arith, w32, flat_map}
use Rattle.rk_inv_wellformed.proofs.Words.{All-cons, All-map, All-nil, sum_by-cons, range_with_len, EachIn, IsInOrder, IsNumber}
use Rattle.rk_inv_wellformed.proofs.Words.{IsInScanOrder, MOST_BACKUPS, Session, IsFormedMaster, IsWellFormed, Limits, limits_of, Master}
use Rattle.rk_inv_wellformed.proofs.Words.{log_bytes, new_master, IsLawfulCall, MOST_MASTERS, MayAct, HasRoom, counters_of, Op, Known}
use Rattle.rk_inv_wellformed.proofs.Words.{nothing, HasRoomIn, All-replicate, busy, new_session, next_call}
use Rattle.rk_inv_wellformed.proofs.Words.{session_calling, new_masters, new_world}
use Rattle.std.proofs.lemmas.List.{length-replicate}
use Rattle.std.specs.List.Sorted.{IsStrictlySortedBy}
use Rattle.rk_inv_wellformed.proofs.maps.{all_flat, all_each, found_numbered, numbers_are, with_numbers}

-- ---- a lane

-- nothing is in an empty map
nothing_in_it : {X : Type 0} (Fits : ℕ → X → Type 0) → EachIn Fits []
nothing_in_it Fits number thing found = absurd (cc found)

-- no items are in order
none_in_order : IsInScanOrder []
unfolding IsStrictlySortedBy
none_in_order = tt

-- new masters have no bytes
no_bytes_in : (known : List Known) (list : List ℕ) → sum (map (λ entry. log_bytes entry.1) (with_numbers (λ number. new_master number known) list)) ≡ 0
no_bytes_in known [] = refl
no_bytes_in known (number ∷ list) = grind (arith, log_bytes, new_master, sum_by-cons, with_numbers, (no_bytes_in known list))

-- a new master is well formed
pub new_is_formed : (limits : Limits) (number : ℕ) → IsFormedMaster limits number (new_master number (replicate limits.backups nothing))
new_is_formed limits number = record {
  number_is = refl;
  known = length-replicate limits.backups nothing;
  lengths = All-replicate IsInOrder limits.backups nothing tt;
  written = All-nil _;
  spelled = refl;
  sides = All-nil _;
  items = All-nil _;
  records = All-nil _;
  scanned = none_in_order;
  applied = omega arith;
  calls_order = tt;
  calls = nothing_in_it _;
  tablets_order = tt;
  tablets = nothing_in_it _;
  waited = omega arith;
}

module _ (lane masters backups : ℕ) where
  -- a new lane is well formed, with at most eight masters and four backups
  pub new_is_well_formed : masters ≤ MOST_MASTERS → 1 ≤ backups → backups ≤ MOST_BACKUPS → IsWellFormed (new_world lane masters backups)
  new_is_well_formed few some few_backups = record {
    masters_are = numbers_are made (range_with_len 1 masters);
    few_masters = few;
    backed = some;
    few_backups = few_backups;
    masters = λ number master found.
        subst (IsFormedMaster limits number) (found_numbered made (range_with_len 1 masters) number master found) (new_is_formed limits number);
    coordinator = record { map = tt; rows = All-nil _; noticed = All-nil _; handed_order = tt; handed = nothing_in_it _ };
    ledger = record {
      clients_order = tt;
      clients = nothing_in_it _;
      few = omega arith;
      requests_order = tt;
      requests = nothing_in_it _;
      stamps = All-nil _;
      records = omega arith;
    };
    wire = record { order = tt; numbered = nothing_in_it _; each = nothing_in_it _ };
    crashed = All-nil _;
    left = λ master dead. absurd (cc dead);
    noticed = All-nil _;
    base = All-nil _;
    few_base_clients = omega arith;
    standing = All-cons (λ n. n ≤ 0) 0 (0 ∷ counters) (omega arith)
        (All-cons (λ n. n ≤ 0) 0 counters (omega arith)
        (all_flat (λ n. n ≤ 0) (λ entry. counters_of entry.1) (new_masters masters backups)
        (All-map (λ (entry : ℕ × Master). All (λ n. n ≤ 0) (counters_of entry.1)) (λ number. (number, made number)) (range_with_len 1 masters)
        (all_each (λ number. All (λ n. n ≤ 0) (counters_of (made number))) (range_with_len 1 masters) (λ number. All-nil _)))));
  }
    where
      limits : Limits
      limits = limits_of (new_world lane masters backups)

      made : ℕ → Master
      made number = new_master number (replicate backups nothing)

      counters : List ℕ
      counters = flat_map (λ entry. counters_of entry.1) (new_masters masters backups)

  -- and it has room
  pub new_has_room : HasRoom (new_world lane masters backups)
  new_has_room = record {
    number = omega arith;
    bytes = omega (arith, no_bytes_in (replicate backups nothing) (range_with_len 1 masters));
    masters = λ number master found.
        subst HasRoomIn (found_numbered made (range_with_len 1 masters) number master found)
        (record { records = omega arith; fits = All-nil _ });
  }
    where
      made : ℕ → Master
      made number = new_master number (replicate backups nothing)

-- ---- a session

-- a new session may act
pub new_may_act : (count client : ℕ) → IsNumber w32 1 client → MayAct count (new_session client)
new_may_act count client number = grind arith

-- and so may a session that asks a lawful call, unless a call is outstanding
pub may_act_calling : (count : ℕ) (session : Session) (table : ℕ) (key : List ℕ) (op : Op) → IsLawfulCall (next_call session table key op) → MayAct count session → MayAct count (session_calling session table key op (busy session))
may_act_calling count session table key op lawful may = grind (arith, busy, session_calling)
