-- The small world keeps the part Logs: the backup stores all bytes of the log, and is known to. The bytes stay opaque.
use Rattle.rk_inv_base.proofs.Words.{◌≡◌, ◌≢◌, ℕ, ◌≤◌, max, Bool, true, cond, List, [], ◌++◌, length, Some, None, refl, sym, ap, subst, ◌∙◌}
use Rattle.rk_inv_base.proofs.Words.{⊎_elim, arith, append-nil, All, ne_eqb, le-leb, cases_eq, cond-true, and_from, All-nil, option_map_or}
use Rattle.rk_inv_base.proofs.Words.{NumberedBytes, told_other, known_length, nothing, bytes_of, committed, known_of, is_side_stored}
use Rattle.rk_inv_base.proofs.Words.{new_master, backup_at, log_in, written_in, written_by, Logs, IsLog, IsCopy, IsFirstPart, IsKnownBefore}
use Rattle.rk_inv_base.proofs.Words.{IsFromLog, LogSays, segments_in, stored_of, new_log}
use Rattle.rk_outside.specs.Segments.{bytes_of as stored_bytes}
use Rattle.rk_log.proofs.KnownLaws.{told_length}
use Rattle.rk_inv_base.proofs.example.SmallWorld.{small_world, small_bytes, small_entry, small_known, small_log, small_master, small_piece}
use Rattle.rk_inv_base.proofs.example.SmallWorld.{small_stored, small_wire}
use Rattle.rk_inv_base.proofs.example.SmallWorldLooks.{each_master, each_message, all_one}

-- the backup is known to hold as many bytes as the log has
pub known_here : known_length small_known 1 ≡ length small_bytes
known_here =
    let e = told_length nothing 1 (length small_bytes) 1 refl in
    let m : max (known_length nothing 1) (length small_bytes) ≡ length small_bytes = omega arith in
    e ∙ m

-- and nothing of any other segment
pub known_elsewhere : (segment : ℕ) → (segment ≡ 1 → ⊥) → known_length small_known segment ≡ 0
known_elsewhere segment apart = told_other nothing 1 (length small_bytes) segment apart

-- so its entry counts as applied
pub committed_here : committed small_log ≡ 1
committed_here =
    cond-true _ 1 0 (and_from _ true (le-leb _ _ (omega (arith, known_here))) refl)

-- there is no other segment
pub bytes_elsewhere : (segment : ℕ) → (segment ≡ 1 → ⊥) → bytes_of small_log segment ≡ []
bytes_elsewhere segment apart =
    ap (λ (b : Bool). option_map_or (λ (s : NumberedBytes). s.bytes) (cond b (Some (record { number = 1; bytes = small_bytes })) None) [])
    (ne_eqb 1 segment (λ e. apart (sym e)))

-- and the backup stores no other
pub stored_elsewhere : (segment : ℕ) → (segment ≡ 1 → ⊥) → stored_bytes (small_stored 1 segment) ≡ []
stored_elsewhere segment apart =
    ap (λ (b : Bool). stored_bytes (cond b (Some small_bytes) None)) (ne_eqb segment 1 apart)

-- nothing is before the first segment
pub known_before : (later : ℕ) → later ≡ 1 → IsKnownBefore small_log small_known later
known_before later is segment before same =
    let none : segment ≡ 1 → ⊥ = λ e. absurd (omega (arith, e, is, before)) in
    omega (arith, ap length (bytes_elsewhere segment none))

-- it stores a first part of each segment: all of the first, nothing of the others
pub copy_front : (segment : ℕ) → IsFirstPart (stored_bytes (small_stored 1 segment)) (bytes_of small_log segment)
copy_front segment =
    ⊎_elim
    (λ (is : segment ≡ 1). rw is (record { more = []; parts = sym (append-nil small_bytes) }))
    (λ (apart : segment ≡ 1 → ⊥). record {
      more = bytes_of small_log segment;
      parts = ap (λ (xs : List ℕ). xs ++ bytes_of small_log segment) (sym (stored_elsewhere segment apart));
    })
    (cases_eq segment 1)

-- in their order
pub copy_order : (segment : ℕ) → stored_bytes (small_stored 1 segment) ≢ [] → IsKnownBefore small_log small_known segment
copy_order segment some =
    ⊎_elim (λ (is : segment ≡ 1). known_before segment is)
    (λ (apart : segment ≡ 1 → ⊥). absurd (some (stored_elsewhere segment apart))) (cases_eq segment 1)

-- and no more is known of it than it stores
pub copy_told : (segment : ℕ) → known_length small_known segment ≤ length (stored_bytes (small_stored 1 segment))
copy_told segment =
    ⊎_elim
    (λ (is : segment ≡ 1). subst (λ (n : ℕ). known_length small_known n ≤ length (stored_bytes (small_stored 1 n))) (sym is) (omega (arith, known_here)))
    (λ (apart : segment ≡ 1 → ⊥). omega (arith, known_elsewhere segment apart))
    (cases_eq segment 1)

-- what the backup stores of the log is a copy of it
pub copy_one : IsCopy small_log (λ segment. stored_bytes (small_stored 1 segment)) small_known
copy_one = record { front = copy_front; in_order = copy_order; told = copy_told }

-- the master's log, with what the backup stores of it
pub log_one : IsLog small_log (written_by small_master []) (λ backup segment. stored_bytes (backup_at small_world backup 1 segment))
log_one = record {
  held = omega (arith, committed_here);
  copies = λ backup there.
      let is : 1 ≡ backup = omega (arith, there.first, there.last) in
      subst (λ (n : ℕ). IsCopy small_log (λ segment. stored_bytes (backup_at small_world n 1 segment)) (known_of small_log n)) is copy_one;
  entries_are = refl;
  spelled = refl;
  named = all_one (λ entry. All (λ segment. is_side_stored small_log segment ≡ true) (segments_in entry)) small_entry (All-nil _);
  marked = All-nil _;
}

-- an empty log has nothing to be stored
pub log_none : (number : ℕ) (stored : ℕ → ℕ → List ℕ) → IsLog (new_log []) (written_by (new_master number []) []) stored
log_none number stored = record {
  held = omega arith;
  copies = λ backup there. absurd (omega (arith, there.first, there.last));
  entries_are = refl;
  spelled = refl;
  named = All-nil _;
  marked = All-nil _;
}

-- the Append has all bytes of the log
pub piece_one : IsFromLog small_log small_known small_piece
piece_one = record {
  before = [];
  behind = [];
  bytes = sym (append-nil small_bytes);
  place = refl;
  in_order = λ some. known_before 1 refl;
}

-- each log has its copies, and the Append and the Stored fit them
pub small_logs : Logs (log_in small_world) (written_in small_world) (backup_at small_world) small_wire
small_logs = record {
  each = λ q. each_master (λ n m. IsLog m.log (written_by m []) (stored_of (backup_at small_world) n)) log_one
      (λ n apart. log_none n (stored_of (backup_at small_world) n)) q;
  sent = each_message (λ n m. LogSays (log_in small_world) (backup_at small_world) m.from m.to m.body) tt piece_one (omega arith) tt;
}
