-- A master with staged entries that is caught up sends something on its turn.
use Rattle.std.proofs.Common.{◌≡◌, ◌≢◌, true, ◌+◌, ◌-◌, ◌<◌, ◌≤◌, ℕ, List, [], ◌∷◌, length, get_or, Option, None, Some, refl, ap}
use Rattle.std.proofs.Common.{⊎_elim, arith, length-append, fold, is_some, length-drop}
use Rattle.rk_inv_base.proofs.Words.{cases_lt, range_with_len, Entry, committed, pending, PlacedBytes, Traffic, with_message}
use Rattle.rk_inv_base.proofs.Words.{Message, IsWellFormed, Master, staged, append_of, appends, duties, master_turn}
use Rattle.rk_inv_base.proofs.Words.{MOST_BYTES, World, bytes_of_logs, master_at}
use Rattle.std.proofs.lemmas.List.Folds.{length-flat_map-take}
use Rattle.std.proofs.lemmas.List.FromFn.{get_or-range_with_len, length-range_with_len}
use Rattle.rk_inv_lanes.specs.applied.CaughtUp.{AllCaughtUp}
use Rattle.rk_inv_lanes.proofs.applied.Logs.{Lacks, lacks}
use Rattle.rk_inv_lanes.proofs.applied.Lanes.{few_of}
use Rattle.rk_inv_events.proofs.events.Coordinating.{of_master}

-- ---- a master

-- something is sent to a backup that is to be sent bytes
append_some : (master : Master) (backup : ℕ) (found : Option PlacedBytes) → is_some found ≡ true → 1 ≤ length (append_of master backup found)
append_some master backup (Some piece) is = omega arith
append_some master backup None is = absurd (cc is)

appends_some : (master : Master) → Lacks master.log → 1 ≤ length (appends master)
appends_some master lack =
    let count : ℕ = length master.log.known in
    let place : ℕ = lack.backup - 1 in
    let sent : ℕ → List Message = λ (backup : ℕ). append_of master backup (pending master.log backup) in
    let within : place < count = omega (arith, lack.there.first, lack.there.last) in
    let is : get_or (range_with_len 1 count) place 0 ≡ lack.backup = omega (arith, get_or-range_with_len 1 count place 0 within, lack.there.first) in
    omega (
      arith,
      length-flat_map-take sent (range_with_len 1 count) place 0 (omega (arith, within, length-range_with_len 1 count)),
      ap (λ (backup : ℕ). length (sent backup)) is,
      append_some master lack.backup (pending master.log lack.backup) lack.sent,
    )

-- if entries are staged, not all are applied
some_staged : (master : Master) → staged master ≢ [] → master.applied < length master.log.entries
some_staged master some = ⊎_elim (λ (less : master.applied < length master.log.entries). less)
    (λ (past : length master.log.entries ≤ master.applied).
    absurd (some (none (staged master) (omega (arith, past, length-drop master.applied master.log.entries)))))
    (cases_lt master.applied (length master.log.entries))
  where
    none : (list : List Entry) → length list ≡ 0 → list ≡ []
    none [] is = refl
    none (entry ∷ list) is = absurd (omega (arith, is))

-- ---- a lane

-- a master of a lane sends one message at least
pub sends_one : {w : World} (master : ℕ) → IsWellFormed w → bytes_of_logs w < MOST_BYTES → AllCaughtUp w → staged (master_at w master) ≢ []
    → 1 ≤ length (master_turn (master_at w master)).sends
sends_one {w} master formed room caught =
    grind (arith, of_master, staged, master_turn, few_of, committed, some_staged, appends_some, lacks, length-append, appends, duties)

-- ---- the wire

pub sent_counted : (messages : List Message) (wire : Traffic) → (fold (λ wire message. with_message message wire) wire messages).sent ≡ wire.sent + length messages
sent_counted [] wire = omega arith
sent_counted (message ∷ messages) wire = omega (arith, sent_counted messages (with_message message wire))
