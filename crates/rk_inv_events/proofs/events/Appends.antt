-- A sound lane stays sound when a master sends its backups what they are not known to hold: the rest of the first segment that a backup is
-- not known to hold whole, at the place up to which it is known to hold it.
use Rattle.std.proofs.Common.{All, Bool, List, None, Option, Some, [], ap, append-nil, arith, cond, drop, false, find, get_or, inl, inr}
use Rattle.std.proofs.Common.{le-ltb, leb-true, length, length-take-le, lt-ltb, not, option_map, refl, subst, suc, sym, take}
use Rattle.std.proofs.Common.{take-append-drop, true, zero, ℕ, ◌+◌, ◌-◌, ◌<◌, ◌∙◌, ◌∷◌, ◌≡◌, ◌≤◌, ◌⊎◌}
use Rattle.rk_message.specs.declared.message.Body.TheVariants as bodies
use Rattle.rk_types.specs.declared.node.Node.TheVariants as nodes
use Rattle.rk_inv_base.proofs.Words.{All-cons, All-contains, All-nil, Append, FIRST_SIDE_SEGMENT, IsBackup, IsFromLog, IsKnownBefore}
use Rattle.rk_inv_base.proofs.Words.{IsMaster, IsSound, Known, Log, Master, MaySend, Message, NumberedBytes, PlacedBytes, View, World}
use Rattle.rk_inv_base.proofs.Words.{append_of, appends, bytes_of, cases_lt, cut, find-append, is_whole, known_length, known_of, log_in}
use Rattle.rk_inv_base.proofs.Words.{master_at, numbered, option_or, pending, range_with_len, side_segments, view, with_all_sent, ⊤}
use Rattle.rk_inv_base.proofs.logs.BytesStored.{first_part_length}
use Rattle.rk_inv_events.proofs.Words.{bytes_in, bytes_main, bytes_side, bytes_zero, missing, numbered_at, by_found}
use Rattle.rk_inv_events.proofs.events.Coordinating.{masters_from}
use Rattle.rk_inv_events.proofs.events.Sending.{all_of_each, may_send, sound_all_sent}

-- ---- the first segment that is not known to be held whole

-- it is at a place of numbered segments, and each one before it is known to be held whole
record IsFirst (known : Known) (first : ℕ) (segments : List (List ℕ)) (segment : NumberedBytes) : Type 0 where
  place : ℕ
  within : place < length segments
  number_is : segment.number ≡ first + place
  bytes_is : segment.bytes ≡ get_or segments place []
  whole : (k : ℕ) → k < place → length (get_or segments k []) ≤ known_length known (first + k)

-- whether a segment is not known to be held whole
abbrev lacks : Known → NumberedBytes → Bool
lacks known segment = not (is_whole known segment)

first_lacking : (known : Known) (first : ℕ) (segments : List (List ℕ)) (segment : NumberedBytes) → find (lacks known) (numbered first segments) ≡ Some segment → IsFirst known first segments segment
first_lacking known first [] segment found = absurd (cc found)
first_lacking known first (bytes ∷ more) segment found =
    go (λ is. first_lacking known (suc first) more segment is) (is_whole known (record { number = first; bytes = bytes })) refl found
  where
    go : (find (lacks known) (numbered (suc first) more) ≡ Some segment → IsFirst known (suc first) more segment)
        → (whole : Bool) → is_whole known (record { number = first; bytes = bytes }) ≡ whole
        → cond (not whole) (Some (record { number = first; bytes = bytes })) (find (lacks known) (numbered (suc first) more)) ≡ Some segment
        → IsFirst known first (bytes ∷ more) segment
    go later false lacks_it is =
        let same : record { number = first; bytes = bytes } ≡ segment = cc is in
        record {
          place = 0;
          within = omega arith;
          number_is = sym (ap (λ (s : NumberedBytes). s.number) same) ∙ omega arith;
          bytes_is = sym (ap (λ (s : NumberedBytes). s.bytes) same);
          whole = λ k less. absurd (omega (arith, less));
        }
    go later true holds is =
        let rest = later is in
        record {
          place = suc rest.place;
          within = omega (arith, rest.within);
          number_is = rest.number_is ∙ omega arith;
          bytes_is = rest.bytes_is;
          whole = before rest;
        }
      where
        before : (rest : IsFirst known (suc first) more segment) → (k : ℕ) → k < suc rest.place → length (get_or (bytes ∷ more) k []) ≤ known_length known (first + k)
        before rest zero less =
            let same : first ≡ first + 0 = omega arith in
            subst (λ (n : ℕ). length bytes ≤ known_length known n) same (leb-true (length bytes) (known_length known first) holds)
        before rest (suc k) less =
            let same : suc first + k ≡ first + suc k = omega arith in
            subst (λ (n : ℕ). length (get_or more k []) ≤ known_length known n) same (rest.whole k (omega (arith, less)))

-- ---- of a log

module _ (log : Log) (known : Known) (few : length (cut log.entries) < FIRST_SIDE_SEGMENT) where
  -- what is known of it: the log has just these bytes, and each segment before it of its sort is known to be held whole
  record IsNextOf (segment : NumberedBytes) : Type 0 where
    has : bytes_of log segment.number ≡ segment.bytes
    before : IsKnownBefore log known segment.number

  next_main : (segment : NumberedBytes) → IsFirst known 1 (cut log.entries) segment → IsNextOf segment
  next_main segment it = grind (arith, bytes_main, cut, bytes_zero)

  next_side : (segment : NumberedBytes) → IsFirst known FIRST_SIDE_SEGMENT log.sides segment → IsNextOf segment
  next_side segment it = record { has = side segment.number it.place (sym it.number_is) it.within ∙ sym it.bytes_is; before = earlier }
    where
      side : (number k : ℕ) → FIRST_SIDE_SEGMENT + k ≡ number → k < length log.sides → bytes_of log number ≡ get_or log.sides k []
      side number k is within =
          bytes_side log number few (omega (arith, is)) ∙ ap bytes_in (numbered_at number FIRST_SIDE_SEGMENT k log.sides is within)

      earlier : IsKnownBefore log known segment.number
      earlier number less same = by_sort (cases_lt number FIRST_SIDE_SEGMENT)
        where
          by_sort : (number < FIRST_SIDE_SEGMENT) ⊎ (FIRST_SIDE_SEGMENT ≤ number) → length (bytes_of log number) ≤ known_length known number
          by_sort (inl main) =
              absurd (cc (lt-ltb number FIRST_SIDE_SEGMENT main, same, le-ltb segment.number FIRST_SIDE_SEGMENT (omega (arith, it.number_is))))
          by_sort (inr past) =
              let k : ℕ = number - FIRST_SIDE_SEGMENT in
              let is : FIRST_SIDE_SEGMENT + k ≡ number = omega (arith, past) in
              subst (λ (b : List ℕ). length b ≤ known_length known number) (sym (side number k is (omega (arith, less, it.number_is, it.within, past))))
              (subst (λ (n : ℕ). length (get_or log.sides k []) ≤ known_length known n) is (it.whole k (omega (arith, less, it.number_is, past))))

-- ---- what is pending

-- the rest of a segment, from the length that is known to be held of it
from_log : (log : Log) (known : Known) (segment : NumberedBytes) → bytes_of log segment.number ≡ segment.bytes → IsKnownBefore log known segment.number
    → known_length known segment.number ≤ length (bytes_of log segment.number)
    → IsFromLog log known (record { segment = segment.number; at = known_length known segment.number; bytes = drop (known_length known segment.number) segment.bytes })
from_log log known segment has before within =
    let at : ℕ = known_length known segment.number in
    record {
      before = take at segment.bytes;
      behind = [];
      bytes = grind (arith, take-append-drop, append-nil, segment.bytes);
      place = length-take-le at segment.bytes (rw has at within);
      in_order = λ some. before;
    }

-- the piece that is sent
abbrev Sends : Log → ℕ → Option PlacedBytes → Type 0
Sends log backup None = ⊤
Sends log backup (Some piece) = IsFromLog log (known_of log backup) (record { segment = piece.segment; at = piece.at; bytes = piece.bytes })

module _ (log : Log) (backup : ℕ) (few : length (cut log.entries) < FIRST_SIDE_SEGMENT) (within : (segment : ℕ) → known_length (known_of log backup) segment ≤ length (bytes_of log segment)) where
  abbrev known : Known
  known = known_of log backup

  of_next : (segment : NumberedBytes) → IsNextOf log known few segment → Sends log backup (Some (missing known segment))
  of_next segment next = from_log log known segment next.has next.before (within segment.number)

  pending_is_of_log : Sends log backup (pending log backup)
  pending_is_of_log = rw (find-append (lacks known) (numbered 1 (cut log.entries)) (side_segments log))
      (by_found (λ found. Sends log backup (option_map (missing known) (option_or found (find (lacks known) (side_segments log)))))
      (find (lacks known) (numbered 1 (cut log.entries)))
      (λ none.
      by_found (λ found. Sends log backup (option_map (missing known) found)) (find (lacks known) (side_segments log)) (λ none. tt)
      (λ segment is. of_next segment (next_side log known few segment (first_lacking known FIRST_SIDE_SEGMENT log.sides segment is))))
      (λ segment is. of_next segment (next_main log known few segment (first_lacking known 1 (cut log.entries) segment is))))

-- ---- a master sends that

-- bytes of a master's log may be sent to a backup
pub may_append : (v : View) (master backup : ℕ) (append : Append) → IsFromLog (v.logs master) (known_of (v.logs master) backup) append
    → MaySend v (record { from = nodes.Master master; to = nodes.Backup backup; body = bodies.Append append })
may_append v master backup append of_log = grind (arith, may_send)

module _ (w : World) (master : ℕ) (sound : IsSound w) (few : length (cut (log_in w master).entries) < FIRST_SIDE_SEGMENT) where
  abbrev own : Master
  own = master_at w master

  -- what is sent is bytes of its log
  module _ (P : Message → Type 0) (each : (backup : ℕ) (append : Append) → IsFromLog own.log (known_of own.log backup) append
      → P (record { from = nodes.Master own.number; to = nodes.Backup backup; body = bodies.Append append })) where
    to_backup : (backup : ℕ) → IsBackup own.log backup → All P (append_of own backup (pending own.log backup))
    to_backup backup there = by_found (λ piece. Sends own.log backup piece → All P (append_of own backup piece)) (pending own.log backup)
        (λ none sends. All-nil P)
        (λ piece is sends.
        All-cons P _ [] (each backup (record { segment = piece.segment; at = piece.at; bytes = piece.bytes }) sends) (All-nil P))
        (pending_is_of_log own.log backup few within)
      where
        -- a backup is known to hold no more of a segment than there is
        within : (segment : ℕ) → known_length (known_of own.log backup) segment ≤ length (bytes_of own.log segment)
        within segment =
            let copy = (sound.logs.each master).copies backup there in
            omega (arith, copy.told segment, first_part_length _ _ (copy.front segment))

    pub each_append : All P (appends own)
    each_append =
        let count : ℕ = length own.log.known in
        all_of_each P (λ backup. append_of own backup (pending own.log backup)) (range_with_len 1 count) (λ backup stands.
        let its : IsMaster count backup =
        All-contains (IsMaster count) (range_with_len 1 count) backup (masters_from 1 count count (omega arith) (omega arith)) stands in
        to_backup backup (record { first = its.first; last = its.last }))

  pub sound_appends : IsSound (with_all_sent w (appends own))
  sound_appends = sound_all_sent w (appends own) sound
      (each_append (MaySend (view w)) (λ backup append of_log.
      rw (sound.nodes.numbered master) (may_append (view w) master backup append of_log)))
