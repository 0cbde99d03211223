-- A sound and well formed lane stays sound when a message that is on the wire reaches a backup that reports what it stores. What an Append
-- adds continues what the backup stores, and it reports no more than it stores then; what it copies when it takes a Read is all that it
-- stores of the segment, so all that is to be read.
use Rattle.std.proofs.Common.{Bool, Contains, List, None, Option, Some, [], ap, append-nil, append_assoc, arith, bytes_eq, cond, drop}
use Rattle.std.proofs.Common.{eq-eqb, false, inl, inr, is_some, leb-true, length, length-append, nat_le, refl, subst, suc, sym, take}
use Rattle.std.proofs.Common.{take-append-drop, true, unwrap_or, zero, ℕ, ⊎_elim, ◌++◌, ◌+◌, ◌-◌, ◌<◌, ◌==◌, ◌∙◌, ◌∷◌, ◌≡◌, ◌≢◌, ◌≤◌, ◌⊎◌}
use Rattle.std.proofs.Math.Seq.{take-append-add, take-append_seam}
use Rattle.rk_backup.specs.Accepts.{added, is_accepted, overlap}
use Rattle.rk_message.specs.declared.message.Body.TheVariants as bodies
use Rattle.rk_outside.specs.Segments.{bytes_of, with_part}
use Rattle.rk_types.specs.declared.node.Node.TheVariants as nodes
use Rattle.rk_world.specs.Backup.{append_called, append_step, append_taken, called_by, calls_replica, common_front, copied, idle}
use Rattle.rk_world.specs.Backup.{read_called, read_step, with_more}
use Rattle.rk_inv_base.proofs.Words.{AllTell, Append, Appended, Body, Called, CopyIn, CopySegment, Failed, IsBackup, IsFirstPart, IsFromLog}
use Rattle.rk_inv_base.proofs.Words.{IsMaster, IsReadPart, IsSound, IsWellFormed, MaySend, Member, Message, NeededOf, Node, Phase}
use Rattle.rk_inv_base.proofs.Words.{READ_BACKUP, ReadIn, ReadSegment, Rebuilding, Row, Segments, SoundView, View, World, and_from}
use Rattle.rk_inv_base.proofs.Words.{and_parts, backed_at, backup_at, cases_eq, cases_lt, drop_all, get, get_other, get_same, insert}
use Rattle.rk_inv_base.proofs.Words.{is_backup, known_of, log_bytes_of, log_in, no_segments, quietly, stored_of, take-append-le, to_backup}
use Rattle.rk_inv_base.proofs.Words.{view, with_stored_by, cases_Bool}
use Rattle.rk_inv_base.proofs.Headlines.{sound_stored}
use Rattle.rk_inv_base.proofs.logs.BytesStored.{part_taken}
use Rattle.rk_inv_base.proofs.logs.Logs.{first_part_more}
use Rattle.rk_inv_events.proofs.Words.{MayStore, first_part_itself, needed_stored, row_in, row_rebuilt, row_said, sound_sent, by_found}
use Rattle.rk_inv_events.proofs.Words.{either_way}
use Rattle.rk_inv_events.proofs.events.Sending.{may_send}

-- ---- bytes that continue others

-- two first parts of one list of bytes, of which the second begins in the first or at its end, and goes as far or farther: what goes past
-- the first continues it
continues : (whole stored before bytes behind more : List ℕ) (count : ℕ) → whole ≡ stored ++ more → whole ≡ before ++ (bytes ++ behind)
    → length stored ≡ length before + count → count ≤ length bytes → stored ++ drop count bytes ≡ before ++ bytes
continues whole stored before bytes behind more count one two reach within =
    ap (λ (front : List ℕ). front ++ drop count bytes) stored_is ∙ append_assoc before (take count bytes) (drop count bytes)
    ∙ ap (λ (rest : List ℕ). before ++ rest) (take-append-drop count bytes)
  where
    stored_is : stored ≡ before ++ take count bytes
    stored_is =
        sym (take-append_seam stored more)
        ∙ ap (λ (all : List ℕ). take (length stored) all) (sym one ∙ two)
        ∙ ap (λ (n : ℕ). take n (before ++ (bytes ++ behind))) reach
        ∙ take-append-add before (bytes ++ behind) count
        ∙ ap (λ (rest : List ℕ). before ++ rest) (take-append-le count bytes behind within)

-- a backup that stores a first part of a segment, and takes bytes of it at their place, stores a first part then
pub added_front : (whole stored before bytes behind : List ℕ) → IsFirstPart stored whole → whole ≡ before ++ (bytes ++ behind)
    → IsFirstPart (stored ++ added (length before) bytes stored) whole
added_front whole stored before bytes behind front there = go (is_accepted (length before) bytes stored) refl
  where
    past : ℕ
    past = length stored - length before

    go : (accepts : Bool) → is_accepted (length before) bytes stored ≡ accepts → IsFirstPart (stored ++ cond accepts (drop past bytes) []) whole
    go false is = rw (append-nil stored) front
    go true is =
        let parts = and_parts (nat_le (length before) (length stored)) (bytes_eq (take (overlap (length before) bytes stored) (drop (length before) stored)) (take (overlap (length before) bytes stored) bytes)) is in
        let begins : length before ≤ length stored = leb-true (length before) (length stored) parts.0 in
        by_reach begins (cases_lt (length bytes) past)
      where
        by_reach : length before ≤ length stored → (length bytes < past) ⊎ (past ≤ length bytes) → IsFirstPart (stored ++ drop past bytes) whole
        by_reach begins (inl beyond) =
            subst (λ (more : List ℕ). IsFirstPart (stored ++ more) whole) (sym (drop_all past bytes (omega (arith, beyond))))
            (subst (λ (b : List ℕ). IsFirstPart b whole) (sym (append-nil stored)) front)
        by_reach begins (inr within) =
            subst (λ (b : List ℕ). IsFirstPart b whole)
            (sym (continues whole stored before bytes behind front.more past front.parts there (omega (arith, begins)) within))
            (record { more = behind; parts = there ∙ sym (append_assoc before bytes behind) })

-- so it does if a first part of these alone was added
pub part_front : (whole stored more : List ℕ) (count : ℕ) → IsFirstPart (stored ++ more) whole → IsFirstPart (stored ++ take count more) whole
part_front whole stored more count front = first_part_more (stored ++ take count more) (stored ++ more) whole
    (record {
      more = drop count more;
      parts = grind (arith, take-append-drop, append_assoc);
    }) front

-- of no bytes none are taken
none_taken : (count : ℕ) → take {A = ℕ} count [] ≡ []
none_taken zero = refl
none_taken (suc count) = refl

-- ---- a backup

-- a backup of the lane is known to each master
known_by : (w : World) (backup master : ℕ) → IsSound w → is_backup w backup ≡ true → IsMaster w.coordinator.masters master
    → IsBackup (log_in w master) backup
known_by w backup master sound there sender = grind (arith, and_parts, nat_le, leb-true)

-- a backup that stores what it stored changes nothing that is seen
view_same : (w : World) (backup : ℕ) (segments : Segments) → get w.backups backup ≡ Some segments → view (with_stored_by w backup (λ it. it) (Some segments)) ≡ view w
view_same w backup segments tells i = record (view w) { stored = λ q. same q i }
  where
    same : (q : ℕ) → unwrap_or (get (insert w.backups backup segments) q) no_segments ≡ backup_at w q
    same q =
        ap (λ (told : Option Segments). unwrap_or told no_segments)
        (⊎_elim (λ (is : q ≡ backup). get_same w.backups backup segments q is ∙ sym (ap (get w.backups) is ∙ tells))
        (λ (apart : q ≡ backup → ⊥). get_other w.backups backup segments q apart) (cases_eq q backup))

-- ---- it takes an Append

-- what a backup stores may be reported to a master
may_tell_stored : (v : View) (backup master segment count : ℕ) → count ≤ length (stored_of v.stored master backup segment)
    → MaySend v (record { from = nodes.Backup backup; to = nodes.Master master; body = bodies.Stored (record { segment = segment; length = count }) })
may_tell_stored v backup master segment count within = grind (arith, may_send)

-- a backup that reports what it stores takes an Append of a master that is there, which carries bytes of that master's log
module _ (w : World) (backup master : ℕ) (append : Append) (segments : Segments) (sound : IsSound w) (there : is_backup w backup ≡ true) (sender : IsMaster w.coordinator.masters master) (tells : get w.backups backup ≡ Some segments) (says : IsFromLog (log_in w master) (known_of (log_in w master) backup) append) where
  abbrev stored : List ℕ
  stored = bytes_of (segments master append.segment)

  -- what the lane sees that is stored is just that
  sees : stored_of (view w).stored master backup append.segment ≡ stored
  sees = ap (λ (told : Option Segments). bytes_of (unwrap_or told no_segments master append.segment)) tells

  known_there : IsBackup (log_in w master) backup
  known_there = known_by w backup master sound there sender

  front : IsFirstPart (stored ++ added append.at append.bytes stored) (log_bytes_of w master append.segment)
  front = rw says.place at
      (added_front (log_bytes_of w master append.segment) stored says.before append.bytes says.behind
      (subst (λ (b : List ℕ). IsFirstPart b (log_bytes_of w master append.segment)) sees
      (((sound.logs.each master).copies backup known_there).front append.segment)) says.bytes)

  -- some first part of what is new may be stored
  may_store : (more : List ℕ) → IsFirstPart (stored ++ more) (log_bytes_of w master append.segment) → (more ≢ [] → added append.at append.bytes stored ≢ [])
      → MayStore (view w) master backup append.segment more
  may_store more goes_on some = grind (arith, known_there, sees, either_way, drop_all)

  -- what is new of the bytes
  abbrev new : List ℕ
  new = added append.at append.bytes stored

  -- the lane once the backup stored these
  abbrev world_of : List ℕ → World
  world_of more = with_stored_by w backup (λ told. with_more told master append.segment more) (Some segments)

  sound_more : (more : List ℕ) → IsFirstPart (stored ++ more) (log_bytes_of w master append.segment) → (more ≢ [] → new ≢ []) → IsSound (world_of more)
  sound_more more goes_on some = rw tells at (sound_stored w master backup append.segment more sound (may_store more goes_on some))

  stores_now : (more : List ℕ) → stored_of (view (world_of more)).stored master backup append.segment ≡ stored ++ more
  stores_now more = grind (arith, no_segments, get_same, and_from, eq-eqb, part_taken)

  -- if all of them are stored, it reports no more than it stores then
  stored_all : (count : ℕ) → count ≤ length (stored ++ new)
      → IsSound (backed_at (world_of new) (append_step backup master append (Appended count))).world
  stored_all count within = sound_sent (world_of new) _ (sound_more new front (λ some. some))
      (may_tell_stored (view (world_of new)) backup master append.segment count (rw (stores_now new) within))

  -- the lane once the call of its replica came to this
  abbrev after : Called → World
  after called =
      (backed_at (with_stored_by w backup (λ told. append_taken told master append called) (Some segments))
      (append_step backup master append called)).world

  -- by what the call of its replica came to
  taken_by : (fault : Option ℕ) → IsSound (after (append_called segments master append fault))
  taken_by None =
      stored_all (length (bytes_of (append_taken segments master append (Appended 0) master append.segment))) (rw now (omega arith))
    where
      now : bytes_of (append_taken segments master append (Appended 0) master append.segment) ≡ stored ++ new
      now =
          ap (λ (here : Bool). bytes_of (cond here (with_part (segments master append.segment) new) (segments master append.segment)))
          (and_from (master == master) (append.segment == append.segment) (eq-eqb master master refl) (eq-eqb append.segment append.segment refl))
          ∙ part_taken (segments master append.segment) new
  taken_by (Some count) =
      elim (calls_replica (length (bytes_of (segments master append.segment))) append) as (λ calls. IsSound (after (cond calls (Failed count) (Appended (length stored))))) [
        | true ↦
            sound_more (take count new) (part_front (log_bytes_of w master append.segment) stored new count front)
            (λ some none. some (ap (λ (b : List ℕ). take count b) none ∙ none_taken count))
        | false ↦ stored_all (length stored) (omega (arith, length-append stored new))
      ]

  -- the backup takes the message
  pub sound_append : (fault : Option ℕ)
      → IsSound (to_backup w backup (nodes.Master master) (bodies.Append append) (append_called segments master append fault)).world
  sound_append fault = rw there (rw tells (taken_by fault))

-- ---- what is copied

-- bytes with which others begin are what they have in common
common_is : (read whole : List ℕ) → IsFirstPart read whole → common_front read whole ≡ read
common_is [] whole front = refl
common_is (byte ∷ read) [] front = absurd (cc front.parts)
common_is (byte ∷ read) (first ∷ whole) front =
    let heads : first ≡ byte = cc front.parts in
    let tails : whole ≡ read ++ front.more = cc front.parts in
    ap (λ (same : Bool). cond same (byte ∷ common_front read whole) []) (eq-eqb byte first (sym heads))
    ∙ ap (λ (rest : List ℕ). byte ∷ rest) (common_is read whole (record { more = front.more; parts = tails }))

-- of what a segment's log has, all that is stored is copied
all_copied : (stored : Option (List ℕ)) (log : List ℕ) → IsFirstPart (bytes_of stored) log → bytes_of (copied stored log) ≡ bytes_of stored
all_copied None log front = refl
all_copied (Some read) [] front = none read front
  where
    none : (read : List ℕ) → IsFirstPart read [] → [] ≡ read
    none [] front = refl
    none (byte ∷ read) front = absurd (cc front.parts)
all_copied (Some read) (byte ∷ more) front = common_is read (byte ∷ more) front

-- ---- it takes a Read

-- a copy of all that backup 1 stores is what is to be read
module _ (v : View) (sound : SoundView v) (read : ReadSegment) (there : IsMaster v.masters read.master) where
  abbrev all_stored : List ℕ
  all_stored = stored_of v.stored read.master READ_BACKUP read.segment

  is_whole : (row : Row) (lineage : List Member) (to : ℕ) → Contains v.rows row → row.phase ≡ Rebuilding lineage to
      → IsReadPart (NeededOf row v.written lineage read.master) (known_of (v.logs read.master) READ_BACKUP)
      (stored_of v.stored read.master READ_BACKUP) read.segment all_stored
  is_whole row lineage to stands is =
      let known_there : IsBackup (v.logs read.master) READ_BACKUP =
      record { first = omega arith; last = omega (arith, sound.nodes.known read.master there, sound.nodes.backed) } in
      record {
        front = first_part_itself all_stored;
        enough = ((sound.logs.each read.master).copies READ_BACKUP known_there).told read.segment;
        needed = λ end needed at.
            let reaches =
            needed_stored v row lineage to sound stands is lineage (rw is at (row_rebuilt v sound row stands)).1 read.master end needed in
            subst (λ (segment : ℕ). end.offset ≤ length (stored_of v.stored read.master READ_BACKUP segment)) at reaches.there;
      }

-- a backup that reports what it stores takes a Read that is on the wire, of a master that is there
module _ (w : World) (number backup reader : ℕ) (read : ReadSegment) (segments : Segments) (sound : IsSound w) (there : is_backup w backup ≡ true) (of : IsMaster w.coordinator.masters read.master) (tells : get w.backups backup ≡ Some segments) (found : get w.wire.messages number ≡ Some (record { from = nodes.Master reader; to = nodes.Backup backup; body = bodies.Read read })) where
  abbrev asking : Message
  asking = record { from = nodes.Master reader; to = nodes.Backup backup; body = bodies.Read read }

  abbrev bytes : Option (List ℕ)
  bytes = copied (segments read.master read.segment) (log_bytes_of w read.master read.segment)

  abbrev copy : CopySegment
  copy = record { tenure = read.tenure; master = read.master; segment = read.segment; bytes = bytes }

  -- what it copies is all that it stores of the segment
  copies_all : bytes_of bytes ≡ stored_of (view w).stored read.master backup read.segment
  copies_all = all_copied (segments read.master read.segment) (log_bytes_of w read.master read.segment)
      (subst (λ (b : List ℕ). IsFirstPart b (log_bytes_of w read.master read.segment)) sees
      (((sound.logs.each read.master).copies backup (known_by w backup read.master sound there of)).front read.segment)) ∙ sym sees
    where
      sees : stored_of (view w).stored read.master backup read.segment ≡ bytes_of (segments read.master read.segment)
      sees = ap (λ (told : Option Segments). bytes_of (unwrap_or told no_segments read.master read.segment)) tells

  says_copy : (row : Row) → Contains w.coordinator.rows row → ReadIn row.phase (view w).live (nodes.Backup backup) read
      → CopyIn row row.phase (view w).logs (view w).written (view w).stored (view w).live copy
  says_copy row stands = by_phase row.phase refl
    where
      by_phase : (phase : Phase) → row.phase ≡ phase → ReadIn phase (view w).live (nodes.Backup backup) read
          → CopyIn row phase (view w).logs (view w).written (view w).stored (view w).live copy
      by_phase (Rebuilding lineage to) is reads =
          let one : backup ≡ READ_BACKUP = cc reads.0 in
          let all : bytes_of bytes ≡ stored_of (view w).stored read.master READ_BACKUP read.segment =
          copies_all ∙ ap (λ (b : ℕ). stored_of (view w).stored read.master b read.segment) one in (
            reads.1,
            subst
                (λ (b : List ℕ).
                IsReadPart (NeededOf row (view w).written lineage read.master) (known_of (log_in w read.master) READ_BACKUP)
                (stored_of (view w).stored read.master READ_BACKUP) read.segment b) (sym all)
                (is_whole (view w) sound read of row lineage to stands is),
          )
      by_phase _ is reads = tt

  may_send_copy : MaySend (view w) (record { from = nodes.Backup backup; to = nodes.Master reader; body = bodies.Copy copy })
  may_send_copy = may_send (view w) (nodes.Backup backup) (nodes.Master reader) (bodies.Copy copy) (λ row. refl)
      (sound.cover.sent number asking found, tt)
      (λ row stands. (
        record { within = ((row_in (view w) sound row stands).terms number asking found).within; below = tt },
        λ its. says_copy row stands (row_said (view w) sound row stands number asking found its),
      )) (tt, tt, tt)

  -- by what the call of its replica came to
  read_by : (fault : Option ℕ)
      → IsSound (backed_at (with_stored_by w backup (λ it. it) (Some segments)) (read_step backup reader read (log_bytes_of w) (read_called segments read fault))).world
  read_by (Some count) = rw (view_same w backup segments tells) sound
  read_by None = search (sound_sent, with_stored_by, view_same, may_send_copy)

  -- the backup takes the message
  pub sound_read : (fault : Option ℕ)
      → IsSound (to_backup w backup (nodes.Master reader) (bodies.Read read) (read_called segments read fault)).world
  sound_read fault = rw there (rw tells (read_by fault))

-- ---- it takes any message

-- a message to a backup
abbrev pub to_store : Node → ℕ → Body → Message
to_store from backup body = record { from = from; to = nodes.Backup backup; body = body }

-- so a lane stays sound when a backup does nothing
sound_idle : (w : World) (backup : ℕ) → IsSound w → IsSound (backed_at (with_stored_by w backup (λ segments. segments) (get w.backups backup)) idle).world
sound_idle w backup sound =
    by_found (λ told. IsSound (backed_at (with_stored_by w backup (λ segments. segments) told) idle).world) (get w.backups backup)
    (λ none. sound) (λ segments tells. subst SoundView (sym (view_same w backup segments tells)) sound)

module _ (w : World) (number backup : ℕ) (sound : IsSound w) (formed : IsWellFormed w) (there : is_backup w backup ≡ true) (segments : Segments) (tells : get w.backups backup ≡ Some segments) where
  -- it does nothing with a message of this kind
  does_nothing : (called : Called) → IsSound (cond (is_backup w backup) (backed_at (with_stored_by w backup (λ segments. segments) (get w.backups backup)) idle) (quietly w)).world
  does_nothing called = rw there (sound_idle w backup sound)

  of_master : (master : ℕ) (body : Body) (fault : Option ℕ) → get w.wire.messages number ≡ Some (to_store (nodes.Master master) backup body)
      → IsSound (to_backup w backup (nodes.Master master) body (called_by segments (nodes.Master master) body fault)).world
  of_master master (bodies.Append append) fault sent = sound_append w backup master append segments sound there
      (formed.wire.each number _ sent).from tells (sound.logs.sent number _ sent) fault
  of_master master (bodies.Read read) fault sent =
      sound_read w number backup master read segments sound there (formed.wire.each number _ sent).says.1 tells sent fault
  of_master master body fault sent = does_nothing (called_by segments (nodes.Master master) body fault)

  by_sender : (from : Node) (body : Body) (fault : Option ℕ) → get w.wire.messages number ≡ Some (to_store from backup body)
      → IsSound (to_backup w backup from body (called_by segments from body fault)).world
  by_sender (nodes.Master master) body fault sent = of_master master body fault sent
  by_sender from body fault sent = does_nothing (called_by segments from body fault)

-- a message to no backup of the lane is lost, and each backup reports what it stores
pub sound_to_backup : (w : World) (number backup : ℕ) → IsSound w → IsWellFormed w → AllTell w → (from : Node) (body : Body) (fault : Option ℕ)
    → get w.wire.messages number ≡ Some (to_store from backup body)
    → IsSound (to_backup w backup from body (called_by (backup_at w backup) from body fault)).world
sound_to_backup w number backup sound formed tell from body fault sent = elim (cases_Bool (is_backup w backup)) [
  | inl there ↦
      by_found
      (λ told. is_some told ≡ true → IsSound (to_backup w backup from body (called_by (unwrap_or told no_segments) from body fault)).world)
      (get w.backups backup) (λ none some. absurd (cc some))
      (λ segments tells some. by_sender w number backup sound formed there segments tells from body fault sent) (tell backup there)
  | inr none ↦ rw none sound
]
