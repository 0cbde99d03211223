-- A lane stays sound when a backup reports to a master how many bytes of a segment it stores. What the master believes then of the other
-- backups, and what each other master believes, is as it was; what is needed of dead masters too, since this one lives.
use Rattle.rk_inv_base.proofs.Words.{◌≡◌, ℕ, ◌-◌, ◌≤◌, true, false, List, [], length, set, Option, refl, sym, ◌∙◌, subst, arith, length-set}
use Rattle.rk_inv_base.proofs.Words.{get_or-set_same, get_or-set_other, le-leb, leb-true, append-nil, All, cases_eq, false≢true, All-weaker}
use Rattle.rk_inv_base.proofs.Words.{list_all, option_map_or, Node, NumberedBytes, told_other, list_all_each, Known, is_whole, known_length}
use Rattle.rk_inv_base.proofs.Words.{nothing, IsBackup, Log, is_side_stored, known_of, segment_of, side_segments, Body, Append, with_known}
use Rattle.rk_inv_base.proofs.Words.{World, master_at, tablet_in, Written, IsCopy, IsFromLog, IsKnownBefore, IsLog, LogSays, segments_in}
use Rattle.rk_inv_base.proofs.Words.{stored_of, READ_BACKUP, View, view, LogsOf, SoundView, committed, told_more, committed_told}
use Rattle.rk_inv_base.proofs.Words.{list_all-set, with_told, MayTell, length_told, length_told_in}
use Rattle.rk_types.specs.declared.node.Node.TheVariants as nodes
use Rattle.rk_message.specs.declared.message.Body.TheVariants as bodies
use Rattle.std.proofs.Common.{get_or}
use Rattle.rk_log.proofs.KnownLaws.{told_length}
use Rattle.rk_log.specs.Known.{told}
use Rattle.rk_inv_base.proofs.Base.{put2_same, put_by, put_other, put_same, view_master}
use Rattle.rk_inv_base.proofs.logs.Copies.{view_with_copies}
pub use Rattle.rk_inv_base.proofs.logs.Copies.{each_member, members_by}

-- ---- what a log knows of its backups

module _ (log : Log) (backup segment size : ℕ) (numbered : IsBackup log backup) where
  -- the log with the length that was reported
  abbrev new : Log
  new = with_told log backup segment size

  -- what the backup that reported is known to hold
  abbrev now_known : Known
  now_known = told (known_of log backup) segment size

  -- a statement of what a backup is known to hold is one of the backup that reported, or one of another
  by_teller : (P : Known → Type 0) (b : ℕ) → (b - 1 ≡ backup - 1 → P (told (known_of log b) segment size)) → P (known_of log b) → P (known_of new b)
  by_teller P b here apart = grind (arith, get_or, set, nothing, get_or-set_same, told, get_or-set_other, cases_eq)

  -- no less is known than before
  known_rises : (b s : ℕ) → known_length (known_of log b) s ≤ known_length (known_of new b) s
  known_rises b s =
      by_teller (λ known. known_length (known_of log b) s ≤ known_length known s) b (λ same. told_more (known_of log b) segment size s)
      (omega arith)

  -- so earlier segments are known to be stored whole still
  before_still : (b later : ℕ) → IsKnownBefore log (known_of log b) later → IsKnownBefore new (known_of new b) later
  before_still b later before earlier less sort = omega (arith, before earlier less sort, known_rises b earlier)

  -- what is reported is stored
  told_within : (known : Known) (stored : ℕ → List ℕ) (s : ℕ) → size ≤ length (stored segment) → known_length known s ≤ length (stored s) → known_length (told known segment size) s ≤ length (stored s)
  told_within known stored s is_stored old = grind (arith, length, told_length, told_other, cases_eq)

  copy_told : (stored : ℕ → List ℕ) (b : ℕ) → IsBackup log b → (b ≡ backup → size ≤ length (stored segment)) → IsCopy log stored (known_of log b) → IsCopy new stored (known_of new b)
  copy_told stored b there is_stored old = record {
    front = old.front;
    in_order = λ s some. before_still b s (old.in_order s some);
    told = λ s.
        by_teller (λ known. known_length known s ≤ length (stored s)) b
        (λ same.
        told_within (known_of log b) stored s (is_stored (omega (arith, same, there.first, numbered.first))) (old.told s))
        (old.told s);
  }

  -- a side segment that every backup is known to hold is so still
  part_told : (found : Option NumberedBytes) → option_map_or (λ part. list_all (λ known. is_whole known part) log.known) found false ≡ true → option_map_or (λ part. list_all (λ known. is_whole known part) new.known) found false ≡ true
  part_told found stored =
      grind (arith, is_whole, length, leb-true, known_length, known_of, list_all_each, nothing, list_all-set, le-leb, told_more)

  side_told : (number : ℕ) → is_side_stored log number ≡ true → is_side_stored new number ≡ true
  side_told number = part_told (segment_of number (side_segments log))

  log_told : (written : Written) (stored : ℕ → ℕ → List ℕ) → size ≤ length (stored backup segment) → IsLog log written stored → IsLog new written stored
  log_told written stored is_stored old =
      let named : All (λ entry. All (λ number. is_side_stored new number ≡ true) (segments_in entry)) written.entries =
      All-weaker _ _ (λ entry. All-weaker _ _ side_told (segments_in entry)) written.entries old.named in
      let held : written.applied ≤ committed new = omega (arith, old.held, committed_told log backup segment size) in
      assumption (λ (b : ℕ) (there : IsBackup new b).
      let was : IsBackup log b =
      record { first = there.first; last = omega (arith, there.last, length-set log.known (backup - 1) now_known) } in
      copy_told (stored b) b was (λ on. rw on is_stored) (old.copies b was))

  piece_told : (b : ℕ) (append : Append) → IsFromLog log (known_of log b) append → IsFromLog new (known_of new b) append
  piece_told b append piece = grind (arith, before_still)

-- ---- a length is reported to a master

module _ (v : View) (master backup segment size : ℕ) (sound : SoundView v) (may : MayTell v master backup segment size) where
  abbrev now : View
  now = length_told v master backup segment size

  -- a statement of a log holds of the log with the reported length, and of the others
  by_log : (P : Log → Type 0) (q : ℕ) → (q ≡ master → P (with_told (v.logs q) backup segment size)) → P (v.logs q) → P (now.logs q)
  by_log P q here apart = put_by v.logs master (λ log. with_told log backup segment size) P q here (λ other. apart)

  numbered : (q : ℕ) → q ≡ master → IsBackup (v.logs q) backup
  numbered q at = subst (λ (n : ℕ). IsBackup (v.logs n) backup) (sym at) may.there

  is_stored : (q : ℕ) → q ≡ master → size ≤ length (stored_of v.stored q backup segment)
  is_stored q at = subst (λ (n : ℕ). size ≤ length (stored_of v.stored n backup segment)) (sym at) may.is_stored

  log_says : (from to : Node) (body : Body) → LogSays v.logs v.stored from to body → LogSays now.logs v.stored from to body
  log_says (nodes.Master q) (nodes.Backup b) (bodies.Append append) piece =
      by_log (λ log. IsFromLog log (known_of log b) append) q
      (λ at. piece_told (v.logs q) backup segment size (numbered q at) b append piece) piece
  log_says _ _ _ says = says

  logs_told : LogsOf now
  logs_told = record {
    each = λ q.
        by_log (λ log. IsLog log (v.written q) (stored_of v.stored q)) q
        (λ at.
        log_told (v.logs q) backup segment size (numbered q at) (v.written q) (stored_of v.stored q) (is_stored q at)
        (sound.logs.each q))
        (sound.logs.each q);
    sent = λ n m there. log_says m.from m.to m.body (sound.logs.sent n m there);
  }

  -- nothing was reported to a dead master
  known_dead : (q : ℕ) → v.live q ≡ false → known_of (v.logs q) READ_BACKUP ≡ known_of (now.logs q) READ_BACKUP
  known_dead q dead = grind (arith, known_of, put_other, with_told, false≢true)

  pub view_length_told : SoundView now
  view_length_told = view_with_copies v now.logs v.stored sound (record {
    fit = logs_told;
    backups = λ q.
        by_log (λ log. length log.known ≡ length (v.logs q).known) q
        (λ at. length-set (v.logs q).known (backup - 1) (told (known_of (v.logs q) backup) segment size)) refl;
    entries = λ q. by_log (λ log. log.entries ≡ (v.logs q).entries) q (λ at. refl) refl;
    more = λ q s. record { more = []; parts = sym (append-nil (stored_of v.stored q READ_BACKUP s)) };
    known = known_dead;
  })

-- what a reported length makes of a view: the log alone is seen, whatever tablet is named
pub told_is : (w : World) (master backup segment size : ℕ) → view (length_told_in w master backup segment size) ≡ length_told (view w) master backup segment size
told_is w master backup segment size =
    view_master w master (with_known (master_at w master) backup segment size) 0 (tablet_in w master 0) refl refl (λ r apart. refl)
    ∙ (λ i. record (length_told (view w) master backup segment size) {
      written = put_same (view w).written master i;
      records = put_same (view w).records master i;
      calls = put_same (view w).calls master i;
      handovers = put2_same (view w).handovers master 0 i;
      completions = put2_same (view w).completions master 0 i;
      pullings = put2_same (view w).pullings master 0 i;
      gathers = put2_same (view w).gathers master 0 i;
      merged = put2_same (view w).merged master 0 i;
    })
