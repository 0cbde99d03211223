-- A lane stays sound when a backup stores more of a master's log: each segment that it stored is a first part of what it stores then.
use Rattle.rk_inv_base.proofs.Words.{◌≡◌, ℕ, List, [], ◌∷◌, ◌++◌, Option, Some, None, refl, sym, ap, ◌∙◌, subst, arith, ◌≢◌, unwrap_or}
use Rattle.rk_inv_base.proofs.Words.{eqb-true, append-nil, and_parts, cond_both, get_other, get_same, get, insert, Node, Segments, bytes_of}
use Rattle.rk_inv_base.proofs.Words.{known_of, Body, no_segments, World, backup_at, with_stored_by, IsCopy, IsFirstPart, IsKnownBefore}
use Rattle.rk_inv_base.proofs.Words.{LogSays, stored_of, READ_BACKUP, View, view, IsSound, LogsOf, SoundView, with_part, with_more}
use Rattle.rk_inv_base.proofs.Words.{MayStore, stored_more}
use Rattle.rk_types.specs.declared.node.Node.TheVariants as nodes
use Rattle.rk_message.specs.declared.message.Body.TheVariants as bodies
use Rattle.rk_outside.specs.Segments.{bytes_of as stored_bytes}
use Rattle.rk_inv_base.proofs.Base.{put_by, put_is}
use Rattle.rk_inv_base.proofs.logs.Copies.{view_with_copies}
pub use Rattle.rk_inv_base.proofs.logs.Copies.{first_part_length}

-- ---- bytes behind others

-- if two have bytes together, one of them has
pub appended_some : {Fact : Type 0} (front bytes : List ℕ) → (front ≢ [] → Fact) → (bytes ≢ [] → Fact) → front ++ bytes ≢ [] → Fact
appended_some front [] old new some = old (λ none. some (append-nil front ∙ none))
appended_some front (byte ∷ bytes) old new some = new (λ none. absurd (cc))

-- a segment that takes bytes has them behind its own
pub part_taken : (stored : Option (List ℕ)) (bytes : List ℕ) → stored_bytes (with_part stored bytes) ≡ stored_bytes stored ++ bytes
part_taken stored [] = sym (append-nil (stored_bytes stored))
part_taken stored (byte ∷ bytes) = refl

-- ---- a backup takes bytes

module _ (v : View) (master backup segment : ℕ) (bytes : List ℕ) (sound : SoundView v) (may : MayStore v master backup segment bytes) where
  abbrev now : View
  now = stored_more v master backup segment bytes

  -- a statement of what is stored holds of the segment that took the bytes, and of the others
  by_more : (P : List ℕ → Type 0) (q b s : ℕ) → (q ≡ master → b ≡ backup → s ≡ segment → P (stored_of v.stored q b s ++ bytes)) → P (stored_of v.stored q b s) → P (stored_of now.stored q b s)
  by_more P q b s here apart =
      grind (arith, put_by, with_more, stored_bytes, cond_both, with_part, and_parts, eqb-true, stored_of, part_taken)

  -- each backup stores more, or as much
  more : (q b s : ℕ) → IsFirstPart (stored_of v.stored q b s) (stored_of now.stored q b s)
  more q b s = grind (arith, stored_of, by_more, append-nil)

  -- what the change asks, of these numbers
  may_here : (q b s : ℕ) → q ≡ master → b ≡ backup → s ≡ segment → MayStore v q b s bytes
  may_here q b s at on of =
      rw at (subst (λ (n : ℕ). MayStore v master n s bytes) (sym on) (subst (λ (n : ℕ). MayStore v master backup n bytes) (sym of) may))

  copy_now : (q b : ℕ) → IsCopy (v.logs q) (stored_of v.stored q b) (known_of (v.logs q) b) → IsCopy (v.logs q) (stored_of now.stored q b) (known_of (v.logs q) b)
  copy_now q b old = record {
    front = λ s.
        by_more (λ stored. IsFirstPart stored (bytes_of (v.logs q) s)) q b s (λ at on of. (may_here q b s at on of).goes_on) (old.front s);
    in_order = λ s.
        by_more (λ stored. stored ≢ [] → IsKnownBefore (v.logs q) (known_of (v.logs q) b) s) q b s
        (λ at on of. appended_some (stored_of v.stored q b s) bytes (old.in_order s) (may_here q b s at on of).in_order)
        (old.in_order s);
    told = λ s.
        let longer = first_part_length (stored_of v.stored q b s) (stored_of now.stored q b s) (more q b s) in
        omega (arith, old.told s, longer);
  }

  -- a Stored reports no more than is stored
  log_says : (from to : Node) (body : Body) → LogSays v.logs v.stored from to body → LogSays v.logs now.stored from to body
  log_says (nodes.Backup b) (nodes.Master q) (bodies.Stored told) says = grind (arith, first_part_length, stored_of, more, told.segment)
  log_says _ _ _ says = says

  logs : LogsOf now
  logs = grind (arith, copy_now, log_says)

  pub view_stored : SoundView now
  view_stored =
      view_with_copies v v.logs now.stored sound
      (record { fit = logs; backups = λ q. refl; entries = λ q. refl; more = λ q. more q READ_BACKUP; known = λ q dead. refl })

-- ---- of the world

module _ (w : World) (master backup segment : ℕ) (bytes : List ℕ) where
  -- what a backup stores once it took the bytes
  abbrev taken : Segments → Segments
  taken segments = with_more segments master segment bytes

  -- a backup that is in the world takes them
  view_taken : (kept : Segments) → get w.backups backup ≡ Some kept → view (with_stored_by w backup taken (Some kept)) ≡ stored_more (view w) master backup segment bytes
  view_taken kept found i = record (view w) {
    stored = λ q.
        put_is (backup_at w) backup (taken (backup_at w backup)) q (unwrap_or (get (insert w.backups backup (taken kept)) q) no_segments)
        (λ is.
        ap (λ (stored : Option Segments). unwrap_or stored no_segments) (get_same w.backups backup (taken kept) q is)
        ∙ ap (λ (stored : Option Segments). taken (unwrap_or stored no_segments)) (sym found))
        (λ apart. ap (λ (stored : Option Segments). unwrap_or stored no_segments) (get_other w.backups backup (taken kept) q apart))
        i;
  }

  -- a backup that is not in it stores nothing that is seen
  pub sound_taken : IsSound w → MayStore (view w) master backup segment bytes → (found : Option Segments) → get w.backups backup ≡ found → IsSound (with_stored_by w backup taken found)
  sound_taken sound may None found = sound
  sound_taken sound may (Some kept) found =
      subst SoundView (sym (view_taken kept found)) (view_stored (view w) master backup segment bytes sound may)
