-- Laws of the part Messages: what a message that is sent, and tablets that look the same, keep of it.
use Rattle.rk_inv_base.proofs.Words.{false, sym, subst, ◌∙◌, ◌≡◌, ◌≤◌, ℕ, Bool, List, [], ◌∷◌, Option, flat_map, arith, true, length, Some}
use Rattle.rk_inv_base.proofs.Words.{◌<◌, get, Member, Node, Entry, at_hash, batch_at, next_token, Handover, Row, Log, EntryEnd}
use Rattle.rk_inv_base.proofs.Words.{BATCH_BYTES, Grant, Prepare, Tenure, Body, Got, Pulled, Rebuild, Handed, as_entries, Written, IfMaster}
use Rattle.rk_inv_base.proofs.Words.{ByMaster, IsOfTarget, PrepareFits, CloseFits, RebuildFits, ReleaseFits, GrantAgrees, IsFromSource}
use Rattle.rk_inv_base.proofs.Words.{PulledAgrees, GotAgrees, NeededOf, scan_items, View, MessagesOf, SaysIn, is_wanting, Message}
use Rattle.rk_types.specs.declared.node.Node.TheVariants as nodes
use Rattle.rk_inv_base.proofs.views.Seen.{AllLook}

-- what is said of a node if it is a master may be replaced by what follows from it
pub if_master : (node : Node) (Fits Gives : ℕ → Type 0) → ((master : ℕ) → Fits master → Gives master) → IfMaster node Fits → IfMaster node Gives
if_master (nodes.Master master) Fits Gives gives fits = gives master fits
if_master node Fits Gives gives fits = fits

pub by_master : (node : Node) (Fits Gives : ℕ → Type 0) → ((master : ℕ) → Fits master → Gives master) → ByMaster node Fits → ByMaster node Gives
by_master (nodes.Master master) Fits Gives gives fits = gives master fits
by_master node Fits Gives gives fits = fits

-- and so may what is said under a condition
pub then : {A X Y : Type 0} → (X → Y) → (A → X) → A → Y
then gives fits is = gives (fits is)

-- ---- orders: of a master that keeps as great a term as before they say what they said

module _ (row : Row) (old new : Handover) (live : Bool) (master : ℕ) (rises : old.term ≤ new.term) where
  pub prepare_rises : (prepare : Prepare) → PrepareFits row old live master prepare → PrepareFits row new live master prepare
  prepare_rises prepare fits = grind arith

  pub close_rises : (tenure : Tenure) → CloseFits row old live master tenure → CloseFits row new live master tenure
  close_rises tenure fits = grind arith

  pub rebuild_rises : (rebuild : Rebuild) → RebuildFits row old live master rebuild → RebuildFits row new live master rebuild
  rebuild_rises rebuild fits = grind arith

  pub release_rises : (tenure : Tenure) → ReleaseFits row old live master tenure → ReleaseFits row new live master tenure
  release_rises tenure fits = grind arith

  -- a Grant, when the master waits only if it did at the same term
  pub grant_rises : (handed : Option Handed) (grant : Grant) → (is_wanting new.role ≡ true → (new.term ≡ old.term) × (is_wanting old.role ≡ true)) → GrantAgrees row old live handed master grant → GrantAgrees row new live handed master grant
  grant_rises handed grant waited agrees = grind arith

-- ---- between source and target

-- what is said of a target that pulls, and to it, if each tablet looks as before
module _ (row : Row) (written written' : ℕ → Written) (handovers handovers' : ℕ → ℕ → Handover) (live : ℕ → Bool) (looks : AllLook written written' handovers handovers') where
  -- what a target asks is of its tablet as before
  of_target_now : (master : ℕ) (tenure : Tenure) → IsOfTarget row (handovers' master row.tablet) tenure → IsOfTarget row (handovers master row.tablet) tenure
  of_target_now master tenure is = record { tablet = is.tablet; term = is.term ∙ (looks.each master row.tablet).term }

  pulled_looks : (lineage : List Member) (from : Node) (master : ℕ) (pulled : Pulled) → PulledAgrees row written handovers live lineage from master pulled → PulledAgrees row written' handovers' live lineage from master pulled
  pulled_looks (source ∷ target ∷ []) from master pulled agrees = λ here lives is.
      subst
      (λ (truth : List Entry).
      IsFromSource source from (as_entries (batch_at pulled.token BATCH_BYTES (scan_items truth))) pulled.entries
      × (pulled.next ≡ next_token pulled.token BATCH_BYTES (scan_items truth)))
      (sym (looks.truths row.range source)) (agrees here lives (of_target_now master pulled.tenure is))
  pulled_looks lineage from master pulled agrees = agrees

  got_looks : (lineage : List Member) (from : Node) (master : ℕ) (got : Got) → GotAgrees row written handovers live lineage from master got → GotAgrees row written' handovers' live lineage from master got
  got_looks (source ∷ target ∷ []) from master got agrees = λ here lives is.
      subst
      (λ (truth : List Entry).
      IsFromSource source from (as_entries (flat_map (λ hash. at_hash hash (scan_items truth)) got.hashes)) got.entries)
      (sym (looks.truths row.range source)) (agrees here lives (of_target_now master got.tenure is))
  got_looks lineage from master got agrees = agrees

-- ---- between a rebuilding master and backup 1

-- no more is needed of a dead master
abbrev pub NeedNoMore : (written written' : ℕ → Written) (live : ℕ → Bool) → Type 0
NeedNoMore written written' live =
    (row : Row) (lineage : List Member) (q : ℕ) → live q ≡ false → (end : EntryEnd) → NeededOf row written' lineage q end
    → NeededOf row written lineage q end

-- ---- all kinds

-- what a message says of a row, it still says if each tablet looks as before, and backups are known to hold as much
module _ (v : View) (logs' : ℕ → Log) (written' : ℕ → Written) (handovers' : ℕ → ℕ → Handover) (looks : AllLook v.written written' v.handovers handovers') (same : (q : ℕ) → (logs' q).known ≡ (v.logs q).known) (less : NeedNoMore v.written written' v.live) where
  abbrev after : View
  after = record v { logs = logs'; written = written'; handovers = handovers' }

  -- what a master had of the tablet of a row, and what it has
  abbrev had : Row → ℕ → Handover
  had row m = v.handovers m row.tablet

  abbrev has : Row → ℕ → Handover
  has row m = handovers' m row.tablet

  rises : (row : Row) (m : ℕ) → (had row m).term ≤ (has row m).term
  rises row m = let same = (looks.each m row.tablet).term in omega (arith, same)

  pub says_of_looks : (row : Row) (from to : Node) (body : Body) → SaysIn v row from to body → SaysIn after row from to body
  says_of_looks row from to body =
      grind (arith, pulled_looks, got_looks)

  -- each tablet looks as before, as much is applied and counts as before, and backups are known to hold as much
  pub messages_looks : MessagesOf v → MessagesOf (record v { logs = logs'; written = written'; handovers = handovers' })
  messages_looks old =
      assumption
      (λ (n : ℕ) (m : Message) (there : get v.wire n ≡ Some m) (k : ℕ) (d : Row) (within : k < length v.rows).
      says_of_looks _ m.from m.to m.body (old.of_rows n m there k d within))
