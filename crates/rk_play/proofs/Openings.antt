-- The commands that set numbers before all others.
use Rattle.rk_play.proofs.Words.{◌≡◌, ◌≤◌, ◌<◌, ◌+◌, ◌*◌, ℕ, zero, suc, List, [], ◌∷◌, ◌++◌, drop, length, take, refl, sym, ap, subst, ◌∙◌}
use Rattle.rk_play.proofs.Words.{⊎_elim, arith, Ok, if◌then◌else◌, is_some, length-drop, take-append-drop, take_all, Status, NoMemory}
use Rattle.rk_play.proofs.Words.{Segments, Cluster, number_of, Fate, Command, Backups, Masters, Numbered, PlaysBy, part_in, Played, Setting}
use Rattle.rk_play.proofs.Words.{cluster_by, part_of, played_from, played_in, refused_at, unset, MayBePart, Runs, TellStored, backup_count}
use Rattle.rk_play.proofs.Words.{IsOpened, IsRefusedEarly, IsSetting, setting_of}
use Rattle.std.proofs.Common.{◌⊎◌, drop-cons, get_or, inl, inr}
use Rattle.std.specs.Prelude.{true, Option, None, Some}
use Rattle.std.proofs.Math.ListN.{drop_of_length-le}
use Rattle.std.proofs.Math.Seq.{take-add}
use Rattle.rk_cluster.specs.declared.code.Code.TheVariants.{TooLate}
use Rattle.rk_play.specs.Played.{opened_by}
use Rattle.rk_play.specs.declared.setting.Opening.{Opening}

-- so many commands have set numbers, and any others behind them are played from there
pub record IsReading (commands : List Numbered) (opening : Opening) (index : ℕ) : Type 0 where
  pub count : opening.count ≡ index
  pub within : index ≤ length commands
  pub played : (left : List Numbered) (fates : List (List Fate))
      → played_from (take index commands ++ left) fates unset ≡ played_from left fates (setting_of opening)
  pub setting : IsSetting (setting_of opening)

-- ---- the others

-- the next command, and those behind it
pub next_is : (commands : List Numbered) (index : ℕ) (first : Numbered) → index < length commands → first ≡ get_or commands index first
    → drop index commands ≡ first ∷ drop (suc index) commands
next_is commands index first within is =
    drop-cons commands index first within ∙ ap (λ (it : Numbered). it ∷ drop (suc index) commands) (sym is)

-- a command that sets no number makes the cluster
pub plain : (command : Command) → ((masters : ℕ) → command ≡ Masters masters → ⊥) → ((backups : ℕ) → command ≡ Backups backups → ⊥)
    → (line : ℕ) (setting : Setting) (next : Setting → Played) (all : Cluster → Played) → opened_by line command setting next all ≡ all (cluster_by setting)
plain command no_masters no_backups line setting next all = grind arith

-- any of the other commands are played in the cluster that was asked for
abbrev IsPlayedThere : List Numbered → Setting → Type 0
IsPlayedThere rest setting =
    (count : ℕ) (fates : List (List Fate)) → played_from (take count rest) fates setting ≡ played_in (take count rest) fates (cluster_by setting)

none_there : (setting : Setting) → IsPlayedThere [] setting
none_there setting zero fates = refl
none_there setting (suc count) fates = refl

first_there : (first : Numbered) (rest : List Numbered) (setting : Setting)
    → ((line : ℕ) (setting : Setting) (next : Setting → Played) (all : Cluster → Played) → opened_by line first.command setting next all ≡ all (cluster_by setting))
    → IsPlayedThere (first ∷ rest) setting
first_there first rest setting makes holds fates = grind (arith, played_from, played_in)

opens : (commands : List Numbered) (opening : Opening) (index : ℕ) → IsReading commands opening index → IsPlayedThere (drop index commands) (setting_of opening)
    → IsOpened commands opening
opens commands opening index reading there = grind (arith, played_from, unset, take-add, played_in, cluster_by, setting_of)

-- no other command is left
pub opened_all : (commands : List Numbered) (opening : Opening) (index : ℕ) → IsReading commands opening index → length commands ≤ index → IsOpened commands opening
opened_all commands opening index reading past =
    opens commands opening index reading (subst (λ (list : List Numbered). IsPlayedThere list (setting_of opening)) (sym (drop_of_length-le commands past)) (none_there (setting_of opening)))

-- the next command sets no number
pub opened_before : (commands : List Numbered) (opening : Opening) (index : ℕ) (first : Numbered) (rest : List Numbered) → IsReading commands opening index
    → drop index commands ≡ first ∷ rest → ((masters : ℕ) → first.command ≡ Masters masters → ⊥) → ((backups : ℕ) → first.command ≡ Backups backups → ⊥)
    → IsOpened commands opening
opened_before commands opening index first rest reading is no_masters no_backups = grind (arith, opens, setting_of, first_there, plain)

-- ---- a number that is set twice

early : (commands : List Numbered) (opening : Opening) (index : ℕ) (first : Numbered) (rest : List Numbered) → IsReading commands opening index
    → drop index commands ≡ first ∷ rest
    → ((next : Setting → Played) (all : Cluster → Played)
    → opened_by first.line first.command (setting_of opening) next all ≡ refused_at first.line (number_of TooLate) (cluster_by (setting_of opening)))
    → IsRefusedEarly commands first.line
early commands opening index first rest reading is refuses = record {
  setting = setting_of opening;
  may = reading.setting;
  played = λ fates.
      ap (λ (list : List Numbered). played_from list fates unset) (sym (take-append-drop index commands))
      ∙ reading.played (drop index commands) fates
      ∙ ap (λ (list : List Numbered). played_from list fates (setting_of opening)) is
      ∙ refuses (λ next. played_from rest fates next) (λ cluster. played_in (first ∷ rest) fates cluster);
}

-- a number of masters, or of backups
pub early_masters : (commands : List Numbered) (opening : Opening) (index : ℕ) (first : Numbered) (rest : List Numbered) (masters : ℕ) → IsReading commands opening index
    → drop index commands ≡ first ∷ rest → first.command ≡ Masters masters → is_some opening.masters ≡ true → IsRefusedEarly commands first.line
early_masters commands opening index first rest masters reading is command set =
    grind (arith, early, setting_of, refused_at, number_of, cluster_by)

pub early_backups : (commands : List Numbered) (opening : Opening) (index : ℕ) (first : Numbered) (rest : List Numbered) (backups : ℕ) → IsReading commands opening index
    → drop index commands ≡ first ∷ rest → first.command ≡ Backups backups → is_some opening.backups ≡ true → IsRefusedEarly commands first.line
early_backups commands opening index first rest backups reading is command set =
    grind (arith, early, setting_of, refused_at, number_of, cluster_by)

-- ---- a part of the others is a part of all

abbrev shifted : ℕ → Option ℕ → Option ℕ
shifted before None = None
shifted before (Some count) = Some (before + count)

-- unless memory was wanting
may_shift : (status : Status) (few most before : ℕ) (part : Option ℕ) → (status ≡ NoMemory → ⊥) → MayBePart status few part → MayBePart status most (shifted before part)
may_shift status few most before part apart may = grind arith

lacks : (status : Status) → (status ≡ NoMemory) ⊎ (status ≡ NoMemory → ⊥)
lacks NoMemory = inl refl
lacks _ = inr (λ same. absurd (cc same))

module _ {R : Type 0} (segments : R → Option Segments) (faults : R → ℕ) (commands : List Numbered) (opening : Opening) (opened : IsOpened commands opening) (was new : Option (List ℕ)) (before after : List R) where
  -- the other commands, and the cluster that was asked for
  abbrev others : List Numbered
  others = drop opening.count commands

  abbrev asked : Cluster
  asked = cluster_by (setting_of opening)

  -- a part of them is played as that of all
  same_part : (part : Option ℕ) (fates : List (List Fate)) → part_of (Ok commands) (shifted opening.count part) fates ≡ part_in others asked part fates
  same_part (Some count) fates = opened.played count fates
  same_part None fates =
      ap (λ (list : List Numbered). played_from list fates unset) (sym (take_all (opening.count + length commands) commands (omega arith)))
      ∙ opened.played (length commands) fates
      ∙ ap (λ (list : List Numbered). played_in list fates asked) (take_all (length commands) others (omega (arith, length-drop opening.count commands)))

  -- unless memory was wanting
  played_apart : (status : Status) → (status ≡ NoMemory → ⊥) → PlaysBy segments faults (part_in others asked) (length others) status was new before after
      → PlaysBy segments faults (part_of (Ok commands)) (length commands) status was new before after
  played_apart status apart plays =
      let same = sym (same_part plays.part plays.fates) in
      record {
        part = shifted opening.count plays.part;
        may = may_shift status (length others) (length commands) opening.count plays.part apart plays.may;
        fates = plays.fates;
        runs = subst (λ (p : Played). Runs p status was new) same plays.runs;
        counts = plays.counts;
        stored = λ memory. subst (λ (p : Played). TellStored segments after p.cluster) same (plays.stored memory);
        others = λ memory.
            subst (λ (p : Played). drop (8 * backup_count p.cluster) after ≡ drop (8 * backup_count p.cluster) before) same (plays.others memory);
      }

  -- memory was wanting before one of the commands
  halted_part : (part : Option ℕ) (fates : List (List Fate)) → MayBePart NoMemory (length commands) part → Runs (part_of (Ok commands) part fates) NoMemory was new
      → PlaysBy segments faults (part_of (Ok commands)) (length commands) NoMemory was new before after
  halted_part part fates may halts = grind arith

  played_wanting : (part : Option ℕ) (fates : List (List Fate)) → MayBePart NoMemory (length others) part → Runs (part_in others asked part fates) NoMemory was new
      → PlaysBy segments faults (part_of (Ok commands)) (length commands) NoMemory was new before after
  played_wanting None fates may halts = absurd may
  played_wanting (Some zero) fates may halts =
      halted_part (Some 0) fates (omega arith) (record { ended = refl; pieces = halts.pieces; few = halts.few; written = halts.written })
  played_wanting (Some (suc count)) fates may halts =
      halted_part (Some (opening.count + suc count)) fates (omega (arith, may, length-drop opening.count commands))
      (subst (λ (p : Played). Runs p NoMemory was new) (sym (same_part (Some (suc count)) fates)) halts)

  -- what the others come to, all do
  pub opened_plays : (status : Status) → PlaysBy segments faults (part_in others asked) (length others) status was new before after
      → PlaysBy segments faults (part_of (Ok commands)) (length commands) status was new before after
  opened_plays status plays =
      ⊎_elim
      (λ (wanting : status ≡ NoMemory).
      let its = subst (λ (it : Status). PlaysBy segments faults (part_in others asked) (length others) it was new before after) wanting plays in
      subst (λ (it : Status). PlaysBy segments faults (part_of (Ok commands)) (length commands) it was new before after) (sym wanting)
      (played_wanting its.part its.fates its.may its.runs))
      (λ (apart : status ≡ NoMemory → ⊥). played_apart status apart plays)
      (lacks status)
