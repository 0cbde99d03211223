-- What is so of a run of a script, or of two with other fates of the calls of replicas: it is so if it is so of what is played in a new
-- cluster, with as many masters and backups as there may be, and of a run that ends before any command.
use Rattle.std.proofs.Common.{◌≡◌, ℕ, List, [], ◌∷◌, Option, Result, Ok, Err, if◌then◌else◌, refl, subst, arith, take, All}
use Rattle.rk_scripts.proofs.Words.{All-head, All-tail, NoMemory, Fate, number_of, IsLawfulCommand, script_of, Command, Numbered}
use Rattle.rk_scripts.proofs.Words.{ParseError, Played, Setting, cluster_by, first_commands, opened_by, played_from, played_in, played_of}
use Rattle.rk_scripts.proofs.Words.{played_part, refused_at, set_once, unset, ending}
use Rattle.std.proofs.lemmas.List.Elements.{All-take}
use Rattle.rk_script.proofs.LawfulLemmas.{script_of-lawful}
use Rattle.rk_script.proofs.Widths.{HasWidthsAt, script_of-widths}
use Rattle.rk_script.specs.Codes.{code_number}
use Rattle.rk_script.specs.Lawful.{IsLawful}
use Rattle.rk_play.specs.Settings.{IsSetting}
use Rattle.rk_scripts.specs.answers.Pieces.{acting, acting_in, acting_of, is_setting}

-- what was read is lawful, and has its widths
abbrev AreRead : Result (List Numbered) ParseError → Type 0
AreRead read = (commands : List Numbered) → read ≡ Ok commands → All IsLawful commands × All HasWidthsAt commands

-- so are the first commands
first_read : (count : ℕ) (read : Result (List Numbered) ParseError) → AreRead read → AreRead (first_commands count read)
first_read count (Ok all) are commands is =
    let same : take count all ≡ commands = cc is in
    subst (λ (list : List Numbered). All IsLawful list × All HasWidthsAt list) same
    (All-take IsLawful count all (are all refl).0, All-take HasWidthsAt count all (are all refl).1)
first_read count (Err fault) are commands is = grind arith

-- nothing was asked for
unset_may : IsSetting unset
unset_may = record { masters = record { first = omega arith; last = omega arith }; backed = omega arith; backups = omega arith }

-- something of the commands that act and of two runs
module _ (R : List Numbered → Played → Played → Type 0) (fates others : List (List Fate))
    (refuses : (left : List Numbered) (line code : ℕ) (setting : Setting) → IsSetting setting
    → R left (refused_at line code (cluster_by setting)) (refused_at line code (cluster_by setting)))
    (breaks : (setting : Setting) → IsSetting setting → R [] (ending NoMemory (cluster_by setting)) (ending NoMemory (cluster_by setting)))
    (plays : (left : List Numbered) (setting : Setting) → IsSetting setting → All IsLawful left → All HasWidthsAt left
    → R left (played_in left fates (cluster_by setting)) (played_in left others (cluster_by setting))) where
  once : (left : List Numbered) (line : ℕ) (before : Option ℕ) (setting : Setting) (one other : Played) → IsSetting setting → R left one other
      → R left (set_once line before setting one) (set_once line before setting other)
  once left line before setting one other may rest = grind (arith, refused_at, number_of, cluster_by)

  opened : (first : Numbered) (left : List Numbered) (setting : Setting) → IsSetting setting
      → ((more : Setting) → IsSetting more → R (acting left) (played_from left fates more) (played_from left others more))
      → R (first ∷ left) (played_in (first ∷ left) fates (cluster_by setting)) (played_in (first ∷ left) others (cluster_by setting))
      → (command : Command) → IsLawfulCommand command
      → R (if is_setting command then acting left else first ∷ left)
      (opened_by first.line command setting (λ next. played_from left fates next) (λ cluster. played_in (first ∷ left) fates cluster))
      (opened_by first.line command setting (λ next. played_from left others next) (λ cluster. played_in (first ∷ left) others cluster))
  opened first left setting may goes begins command lawful = grind (arith, once, played_from)

  from_setting : (left : List Numbered) (setting : Setting) → IsSetting setting → All IsLawful left → All HasWidthsAt left
      → R (acting left) (played_from left fates setting) (played_from left others setting)
  from_setting [] setting may lawful widths = plays [] setting may lawful widths
  from_setting (first ∷ left) setting may lawful widths =
      opened first left setting may
      (λ more fits. from_setting left more fits (All-tail IsLawful first left lawful) (All-tail HasWidthsAt first left widths))
      (plays (first ∷ left) setting may lawful widths) first.command (All-head IsLawful first left lawful).command

  from_read : (read : Result (List Numbered) ParseError) → AreRead read → R (acting_of read) (played_of read fates) (played_of read others)
  from_read (Ok commands) are = from_setting commands unset unset_may (are commands refl).0 (are commands refl).1
  from_read (Err (ParseError.Refused line code)) are = refuses [] line (code_number code) unset unset_may
  from_read (Err ParseError.NoMemory) are = breaks unset unset_may

  -- so it is of a part of a script
  pub opening : (script : List ℕ) (part : Option ℕ) → R (acting_in part script) (played_part part script fates) (played_part part script others)
  opening script part = grind (arith, from_read, script_of, script_of-lawful, script_of-widths, first_commands, first_read)
