-- Once a script, or a part of it, has been played, each client with a session was added in each lane; so `settle` ends there.
use Rattle.std.proofs.Common.{◌≡◌, ℕ, List, [], ◌∷◌, Option, refl, arith}
use Rattle.rk_scripts.proofs.Words.{get_or-map-range_with_len, length-map-range_with_len, numbers, Cluster, new_cluster, new_world, Fate}
use Rattle.rk_scripts.proofs.Words.{Code, SettlingCommand, Numbered, Effect, Stop, effect_within, Played, Setting, cluster_by, continued}
use Rattle.rk_scripts.proofs.Words.{first_fates, how_many, other_fates, played_in, played_part, AreAdded, IsHistorical, Adversary, Ends}
use Rattle.rk_scripts.proofs.Words.{EndsUnlessRefused, Rests, settling}
use Rattle.rk_scripts.specs.settle.Moves.{FinishesIn}
use Rattle.rk_scripts.proofs.play.Playing.{scripts_historical}
use Rattle.rk_scripts.proofs.play.Reaching.{IsReached}
use Rattle.rk_scripts.proofs.settle.Commands.{Leaves, within_own}
use Rattle.rk_scripts.proofs.settle.Owning.{HasOwnClients, own_added}
use Rattle.rk_scripts.proofs.settle.Settled.{reached_ends, reached_rests}
use Rattle.rk_scripts.proofs.play.Openings.{opening}

-- nobody has a session in a new cluster, and no lane has a client
new_own : (masters backups : ℕ) → HasOwnClients (new_cluster masters backups)
new_own masters backups = grind (arith, new_world, length-map-range_with_len, numbers, get_or-map-range_with_len)

new_added : (setting : Setting) → AreAdded (cluster_by setting)
new_added setting = own_added (cluster_by setting) (new_own (how_many setting.masters) (how_many setting.backups))

-- each client with a session was added in each lane at the end of a run
abbrev EndsAdded : Played → Type 0
EndsAdded it = AreAdded it.cluster

continued_added : (line : ℕ) (it : Effect) (stop : Option Stop) (rest : Cluster → Played) → it.stop ≡ stop → Leaves it
    → (HasOwnClients it.cluster → EndsAdded (rest it.cluster)) → EndsAdded (continued line it stop rest)
continued_added line it stop rest is leaves later = grind arith

in_added : (left : List Numbered) (fates : List (List Fate)) (cluster : Cluster) → HasOwnClients cluster → EndsAdded (played_in left fates cluster)
in_added [] fates cluster own = own_added cluster own
in_added (first ∷ others) fates cluster own =
    let it : Effect = effect_within cluster first.command (first_fates fates) in
    continued_added first.line it it.stop (λ next. played_in others (other_fates fates) next) refl (within_own cluster own first.command (first_fates fates))
    (λ after. in_added others (other_fates fates) it.cluster after)

-- ---- the law

module _ (script : List ℕ) (part : Option ℕ) (fates : List (List Fate)) where
  abbrev it : Played
  it = played_part part script fates

  -- each client with a session was added in each lane
  pub scripts_added : AreAdded it.cluster
  scripts_added =
      opening (λ left one other. EndsAdded one) fates fates (λ left line code setting may. new_added setting) (λ setting may. new_added setting)
      (λ left setting may lawful widths. in_added left fates (cluster_by setting) (new_own (how_many setting.masters) (how_many setting.backups)))
      script part

  historical : IsHistorical it
  historical = scripts_historical script part fates

  -- a run has led there
  script_reached : IsReached historical.masters historical.backups it.cluster
  script_reached = grind (arith, historical)

  -- so `settle` ends there
  pub scripts_settle : (adversary : Adversary) → Ends adversary (settling it.cluster)
  scripts_settle adversary = reached_ends adversary historical.masters historical.backups it.cluster script_reached scripts_added

  -- and so does another command that ends in each cluster to which a run has led
  pub scripts_end_commands : (adversary : Adversary) (code : Cluster → Option Code) (command : SettlingCommand) → EndsUnlessRefused code command
      → FinishesIn adversary code command it.cluster
  scripts_end_commands adversary code command ends = grind (arith, historical, scripts_added)

  -- if no replica fails any more it comes to rest, unless a lane is worn
  pub scripts_rest : Rests (settling it.cluster)
  scripts_rest = reached_rests historical.masters historical.backups it.cluster script_reached scripts_added
