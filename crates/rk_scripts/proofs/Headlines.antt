-- The headline laws of scripts: what is played is a run of a new cluster, the commands that settle end, and the replies of a text are the
-- receipts of the clients.
use Rattle.rk_inv_base.proofs.Words.{ℕ, List, Option, ◌≡◌, [], ◌≤◌, refl}
use Rattle.rk_scripts.proofs.Words.{Fate, IsHistorical, played_part, Cluster, Occurrence, settled_rests, course_of, moved_all, settle}
use Rattle.rk_scripts.proofs.Words.{IsQuietCluster, NoMemory, faultless, ReplicaFault, MOST_BACKUPS, cluster_run, new_cluster, IsRun}
use Rattle.rk_scripts.proofs.Words.{MOST_MASTERS, AreAdded, Adversary, Ends, settling, Rests, priority, priority_are, AlwaysEnds}
use Rattle.rk_scripts.proofs.Words.{session_at, serve, serve_are, advance, advance_code, advance_are, EndsUnlessRefused, Code}
use Rattle.rk_scripts.proofs.Words.{SettlingCommand, all_fates}
use Rattle.rk_cluster.specs.Faults.{Counts, GoOn}
use Rattle.rk_settle.proofs.Quiet.{rests_quiet}
use Rattle.rk_scripts.specs.answers.Pieces.{AreAnswers, acting_in}
use Rattle.rk_scripts.specs.play.Alone.{IsFaultless, NoneRose}
use Rattle.rk_scripts.specs.play.Led.{IsLedBy}
use Rattle.rk_scripts.specs.play.OneMap.{IsOneMap}
use Rattle.rk_scripts.specs.settle.Moves.{FinishesIn}
use Rattle.rk_scripts.proofs.play.Reaching.{reached_eight}
use Rattle.rk_scripts.proofs.settle.Advanced.{first_at, advanced}
use Rattle.rk_scripts.proofs.settle.ExchangeTasks.{hastens, Reach}
use Rattle.rk_scripts.proofs.settle.Finishing.{always_ends, lanes_end, left_none, ends_unless}
use Rattle.rk_scripts.proofs.settle.Going.{comes_here}
use Rattle.rk_scripts.proofs.settle.Hastening.{hastening_ends}
use Rattle.rk_scripts.proofs.settle.Serving.{served}
use Rattle.rk_scripts.proofs.settle.Settled.{reached_ends, reached_rests}

-- ---- scripts played are runs

-- Whatever a script says and whichever calls of replicas fail, the cluster that it leaves, or that its first commands leave, is what its
-- occurrences make of a new one, and these are a run: each may occur when it does, a master crashes only while another one lives, lanes
-- have room, and replicas answer what they store. So the journals make one lawful history of one map that is ordered with the sessions, and
-- if nothing is left to do the stored logs alone give it; and at each step each lane is sound, a tablet that has moved has the old one's
-- records overlaid by later writes, and each refusal is justified.
pub scripts_are_historical : (script : List ℕ) (part : Option ℕ) (fates : List (List Fate)) → IsHistorical (played_part part script fates)
scripts_are_historical = Rattle.rk_scripts.proofs.play.Playing.scripts_historical

-- The answers of a cluster to which a run of a new one has led are those of one map.
pub runs_lead_to_one_map : (occurred : List Occurrence) (cluster : Cluster) → IsLedBy occurred cluster → IsOneMap cluster
runs_lead_to_one_map = Rattle.rk_scripts.proofs.play.Led.one_map

-- Once `settle` has come to its end, its cluster is quiet. If a run has led there too, the stored logs alone give the map, by
-- `runs_lead_to_one_map`.
pub settled_clusters_are_quiet : (cluster : Cluster) (fates : List Fate) → (moved_all (course_of cluster (settle cluster)) fates).tasks ≡ []
    → IsQuietCluster (moved_all (course_of cluster (settle cluster)) fates).cluster
settled_clusters_are_quiet cluster fates none =
    rests_quiet (moved_all (course_of cluster (settle cluster)) fates).cluster (settled_rests cluster fates none)

-- If no count of a replica rose, and none is as great as a count can be, no call of a replica failed.
pub counts_that_stay_tell_of_no_fault : (fates : List (List Fate)) (before now : Counts) → GoOn (all_fates fates) before now
    → NoneRose before now → IsFaultless fates
counts_that_stay_tell_of_no_fault = Rattle.rk_scripts.proofs.play.Alone.none_lost

-- If no call of a replica fails, the script alone decides: two runs of it are the same in text, status, cluster and occurrences, with
-- however many moves, unless memory was wanting in one.
pub faultless_scripts_decide : (script : List ℕ) (part : Option ℕ) (first second : List ℕ)
    → ((played_part part script (faultless first)).status ≡ NoMemory → ⊥)
    → ((played_part part script (faultless second)).status ≡ NoMemory → ⊥)
    → played_part part script (faultless first) ≡ played_part part script (faultless second)
faultless_scripts_decide = Rattle.rk_scripts.proofs.play.Deciding.alone_decides

-- If no call of a replica fails, no run ends because replicas failed.
pub faultless_scripts_have_no_replica_fault : (script : List ℕ) (part : Option ℕ) (moves : List ℕ)
    → (played_part part script (faultless moves)).status ≡ ReplicaFault → ⊥
faultless_scripts_have_no_replica_fault = Rattle.rk_scripts.proofs.play.Unfailing.never_fails

-- ---- settling ends

-- `settle` ends. It begins in a cluster to which a run of a new one has led, and in which each client that has a session was added in each
-- lane. Whichever replicas an adversary lets fail, by all that has occurred before: after finitely many moves no task is left and the
-- cluster is at rest, or `settle` stops, since a lane is worn or replicas have failed in too many rounds. What the other replicas answer is
-- what they store.
-- `IsRun` says of a list of occurrences that each may occur when it does (`rk_world`, ClusterRuns), `AreAdded` that clients with a session
-- were added in each lane (`rk_runs::duties`, Added), and `Adversary` is what picks the fates of calls (Moves here).
pub settle_ends : (masters backups : ℕ) (before : List Occurrence) (adversary : Adversary) → masters ≤ MOST_MASTERS → 1 ≤ backups
    → backups ≤ MOST_BACKUPS → IsRun (new_cluster masters backups) before → AreAdded (cluster_run (new_cluster masters backups) before)
    → Ends adversary (settling (cluster_run (new_cluster masters backups) before))
settle_ends masters backups before adversary few backed few_backups run added =
    reached_ends adversary masters backups (cluster_run (new_cluster masters backups) before)
    (record { few_masters = few; backed = backed; few_backups = few_backups; before = before; run = run; is = refl }) added

-- If no replica fails, `settle` comes to rest unless a lane is worn: with the premises of `settle_ends` (`settle_rests`), and with none
-- once a script has ended, or so many of its first commands alone, whichever replicas failed in it (`scripts_rest`).
-- `Rests` says that after finitely many moves no task is left and the cluster is at rest, or `settle` stops, but not because replicas
-- failed (Moves here).
pub settle_rests : (masters backups : ℕ) (before : List Occurrence) → masters ≤ MOST_MASTERS → 1 ≤ backups → backups ≤ MOST_BACKUPS
    → IsRun (new_cluster masters backups) before → AreAdded (cluster_run (new_cluster masters backups) before)
    → Rests (settling (cluster_run (new_cluster masters backups) before))
settle_rests masters backups before few backed few_backups run added =
    reached_rests masters backups (cluster_run (new_cluster masters backups) before)
    (record { few_masters = few; backed = backed; few_backups = few_backups; before = before; run = run; is = refl }) added

pub scripts_rest : (script : List ℕ) (part : Option ℕ) (fates : List (List Fate)) → Rests (settling (played_part part script fates).cluster)
scripts_rest = Rattle.rk_scripts.proofs.settle.Scripts.scripts_rest

-- `priority` ends for each tablet, and `serve` for each client, also if the command would be refused; and `advance` ends for each tablet
-- and reach if it is not refused: after finitely many moves no task is left, or the command stops, since a lane is worn or replicas have
-- failed in too many rounds. It is so in each cluster to which a run of a new one has led, and in which each client that has a session was
-- added in each lane, whichever replicas an adversary lets fail.
-- `AlwaysEnds` says that of a command, with the premises of `settle_ends`, and `EndsUnlessRefused` with one more, that the code by which
-- the command is refused does not apply (Moves here). `advance` needs that: a target that has crashed takes no turn, however often it is
-- asked to.
pub priority_ends : (tablet : ℕ) → AlwaysEnds (λ cluster. priority cluster tablet)
priority_ends tablet = always_ends (λ cluster. priority cluster tablet)
    (λ masters cluster names. priority_are masters cluster names tablet)
    (λ s sane. lanes_end s (λ lane. hastens lane tablet)
    (λ lane inside rest before course comes are. hastening_ends s lane inside rest tablet before course comes are) _ sane refl
    refl)

pub serve_ends : (client : ℕ) → AlwaysEnds (λ cluster. serve cluster client)
serve_ends client =
    always_ends (λ cluster. serve cluster client) (λ masters cluster names. serve_are masters cluster names client)
    (λ s sane. left_none s s.start _ (served s client (session_at s.start client).outstanding s.start _ (comes_here s _ sane) refl))

pub advance_ends : (tablet : ℕ) (reach : Reach)
    → EndsUnlessRefused (λ cluster. advance_code cluster tablet reach) (λ cluster. advance cluster tablet reach)
advance_ends tablet reach =
    ends_unless (λ cluster. advance_code cluster tablet reach) (λ cluster. advance cluster tablet reach)
    (λ masters cluster names. advance_are masters cluster names tablet reach)
    (λ s allowed sane. advanced s tablet reach
    (first_at s.start tablet reach (reached_eight s.masters s.backups s.start s.reached) allowed) sane)

-- `settle` ends once a script has ended, or so many of its first commands alone (`part`): whatever the script says, however its run ended,
-- whichever replicas failed in it (`fates`), and whichever an adversary lets fail from there on (`scripts_settle`). There each client that
-- has a session was added in each lane (`scripts_added`). No other premise is left, since each script played is a run (`play`).
-- There each other command ends too that ends in each cluster to which a run has led, unless it is refused there (`scripts_end_commands`),
-- as the three above.
pub scripts_added : (script : List ℕ) (part : Option ℕ) (fates : List (List Fate)) → AreAdded (played_part part script fates).cluster
scripts_added = Rattle.rk_scripts.proofs.settle.Scripts.scripts_added

pub scripts_settle : (script : List ℕ) (part : Option ℕ) (fates : List (List Fate)) (adversary : Adversary)
    → Ends adversary (settling (played_part part script fates).cluster)
scripts_settle = Rattle.rk_scripts.proofs.settle.Scripts.scripts_settle

pub scripts_end_commands : (script : List ℕ) (part : Option ℕ) (fates : List (List Fate)) (adversary : Adversary)
    (code : Cluster → Option Code) (command : SettlingCommand)
    → EndsUnlessRefused code command → FinishesIn adversary code command (played_part part script fates).cluster
scripts_end_commands = Rattle.rk_scripts.proofs.settle.Scripts.scripts_end_commands

-- ---- the replies of a text

-- Whatever a script says and whichever calls of replicas fail, its text, and that of its first commands, is made of pieces, one of each
-- command in their order: `where`, `dump` and `history` show the cluster of the run as it is at that command, and any other command writes
-- what clients said at it. The replies among them are the receipts that the clients' sessions have at the end, client by client and in
-- their order: all of them if the run is done or refused, and else a first part, since a command at which a run stops writes nothing.
pub replies_are_receipts : (script : List ℕ) (part : Option ℕ) (fates : List (List Fate))
    → AreAnswers (acting_in part script) (played_part part script fates)
replies_are_receipts = Rattle.rk_scripts.proofs.answers.Playing.script_answers
