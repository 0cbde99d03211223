-- What a master does on its turn: it sends each backup what that lacks, and then does its duty for each tablet.
use Rattle.std.specs.Prelude.{ℕ, nat_lt, if◌then◌else◌, List, [], ◌∷◌, ◌++◌, length, Option, Some, None}
use Rattle.std.specs.List.{range_with_len, flat_map}
use Rattle.rk_types.specs.NumberMap.{NumberMap}
use Rattle.rk_types.specs.declared.node.Node.TheVariants as nodes
use Rattle.rk_log.specs.Log.{pending}
use Rattle.rk_log.specs.Piece.{PlacedBytes}
use Rattle.rk_transfer.specs.declared.role.Role.{Role}
use Rattle.rk_transfer.specs.declared.role.Role.TheVariants as roles
use Rattle.rk_priority.specs.Hashes.{batched}
use Rattle.rk_message.specs.declared.handover.Tenure.{Tenure}
use Rattle.rk_message.specs.declared.message.Body.TheVariants as bodies
use Rattle.rk_message.specs.declared.message.Message.{Message}
use Rattle.rk_world.specs.declared.work.Reading.{Reading}
use Rattle.rk_world.specs.Gather.{next_reading}
use Rattle.rk_world.specs.Tablet.{Tablet}
use Rattle.rk_world.specs.Master.{Master, with_tablet}
use Rattle.rk_world.specs.Worked.{Worked, changed, sending, from_master, then_works}
use Rattle.rk_world.specs.Pulls.{with_pulling}

-- the bytes of a segment that a backup is not known to hold
abbrev pub append_to : Master → ℕ → PlacedBytes → Message
append_to master backup piece =
    from_master master (nodes.Backup backup)
    (bodies.Append (record { segment = piece.segment; at = piece.at; bytes = piece.bytes }))

-- what is sent to a backup, if it lacks something
abbrev pub append_of : Master → ℕ → Option PlacedBytes → List Message
append_of master backup None = []
append_of master backup (Some piece) = append_to master backup piece ∷ []

-- what is sent to the backups, by rising number
abbrev pub appends : Master → List Message
appends master =
    flat_map (λ backup. append_of master backup (pending master.log backup)) (range_with_len 1 (length master.log.known))

-- the tenure of a tablet at a master
abbrev pub tenure_at : ℕ → Tablet → Tenure
tenure_at number tablet = record { tablet = number; term = tablet.handover.term }

-- a target asks for the batch from its token on
abbrev pub pull_of : Master → ℕ → Tablet → Message
pull_of master number tablet =
    from_master master (nodes.Master tablet.pulling.source)
    (bodies.Pull (record { tenure = tenure_at number tablet; token = tablet.pulling.token }))

-- a target asks first for the outstanding hashes, if there are any
abbrev pub want_of : Master → ℕ → Tablet → List ℕ → List Message
want_of master number tablet [] = []
want_of master number tablet (hash ∷ more) =
    from_master master (nodes.Master tablet.pulling.source)
    (bodies.Want (record { tenure = tenure_at number tablet; hashes = hash ∷ more })) ∷ []

-- the wanted hashes of a tablet become a batch, if none is outstanding
abbrev pub with_outstanding : Tablet → Tablet
with_outstanding tablet = with_pulling tablet (record tablet.pulling { hashes = batched tablet.pulling.hashes })

-- a target asks first for a batch of the wanted hashes, if none is outstanding
abbrev pub batch_asked : Master → ℕ → Tablet → Master
batch_asked master number tablet = with_tablet master number (with_outstanding tablet)

-- a target asks for what it lacks
abbrev pub receiving_duty : Master → ℕ → Tablet → Worked
receiving_duty master number tablet =
    let now = with_outstanding tablet in
    record {
      master = batch_asked master number tablet;
      sends = want_of master number now now.pulling.hashes.outstanding ++ pull_of master number now ∷ [];
      served = [];
      marked = [];
    }

-- a target whose closing entry is applied says so
abbrev pub joined_duty : Master → ℕ → Tablet → ℕ → Worked
joined_duty master number tablet entry =
    if nat_lt entry master.applied
    then sending master (from_master master nodes.Coordinator (bodies.Joined (tenure_at number tablet)))
    else changed master

-- a rebuilding master whose closing entry is applied reports its place and the ends
abbrev pub rebuilt_duty : Master → ℕ → Tablet → ℕ → ℕ → Worked
rebuilt_duty master number tablet from entry =
    if nat_lt entry master.applied
    then sending master (from_master master nodes.Coordinator
    (bodies.Rebuilt (record { tenure = tenure_at number tablet; place = from; ends = tablet.merged_ends })))
    else changed master

-- a rebuilding master reads the next segment from backup 1
abbrev pub reading_duty : Master → ℕ → Tablet → Option Reading → Worked
reading_duty master number tablet None = changed master
reading_duty master number tablet (Some reading) =
    sending master (from_master master (nodes.Backup 1)
    (bodies.Read (record { tenure = tenure_at number tablet; master = reading.master; segment = reading.segment })))

-- what a master does for a tablet on its turn, by its role
abbrev pub tablet_duty : Master → ℕ → Tablet → Role → Worked
tablet_duty master number tablet roles.Receiving = receiving_duty master number tablet
tablet_duty master number tablet (roles.Joining (Some entry)) = joined_duty master number tablet entry
tablet_duty master number tablet (roles.Rebuilding from None) =
    reading_duty master number tablet (next_reading tablet.gather)
tablet_duty master number tablet (roles.Rebuilding from (Some entry)) = rebuilt_duty master number tablet from entry
tablet_duty master number tablet _ = changed master

-- what a master does for its tablets on its turn, by rising number
abbrev pub duties : Master → NumberMap Tablet → Worked
duties master [] = changed master
duties master ((number, tablet) ∷ others) =
    then_works (tablet_duty master number tablet tablet.handover.role) (λ next. duties next others)

-- a master's turn: first what the backups lack, then the duties
abbrev pub master_turn : Master → Worked
master_turn master =
    then_works (record { master = master; sends = appends master; served = []; marked = [] }) (λ next. duties next next.tablets)
