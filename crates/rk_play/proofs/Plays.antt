-- Scripts played, at worked examples: what is written, and how the run ends.
use Rattle.rk_play.proofs.Words.{◌≡◌, [], ◌∷◌, List, ℕ, refl, Status, Done, Refused, ReplicaFault, Fate, Command, Backups, Masters, Serve}
use Rattle.rk_play.proofs.Words.{Numbered, Played, played_from, unset}
use Rattle.std.specs.Prelude.{codes, replicate}
use Rattle.std.specs.Fmt.{digits}
use Rattle.rk_types.specs.Hashing.{hash_of}
use Rattle.rk_types.specs.Held.{spelled_of}
use Rattle.rk_types.specs.declared.call.Op.TheVariants.{Put}
use Rattle.rk_entry.specs.Entries.{spelled_all}
use Rattle.rk_entry.specs.Numbers.{number_bytes}
use Rattle.rk_entry.specs.Spelling.{body_length, front_bytes, head_bytes, held_bytes, spelled}
use Rattle.rk_entry.specs.Texts.{key_bytes, value_bytes}
use Rattle.rk_cluster.specs.Replicas.{Kept, Lost}
use Rattle.rk_script.specs.declared.command.Command.TheVariants.{Call, Client, Crash, History, Migrate, Table, Where}

-- what a run writes, and its status
record Told : Type 0 where
  pieces : List (List ℕ)
  status : Status

abbrev told : Played → Told
told played = record { pieces = played.pieces; status = played.status }

-- what commands write, by the fates of the calls of replicas
abbrev told_of : List Numbered → List (List Fate) → Told
told_of commands fates = told (played_from commands fates unset)

-- a command at a line
abbrev at : ℕ → Command → Numbered
at line command = record { line = line; command = command }

-- a table is made, and its owner is reported; a second one of the same number is refused
one_table :
    told_of (at 1 (Table 1 1) ∷ at 3 (Where 1) ∷ at 4 (Table 1 2) ∷ []) []
    ≡ record { pieces = [] ∷ codes "tablet 1 owned 1\n" ∷ codes "refused 4 8\n" ∷ []; status = Refused }
unfolding digits
one_table = refl

-- how many masters there are is said before all else, and once
masters_twice :
    told_of (at 1 (Backups 3) ∷ at 2 (Masters 3) ∷ at 3 (Masters 3) ∷ []) []
    ≡ record { pieces = codes "refused 3 7\n" ∷ []; status = Refused }
unfolding digits
masters_twice = refl

-- not behind another command
late_masters :
    told_of (at 1 (Table 1 1) ∷ at 2 (Masters 3) ∷ []) []
    ≡ record { pieces = [] ∷ codes "refused 2 7\n" ∷ []; status = Refused }
unfolding digits
late_masters = refl

-- a tablet begins to move in each lane
moving :
    told_of (at 1 (Table 1 1) ∷ at 2 (Migrate 1 2) ∷ at 3 (Where 1) ∷ []) []
    ≡ record { pieces = [] ∷ [] ∷ codes "tablet 1 opening 1 2\n" ∷ []; status = Done }
unfolding digits spelled_all
moving = refl

-- the last master that lives does not crash
last_master :
    told_of (at 1 (Crash 1) ∷ at 2 (Crash 2) ∷ []) []
    ≡ record { pieces = [] ∷ codes "refused 2 15\n" ∷ []; status = Refused }
unfolding digits
last_master = refl

-- a put is asked, served and reported, and is in the history, if each call of a replica goes well
a_put :
    told_of (at 1 (Table 1 1) ∷ at 2 (Client 1) ∷ at 3 (Call 1 1 (codes "a") (Put (codes "x"))) ∷ at 4 (Serve 1) ∷ at 5 History ∷ [])
    ([] ∷ [] ∷ [] ∷ replicate 60 Kept ∷ [])
    ≡ record {
      pieces = [] ∷ [] ∷ [] ∷ codes "reply 1 1 written 1\n" ∷ codes "entry 1 4 1 1 put 1 a x gives written 1\n" ∷ [];
      status = Done;
    }
unfolding digits hash_of spelled_of spelled_all spelled front_bytes body_length head_bytes held_bytes number_bytes key_bytes value_bytes
a_put = refl

-- if each call of a replica of its lane fails, the put is not reported, and the run ends after a hundred rounds
failing_replicas :
    told_of (at 1 (Table 1 1) ∷ at 2 (Client 1) ∷ at 3 (Call 1 1 (codes "a") (Put (codes "x"))) ∷ at 4 (Serve 1) ∷ [])
    ([] ∷ [] ∷ [] ∷ replicate 3000 (Lost 4 0 0) ∷ [])
    ≡ record { pieces = [] ∷ [] ∷ [] ∷ []; status = ReplicaFault }
unfolding digits hash_of spelled_of spelled_all spelled front_bytes body_length head_bytes held_bytes number_bytes key_bytes value_bytes
failing_replicas = refl
