-- What a master sends to its backups, to one after the other.
use Rattle.rk_master.proofs.Words.{◌≡◌, ℕ, suc, ◌+◌, ◌-◌, ◌<◌, ◌≤◌, List, ◌++◌, length, sym, ap, ◌∙◌, arith, append_assoc, append-nil}
use Rattle.rk_master.proofs.Words.{range_with_len, flat_map, Message, Master, append_of}
use Rattle.rk_log.specs.Log.{pending}
use Rattle.rk_world.specs.MasterTurn.{appends}

-- what is sent to a backup
abbrev pub sent_to : Master → ℕ → List Message
sent_to master backup = append_of master backup (pending master.log backup)

-- what is sent to the backups behind the first ones, of so many
abbrev pub sent_behind : Master → ℕ → ℕ → List Message
sent_behind master before count = flat_map (sent_to master) (range_with_len (before + 1) (count - before))

-- it is sent to the next one, and then to the others
pub sent_next : (master : Master) (sends more : List Message) (before count : ℕ) → before < count → more ≡ sends ++ sent_to master (before + 1)
    → more ++ sent_behind master (before + 1) count ≡ sends ++ sent_behind master before count
sent_next master sends more before count within sent =
    ap (λ (xs : List Message). xs ++ sent_behind master (before + 1) count) sent
    ∙ append_assoc sends (sent_to master (before + 1)) (sent_behind master (before + 1) count)
    ∙ ap (λ (n : ℕ). sends ++ flat_map (sent_to master) (range_with_len (before + 1) n)) (sym one_more)
  where
    one_more : count - before ≡ suc (count - (before + 1))
    one_more = omega (arith, within)

-- none is behind all of them
pub all_sent : (master : Master) (sends : List Message) (before count : ℕ) → count ≤ before → sends ≡ sends ++ sent_behind master before count
all_sent master sends before count done = grind (arith, append-nil)

-- and all are behind none
pub all_behind : (master : Master) (count : ℕ) → length master.log.known ≡ count → sent_behind master 0 count ≡ appends master
all_behind master count is = grind arith
