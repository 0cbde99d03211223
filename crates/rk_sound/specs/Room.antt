-- Room: how great the numbers of a lane get. An event is refused if one of them is too great already, and none rises so far
-- by one event that it does not fit; the code of each step needs it for its sums. It is said between events, when the greatest
-- number so far is known.
use Rattle.std.specs.Prelude.{◌≤◌, ◌<◌, ℕ, List, All, [], ◌∷◌}
use Rattle.std.specs.List.{flat_map}
use Rattle.rk_types.specs.NumberMap.{NumberMap, EachIn}
use Rattle.rk_entry.specs.declared.entry.Entry.{Entry}
use Rattle.rk_entry.specs.declared.entry.Entry.TheVariants as entries
use Rattle.rk_message.specs.declared.message.Body.{Body}
use Rattle.rk_message.specs.declared.message.Body.TheVariants as bodies
use Rattle.rk_message.specs.declared.message.Message.{Message}
use Rattle.rk_world.specs.Coordinator.{Handed}
use Rattle.rk_world.specs.Room.{MOST_BYTES, MOST_NUMBER}
use Rattle.rk_world.specs.Written.{Written}

-- the numbers that an entry carries: the version of an item, the floor of a Carried
abbrev pub numbers_of : Entry → List ℕ
numbers_of (entries.Held held) = held.version ∷ []
numbers_of (entries.Refused refused) = []
numbers_of (entries.Carried carried) = carried.floor ∷ []
numbers_of (entries.Joined joined) = []

-- the numbers that a message carries: a floor, or the stamp that a client had seen
abbrev pub numbers_told : Body → List ℕ
numbers_told (bodies.Transfer transfer) = transfer.floor ∷ []
numbers_told (bodies.Grant grant) = grant.floor ∷ []
numbers_told (bodies.Request request) = request.seen ∷ []
numbers_told _ = []

-- each number is at most the greatest so far
abbrev pub AreAtMost : ℕ → List ℕ → Type 0
AreAtMost top numbers = All (λ number. number ≤ top) numbers

-- of a lane: the numbers in it that may grow, what each master has written, the floors that are noted for grants, the
-- messages on the wire and those that may be sent again, the greatest number so far, and the bytes of all logs
pub record Room (numbers : List ℕ) (written : ℕ → Written) (handed : NumberMap Handed) (wire requests : NumberMap Message) (top bytes : ℕ) : Type 0 where
  pub standing : AreAtMost top numbers
  pub entries : (master : ℕ) → All (λ entry. AreAtMost top (numbers_of entry)) (written master).entries
  pub sides : (master : ℕ) → All (λ item. item.version ≤ top) (flat_map (λ items. items) (written master).sides)
  pub floors : EachIn (λ tablet told. told.floor ≤ top) handed
  pub sent : EachIn (λ number message. AreAtMost top (numbers_told message.body)) wire
  pub again : EachIn (λ client message. AreAtMost top (numbers_told message.body)) requests
  pub number_bound : top < MOST_NUMBER
  pub bytes_bound : bytes < MOST_BYTES
