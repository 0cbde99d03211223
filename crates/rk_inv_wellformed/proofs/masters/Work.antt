-- What a master makes of a message or of its turn, when that is well formed: the master after it and all that it sends are, and it sends
-- and serves no more than is stated. Numbers up to the greatest fit their widths, and so do those that messages of a master carry.
use Rattle.std.proofs.Common.{◌≤◌, ◌<◌, ◌+◌, ◌^◌, ◌⊎◌, ℕ, List, [], length, length-append, All, refl, arith, ◌≡◌, ◌∷◌, ◌%◌, ◌*◌, sym, subst}
use Rattle.std.proofs.Common.{lit<, mod-lt, bit_xor, w64}
use Rattle.rk_inv_wellformed.proofs.Words.{All-append, All-nil, MOST_BACKUPS, Message, IsFormedMaster, MOST_BASE_CLIENTS, IsFormedMessage}
use Rattle.rk_inv_wellformed.proofs.Words.{Limits, Master, log_bytes, MOST_MASTERS, MOST_CLIENTS, MOST_BYTES, MOST_NUMBER, Worked, changed}
use Rattle.rk_inv_wellformed.proofs.Words.{sending, counters_of, HasRoomIn, Served, Answer, Call, Node, IsNumber, IsLawfulBody, Tenure}
use Rattle.rk_inv_wellformed.proofs.Words.{Body, IsFormedBody, IsFormedNumber, IsFormedTenure, IsThere, IsLawfulCall, IsMaster, from_master}
use Rattle.rk_inv_wellformed.proofs.Words.{HASH_PRIME, HASH_START, IsLawfulAnswer, IsLawfulTenure, then_works, answering}
use Rattle.rk_types.specs.Hashing.{hash_of}
use Rattle.rk_inv_wellformed.proofs.maps.{fold_keeps}

-- limits that a lane may have
pub record AreLimits (limits : Limits) : Type 0 where
  pub masters : limits.masters ≤ MOST_MASTERS
  pub backed : 1 ≤ limits.backups
  pub backups : limits.backups ≤ MOST_BACKUPS
  pub top : limits.top < MOST_NUMBER
  pub clients : length limits.clients ≤ MOST_CLIENTS + MOST_BASE_CLIENTS

-- a master's numbers fit: what an event must leave, and what it leaves if code tests before it acts
pub record HasRoomFor (limits : Limits) (master : Master) : Type 0 where
  pub room : HasRoomIn master
  pub bytes : log_bytes master < MOST_BYTES
  pub counters : All (λ counter. counter ≤ limits.top) (counters_of master)

-- a master's entries and bytes fit, whatever its counters are
pub record HasLogRoom (master : Master) : Type 0 where
  pub room : HasRoomIn master
  pub bytes : log_bytes master < MOST_BYTES

-- one step sends no more messages than this, and serves no more calls
abbrev pub MOST_AT_ONCE : ℕ
MOST_AT_ONCE = 2 ^ 34

-- what a master makes of something is well formed, and sends and serves no more than this
pub record IsFormedWork (limits : Limits) (number count : ℕ) (worked : Worked) : Type 0 where
  pub master : IsFormedMaster limits number worked.master
  pub sends : All (IsFormedMessage limits) worked.sends
  pub few : length worked.sends ≤ count
  pub served : length worked.served ≤ count

-- what is made of something is well formed, if the master has room after it
abbrev pub WorkFits : Limits → ℕ → ℕ → Worked → Type 0
WorkFits limits number count worked = HasRoomFor limits worked.master → IsFormedWork limits number count worked

-- the counters that a step raises by one keep to limits: the greatest number before it is less than theirs, or the counters after it do
abbrev pub Rises : Limits → Limits → Worked → Type 0
Rises small limits worked = (small.top < limits.top) ⊎ All (λ counter. counter ≤ limits.top) (counters_of worked.master)

-- it sends and serves no more than more
pub formed_more : {limits : Limits} {number : ℕ} (count most : ℕ) {worked : Worked} → count ≤ most → IsFormedWork limits number count worked
    → IsFormedWork limits number most worked
formed_more count most up formed =
    record { master = formed.master; sends = formed.sends; few = omega (arith, up, formed.few); served = omega (arith, up, formed.served) }

-- a master that changes and sends nothing
pub formed_changed : {limits : Limits} {number count : ℕ} {master : Master} → IsFormedMaster limits number master
    → IsFormedWork limits number count (changed master)
formed_changed {limits} formed = record { master = formed; sends = All-nil (IsFormedMessage limits); few = omega arith; served = omega arith }

-- a master whose work sends one message, and serves one call at most
pub formed_told : {limits : Limits} {number : ℕ} {worked : Worked} {message : Message} → IsFormedMaster limits number worked.master
    → IsFormedMessage limits message → worked.sends ≡ message ∷ [] → length worked.served ≤ 1 → IsFormedWork limits number 1 worked
formed_told {limits} {message} formed new is served = grind arith

-- a master that changes and sends a message
pub formed_sending : {limits : Limits} {number : ℕ} {master : Master} {message : Message} → IsFormedMaster limits number master
    → IsFormedMessage limits message → IsFormedWork limits number 1 (sending master message)
formed_sending formed new = formed_told formed new refl (omega arith)

-- work that goes on after other work
pub formed_then : (limits : Limits) (number one more count : ℕ) (first : Worked) (next : Master → Worked) → IsFormedWork limits number one first
    → IsFormedWork limits number more (next first.master) → one + more ≤ count → IsFormedWork limits number count (then_works first next)
formed_then limits number one more count first next before after few = record {
  master = after.master;
  sends = All-append (IsFormedMessage limits) first.sends (next first.master).sends before.sends after.sends;
  few = omega (arith, few, before.few, after.few, length-append {A = Message});
  served = omega (arith, few, before.served, after.served, length-append {A = Served});
}

-- ---- numbers

-- a number up to the greatest so far fits eight bytes
pub number_fits : {limits : Limits} (least n : ℕ) → AreLimits limits → least ≤ n → n ≤ limits.top → IsNumber w64 least n
number_fits least n are from within = record { least_is = from; fits = omega (arith, are.top) }

-- a number that counts from 1
pub counted_fits : {limits : Limits} {n : ℕ} → AreLimits limits → IsFormedNumber limits n → IsNumber w64 1 n
counted_fits {n} are formed = number_fits 1 n are formed.first formed.last

-- a number from 1 on is one from 0 on
pub from_zero64 : {n : ℕ} → IsNumber w64 1 n → IsNumber w64 0 n
from_zero64 formed = record { least_is = omega arith; fits = formed.fits }

-- the hash of a key fits eight bytes
pub hash_fits : (key : List ℕ) → IsNumber w64 0 (hash_of key)
unfolding hash_of
hash_fits key = record {
  least_is = omega arith;
  fits =
      fold_keeps (λ (hash : ℕ). hash < 2 ^ 64) (λ hash byte. (bit_xor hash byte * HASH_PRIME) % 2 ^ 64) key HASH_START (lit< tt)
      (λ hash byte below. mod-lt (bit_xor hash byte * HASH_PRIME) (lit< tt));
}

-- a tenure that is well formed can be spelled
pub tenure_fits : {limits : Limits} {tenure : Tenure} → AreLimits limits → IsFormedTenure limits tenure → IsLawfulTenure tenure
tenure_fits are formed = grind (arith, from_zero64, counted_fits, formed.tablet, formed.term)

-- ---- messages

-- a master of a lane is there
pub master_there : (limits : Limits) {number : ℕ} (master : Master) → IsMaster limits.masters number → master.number ≡ number
    → IsThere limits (Node.Master master.number)
master_there limits master there is = subst (IsMaster limits.masters) (sym is) there

-- a message from a master
pub formed_from : (limits : Limits) {number : ℕ} (master : Master) (to : Node) (body : Body) → IsMaster limits.masters number → master.number ≡ number
    → IsThere limits to → IsLawfulBody body → IsFormedBody limits (Node.Master master.number) body
    → IsFormedMessage limits (from_master master to body)
formed_from limits master to body there is receiver lawful says = assumption (master_there limits master there is)

-- an answer to the client of a call
pub formed_answering : (limits : Limits) {number : ℕ} (master : Master) {call : Call} (answer : Answer) → IsMaster limits.masters number
    → master.number ≡ number → IsLawfulCall call → IsLawfulAnswer answer → IsFormedMessage limits (answering master call answer)
formed_answering limits master answer there is lawful says = grind (arith, master_there, from_zero64, lit<)
