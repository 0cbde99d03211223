-- A client's call goes on with a run, unless a code refuses it.
use Rattle.std.proofs.Common.{◌≡◌, ℕ, ◌<◌, ◌≤◌, ◌-◌, ◌^◌, ◌||◌, not, nat_le, false, List, [], ◌∷◌, length, Option, Some, None, is_some}
use Rattle.std.proofs.Common.{unwrap_or, refl, arith, w32, sum_by, leb-false}
use Rattle.rk_scripts.proofs.Words.{get, Call, Op, Session, new_session, Calls, Cluster, session_at, code_where, first_code, calls_asked}
use Rattle.rk_scripts.proofs.Words.{has_table, is_client, rows_of, Limit, Unknown, acted, all_acted, IsGood, MOST_CALLS, call_code}
use Rattle.std.proofs.lemmas.List.Sums.{get_or-le-sum_by, sum-map}
use Rattle.rk_script.proofs.Widths.{HasVersion}
use Rattle.rk_script.specs.Lawful.{HasLawfulValue, MayBeAsked}
use Rattle.rk_message.specs.Calls.{IsLawfulOp}
use Rattle.rk_world.specs.Client.{next_call}
use Rattle.rk_world.specs.Premises.{IsLawfulCall}
use Rattle.rk_inv_wellformed.proofs.maps.Maps.{each_from_pairs}
use Rattle.rk_cluster.specs.Looks.{calls_of}
use Rattle.rk_cluster.specs.Makes.{call_makes}
use Rattle.rk_cluster.specs.declared.code.Code.TheVariants.{Busy}
use Rattle.rk_runs.specs.history.Agreement.{Agrees, waiting}
use Rattle.rk_scripts.proofs.play.Allowed.{came_first}
use Rattle.rk_scripts.proofs.play.Reaching.{GoesOn, IsReached, none_on, reached_good}
use Rattle.rk_scripts.proofs.play.Tests.{passes}

-- an operation is lawful if its value and its version are
lawful_op : (operation : Op) → HasLawfulValue operation → HasVersion operation → IsLawfulOp operation
lawful_op operation value version = grind arith

-- no client asked more calls than all did
module _ (cluster : Cluster) where
  abbrev calls_at : ℕ × Session → ℕ
  calls_at entry = calls_of entry.1

  asked_by : (client : ℕ) (found : Option Session) → get cluster.sessions client ≡ found → calls_of (unwrap_or found (new_session client)) ≤ calls_asked cluster
  asked_by client None is = omega arith
  asked_by client (Some session) is =
      let most : calls_of session ≤ sum_by calls_at cluster.sessions =
      each_from_pairs (λ number known. calls_of known ≤ sum_by calls_at cluster.sessions) cluster.sessions
      (λ k d within. get_or-le-sum_by calls_at cluster.sessions k d within) client session is in
      omega (arith, most, sum-map calls_at cluster.sessions)

  pub few_asked : (client : ℕ) → calls_of (session_at cluster client) ≤ calls_asked cluster
  few_asked client = asked_by client (get cluster.sessions client) refl

-- nothing waits if no call is outstanding
none_waits : (out : Option Call) → is_some out ≡ false → waiting out ≡ 0
none_waits None idle = refl
none_waits (Some call) idle = absurd (cc idle)

module _ (masters backups : ℕ) (cluster : Cluster) (client table : ℕ) (key : List ℕ) (operation : Op) where
  -- the call is lawful
  call_lawful : IsReached masters backups cluster → MayBeAsked client table key operation → client ≤ 2 ^ 32 - 1 → table ≤ 2 ^ 64 - 1 → HasVersion operation
      → is_some (session_at cluster client).outstanding ≡ false → calls_asked cluster < MOST_CALLS → IsLawfulCall (next_call (session_at cluster client) table key operation)
  call_lawful reached asked client_fits table_fits version idle few =
      let mine : Session = session_at cluster client in
      let good : IsGood _ masters cluster = reached_good masters backups cluster reached in
      let agrees : Agrees _ client mine = good.agree client in
      let receipts : length mine.receipts ≤ calls_asked cluster = let most = few_asked cluster client in omega (arith, most) in
      let last = agrees.last in
      let none = none_waits mine.outstanding idle in
      record {
        client = grind (arith, w32, agrees.own, asked.client_is);
        seq = record { least_is = omega arith; fits = omega (arith, receipts, few, last, none) };
        table = record { least_is = asked.table_is; fits = omega (arith, table_fits) };
        key = asked.key_is;
        op = lawful_op operation asked.op_is version;
      }

  pub call_on : MayBeAsked client table key operation → client ≤ 2 ^ 32 - 1 → table ≤ 2 ^ 64 - 1 → HasVersion operation → call_code cluster client table ≡ None
      → GoesOn masters backups cluster (all_acted cluster (call_makes client table key operation)).came
  call_on asked client_fits table_fits version none =
      let busy = code_where (is_some (session_at cluster client).outstanding) Busy in
      let many = code_where (nat_le MOST_CALLS (calls_asked cluster)) Limit in
      let first = passes (not (is_client cluster client) || not (has_table (rows_of cluster) table)) Unknown (first_code (busy ∷ many ∷ [])) none in
      let second = passes (is_some (session_at cluster client).outstanding) Busy (first_code (many ∷ [])) first.1 in
      let third = passes (nat_le MOST_CALLS (calls_asked cluster)) Limit None second.1 in
      came_first masters backups cluster (Calls client table key operation) []
      (λ reached. record {
        may = call_lawful reached asked client_fits table_fits version second.0 (leb-false MOST_CALLS (calls_asked cluster) third.0);
        calm = tt;
        told = tt;
      })
      (none_on masters backups (acted cluster (Calls client table key operation)).cluster)
