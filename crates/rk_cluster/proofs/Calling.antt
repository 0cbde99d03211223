-- How a client asks its next call.
use Rattle.rk_cluster.proofs.Words.{◌≡◌, Bor, ◌≤◌, ◌<◌, ◌==◌, ◌||◌, ◌-◌, ◌^◌, ℕ, Bool, true, false, not, min, nat_le, List, [], ◌∷◌, All}
use Rattle.rk_cluster.proofs.Words.{map, sum, slice_get, Option, None, Some, IfSome, is_some, unwrap_or, refl, sym, ap, subst, ◌∙◌, arith}
use Rattle.rk_cluster.proofs.Words.{option_copied, option_map, nat_tests, All-head, All-tail, NumberMap, get, insert, get_same, Segments}
use Rattle.rk_cluster.proofs.Words.{Row, Session, new_session, Cluster, lane_at, IsFormedWithRoom, World, new_world, LaneState, Running}
use Rattle.rk_cluster.proofs.Words.{world_with, acted_well, MOST_CALLS, call_code, code_where, first_code, ActsBy, ActsOne, HasCode}
use Rattle.rk_cluster.proofs.Words.{IsActedAs, RunsTo, calls_asked, calls_of, has_table, is_client, rows_of, call_makes, IsOf, IsWorld}
use Rattle.rk_cluster.proofs.Words.{MayAllAct, state_of, Busy, Limit, Unknown}
use Rattle.std.proofs.lemmas.Bool.{eqb-true}
use Rattle.rk_types.specs.declared.call.Op.{Op}
use Rattle.rk_world.specs.Client.{busy, next_call, session_calling, with_next_call}
use Rattle.rk_world.specs.Cluster.{Calls, called_by_client}
use Rattle.rk_world.specs.Formed.{IsFormedRow}
use Rattle.rk_world.specs.Limits.{Limits, limits_of}
use Rattle.rk_world.specs.Premises.{IsLawfulCall}
use Rattle.rk_cluster.specs.Calling.{IsAsked}
use Rattle.rk_cluster.proofs.Carrying.{only_acts}
use Rattle.rk_cluster.proofs.Leading.{leads_by}
use Rattle.rk_cluster.proofs.Worlds.{world_at}

-- there is a copy just when there is something
pub copied_some : {X : Type 0} (lent : Option (Bor X)) → is_some (option_copied lent) ≡ is_some lent
copied_some None = refl
copied_some (Some x) = refl

-- ---- tests

pub calls_many : (calls asked : ℕ) → asked ≡ min calls (2 ^ 64 - 1) → MOST_CALLS ≤ asked → nat_le MOST_CALLS calls ≡ true
calls_many calls asked is much = let more : MOST_CALLS ≤ calls = omega (arith, is, much) in grind (arith, nat_tests, more)

pub calls_few : (calls asked : ℕ) → asked ≡ min calls (2 ^ 64 - 1) → asked < MOST_CALLS → nat_le MOST_CALLS calls ≡ false
calls_few calls asked is less = let fewer : calls < MOST_CALLS = omega (arith, is, less) in grind (arith, nat_tests, fewer)

-- the tables of well-formed rows count from 1
first_counts : (limits : Limits) (row : Row) (rest : Bool) (table : ℕ) (first : Bool) → IsFormedRow limits row → (rest ≡ true → 1 ≤ table) → (row.range.table == table) ≡ first
    → (first || rest) ≡ true → 1 ≤ table
first_counts limits row rest table first formed others is has = grind (arith, eqb-true)

pub table_counts : (limits : Limits) (rows : List Row) (table : ℕ) → All (IsFormedRow limits) rows → has_table rows table ≡ true → 1 ≤ table
table_counts limits [] table formed has = absurd (cc has)
table_counts limits (row ∷ rows) table formed has =
    first_counts limits row (has_table rows table) table (row.range.table == table) (All-head (IsFormedRow limits) row rows formed)
    (table_counts limits rows table (All-tail (IsFormedRow limits) row rows formed)) refl has

-- so do those of a lane that is not spent
pub tables_count : {R : Type 0} (lane : LaneState R) (rows : List Row) (table : ℕ) (spent : Bool) → spent ≡ not (is_some lane.running) → spent ≡ false
    → IfSome lane.running (λ running. IsFormedWithRoom (world_with lane running [])) → IfSome lane.running (λ running. rows ≡ running.coordinator.rows)
    → has_table rows table ≡ true → 1 ≤ table
tables_count lane rows table spent told lives formed known has = by lane.running (sym told ∙ lives) formed known
  where
    by : (running : Option Running) → not (is_some running) ≡ false → IfSome running (λ it. IsFormedWithRoom (world_with lane it []))
        → IfSome running (λ it. rows ≡ it.coordinator.rows) → 1 ≤ table
    by None never is same = absurd (cc never)
    by (Some running) runs is same =
        table_counts (limits_of (world_with lane running [])) running.coordinator.rows table is.formed.coordinator.rows
        (ap (λ (list : List Row). has_table list table) (sym same) ∙ has)

-- ---- the session

module _ {R : Type 0} (segments : R → Option Segments) (lanes : List (LaneState R)) (sessions : NumberMap Session) (client table : ℕ) where
  -- ---- codes

  pub call_unknown : get sessions client ≡ None → HasCode segments (state_of lanes sessions) (λ cluster. call_code cluster client table) (Some Unknown)
  call_unknown absent cluster is = grind (arith, is_client, first_code, code_where, has_table, rows_of, new_session, nat_le, calls_asked)

  module _ (lane : LaneState R) (rows : List Row) (session : Session) (has waits many : Bool) (there : slice_get lanes 0 ≡ Some lane)
      (known : IfSome lane.running (λ running. rows ≡ running.coordinator.rows)) (found : get sessions client ≡ Some session) where
    rows_are : (cluster : Cluster) → IsOf segments (state_of lanes sessions) cluster → rows_of cluster ≡ rows
    rows_are cluster is =
        let it : IsWorld segments lane (lane_at cluster 0) = world_at segments lanes cluster.lanes 0 lane (new_world 0 0 0) is.lanes there in
        let here : rows ≡ it.running.coordinator.rows = subst (λ (o : Option Running). IfSome o (λ running. rows ≡ running.coordinator.rows)) it.runs known in
        ap (λ (w : World). w.coordinator.rows) it.is ∙ sym here

    pub call_by : has_table rows table ≡ has → is_some session.outstanding ≡ waits → nat_le MOST_CALLS (sum (map (λ entry. calls_of entry.1) sessions)) ≡ many
        → HasCode segments (state_of lanes sessions) (λ cluster. call_code cluster client table)
        (first_code (code_where (not has) Unknown ∷ code_where waits Busy ∷ code_where many Limit ∷ []))
    call_by tabled asked counted cluster is =
        let one : is_client cluster client ≡ true = ap (λ (all : NumberMap Session). is_some (get all client)) is.sessions ∙ ap (λ (o : Option Session). is_some o) found in
        let two : has_table (rows_of cluster) table ≡ has = ap (λ (list : List Row). has_table list table) (rows_are cluster is) ∙ tabled in
        let three : is_some (unwrap_or (get cluster.sessions client) (new_session client)).outstanding ≡ waits =
        ap (λ (all : NumberMap Session). is_some (unwrap_or (get all client) (new_session client)).outstanding) is.sessions
        ∙ ap (λ (o : Option Session). is_some (unwrap_or o (new_session client)).outstanding) found ∙ asked in
        let four : nat_le MOST_CALLS (calls_asked cluster) ≡ many =
        ap (λ (all : NumberMap Session). nat_le MOST_CALLS (sum (map (λ entry. calls_of entry.1) all))) is.sessions ∙ counted in
        λ i. first_code (code_where (not (one i) || not (two i)) Unknown ∷ code_where (three i) Busy ∷ code_where (four i) Limit ∷ [])

  -- ---- what occurs

  module _ (later : NumberMap Session) (key : List ℕ) (op : Op) (asked : IsAsked sessions later client table key op) where
    -- if each session may act then, the call is lawful
    pub call_lawful : (masters : ℕ) → MayAllAct masters later → IsLawfulCall (next_call asked.session table key op)
    call_lawful masters acts =
        let session : Session = with_next_call asked.session table key op in
        let there : get later client ≡ Some session =
        ap (λ (known : NumberMap Session). get known client) asked.asked ∙ get_same sessions client session client refl in
        (acts client session there).call

    calls_one : IsLawfulCall (next_call asked.session table key op) → ActsOne segments (state_of lanes sessions) (state_of lanes later) (Calls client table key op) [] None
    calls_one lawful cluster is =
        let here : get cluster.sessions client ≡ Some asked.session = ap (λ (known : NumberMap Session). get known client) is.sessions ∙ asked.found in
        let free : busy asked.session ≡ None = ap (λ call. option_map (λ c. c.seq) call) asked.free in
        subst (λ (found : Option Session). IsActedAs segments cluster (state_of lanes later) [] None (acted_well (Calls client table key op) (called_by_client cluster client table key op found))) (sym here)
        (record {
          cluster = record {
            lanes = is.lanes;
            sessions =
                (λ i. insert (is.sessions i) client (session_calling asked.session table key op (free i))) ∙ sym asked.asked;
          };
          leads =
              subst (λ (found : Option Session). RunsTo cluster (Calls client table key op ∷ []) (called_by_client cluster client table key op found)) here
              (leads_by cluster (Calls client table key op)
              (subst (λ (found : Option Session). IsLawfulCall (next_call (unwrap_or found (new_session client)) table key op)) (sym here) lawful) tt tt);
          said = refl;
          worn = refl;
        })

    pub calls : IsLawfulCall (next_call asked.session table key op)
        → ActsBy segments (state_of lanes sessions) (state_of lanes later) (λ cluster. call_makes client table key op) [] None
    calls lawful = only_acts segments (state_of lanes sessions) (state_of lanes later) (Calls client table key op) [] (calls_one lawful)
