use Rattle.rk_play.proofs.Words.{◌≡◌, ◌||◌, nat_le, true, false, Bool, List, sym, ap, subst, ◌∙◌, LaneState, IsOf, state_of, MOST_BYTES}
use Rattle.std.proofs.Common.{rules}
use Rattle.rk_play.specs.Effects.{journal_bytes, wire_bytes}
use Rattle.rk_play.proofs.Gathered.{below_limit}
use Rattle.rk_play.proofs.shows.is_full.Goals as goal

pub returns-then-journal_bytes-ge-MOST_BYTES : goal.returns-then-journal_bytes-ge-MOST_BYTES
returns-then-journal_bytes-ge-MOST_BYTES g c =
    λ cluster is.
    let sessions = c.args.cluster.now.sessions in
    let of = subst (λ (it : List (LaneState g.row.R.Denot)). IsOf g.R.Replica.segments (state_of it sessions) cluster) (sym c.lanes-lanes.ensures) is in
    let full : nat_le MOST_BYTES c.journal_bytes.result ≡ true = search rules in
    ap (λ (b : Bool). b || nat_le MOST_BYTES (wire_bytes cluster))
    (below_limit (journal_bytes cluster) c.journal_bytes.result (c.journal_bytes.ensures sessions cluster of) ∙ full)
    ∙ sym full

pub returns-else-journal_bytes-ge-MOST_BYTES : goal.returns-else-journal_bytes-ge-MOST_BYTES
returns-else-journal_bytes-ge-MOST_BYTES g c =
    λ cluster is.
    let sessions = c.args.cluster.now.sessions in
    let of = subst (λ (it : List (LaneState g.row.R.Denot)). IsOf g.R.Replica.segments (state_of it sessions) cluster) (sym c.lanes-lanes.ensures) is in
    let room : nat_le MOST_BYTES c.journal_bytes.result ≡ false = search rules in
    let values = below_limit (journal_bytes cluster) c.journal_bytes.result (c.journal_bytes.ensures sessions cluster of) ∙ room in
    let frames = below_limit (wire_bytes cluster) c.wire_bytes.result (c.wire_bytes.ensures sessions cluster of) in
    (λ i. values i || frames i)
