use Rattle.rk_cluster.proofs.Words.{false, true, rules, state_of}
use Rattle.rk_cluster.proofs.Admitting.{table_last}
use Rattle.rk_cluster.proofs.admissions.admit_table.Goals as goal

pub returns-clause-code : goal.returns-clause-code
returns-clause-code g c =
    table_last g.R.Replica.segments (state_of c.args.lanes.now c.args.sessions.now.entries) c.args.table c.args.master false (search rules) (search rules) (search rules) (search rules) (search rules)

pub returns-then-count_tables-ge-MOST_TABLES-clause-err : goal.returns-then-count_tables-ge-MOST_TABLES-clause-err
returns-then-count_tables-ge-MOST_TABLES-clause-err g c =
    table_last g.R.Replica.segments (state_of c.args.lanes.now c.args.sessions.now.entries) c.args.table c.args.master true (search rules) (search rules) (search rules) (search rules) (search rules)
