-- How the text of a drive and its status are put together, and what is written of them.
use Rattle.rk_conclude.proofs.Words.{arith, ◌≡◌, ℕ, Bool, List, [], ◌++◌, Option, Appends, Placed, Receipt, Status, AppendsPart, Cluster}
use Rattle.rk_conclude.proofs.Words.{receipts_in, result_lines, WritesReport, Audits, audit_line, audit_status, history_part}
use Rattle.rk_types.specs.declared.status.Status.TheVariants as statuses
use Rattle.rk_world.specs.Cluster.{journals_of}
use Rattle.rk_workload.specs.declared.summary.Summary.{Summary}
use Rattle.rk_conclude.specs.Reports.{IsReport}
use Rattle.rk_conclude.specs.Results.{summary_of}

-- what is added to nothing, part by part
pub added : (start first second whole part lines line : List ℕ) → start ≡ [] → first ≡ start ++ part → second ≡ first ++ lines → whole ≡ second ++ line
    → whole ≡ part ++ lines ++ line
added start first second whole part lines line none one two three = grind arith

-- the report of a cluster, by the journals and the results that were reported of it
pub reported : (history : Bool) (cluster : Cluster) (journals : List (List Placed)) (receipts : List Receipt) (summary : Summary) (wrong : Option Receipt) (text : List ℕ) (status : Status)
    → journals ≡ journals_of cluster → receipts ≡ receipts_in cluster.sessions → summary ≡ summary_of cluster → Audits journals receipts wrong
    → text ≡ history_part history journals ++ result_lines summary ++ audit_line journals wrong → status ≡ audit_status wrong
    → IsReport history cluster text status
reported history cluster journals receipts summary wrong text status same_journals same_receipts same_summary audits text_is status_is =
    grind (arith, history_part, result_lines, audit_line)

module _ (history : Bool) (old new : Option (List ℕ)) (cluster : Cluster) (text : List ℕ) where
  -- the whole report was written
  pub whole_written : (status : Status) → IsReport history cluster text status → Appends old new text → WritesReport history old new status cluster
  whole_written status report written = grind (arith, report.wrong, report.status_is)

  -- a first part of it was
  pub part_written : (status : Status) → IsReport history cluster text status → AppendsPart old new text → WritesReport history old new statuses.WriteFault cluster
  part_written status report written = (text, status, report, written)
