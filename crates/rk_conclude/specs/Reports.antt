-- What is written of a cluster that has come to rest: its history, if that is asked for, its results, and what the audit found.
use Rattle.std.specs.Prelude.{◌≡◌, Bool, true, false, All, List, [], ◌∷◌, ◌++◌, codes, slice_get, Option, Some, None, ℕ, ⊤}
use Rattle.rk_types.specs.declared.history.Placed.{Placed}
use Rattle.rk_types.specs.declared.history.Receipt.{Receipt}
use Rattle.rk_types.specs.declared.status.Status.{Status}
use Rattle.rk_types.specs.declared.status.Status.TheVariants as statuses
use Rattle.rk_model.specs.Merged.{journal_of, merged}
use Rattle.rk_model.specs.Ordered.{IsRecorded}
use Rattle.rk_world.specs.Cluster.{Cluster, journals_of}
use Rattle.rk_lines.specs.Differences.{difference_line}
use Rattle.rk_lines.specs.History.{history_lines}
use Rattle.rk_laws_lanes.specs.gathered.Sessions.{receipts_in}
use Rattle.rk_workload.specs.Summary.{result_lines}
use Rattle.rk_conclude.specs.Results.{summary_of}

-- a receipt is the first of these whose record is not accepted with just what it says
pub record IsFirstWrong (journals : List (List Placed)) (receipts : List Receipt) (wrong : Receipt) : Type 0 where
  pub before : List Receipt
  pub after : List Receipt
  pub whole : receipts ≡ before ++ wrong ∷ after
  pub recorded : All (IsRecorded journals) before
  pub is : IsRecorded journals wrong → ⊥

-- what an audit finds: each receipt is recorded, or this one is the first that is not
abbrev pub Audits : List (List Placed) → List Receipt → Option Receipt → Type 0
Audits journals receipts None = All (IsRecorded journals) receipts
Audits journals receipts (Some wrong) = IsFirstWrong journals receipts wrong

-- the last line, by what the audit found
abbrev pub audit_line : List (List Placed) → Option Receipt → List ℕ
audit_line journals None = codes "audit ok\n"
audit_line journals (Some wrong) = difference_line wrong (slice_get (journal_of journals wrong.lane) wrong.place)

-- the history, if it is asked for
abbrev pub history_part : Bool → List (List Placed) → List ℕ
history_part true journals = history_lines (merged journals)
history_part false journals = []

-- the whole text
abbrev pub drive_text : Bool → Cluster → Option Receipt → List ℕ
drive_text history cluster wrong =
    history_part history (journals_of cluster) ++ result_lines (summary_of cluster) ++ audit_line (journals_of cluster) wrong

-- the status of a drive that was audited
abbrev pub audit_status : Option Receipt → Status
audit_status None = statuses.Done
audit_status (Some wrong) = statuses.Audit

-- a status of a drive that was audited
abbrev pub IsAudited : Status → Type 0
IsAudited statuses.Done = ⊤
IsAudited statuses.Audit = ⊤
IsAudited status = ⊥

-- a text and a status are those of a cluster
pub record IsReport (history : Bool) (cluster : Cluster) (text : List ℕ) (status : Status) : Type 0 where
  pub wrong : Option Receipt
  pub audits : Audits (journals_of cluster) (receipts_in cluster.sessions) wrong
  pub text_is : text ≡ drive_text history cluster wrong
  pub status_is : status ≡ audit_status wrong
