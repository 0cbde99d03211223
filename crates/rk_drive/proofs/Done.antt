-- What a drive that is done comes to, by the laws of settled drives.
use Rattle.std.proofs.Common.{◌≡◌, ℕ, List, Option, None, Some, map, refl, ap, subst, ◌∙◌}
use Rattle.std.specs.Io.KnownBytes.{Appends}
use Rattle.std.specs.List.{All}
use Rattle.rk_types.specs.NumberMap.{NumberMap}
use Rattle.rk_types.specs.declared.history.Receipt.{Receipt}
use Rattle.rk_types.specs.declared.status.Status.TheVariants as statuses
use Rattle.rk_outside.specs.Segments.{Segments}
use Rattle.rk_model.specs.Ordered.{IsRecorded}
use Rattle.rk_world.specs.Client.{Session}
use Rattle.rk_world.specs.Cluster.{Cluster, IsQuietCluster, journals_of}
use Rattle.rk_settle.specs.Settle.{settle}
use Rattle.rk_settle.proofs.AtRest.{settled_rests}
use Rattle.rk_settle.proofs.Quiet.{rests_quiet}
use Rattle.rk_laws_drives.specs.Below.{receipts_in}
use Rattle.rk_laws_drives.specs.Ready.{StaysReady}
use Rattle.rk_laws_drives.proofs.Histories.{all_stored, just_answers, once, one_history}
use Rattle.rk_laws_drives.proofs.Settling.{settling_keeps}
use Rattle.rk_conclude.specs.Concluded.{settling}
use Rattle.rk_conclude.specs.Reports.{Audits, audit_status, drive_text}
use Rattle.rk_drive.specs.Driven.{IsDriven}
use Rattle.rk_drive.specs.Outcomes.{EndsDone, IsConcluded, IsDone}
use Rattle.rk_drive.specs.declared.plan.Plan.{Plan}
use Rattle.rk_drive.specs.declared.start.TheConstants.{MASTERS}

-- an audit that ends so found nothing
none_wrong : (wrong : Option Receipt) → statuses.Done ≡ audit_status wrong → wrong ≡ None
none_wrong None is = refl
none_wrong (Some receipt) is = absurd (cc is)

-- the cluster at rest
module _ (plan : Plan) (start cluster : Cluster) (driven : IsDriven plan start) (stays : StaysReady MASTERS start cluster)
    (quiet : IsQuietCluster cluster) (recorded : All (IsRecorded (journals_of cluster)) (receipts_in cluster.sessions)) where
  pub is_done : IsDone plan cluster
  is_done = record {
    answered = λ client session found. (stays.ready.ended client session found).answered;
    calls = ap (λ (all : NumberMap Session). map (λ (receipt : Receipt). receipt.call) (receipts_in all)) stays.sessions ∙ driven.calls;
    history = one_history MASTERS cluster stays.ready recorded;
    just = just_answers MASTERS cluster stays.ready recorded;
    once = once MASTERS cluster stays.ready;
    quiet = quiet;
    stored = λ lane inside. all_stored MASTERS cluster stays.ready lane quiet inside;
  }

pub ends_done : {R : Type 0} (segments : R → Option Segments) (plan : Plan) (old new : Option (List ℕ)) (before after : List R)
    → IsConcluded segments plan old new before after statuses.Done → EndsDone segments plan old new before after
ends_done segments plan old new before after it =
    let rest = it.concludes.ends in
    let report = rest.rests.1 in
    let none = none_wrong report.wrong report.status_is in
    let settled = (settling it.start rest.fates).cluster in
    let stays = settling_keeps MASTERS settle it.start rest.fates it.driven.ready rest.settled.leads in
    let recorded = subst (Audits (journals_of settled) (receipts_in settled.sessions)) none report.audits in
    record {
      cluster = settled;
      done = is_done plan it.start settled it.driven stays (rests_quiet settled (settled_rests it.start rest.fates rest.over)) recorded;
      text = subst (Appends old new) (report.text_is ∙ ap (drive_text plan.history settled) none) rest.rests.2;
      state = it.concludes.state;
      stands = rest.settled.is;
      back = it.concludes.back (λ e. cc e);
    }
