-- A settling command keeps a ready cluster ready.
use Rattle.std.proofs.Common.{ℕ, List, refl, sym, subst}
use Rattle.rk_world.specs.Cluster.{Cluster}
use Rattle.rk_cluster.specs.Effects.{RunsTo}
use Rattle.rk_cluster.specs.Replicas.{Fate}
use Rattle.rk_settle.specs.Commanded.{SettlingCommand}
use Rattle.rk_settle.specs.Course.{Course, course_of, moved_all}
use Rattle.rk_laws_drives.specs.Ready.{AreReady, StaysReady}
use Rattle.rk_laws_drives.proofs.Courses.{IsWorking, all_moved_working}
use Rattle.rk_laws_drives.proofs.Working.{work_keeps}

pub settling_keeps : (masters : ℕ) (command : SettlingCommand) (start : Cluster) (fates : List Fate)
    → let course = moved_all (course_of start (command start)) fates in
    AreReady masters start → RunsTo start course.occurred course.cluster → StaysReady masters start course.cluster
settling_keeps masters command start fates ready leads =
    let course : Course = moved_all (course_of start (command start)) fates in
    let working : IsWorking start course =
    all_moved_working start (course_of start (command start)) fates (record { from = refl; work = refl }) in
    subst (StaysReady masters start) (sym leads.is) (work_keeps masters start course.occurred ready leads.run working.work)
