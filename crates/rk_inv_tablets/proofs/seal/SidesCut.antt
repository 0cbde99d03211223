-- A view stays sound when masters cut more side segments, whose items lie in rows: nothing names them, and no target has sealed them.
use Rattle.std.proofs.Common.{◌≡◌, ℕ, List, [], ◌∷◌, ◌++◌, refl, sym, ap, ◌∙◌, subst, arith, slice_index_or, All, flat_map, append-nil}
use Rattle.std.proofs.Common.{IfSome, true, true}
use Rattle.rk_inv_base.proofs.Words.{length-map, flat_map-append, All-append, All-nil, IfSome_then, get, Held, Member, Node, Range}
use Rattle.rk_inv_base.proofs.Words.{spelled_all, Entry, Handover, lineage_of, Phase, Rebuilding, Row, known_of, EntryEnd, Body, items_of}
use Rattle.rk_inv_base.proofs.Words.{first_of, as_entries, side_entries, own_place, is_receiving, Written, member_material, member_truth}
use Rattle.rk_inv_base.proofs.Words.{IsItemWithin, IsLog, LogSays, stored_of, MarkedFit, NeededOf, READ_BACKUP, RowIsRebuilt}
use Rattle.rk_inv_base.proofs.Words.{member_given_up, IsTarget, MembersFit, NamedFit, wanted_place, FirstIsDone, OnlyIsUnnamed, Waits, View}
use Rattle.rk_inv_base.proofs.Words.{truths, rests, put, CoverOf, LogsOf, SoundParts, SoundView, AreAboveMap, EachIn, HasItems, MarkFits}
use Rattle.rk_inv_base.proofs.Words.{base_map, has_all_items, map_after, post_of, target_truth}
use Rattle.rk_inv_tablets.proofs.Words.{member as member_at, target_truth_same, truth_by, truth_is, calls_more, piece_grown, messages_looks}
use Rattle.rk_inv_tablets.proofs.Words.{rebuilder_weaker, put_by, put_here, put_is, put_other, IsRebuilderIn, roles_looks, AllLook}
use Rattle.rk_inv_tablets.proofs.Words.{looks_same, AreSealedThere, sides_cut, with_side_items, with_sides, IsBareOf}
use Rattle.rk_inv_base.proofs.rows.Rows.{rows_grown}
use Rattle.rk_inv_tablets.proofs.seal.SideNumbers.{items_kept, material_kept, sides_kept, truth_kept}
use Rattle.rk_inv_tablets.proofs.seal.SidesGrow.{grows_sides, log_sides, needs_sides, rebuilder_sides}
use Rattle.rk_types.specs.declared.node.Node.TheVariants as nodes
use Rattle.rk_message.specs.declared.message.Body.TheVariants as bodies
use Rattle.rk_inv_tablets.proofs.grow.MoreLog.{waits_by, rest_by}

-- side segments that a target has sealed have what they had, if each master has these more
abbrev pub AreKept : View → (ℕ → List (List Held)) → Type 0
AreKept v lists =
    (q tablet : ℕ)
    → flat_map (side_entries ((v.written q).sides ++ lists q)) (v.pullings q tablet).sealed
    ≡ flat_map (side_entries (v.written q).sides) (v.pullings q tablet).sealed

-- ---- each master has more

module _ (v : View) (lists : ℕ → List (List Held)) (sound : SoundView v) (within : (q : ℕ) → All (IsItemWithin v.rows) (flat_map (λ items. items) (lists q))) (there : AreKept v lists) where
  abbrev pub more : View
  more = record v {
    logs = λ q. with_sides (v.logs q) (lists q);
    written = λ q. with_side_items (v.written q) (lists q);
  }

  kept : (q : ℕ) → IsLog (v.logs q) (v.written q) (stored_of v.stored q)
  kept q = sound.logs.each q

  -- ---- what counts

  truth_same : (range : Range) (m : Member) → member_truth more.written range m ≡ member_truth v.written range m
  truth_same range m =
      let q : ℕ = m.master in truth_kept (v.logs q) (v.written q) (stored_of v.stored q) (kept q) (lists q) range m.from

  material_same : (range : Range) (m : Member) → member_material more.written range m ≡ member_material v.written range m
  material_same range m =
      let q : ℕ = m.master in material_kept (v.logs q) (v.written q) (stored_of v.stored q) (kept q) (lists q) range m.from

  truths_same : ◌≡◌ {A = Row → List Entry} (truths more) (truths v)
  truths_same i x =
      (truth_is v.base more.written x.range (lineage_of x.phase)
      ∙ ap (λ (sure : Range → Member → List Entry). truth_by v.base sure x.range (lineage_of x.phase)) (λ j range member. truth_same range member j)
      ∙ sym (truth_is v.base v.written x.range (lineage_of x.phase))) i

  rests_same : ◌≡◌ {A = Row → List Entry} (rests more) (rests v)
  rests_same i x = rest_by v.written more.written x.range (lineage_of x.phase) (λ member. refl) i

  looks : AllLook v.written more.written v.handovers v.handovers
  looks = record { each = λ q r. looks_same (v.handovers q r); applied = λ q. refl; truths = truth_same }

  -- ---- logs

  says_on : (from to : Node) (body : Body) → LogSays v.logs v.stored from to body → LogSays more.logs v.stored from to body
  says_on (nodes.Master q) (nodes.Backup backup) (bodies.Append append) piece = search (piece_grown, with_sides, known_of, grows_sides)
  says_on _ _ _ says = says

  logs : LogsOf more
  logs = record {
    each = λ q. log_sides (v.logs q) (lists q) (v.written q) (stored_of v.stored q) (kept q);
    sent = λ n m found. says_on m.from m.to m.body (sound.logs.sent n m found);
  }

  cover : CoverOf more
  cover =
      let sides : (q : ℕ) → All (IsItemWithin v.rows) (flat_map (λ items. items) ((v.written q).sides ++ lists q)) = λ q.
      rw (flat_map-append (λ (items : List Held). items) (v.written q).sides (lists q))
      (All-append (IsItemWithin v.rows) (flat_map (λ items. items) (v.written q).sides) (flat_map (λ items. items) (lists q))
      (sound.cover.sides q) (within q)) in
      assumption

  -- ---- what is staged

  done_on : (range : Range) (lineage : List Member) → FirstIsDone v.written range lineage → FirstIsDone more.written range lineage
  done_on range (first ∷ last ∷ others) done = search (material_same, truth_same, done.rest, done.all)
  done_on range _ done = tt

  unnamed_on : (range : Range) (lineage : List Member) → OnlyIsUnnamed v.written range lineage → OnlyIsUnnamed more.written range lineage
  unnamed_on range (only ∷ []) none = none
  unnamed_on range _ none = tt

  -- ---- rebuilds

  no_more : (row : Row) (lineage : List Member) (q : ℕ) (end : EntryEnd) → NeededOf row more.written lineage q end → NeededOf row v.written lineage q end
  no_more row (first ∷ last ∷ []) q end needed = (
    needed.0,
    needs_sides row.range (member_given_up v.written row first) (member_material v.written row.range first) last.from (v.written last.master)
        (lists last.master) end (rw (← material_same row.range first) needed.1),
  )
  no_more row _ q end needed = needed

  abbrev IsBy : View → Row → List Member → ℕ → Type 0
  IsBy w x lineage to =
      IsRebuilderIn w.logs w.written v.stored x lineage to (truths v x) (v.handovers to x.tablet) (v.completions to x.tablet) (v.gathers to x.tablet)
      (v.merged to x.tablet) (v.records to)

  rebuilder_on : (x : Row) (lineage : List Member) (to : ℕ) → IsBy v x lineage to → IsBy more x lineage to
  rebuilder_on x lineage to was =
      let h : Handover = v.handovers to x.tablet in
      let own : Member = member_at to (own_place h.role) in
      rebuilder_weaker x lineage to (truths v x) (member_material more.written x.range own) (NeededOf x v.written lineage)
      (NeededOf x more.written lineage) (λ q. known_of (v.logs q) READ_BACKUP) (λ q. stored_of v.stored q READ_BACKUP) (more.written to) h
      (v.completions to x.tablet) (v.gathers to x.tablet) (v.merged to x.tablet) (v.records to)
      (λ q away end needed. no_more x lineage q end needed)
      (rw (material_same x.range own)
      (rebuilder_sides x lineage to (truths v x) (member_material v.written x.range own) (NeededOf x v.written lineage)
      (λ q. known_of (v.logs q) READ_BACKUP) (λ q. stored_of v.stored q READ_BACKUP) h (v.completions to x.tablet) (v.gathers to x.tablet)
      (v.merged to x.tablet) (v.records to) (v.logs to) (v.written to) (stored_of v.stored to) (lists to) (kept to) was))

  marked_on : (range : Range) (lineage : List Member) → MarkedFit v.logs v.written v.stored v.live range lineage → MarkedFit more.logs more.written v.stored v.live range lineage
  marked_on range [] fit = tt
  marked_on range (only ∷ []) fit = λ dead. rw (material_same range only) (fit dead)
  marked_on range (first ∷ last ∷ others) fit = search (material_same, fit.0, fit.1)

  abbrev IsRebuiltIn : View → Row → Phase → Type 0
  IsRebuiltIn w x phase =
      RowIsRebuilt x phase (truths v x) w.logs w.written v.stored v.handovers v.completions v.gathers v.merged v.records v.live

  rebuilt_on : (x : Row) (phase : Phase) → IsRebuiltIn v x phase → IsRebuiltIn more x phase
  rebuilt_on x (Rebuilding lineage to) fit = (λ term. rebuilder_on x lineage to (fit.0 term), marked_on x.range lineage fit.1)
  rebuilt_on x _ fit = tt

  -- ---- targets

  -- a target by what it has written, and what counts of its source and is applied there
  abbrev IsTargetBy : Row → Member → Member → Written → List Entry → List Entry → Type 0
  IsTargetBy x source target w truth material =
      IsTarget x.range source.master truth material target.from w (v.handovers target.master x.tablet) (v.pullings target.master x.tablet)
      (get v.handed x.tablet) (v.records target.master)

  target_on : (x : Row) (source target : Member) (truth material : List Entry) → IsTargetBy x source target (v.written target.master) truth material → IsTargetBy x source target (more.written target.master) truth material
  target_on x source target truth material was = grind (arith, is_receiving, items_of)

  members_on : (x : Row) (lineage : List Member) → MembersFit x v.written v.handovers v.pullings v.records v.handed lineage → MembersFit x more.written v.handovers v.pullings v.records v.handed lineage
  members_on x (source ∷ target ∷ []) fit = search (truth_same, material_same, target_on, member_truth, member_material, x.range)
  members_on x _ fit = tt

  named_on : (range : Range) (lineage : List Member) → NamedFit v.written range lineage → NamedFit more.written range lineage
  named_on range (first ∷ last ∷ []) fit = λ item its.
      let q : ℕ = last.master in
      rw (truth_same range first)
      (fit item (rw (← items_kept (v.logs q) (v.written q) (stored_of v.stored q) (kept q) (lists q) range last.from) its))
  named_on range _ fit = tt

  parts : SoundParts more (truths v) (rests v)
  parts =
      let moving : All (λ row. IfSome (target_truth more.written v.handed row row.phase) (AreAboveMap row.range (map_after (base_map v.base) v.journal))) v.rows = λ k d inside.
      let x : Row = slice_index_or v.rows k d in
      rw (target_truth_same v.written more.written v.handed x x.phase truth_same) (sound.counters.moving k d inside) in
      let done : All (λ row. FirstIsDone more.written row.range (lineage_of row.phase)) v.rows = λ k d inside. done_on _ _ (sound.rest.done k d inside) in
      let unnamed : All (λ row. OnlyIsUnnamed more.written row.range (lineage_of row.phase)) v.rows = λ k d inside.
      unnamed_on _ _ (sound.rest.unnamed k d inside) in
      let waiting : (q : ℕ) → v.live q ≡ true → EachIn (λ k c. Waits v.rows (v.handovers q) (more.written q) q k c) (v.calls q) = λ q lives k c is.
      let was = sound.rest.waiting q lives k c is in
      waits_by v.rows (v.handovers q) (v.handovers q) (v.written q) (more.written q) q k c was was.behind was.stands was.unmarked was.may_stage in
      let items : (q : ℕ) → v.live q ≡ true → All (λ row. has_all_items (post_of row.phase q) (v.handovers q row.tablet) row.term ≡ true → HasItems row more.written (v.records q)) v.rows = λ q lives k d inside has.
      IfSome_then (first_of (lineage_of (slice_index_or v.rows k d).phase)) (sound.records.items q lives k d inside has)
      (λ member table. rw (truth_same (slice_index_or v.rows k d).range member) table) in
      let targets : All (λ row. MembersFit row more.written v.handovers v.pullings v.records v.handed (lineage_of row.phase)) v.rows = λ k d inside.
      members_on (slice_index_or v.rows k d) _ (sound.receives.targets k d inside) in
      let bare : (q r : ℕ) → IsBareOf (v.handovers q r) (more.written q) (v.records q) = λ q r.
      IfSome_then (wanted_place (v.handovers q r).role) (sound.receives.bare q r) (λ from was. assumption) in
      let named : All (λ row. NamedFit more.written row.range (lineage_of row.phase)) v.rows = λ k d inside. named_on _ _ (sound.receives.named k d inside) in
      let rebuilt : All (λ row. IsRebuiltIn more row row.phase) v.rows = λ k d inside. rebuilt_on _ _ (sound.rebuilds.rebuilt k d inside) in
      let marks : (q : ℕ) → All (λ row. All (λ mark. mark.tablet ≡ row.tablet → MarkFits row q (v.handovers q row.tablet) (v.live q) (more.written q) mark) (v.written q).marks) v.rows = λ q k d inside j m stands its.
      let fit = sound.rebuilds.marks q k d inside j m stands its in assumption in
      assumption (
        logs,
        cover,
        rows_grown v.rows v.written more.written v.journal sound.rows (λ q. omega arith),
        roles_looks v.rows v.handovers v.handovers v.written more.written v.live sound.roles looks.each looks.applied,
        calls_more v (truths v) (rests v) (rests v) more.written sound.calls (λ r end stands is. is) truth_same,
        messages_looks v more.logs more.written v.handovers looks (λ q. refl) (λ x lineage q dead end. no_more x lineage q end) sound.messages,
      )

  pub view_with_sides : SoundView more
  view_with_sides = rw (truths_same, rests_same) parts

-- ---- one master has more

module _ (v : View) (master : ℕ) (lists : List (List Held)) (sound : SoundView v) (within : All (IsItemWithin v.rows) (flat_map (λ items. items) lists)) (there : AreSealedThere v master) where
  -- the others have none
  abbrev none : ℕ → List (List Held)
  none q = []

  abbrev cut : ℕ → List (List Held)
  cut = put none master lists

  still_there : AreKept v cut
  still_there q tablet = grind (arith, put_by, side_entries, logs, length-map, spelled_all, as_entries, sides_kept, append-nil)

  logs_are : (q : ℕ) → with_sides (v.logs q) (cut q) ≡ put v.logs master (with_sides (v.logs master) lists) q
  logs_are q = grind (arith, put_is, logs, with_sides, put_here, put_other, append-nil)

  written_are : (q : ℕ) → with_side_items (v.written q) (cut q) ≡ put v.written master (with_side_items (v.written master) lists) q
  written_are q = grind (arith, put_is, with_side_items, put_here, put_other, append-nil)

  pub view_sides_cut : SoundView (sides_cut v master lists)
  view_sides_cut =
      subst SoundView (λ i. record v { logs = λ q. logs_are q i; written = λ q. written_are q i })
      (view_with_sides v cut sound
      (λ q. put_by none master (λ _. lists) (λ l. All (IsItemWithin v.rows) (flat_map (λ items. items) l)) q (λ at. within) (λ apart. All-nil _))
      still_there)
