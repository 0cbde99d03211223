use Rattle.rk_rebuild.proofs.Words.{◌≡◌, ◌+◌, ◌<◌, ◌∷◌, ◌++◌, ℕ, [], List, Option, Some, None, true, map, set, length, sym, ap, ◌∙◌, subst}
use Rattle.rk_rebuild.proofs.Words.{arith, Bor, insert, ReadLog, Reader, gathered_of, members_of, passed}
use Rattle.std.specs.Option.{option_map}
use Rattle.rk_outside.specs.Segments.{bytes_of}
use Rattle.rk_entry.specs.Entries.{entries_of}
use Rattle.rk_world.specs.Gather.{with_read, LAST_MAIN_SEGMENT}
use Rattle.rk_rebuild.specs.Logs.{IsGathered}
use Rattle.rk_rebuild.proofs.Changes.{StandsAt, log_master, members_read, members_same, members_advanced, members_passed, side_reads, main_reads, pass_reads, gathered_same, gathered_side, gathered_main, gathered_pass, put_back, short_main, either, both, both_err, ok_gives, err_gives, on_err}
use Rattle.rk_rebuild.proofs.reading.read.Goals as goal

-- a side segment was read
pub returns-then-log-clause-ok : goal.returns-then-log-clause-ok
returns-then-log-clause-ok c =
    let before : List ReadLog = c.args.logs.now.items in
    let opened : List ReadLog = c.opened.new.logs.items in
    let place : ℕ = c.in_ok-place.place in
    let old : ReadLog = c.index_mut-log.result.now in
    let new : ReadLog = c.read_side.new.log in
    let readers : List Reader = c.args.readers.now.items in
    let at : StandsAt opened place c.args.master old =
    record { place_is = c.in_ok-place.ensures.place; within = omega (arith, c.in_ok-place.ensures.within, c.opened.new.logs.ok.0); log_is = c.index_mut-log.ensures.value } in
    let bytes : Option (List ℕ) = option_map (λ (b : Bor (List ℕ)). b.now) c.args.bytes in
    let is : new ≡ record old { sides = insert old.sides c.args.segment (entries_of (bytes_of bytes)) } = c.in_ok-read_side.ensures.ok in
    ap (members_of (set opened place new)) c.advance.ensures
    ∙ members_advanced new (set opened place new) readers
    ∙ members_read before opened place c.args.master old new c.args.segment bytes c.in_ok-place.ensures.same at
    (ap (λ (log : ReadLog). log.master) is ∙ log_master opened place c.args.master old at)
    (λ member. ap (λ (log : ReadLog). gathered_of (Some log) member) is ∙ side_reads old c.args.segment bytes c.if-log.true member)
    readers

pub returns-then-log-clause-kept : goal.returns-then-log-clause-kept
returns-then-log-clause-kept c =
    let before : List ReadLog = c.args.logs.now.items in
    let opened : List ReadLog = c.opened.new.logs.items in
    let place : ℕ = c.in_ok-place.place in
    let old : ReadLog = c.index_mut-log.result.now in
    let new : ReadLog = c.read_side.new.log in
    let readers : List Reader = c.args.readers.now.items in
    let at : StandsAt opened place c.args.master old =
    record { place_is = c.in_ok-place.ensures.place; within = omega (arith, c.in_ok-place.ensures.within, c.opened.new.logs.ok.0); log_is = c.index_mut-log.ensures.value } in
    let bytes : Option (List ℕ) = option_map (λ (b : Bor (List ℕ)). b.now) c.args.bytes in
    let was : IsGathered c.args.range.now opened readers = gathered_same c.args.range.now before opened readers c.in_ok-place.ensures.same (c.in_ok-place.ensures.short c.requires.short) c.requires in
    let is : new ≡ record old { sides = insert old.sides c.args.segment (entries_of (bytes_of bytes)) } = c.in_ok-read_side.ensures.ok in
    subst (IsGathered c.args.range.now (set opened place new)) (sym c.advance.ensures)
    (gathered_side c.args.range.now opened place c.args.master c.args.segment (entries_of (bytes_of bytes)) old new readers at is c.if-log.true was)

-- none was read for want of memory
pub returns-in_err-read_side-clause-err : goal.returns-in_err-read_side-clause-err
returns-in_err-read_side-clause-err c =
    let before : List ReadLog = c.args.logs.now.items in
    let opened : List ReadLog = c.opened.new.logs.items in
    let place : ℕ = c.in_ok-place.place in
    let old : ReadLog = c.index_mut-log.result.now in
    let new : ReadLog = c.read_side.new.log in
    let readers : List Reader = c.args.readers.now.items in
    let at : StandsAt opened place c.args.master old =
    record { place_is = c.in_ok-place.ensures.place; within = omega (arith, c.in_ok-place.ensures.within, c.opened.new.logs.ok.0); log_is = c.index_mut-log.ensures.value } in
    on_err c.from_residual-in_err-read_side.result
    (ap (λ (logs : List ReadLog). members_of logs readers) (put_back opened place c.args.master old new at c.in_err-read_side.ensures.err)
    ∙ members_same before opened c.in_ok-place.ensures.same readers)

pub returns-in_err-read_side-clause-kept : goal.returns-in_err-read_side-clause-kept
returns-in_err-read_side-clause-kept c =
    let before : List ReadLog = c.args.logs.now.items in
    let opened : List ReadLog = c.opened.new.logs.items in
    let place : ℕ = c.in_ok-place.place in
    let old : ReadLog = c.index_mut-log.result.now in
    let new : ReadLog = c.read_side.new.log in
    let readers : List Reader = c.args.readers.now.items in
    let at : StandsAt opened place c.args.master old =
    record { place_is = c.in_ok-place.ensures.place; within = omega (arith, c.in_ok-place.ensures.within, c.opened.new.logs.ok.0); log_is = c.index_mut-log.ensures.value } in
    let was : IsGathered c.args.range.now opened readers = gathered_same c.args.range.now before opened readers c.in_ok-place.ensures.same (c.in_ok-place.ensures.short c.requires.short) c.requires in
    subst (λ (logs : List ReadLog). IsGathered c.args.range.now logs readers) (sym (put_back opened place c.args.master old new at c.in_err-read_side.ensures.err)) was

-- a main segment was read
pub returns-in-Some-clause-ok : goal.returns-in-Some-clause-ok
returns-in-Some-clause-ok c =
    let before : List ReadLog = c.args.logs.now.items in
    let opened : List ReadLog = c.opened.new.logs.items in
    let place : ℕ = c.in_ok-place.place in
    let old : ReadLog = c.index_mut-log.result.now in
    let new : ReadLog = c.read_main.new.log in
    let readers : List Reader = c.args.readers.now.items in
    let at : StandsAt opened place c.args.master old =
    record { place_is = c.in_ok-place.ensures.place; within = omega (arith, c.in_ok-place.ensures.within, c.opened.new.logs.ok.0); log_is = c.index_mut-log.ensures.value } in
    let given : List ℕ = c.in-Some.bytes.now in
    let bytes_are : Some given ≡ option_map (λ (b : Bor (List ℕ)). b.now) c.args.bytes = ap (λ (o : Option (Bor (List ℕ))). option_map (λ (b : Bor (List ℕ)). b.now) o) (sym c.in-Some.is) in
    ok_gives c.read_main.result (both _ _ c.read_main.result c.read_main.ensures.ok c.read_main.ensures.short)
    (λ (is : (new ≡ record old { main = old.main ++ entries_of given ∷ [] }) × (length old.main + 1 < LAST_MAIN_SEGMENT)).
    members_read before opened place c.args.master old new c.args.segment (Some given) c.in_ok-place.ensures.same at
    (ap (λ (log : ReadLog). log.master) is.0 ∙ log_master opened place c.args.master old at)
    (λ member. ap (λ (log : ReadLog). gathered_of (Some log) member) is.0 ∙ main_reads old c.args.segment given c.if-log.false is.1 member)
    readers
    ∙ ap (with_read (members_of before readers) c.args.master c.args.segment) bytes_are)

pub returns-in-Some-clause-err : goal.returns-in-Some-clause-err
returns-in-Some-clause-err c =
    let before : List ReadLog = c.args.logs.now.items in
    let opened : List ReadLog = c.opened.new.logs.items in
    let place : ℕ = c.in_ok-place.place in
    let old : ReadLog = c.index_mut-log.result.now in
    let new : ReadLog = c.read_main.new.log in
    let readers : List Reader = c.args.readers.now.items in
    let at : StandsAt opened place c.args.master old =
    record { place_is = c.in_ok-place.ensures.place; within = omega (arith, c.in_ok-place.ensures.within, c.opened.new.logs.ok.0); log_is = c.index_mut-log.ensures.value } in
    err_gives c.read_main.result c.read_main.ensures.err
    (λ (is : new ≡ old).
    ap (λ (logs : List ReadLog). members_of logs readers) (put_back opened place c.args.master old new at is)
    ∙ members_same before opened c.in_ok-place.ensures.same readers)

pub returns-in-Some-clause-kept : goal.returns-in-Some-clause-kept
returns-in-Some-clause-kept c =
    let before : List ReadLog = c.args.logs.now.items in
    let opened : List ReadLog = c.opened.new.logs.items in
    let place : ℕ = c.in_ok-place.place in
    let old : ReadLog = c.index_mut-log.result.now in
    let new : ReadLog = c.read_main.new.log in
    let readers : List Reader = c.args.readers.now.items in
    let at : StandsAt opened place c.args.master old =
    record { place_is = c.in_ok-place.ensures.place; within = omega (arith, c.in_ok-place.ensures.within, c.opened.new.logs.ok.0); log_is = c.index_mut-log.ensures.value } in
    let given : List ℕ = c.in-Some.bytes.now in
    let was : IsGathered c.args.range.now opened readers = gathered_same c.args.range.now before opened readers c.in_ok-place.ensures.same (c.in_ok-place.ensures.short c.requires.short) c.requires in
    either c.read_main.result (both _ _ c.read_main.result c.read_main.ensures.ok c.read_main.ensures.short) c.read_main.ensures.err
    (λ (is : (new ≡ record old { main = old.main ++ entries_of given ∷ [] }) × (length old.main + 1 < LAST_MAIN_SEGMENT)).
    gathered_main c.args.range.now opened place c.args.master old new readers at
    (ap (λ (log : ReadLog). log.master) is.0) (ap (λ (log : ReadLog). log.main_read) is.0 ∙ c.if-log.false)
    (short_main old new (entries_of given) (ap (λ (log : ReadLog). log.main) is.0) is.1) was)
    (λ (is : new ≡ old). subst (λ (logs : List ReadLog). IsGathered c.args.range.now logs readers) (sym (put_back opened place c.args.master old new at is)) was)

-- the main segments are passed
pub returns-in-None-clause-ok : goal.returns-in-None-clause-ok
returns-in-None-clause-ok c =
    let before : List ReadLog = c.args.logs.now.items in
    let opened : List ReadLog = c.opened.new.logs.items in
    let place : ℕ = c.in_ok-place.place in
    let old : ReadLog = c.index_mut-log.result.now in
    let new : ReadLog = c.pass_main.new.log in
    let readers : List Reader = c.args.readers.now.items in
    let at : StandsAt opened place c.args.master old =
    record { place_is = c.in_ok-place.ensures.place; within = omega (arith, c.in_ok-place.ensures.within, c.opened.new.logs.ok.0); log_is = c.index_mut-log.ensures.value } in
    let bytes_are : None ≡ option_map (λ (b : Bor (List ℕ)). b.now) c.args.bytes = ap (λ (o : Option (Bor (List ℕ))). option_map (λ (b : Bor (List ℕ)). b.now) o) (sym c.in-None.is) in
    ok_gives c.pass_main.result (both _ _ c.pass_main.result c.pass_main.ensures.ok c.pass_main.ensures.readers)
    (λ (is : (new ≡ record old { main_read = true }) × (c.pass_main.new.readers.items ≡ map (passed c.args.range.now old) readers)).
    ap (members_of (set opened place new)) is.1
    ∙ members_passed c.args.range.now old (set opened place new) readers
    ∙ members_read before opened place c.args.master old new c.args.segment None c.in_ok-place.ensures.same at
    (ap (λ (log : ReadLog). log.master) is.0 ∙ log_master opened place c.args.master old at)
    (λ member. ap (λ (log : ReadLog). gathered_of (Some log) member) is.0 ∙ pass_reads old c.args.segment c.if-log.false member)
    readers
    ∙ ap (with_read (members_of before readers) c.args.master c.args.segment) bytes_are)

pub returns-in-None-clause-err : goal.returns-in-None-clause-err
returns-in-None-clause-err c =
    let before : List ReadLog = c.args.logs.now.items in
    let opened : List ReadLog = c.opened.new.logs.items in
    let place : ℕ = c.in_ok-place.place in
    let old : ReadLog = c.index_mut-log.result.now in
    let new : ReadLog = c.pass_main.new.log in
    let readers : List Reader = c.args.readers.now.items in
    let at : StandsAt opened place c.args.master old =
    record { place_is = c.in_ok-place.ensures.place; within = omega (arith, c.in_ok-place.ensures.within, c.opened.new.logs.ok.0); log_is = c.index_mut-log.ensures.value } in
    err_gives c.pass_main.result (both_err _ _ c.pass_main.result c.pass_main.ensures.err c.pass_main.ensures.same)
    (λ (is : (new ≡ old) × (c.pass_main.new.readers.items ≡ readers)).
    (λ i. members_of (put_back opened place c.args.master old new at is.0 i) (is.1 i))
    ∙ members_same before opened c.in_ok-place.ensures.same readers)

pub returns-in-None-clause-kept : goal.returns-in-None-clause-kept
returns-in-None-clause-kept c =
    let before : List ReadLog = c.args.logs.now.items in
    let opened : List ReadLog = c.opened.new.logs.items in
    let place : ℕ = c.in_ok-place.place in
    let old : ReadLog = c.index_mut-log.result.now in
    let new : ReadLog = c.pass_main.new.log in
    let readers : List Reader = c.args.readers.now.items in
    let at : StandsAt opened place c.args.master old =
    record { place_is = c.in_ok-place.ensures.place; within = omega (arith, c.in_ok-place.ensures.within, c.opened.new.logs.ok.0); log_is = c.index_mut-log.ensures.value } in
    let was : IsGathered c.args.range.now opened readers = gathered_same c.args.range.now before opened readers c.in_ok-place.ensures.same (c.in_ok-place.ensures.short c.requires.short) c.requires in
    either c.pass_main.result (both _ _ c.pass_main.result c.pass_main.ensures.ok c.pass_main.ensures.readers) (both_err _ _ c.pass_main.result c.pass_main.ensures.err c.pass_main.ensures.same)
    (λ (is : (new ≡ record old { main_read = true }) × (c.pass_main.new.readers.items ≡ map (passed c.args.range.now old) readers)).
    subst (IsGathered c.args.range.now (set opened place new)) (sym is.1)
    (gathered_pass c.args.range.now opened place c.args.master old new readers at
    (ap (λ (log : ReadLog). log.master) is.0) (ap (λ (log : ReadLog). log.main) is.0) was))
    (λ (is : (new ≡ old) × (c.pass_main.new.readers.items ≡ readers)).
    let logs_same : set opened place new ≡ opened = put_back opened place c.args.master old new at is.0 in
    subst (λ (logs : List ReadLog). IsGathered c.args.range.now logs c.pass_main.new.readers.items) (sym logs_same)
    (subst (IsGathered c.args.range.now opened) (sym is.1) was))
