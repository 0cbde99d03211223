use Rattle.rk_master.proofs.Words.{◌≡◌, Option, refl, sym, ap, ◌∙◌, IfOk-weaker, Held, Master, choice_of, fresh_choice, master_of}
use Rattle.rk_master.proofs.Words.{tablet_of}
use Rattle.rk_master.proofs.Choosing.{served_found, mutation_chosen, read_chosen}
use Rattle.rk_master.proofs.state.MasterState.choice_of.Goals as goal

pub returns-then-is_mutation : goal.returns-then-is_mutation
returns-then-is_mutation c =
    let call = c.args.call.now in
    let master : Master = master_of c.args.self.now in
    let tablet = tablet_of c.in-Some.entry.now.1 in
    let served = served_found master c.args.self.now.tablets.items c.as_slice-tablets.result.now call.table call.key c.serving.result c.in-Some.entry refl c.as_slice-tablets.ensures.value c.serving.ensures c.in-Some.is in
    let mutates = sym c.is_mutation.ensures ∙ c.if-is_mutation.true in
    IfOk-weaker c.mutation_choice.result _ (λ choice. choice ≡ choice_of master call)
    (λ choice is. is mutates ∙ mutation_chosen master call c.in-Some.entry.now.0 tablet served mutates)
    c.mutation_choice.ensures

pub returns : goal.returns
returns c =
    let call = c.args.call.now in
    let master : Master = master_of c.args.self.now in
    let tablet = tablet_of c.in-Some.entry.now.1 in
    let served = served_found master c.args.self.now.tablets.items c.as_slice-tablets.result.now call.table call.key c.serving.result c.in-Some.entry refl c.as_slice-tablets.ensures.value c.serving.ensures c.in-Some.is in
    let reads = sym c.is_mutation.ensures ∙ c.if-is_mutation.false in
    IfOk-weaker c.fresh_read.result _ (λ choice. choice ≡ choice_of master call)
    (λ choice is. is reads ∙ ap (λ (o : Option Held). fresh_choice c.in-Some.entry.now.0 tablet call o) c.get-there.ensures ∙ read_chosen master call c.in-Some.entry.now.0 tablet served reads)
    c.fresh_read.ensures
