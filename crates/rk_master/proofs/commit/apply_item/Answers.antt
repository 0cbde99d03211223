use Rattle.rk_master.proofs.Words.{◌≡◌, ℕ, slice_get, sym, ap, ◌∙◌, subst, arith, Entry, told_by, Master, AreStagedFrom, master_of}
use Rattle.rk_world.specs.Commits.{with_applied}
use Rattle.rk_master.specs.Parts.{with_items_of}
use Rattle.rk_master.proofs.Applying.{entry_item_is}
use Rattle.rk_staged.proofs.Staged.{first_is, others_there, there_is}
use Rattle.rk_master.proofs.commit.apply_item.Goals as goal

pub unwrap-entry-requires : goal.unwrap-entry-requires
unwrap-entry-requires c =
    there_is c.args.state.now.staged c.pop.new.self c.pop.result c.args.state.now.applied c.args.state.now.log.entries c.requires.state.staged c.pop.ensures.first c.pop.ensures.rest c.requires.left

pub returns-clause-state : goal.returns-clause-state
returns-clause-state c = record {
  within = omega (arith, c.requires.left, c.next_place-state.ensures);
  staged =
      subst (λ (n : ℕ). AreStagedFrom n c.pop.new.self c.args.state.now.log.entries) (sym c.next_place-state.ensures)
      (others_there c.args.state.now.staged c.pop.new.self c.pop.result c.args.state.now.applied c.args.state.now.log.entries c.requires.state.staged c.pop.ensures.first c.pop.ensures.rest c.requires.left);
  backups = c.requires.state.backups;
  sides = c.requires.state.sides;
  tablets = c.requires.state.tablets;
}

pub returns-clause-end : goal.returns-clause-end
returns-clause-end c = λ entry at.
    let is : c.unwrap-entry.result ≡ entry =
    cc (c.unwrap-entry.ensures, first_is c.args.state.now.staged c.pop.new.self c.pop.result c.args.state.now.applied c.args.state.now.log.entries c.requires.state.staged c.pop.ensures.first c.pop.ensures.rest entry at) in
    c.first_end-end.ensures ∙ ap (λ (e : Entry). slice_get (told_by e) 0) is

pub returns-clause-ok : goal.returns-clause-ok
returns-clause-ok c = λ entry at.
    let is : c.unwrap-entry.result ≡ entry =
    cc (c.unwrap-entry.ensures, first_is c.args.state.now.staged c.pop.new.self c.pop.result c.args.state.now.applied c.args.state.now.log.entries c.requires.state.staged c.pop.ensures.first c.pop.ensures.rest entry at) in
    let master : Master = master_of c.args.state.now in
    (λ i. record master {
      applied = c.next_place-state.ensures i;
      records = (c.in_ok-put_item.ensures ∙ ap (λ (e : Entry). with_items_of e master.records) is) i;
    })
    ∙ ap with_applied (entry_item_is master entry)
