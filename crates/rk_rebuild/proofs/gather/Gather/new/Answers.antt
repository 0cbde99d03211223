use Rattle.rk_rebuild.proofs.Words.{◌≡◌, List, map, not, eqb, ap, ◌∙◌, filter, Member, Gathered, ReadLog, members_of}
use Rattle.rk_world.specs.Gather.{unread, gather_begun}
use Rattle.rk_rebuild.proofs.Logs.{members_unread}
use Rattle.rk_rebuild.proofs.gather.Gather.new.Goals as goal

pub returns : goal.returns
returns c =
    let members : members_of c.new.result.items c.in_ok-readers_of.field-0.items ≡ map unread (filter (λ member. not (eqb member.master c.args.own)) c.args.lineage.items) =
    ap (λ (logs : List ReadLog). members_of logs c.in_ok-readers_of.field-0.items) c.new.ensures.items
    ∙ members_unread c.in_ok-readers_of.field-0.items
    ∙ ap (map unread) c.in_ok-readers_of.ensures
    ∙ ap (λ (lineage : List Member). map unread (filter (λ member. not (eqb member.master c.args.own)) lineage)) c.as_slice.ensures.value in
    ap (λ (gathered : List Gathered). record (gather_begun c.args.range c.args.lineage.items c.args.own) { members = gathered }) members
