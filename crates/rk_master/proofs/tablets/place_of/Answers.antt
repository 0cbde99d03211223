use Rattle.rk_types.proofs.Places.{is_found}
use Rattle.rk_master.proofs.tablets.place_of.Goals as goal

pub unwrap-requires : goal.unwrap-requires
unwrap-requires c = is_found c.args.tablets.now c.args.number c.search.result c.requires.there c.search.ensures.absent
