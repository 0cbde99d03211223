use Rattle.std.proofs.Common.{nat_le, length, ◌∙◌, ap}
use Rattle.std.specs.Option.{unwrap_or}
use Rattle.rk_tablet_map.proofs.Places.{place_found, place_within}
use Rattle.rk_tablet_map.proofs.tablet_map.place_of.Goals as goal

-- if no row has such a number, the place is the end
pub returns-clause-place : goal.returns-clause-place
returns-clause-place c =
    c.unwrap_or.ensures ∙ ap (λ o. unwrap_or o (length c.args.rows.now)) c.first_from.ensures ∙ place_found (λ row. nat_le c.args.tablet row.tablet) c.args.rows.now

pub returns-clause-within : goal.returns-clause-within
returns-clause-within c = rw (returns-clause-place c) (place_within (λ row. nat_le c.args.tablet row.tablet) c.args.rows.now)
