use Rattle.std.proofs.Common.{◌∙◌}
use Rattle.rk_rebuild.proofs.Versions.{version_of}
use Rattle.rk_rebuild.proofs.copies.has_version.Goals as goal

pub returns : goal.returns
returns c = λ own were. c.contains.ensures ∙ were (version_of c.args.item.now)
