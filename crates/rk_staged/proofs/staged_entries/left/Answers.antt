use Rattle.rk_staged.proofs.Words.{◌<◌, arith, items_of}
use Rattle.rk_staged.proofs.Keeping.{kept_none, kept_newer, is_named}
use Rattle.rk_staged.proofs.staged_entries.left.Goals as goal

pub returns-then-old-le1 : goal.returns-then-old-le1
returns-then-old-le1 c = λ item its_table its_key its_version is.
    kept_none item (items_of c.args.rest.now.items) c.args.name.now.0 c.args.name.now.1 c.args.old (is_named c.args.name.now.0 c.args.name.now.1 item its_table its_key) is c.if-old-le1.true

pub returns-then-version-old : goal.returns-then-version-old
returns-then-version-old c = λ item its_table its_key its_version is.
    let newer : item.version < c.args.old.version = omega (arith, its_version, c.if-version-old.true) in
    kept_newer item (items_of c.args.rest.now.items) c.args.name.now.0 c.args.name.now.1 c.args.old (is_named c.args.name.now.0 c.args.name.now.1 item its_table its_key) is newer
