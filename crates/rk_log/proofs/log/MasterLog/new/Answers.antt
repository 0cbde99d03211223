use Rattle.std.proofs.Common.{◌≡◌, ◌∙◌, length, sym}
use Rattle.rk_log.specs.Stored.{spelled_in}
use Rattle.rk_log.specs.Parts.{bytes_in, lengths_in, known_by}
use Rattle.rk_log.proofs.Views.{nothing_by}
use Rattle.rk_log.proofs.log.MasterLog.new.Goals as goal

pub returns : goal.returns
returns c =
    let count : length c.in_ok-vec.field-0.items ≡ c.args.backups = sym c.in_ok-vec.field-0.ok.0 ∙ c.in_ok-vec.ensures.len in
    λ i. record {
      entries = spelled_in (bytes_in (c.new-2.ensures.items i));
      sides = bytes_in (c.new-3.ensures.items i);
      known = ((λ j. known_by (count j) (lengths_in (c.new-2.ensures.items j)) (lengths_in (c.new-3.ensures.items j))) ∙ nothing_by c.args.backups) i;
    }
