-- What the tests of commands say, if no code refuses one.
use Rattle.std.proofs.Common.{◌≡◌, ℕ, ◌≤◌, not, nat_le, Bool, true, false, Option, None, refl, subst, arith, leb-true}
use Rattle.rk_scripts.proofs.Words.{option_or, and_parts, not-false, Cluster, IsMaster, code_where, is_master, Code}
use Rattle.rk_cluster.specs.Looks.{master_count}
use Rattle.rk_scripts.proofs.play.Reaching.{IsReached, lane_good}

-- if no code applies, neither does this one nor those behind it
pub passes : (b : Bool) (code : Code) (others : Option Code) → option_or (code_where b code) others ≡ None → (b ≡ false) × (others ≡ None)
passes true code others none = absurd (cc none)
passes false code others none = (refl, none)

-- a master is there if it is not unknown
pub master_there : (masters backups : ℕ) (cluster : Cluster) (master : ℕ) → IsReached masters backups cluster → not (is_master cluster master) ≡ false → IsMaster masters master
master_there masters backups cluster master reached known =
    let parts = and_parts (nat_le 1 master) (nat_le master (master_count cluster)) (not-false (is_master cluster master) known) in
    let counted : master_count cluster ≡ masters = (lane_good masters backups cluster reached 0 (omega arith)).masters_are in
    record {
      first = leb-true 1 master parts.0;
      last = subst (λ (count : ℕ). master ≤ count) counted (leb-true master (master_count cluster) parts.1);
    }
