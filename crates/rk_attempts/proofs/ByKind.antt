-- The kind of a message decides whether it has pulled records.
use Rattle.std.proofs.Common.{◌≡◌, Bool, refl}
use Rattle.rk_message.specs.declared.kind.Kind.{Kind}
use Rattle.rk_message.specs.declared.kind.Kind.TheVariants as kinds
use Rattle.rk_message.specs.declared.message.Body.{Body}
use Rattle.rk_message.specs.declared.message.Body.TheVariants as bodies
use Rattle.rk_message.specs.Kinds.{kind_of}
use Rattle.rk_attempts.specs.Wires.{is_pulled}
use Rattle.std.specs.Prelude.{true, false}

-- whether this is the kind of pulled records
abbrev pub is_of_records : Kind → Bool
is_of_records kinds.Pulled = true
is_of_records kind = false

pub records_by_kind : (body : Body) → is_pulled body ≡ is_of_records (kind_of body)
records_by_kind (bodies.Pulled _) = refl
records_by_kind _ = refl
