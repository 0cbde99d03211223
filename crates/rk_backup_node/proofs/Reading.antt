-- A Read is answered by what the call of the replica came to.
use Rattle.std.proofs.Common.{◌≡◌, ℕ, List, [], ◌∷◌, Option, Some, None, Err, Ok, false, refl, sym}
use Rattle.std.specs.Prelude.{IfSome}
use Rattle.rk_types.specs.declared.node.Node.TheVariants as nodes
use Rattle.rk_outside.specs.declared.replica.Lost.{Lost}
use Rattle.rk_outside.specs.declared.replica.Lost.TheVariants.{Failed as failed, NoMemory}
use Rattle.rk_outside.specs.Segments.{Segments}
use Rattle.rk_message.specs.declared.message.Message.{Message}
use Rattle.rk_message.specs.declared.message.Body.TheVariants as bodies
use Rattle.rk_message.specs.declared.rebuilding.ReadSegment.{ReadSegment}
use Rattle.rk_world.specs.Backup.{Failed, Gave, copied}
use Rattle.rk_backup_node.specs.Called.{IsCopied, IsReadOf}

-- what is reported of a failed call
told_failed : (told : Option Segments) (read : ReadSegment) → IfSome told (λ segments. IsReadOf segments read (Failed 0))
told_failed None read = tt
told_failed (Some segments) read = refl

module _ (number reader : ℕ) (read : ReadSegment) (log : List ℕ) (told : Option Segments) where
  -- a read that failed
  pub failed_read : (lost : Lost) → IsCopied number reader read log told (Err lost)
  failed_read failed = record { called = Failed 0; backed = refl; given = told_failed told read }
  failed_read NoMemory = record { called = Failed 0; backed = tt; given = told_failed told read }

  -- what is reported of a read that gave bytes
  given_told : (told : Option Segments) (bytes : Option (List ℕ)) → IfSome told (λ segments. bytes ≡ segments read.master read.segment) → IfSome told (λ segments. IsReadOf segments read (Gave bytes))
  given_told None bytes is = tt
  given_told (Some segments) bytes is = is

  -- the message that answers
  abbrev pub answer : ℕ → Option (List ℕ) → Message
  answer from copy = record {
    from = nodes.Backup from;
    to = nodes.Master reader;
    body = bodies.Copy (record { tenure = read.tenure; master = read.master; segment = read.segment; bytes = copy });
  }

  -- a read that gave bytes
  pub given_read : (bytes : Option (List ℕ)) (from : ℕ) (copy : Option (List ℕ)) → from ≡ number → copy ≡ copied bytes log → IfSome told (λ segments. bytes ≡ segments read.master read.segment) → IsCopied number reader read log told (Ok (answer from copy))
  given_read bytes from copy from_is copy_is is = record {
    called = Gave bytes;
    backed = λ i. record { sends = answer (sym from_is i) (sym copy_is i) ∷ []; lost = false };
    given = given_told told bytes is;
  }
