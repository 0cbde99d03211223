-- What contracts see of a source over a reader of std, and of a sink over a writer.
use Rattle.std.specs.Prelude.{ℕ}

-- the reader or the writer, and the count of faults
pub record Adapter (Device : Type 0) : Type 0 where
  pub device : Device
  pub faults : ℕ
