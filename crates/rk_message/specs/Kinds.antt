-- The kinds of messages: which one a body is of, and the byte that its frame begins with.
use Rattle.std.specs.Prelude.{ℕ, ◌==◌, Option}
use Rattle.std.specs.List.{find}
use Rattle.rk_message.specs.declared.message.Body.{Body}
use Rattle.rk_message.specs.declared.message.Body.TheVariants as bodies
use Rattle.rk_message.specs.declared.kind.Kind.{Kind}
use Rattle.rk_message.specs.declared.kind.Kind.TheVariants.{Request, Reply, Lookup, Located, Append, Stored, Prepare, Ready, Close, Transfer, Grant, Pull, Pulled, Want, Got, Joined, Own, Release, Rebuild, Read, Copy, Rebuilt}
use Rattle.rk_message.specs.declared.kind.TheConstants.{KINDS}

-- the kind of a message with this body
abbrev pub kind_of : Body → Kind
kind_of (bodies.Request _) = Request
kind_of (bodies.Reply _) = Reply
kind_of (bodies.Lookup _) = Lookup
kind_of (bodies.Located _) = Located
kind_of (bodies.Append _) = Append
kind_of (bodies.Stored _) = Stored
kind_of (bodies.Prepare _) = Prepare
kind_of (bodies.Ready _) = Ready
kind_of (bodies.Close _) = Close
kind_of (bodies.Transfer _) = Transfer
kind_of (bodies.Grant _) = Grant
kind_of (bodies.Pull _) = Pull
kind_of (bodies.Pulled _) = Pulled
kind_of (bodies.Want _) = Want
kind_of (bodies.Got _) = Got
kind_of (bodies.Joined _) = Joined
kind_of (bodies.Own _) = Own
kind_of (bodies.Release _) = Release
kind_of (bodies.Rebuild _) = Rebuild
kind_of (bodies.Read _) = Read
kind_of (bodies.Copy _) = Copy
kind_of (bodies.Rebuilt _) = Rebuilt

-- the first byte of the frames of this kind
abbrev pub kind_number : Kind → ℕ
kind_number Request = 1
kind_number Reply = 2
kind_number Lookup = 3
kind_number Located = 4
kind_number Append = 5
kind_number Stored = 6
kind_number Prepare = 7
kind_number Ready = 8
kind_number Close = 9
kind_number Transfer = 10
kind_number Grant = 11
kind_number Pull = 12
kind_number Pulled = 13
kind_number Want = 14
kind_number Got = 15
kind_number Joined = 16
kind_number Own = 17
kind_number Release = 18
kind_number Rebuild = 19
kind_number Read = 20
kind_number Copy = 21
kind_number Rebuilt = 22

-- the kind with this number
abbrev pub kind_numbered : ℕ → Option Kind
kind_numbered number = find (λ kind. kind_number kind == number) KINDS
