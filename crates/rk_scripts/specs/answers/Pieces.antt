-- The pieces that a script's text is made of.
use Rattle.std.specs.Prelude.{◌≡◌, ◌⊎◌, ℕ, Bool, true, false, if◌then◌else◌, List, [], ◌∷◌, ◌++◌, map, Option, None, Some, Result, Ok, Err, ⊤}
use Rattle.std.specs.List.{flat_map}
use Rattle.rk_types.specs.declared.node.Said.{Said}
use Rattle.rk_types.specs.declared.status.Status.TheVariants.{Done, Refused}
use Rattle.rk_lines.specs.Lines.{refused_line, said_lines}
use Rattle.rk_world.specs.Cluster.{Cluster, Occurrence, cluster_run, new_cluster}
use Rattle.rk_script.specs.Script.{script_of}
use Rattle.rk_script.specs.declared.command.Command.{Command}
use Rattle.rk_script.specs.declared.command.Command.TheVariants as commands
use Rattle.rk_script.specs.declared.command.Numbered.{Numbered}
use Rattle.rk_script.specs.declared.script.ParseError.{ParseError}
use Rattle.rk_play.specs.Played.{Played, first_commands}
use Rattle.rk_play.specs.Shows.{dump_text, history_text, where_text}
use Rattle.rk_scripts.specs.answers.Said.{replies_to, said_along, told_to}

-- a piece of text: what clients said at a command, what a command shows, or the refusal of a line
pub data Piece : Type 0 where
  Says : (said : List Said) → Piece
  Where : (cluster : Cluster) (tablet : ℕ) → Piece
  Dump : (cluster : Cluster) (tablet : ℕ) → Piece
  History : (cluster : Cluster) → Piece
  Refusal : (line code : ℕ) → Piece

-- the lines of a piece
abbrev pub piece_text : Piece → List ℕ
piece_text (Says said) = said_lines said
piece_text (Where cluster tablet) = where_text cluster tablet
piece_text (Dump cluster tablet) = dump_text cluster tablet
piece_text (History cluster) = history_text cluster
piece_text (Refusal line code) = refused_line line code

-- what clients said in a piece
abbrev pub piece_said : Piece → List Said
piece_said (Says said) = said
piece_said piece = []

-- what clients said in all pieces
abbrev pub pieces_said : List Piece → List Said
pieces_said pieces = flat_map piece_said pieces

-- ---- the pieces of commands

-- what a command writes, at a cluster that it comes to and with these occurrences: `where`, `dump` and `history` show that cluster, and
-- nothing occurs; any other command writes what clients say along the occurrences
abbrev pub IsPieceOf : Command → Cluster → List Occurrence → Piece → Type 0
IsPieceOf (commands.Where tablet) cluster occurred piece = (piece ≡ Where cluster tablet) × (occurred ≡ [])
IsPieceOf (commands.Dump tablet) cluster occurred piece = (piece ≡ Dump cluster tablet) × (occurred ≡ [])
IsPieceOf commands.History cluster occurred piece = (piece ≡ History cluster) × (occurred ≡ [])
IsPieceOf command cluster occurred piece = piece ≡ Says (said_along cluster occurred)

-- a piece is that of the first of some commands, with the first of what occurred; the others go on in the cluster that those made
pub record IsNextOf (piece : Piece) (left : List Numbered) (cluster : Cluster) (occurred : List Occurrence)
    (Follows : List Numbered → Cluster → List Occurrence → Type 0) : Type 0 where
  pub first : Numbered
  pub others : List Numbered
  pub commands_are : left ≡ first ∷ others
  pub here : List Occurrence
  pub later : List Occurrence
  pub occurred_is : occurred ≡ here ++ later
  pub of : IsPieceOf first.command cluster here piece
  pub goes_on : Follows others (cluster_run cluster here) later

-- a piece is the refusal of a line, and the last one
pub record IsLast (piece : Piece) (others : List Piece) : Type 0 where
  pub line : ℕ
  pub code : ℕ
  pub is : piece ≡ Refusal line code
  pub none_behind : others ≡ []

-- pieces are those of commands one after the other, from a cluster on, along what occurred; a refusal may end them
abbrev pub AreInOrder : List Piece → List Numbered → Cluster → List Occurrence → Type 0
AreInOrder [] left cluster occurred = ⊤
AreInOrder (piece ∷ pieces) left cluster occurred =
    IsLast piece pieces ⊎ IsNextOf piece left cluster occurred (λ others next later. AreInOrder pieces others next later)

-- whether a command sets how many masters or backups there are
abbrev pub is_setting : Command → Bool
is_setting (commands.Masters masters) = true
is_setting (commands.Backups backups) = true
is_setting command = false

-- the commands that act: those behind the settings at the beginning
abbrev pub acting : List Numbered → List Numbered
acting [] = []
acting (first ∷ others) = if is_setting first.command then acting others else first ∷ others

-- those of a script, or of a refusal before anything runs
abbrev pub acting_of : Result (List Numbered) ParseError → List Numbered
acting_of (Ok all) = acting all
acting_of (Err fault) = []

-- those of a script, or of its first commands
abbrev pub acting_in : Option ℕ → List ℕ → List Numbered
acting_in (Some count) script = acting_of (first_commands count (script_of script))
acting_in None script = acting_of (script_of script)

-- ---- all pieces

-- the text of a script played is that of some pieces, those of its commands one after the other, each at the cluster that the command came
-- to; and the replies in them are the receipts that clients have at the end, each client's in their order: all if the run is done or
-- refused, and else a first part
pub record AreAnswers (left : List Numbered) (played : Played) : Type 0 where
  pub pieces : List Piece
  pub masters : ℕ
  pub backups : ℕ
  pub cluster_is : played.cluster ≡ cluster_run (new_cluster masters backups) played.occurred
  pub in_order : AreInOrder pieces left (new_cluster masters backups) played.occurred
  pub text : played.pieces ≡ map piece_text pieces
  pub silent : ℕ → List Said
  pub receipts : (client : ℕ) → told_to played.cluster client ≡ replies_to client (pieces_said pieces) ++ silent client
  pub all : (played.status ≡ Done) ⊎ (played.status ≡ Refused) → (client : ℕ) → silent client ≡ []
