-- Commands that are read are lawful: a number is read when it is in its range, and what is made of readings keeps what holds of them.
use Rattle.std.proofs.Common.{◌≡◌, ℕ, ◌+◌, ◌<◌, ◌≤◌, cond, List, [], ◌∷◌, length, arith}
use Rattle.std.specs.Prelude.{◌-◌, ◌^◌, ◌==◌, All, IfOk, IfSome, bytes_eq, codes, nat_lt, slice_index, Option, Some, None, Result, Ok, Err}
use Rattle.std.specs.Int.{IsInRange}
use Rattle.std.specs.List.{list_any}
use Rattle.std.specs.Str.Lines.{lines}
use Rattle.std.proofs.lemmas.Bool.{cond_both, leb-true}
use Rattle.std.proofs.lemmas.List.Elements.{All-nil, All-weaker}
use Rattle.std.proofs.lemmas.Result.{IfOk-at_ok, IfOk-weaker}
use Rattle.rk_types.specs.declared.call.Op.TheVariants as op
use Rattle.rk_types.specs.declared.hashing.TheConstants.{LANES}
use Rattle.rk_types.specs.declared.text.TextError.{TextError}
use Rattle.rk_script.specs.declared.code.Code.{Code}
use Rattle.rk_script.specs.declared.code.Code.TheVariants.{BadByte, ScriptLength}
use Rattle.rk_script.specs.declared.command.Command.{Command}
use Rattle.rk_script.specs.declared.command.Command.TheVariants as command
use Rattle.rk_script.specs.declared.command.Numbered.{Numbered}
use Rattle.rk_script.specs.declared.line.TheConstants.{COMMENT}
use Rattle.rk_script.specs.declared.names.Keyword.{Keyword}
use Rattle.rk_script.specs.declared.names.Keyword.TheVariants.{Masters, Backups, Table, Client, Serve, Repeat, Migrate, Priority, Split, Turn, Deliver, Forget, Crash, Notice, Settle, Where, Dump, History}
use Rattle.rk_script.specs.declared.names.Operation.{Operation}
use Rattle.rk_script.specs.declared.numbers.TheConstants.{MOST_MASTERS, MOST_BACKUPS, MOST_TABLETS}
use Rattle.rk_script.specs.declared.script.ParseError.{ParseError}
use Rattle.rk_script.specs.declared.script.ParseError.TheVariants.{Refused}
use Rattle.rk_script.specs.declared.script.TheConstants.{LONGEST_SCRIPT}
use Rattle.rk_script.specs.Commands.{advance_of, after, asked, call_of, command_of, key_of, made_of, made_of_both, one, op_of, plain_command, text_of, two}
use Rattle.rk_script.specs.Lawful.{HasLawfulValue, IsLawful, IsLawfulCommand, IsMasterNumber, IsTabletNumber}
use Rattle.rk_script.specs.Lines.{is_bad, said_by, said_in, words_of}
use Rattle.rk_script.specs.Names.{keyword_of}
use Rattle.rk_script.specs.Numbers.{backups_of, client_of, hash_of, lane_of, master_of, number_in, place_of, table_of, tablet_of}
use Rattle.rk_script.specs.Script.{before_others, commands_from, script_of}
use Rattle.rk_script.proofs.Digits.{both_hold}

-- ---- what is made of readings keeps what holds of them

pub made_of-keeps : {A B : Type 0} (P : A → Type 0) (Q : B → Type 0) (make : A → B) (read : Result A Code) → ((a : A) → P a → Q (make a)) → IfOk read P → IfOk (made_of make read) Q
made_of-keeps P Q make (Ok a) keeps holds = keeps a holds
made_of-keeps P Q make (Err code) keeps holds = tt

pub made_of_both-keeps : {A B C : Type 0} (P : A → Type 0) (Q : B → Type 0) (R : C → Type 0) (make : A → B → C) (left : Result A Code) (right : Result B Code) → ((a : A) (b : B) → P a → Q b → R (make a b)) → IfOk left P → IfOk right Q → IfOk (made_of_both make left right) R
made_of_both-keeps P Q R make (Ok a) right keeps left_holds right_holds = made_of-keeps Q R (make a) right (λ b. keeps a b left_holds) right_holds
made_of_both-keeps P Q R make (Err code) right keeps left_holds right_holds = tt

pub after-keeps : {A B : Type 0} (P : A → Type 0) (Q : B → Type 0) (read : Result A Code) (next : A → Result B Code) → ((a : A) → P a → IfOk (next a) Q) → IfOk read P → IfOk (after read next) Q
after-keeps P Q (Ok a) next keeps holds = keeps a holds
after-keeps P Q (Err code) next keeps holds = tt

pub one-keeps : {A : Type 0} (P : A → Type 0) (read : List ℕ → Result A Code) → ((word : List ℕ) → IfOk (read word) P) → (words : List (List ℕ)) → IfOk (one read words) P
one-keeps P read holds words = grind arith

pub two-keeps : {A B : Type 0} (P : A → Type 0) (Q : B → Type 0) (read_left : List ℕ → Result A Code) (read_right : List ℕ → Result B Code) → ((word : List ℕ) → IfOk (read_left word) P) → ((word : List ℕ) → IfOk (read_right word) Q) → (words : List (List ℕ)) → IfOk (two read_left read_right words) (λ both. P both.0 × Q both.1)
two-keeps P Q read_left read_right left_holds right_holds words = grind (arith, made_of_both-keeps)

-- nothing is asked of what is read
pub free : {A E : Type 0} (read : Result A E) → IfOk read (λ a. Unit {0})
free (Ok a) = tt
free (Err e) = tt

-- ---- numbers

-- a number that is read is of its range
pub number_in-range : (least most : ℕ) (word : List ℕ) → IfOk (number_in least most word) (IsInRange least most)
number_in-range least most word = grind (arith, cond_both, both_hold, leb-true)

-- a number that is read is no less than the least
number_in-least : (least most : ℕ) (word : List ℕ) → IfOk (number_in least most word) (λ n. least ≤ n)
number_in-least least most word =
    IfOk-weaker (number_in least most word) (IsInRange least most) (λ n. least ≤ n) (λ n range. range.0) (number_in-range least most word)

-- a lane that is read is below their count
lane_of-below : (word : List ℕ) → IfOk (lane_of word) (λ lane. lane < LANES)
lane_of-below word =
    IfOk-weaker (lane_of word) (IsInRange 0 (LANES - 1)) (λ lane. lane < LANES) (λ lane range. omega arith) (number_in-range 0 (LANES - 1) word)

-- ---- plain commands

master_of-range : (word : List ℕ) → IfOk (master_of word) IsMasterNumber
master_of-range word = number_in-range 1 MOST_MASTERS word

tablet_of-range : (word : List ℕ) → IfOk (tablet_of word) IsTabletNumber
tablet_of-range word = number_in-range 1 MOST_TABLETS word

client_of-least : (word : List ℕ) → IfOk (client_of word) (λ client. 1 ≤ client)
client_of-least word = number_in-least 1 (2 ^ 32 - 1) word

table_of-least : (word : List ℕ) → IfOk (table_of word) (λ table. 1 ≤ table)
table_of-least word = number_in-least 1 (2 ^ 64 - 1) word

place_of-least : (word : List ℕ) → IfOk (place_of word) (λ place. 1 ≤ place)
place_of-least word = number_in-least 1 (2 ^ 32 - 1) word

-- a command of one number, and of two
of_one : (P : ℕ → Type 0) (make : ℕ → Command) (read : List ℕ → Result ℕ Code) → ((n : ℕ) → P n → IsLawfulCommand (make n)) → ((word : List ℕ) → IfOk (read word) P) → (words : List (List ℕ)) → IfOk (made_of make (one read words)) IsLawfulCommand
of_one P make read keeps holds words = made_of-keeps P IsLawfulCommand make (one read words) keeps (one-keeps P read holds words)

of_two : (P Q : ℕ → Type 0) (make : ℕ → ℕ → Command) (read_left read_right : List ℕ → Result ℕ Code) → ((a b : ℕ) → P a → Q b → IsLawfulCommand (make a b)) → ((word : List ℕ) → IfOk (read_left word) P) → ((word : List ℕ) → IfOk (read_right word) Q) → (words : List (List ℕ)) → IfOk (made_of (λ p. make p.0 p.1) (two read_left read_right words)) IsLawfulCommand
of_two P Q make read_left read_right keeps left_holds right_holds words = grind (arith, made_of-keeps, two-keeps)

-- a command is lawful, whatever its name and the words after it
plain_command-lawful : (keyword : Keyword) (words : List (List ℕ)) → IfOk (plain_command keyword words) IsLawfulCommand
plain_command-lawful Masters words = grind (arith, of_one, number_in-range)
plain_command-lawful Backups words = of_one (IsInRange 1 MOST_BACKUPS) command.Backups backups_of (λ n range. range) (number_in-range 1 MOST_BACKUPS) words
plain_command-lawful Table words = grind (arith, of_two, table_of-least, master_of-range)
plain_command-lawful Client words = of_one (λ client. 1 ≤ client) command.Client client_of (λ n range. range) client_of-least words
plain_command-lawful Serve words = of_one (λ client. 1 ≤ client) command.Serve client_of (λ n range. range) client_of-least words
plain_command-lawful Repeat words = of_one (λ client. 1 ≤ client) command.Repeat client_of (λ n range. range) client_of-least words
plain_command-lawful Migrate words = of_two IsTabletNumber IsMasterNumber command.Migrate tablet_of master_of (λ a b p q. (p, q)) tablet_of-range master_of-range words
plain_command-lawful Priority words = of_one IsTabletNumber command.Priority tablet_of (λ n range. range) tablet_of-range words
plain_command-lawful Split words = of_two IsTabletNumber (λ hash. Unit {0}) command.Split tablet_of hash_of (λ a b p q. p) tablet_of-range (λ word. free (hash_of word)) words
plain_command-lawful Turn words = of_one (λ lane. lane < LANES) command.Turn lane_of (λ n range. range) lane_of-below words
plain_command-lawful Deliver words = grind (arith, of_two, lane_of-below, place_of-least)
plain_command-lawful Forget words = grind (arith, of_two, lane_of-below, place_of-least)
plain_command-lawful Crash words = of_one IsMasterNumber command.Crash master_of (λ n range. range) master_of-range words
plain_command-lawful Notice words = of_one IsMasterNumber command.Notice master_of (λ n range. range) master_of-range words
plain_command-lawful Settle [] = tt
plain_command-lawful Settle (word ∷ words) = tt
plain_command-lawful Where words = of_one IsTabletNumber command.Where tablet_of (λ n range. range) tablet_of-range words
plain_command-lawful Dump words = of_one IsTabletNumber command.Dump tablet_of (λ n range. range) tablet_of-range words
plain_command-lawful History [] = tt
plain_command-lawful History (word ∷ words) = tt

-- so is a command that `advance` says
advance_of-lawful : (words : List (List ℕ)) → IfOk (advance_of words) IsLawfulCommand
advance_of-lawful [] = tt
advance_of-lawful (tablet ∷ []) = tt
advance_of-lawful (tablet ∷ reach ∷ more) = grind (arith, after-keeps, of_one, tablet_of-range, free)

-- ---- calls

-- bytes are read as a text if they have no fault
text_of-keeps : (P : List ℕ → Type 0) (code : Code) (bytes : List ℕ) (fault : Option TextError) → (fault ≡ None → P bytes) → IfOk (text_of code bytes fault) P
text_of-keeps P code bytes fault holds = grind arith

op_of-lawful : (operation : Operation) (words : List (List ℕ)) → IfOk (op_of operation words) HasLawfulValue
op_of-lawful operation words = grind (arith, made_of-keeps, made_of_both-keeps, free, text_of-keeps)

-- a call, if its client and its table are read
call-lawful : (operation : Operation) (c t : ℕ) (key : List ℕ) (words : List (List ℕ)) → 1 ≤ c → 1 ≤ t → IfOk (made_of_both (command.Call c t) (key_of key) (op_of operation words)) IsLawfulCommand
call-lawful operation c t key words client table = grind (arith, made_of_both-keeps, op_of-lawful, text_of-keeps)

asked-lawful : (operation : Operation) (client table key : List ℕ) (words : List (List ℕ)) → IfOk (asked operation client table key words) IsLawfulCommand
asked-lawful operation client table key words =
    after-keeps (λ c. 1 ≤ c) IsLawfulCommand (client_of client) (λ c. after (table_of table) (λ t. made_of_both (command.Call c t) (key_of key) (op_of operation words)))
    (λ c c_lawful.
    after-keeps (λ t. 1 ≤ t) IsLawfulCommand (table_of table) (λ t. made_of_both (command.Call c t) (key_of key) (op_of operation words))
    (λ t t_lawful. call-lawful operation c t key words c_lawful t_lawful) (table_of-least table))
    (client_of-least client)

call_of-lawful : (words : List (List ℕ)) → IfOk (call_of words) IsLawfulCommand
call_of-lawful words = grind (arith, after-keeps, free, cond_both, asked-lawful)

-- ---- lines and scripts

-- what each call has that is read, each advance and each plain command, each command has of a script that is read
module _ (P : Command → Type 0) (calls : (words : List (List ℕ)) → IfOk (call_of words) P) (advances : (words : List (List ℕ)) → IfOk (advance_of words) P)
    (plains : (keyword : Keyword) (words : List (List ℕ)) → IfOk (plain_command keyword words) P) where
  command_keeps : (name : List ℕ) (words : List (List ℕ)) → IfOk (command_of name words) P
  command_keeps name words =
      let Reads : Result Command Code → Type 0 = λ read. IfOk read P in
      let plain : Result Command Code = after (keyword_of name) (λ keyword. plain_command keyword words) in
      cond_both (bytes_eq name (codes "call")) (call_of words) (cond (bytes_eq name (codes "advance")) (advance_of words) plain) Reads
      (λ is_call. calls words)
      (λ other.
      cond_both (bytes_eq name (codes "advance")) (advance_of words) plain Reads
      (λ is_advance. advances words)
      (λ other. after-keeps (λ keyword. Unit {0}) P (keyword_of name) (λ keyword. plain_command keyword words)
      (λ keyword nothing. plains keyword words) (free (keyword_of name))))

  said_keeps : (line : List ℕ) (words : List (List ℕ)) → IfOk (said_in line words) (λ said. IfSome said P)
  said_keeps line [] = tt
  said_keeps line (name ∷ words) =
      let Says : Result (Option Command) Code → Type 0 = λ said. IfOk said (λ o. IfSome o P) in
      let says : Result (Option Command) Code = made_of Some (command_of name words) in
      cond_both (slice_index name 0 == COMMENT) (Ok None) (cond (list_any is_bad line) (Err BadByte) says) Says
      (λ comment. tt)
      (λ other.
      cond_both (list_any is_bad line) (Err BadByte) says Says
      (λ bad. tt)
      (λ good. made_of-keeps P (λ o. IfSome o P) Some (command_of name words) (λ command has. has) (command_keeps name words)))

  -- a command at a line; lines are counted from 1
  abbrev HasAt : Numbered → Type 0
  HasAt numbered = (1 ≤ numbered.line) × P numbered.command

  before_keeps : (line : ℕ) (said : Result (Option Command) Code) (others : Result (List Numbered) ParseError) → 1 ≤ line → IfOk said (λ o. IfSome o P) → IfOk others (All HasAt) → IfOk (before_others line said others) (All HasAt)
  before_keeps line said others first here rest = grind arith

  from_keeps : (line : ℕ) (texts : List (List ℕ)) → 1 ≤ line → IfOk (commands_from line texts) (All HasAt)
  from_keeps line [] first = All-nil HasAt
  from_keeps line (text ∷ texts) first =
      before_keeps line (said_by text) (commands_from (line + 1) texts) first (said_keeps text (words_of text)) (from_keeps (line + 1) texts (omega arith))

  pub script_keeps : (script : List ℕ) (commands : List Numbered) → script_of script ≡ Ok commands → All HasAt commands
  script_keeps script commands said =
      IfOk-at_ok (All HasAt) said
      (cond_both (nat_lt LONGEST_SCRIPT (length script)) (Err (Refused 0 ScriptLength)) (commands_from 1 (lines script)) (λ read. IfOk read (All HasAt))
      (λ long. tt) (λ short. from_keeps 1 (lines script) (omega arith)))

-- the commands of a script are lawful
pub script_of-lawful : (script : List ℕ) (commands : List Numbered) → script_of script ≡ Ok commands → All IsLawful commands
script_of-lawful script commands said =
    All-weaker (λ numbered. (1 ≤ numbered.line) × IsLawfulCommand numbered.command) IsLawful
    (λ numbered has. record { line = has.0; command = has.1 }) commands
    (script_keeps IsLawfulCommand call_of-lawful advance_of-lawful plain_command-lawful script commands said)
