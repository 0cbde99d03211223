-- The commands: which words follow the first, and what they say.
use Rattle.std.specs.Prelude.{ℕ, ◌==◌, ◌||◌, Bool, nat_le, List, [], ◌∷◌, length, codes, bytes_eq, Option, Some, None, Result, Ok, Err, if◌then◌else◌}
use Rattle.rk_types.specs.declared.call.Op.{Op}
use Rattle.rk_types.specs.declared.call.Op.TheVariants as op
use Rattle.rk_types.specs.declared.text.TextError.{TextError}
use Rattle.rk_types.specs.declared.text.TextError.TheVariants.{Length}
use Rattle.rk_types.specs.Text.{key_fault, value_fault}
use Rattle.rk_script.specs.declared.code.Code.{Code}
use Rattle.rk_script.specs.declared.code.Code.TheVariants.{BadByte, KeyLength, ValueLength, WordCount}
use Rattle.rk_script.specs.declared.command.Command.{Command}
use Rattle.rk_script.specs.declared.command.Command.TheVariants as command
use Rattle.rk_script.specs.declared.names.Keyword.{Keyword}
use Rattle.rk_script.specs.declared.names.Keyword.TheVariants.{Masters, Backups, Table, Client, Serve, Repeat, Migrate, Priority, Split, Turn, Deliver, Forget, Crash, Notice, Settle, Where, Dump, History}
use Rattle.rk_script.specs.declared.names.Operation.{Operation}
use Rattle.rk_script.specs.declared.names.Operation.TheVariants.{Get, Put, CondPut, Delete}
use Rattle.rk_script.specs.Numbers.{backups_of, client_of, hash_of, lane_of, master_of, masters_of, place_of, table_of, tablet_of, version_of}
use Rattle.rk_script.specs.Names.{keyword_of, operation_of, reach_of}

-- what is made of a reading; its code stays
abbrev pub made_of : {A B : Type 0} → (A → B) → Result A Code → Result B Code
made_of make (Ok a) = Ok (make a)
made_of make (Err code) = Err code

-- what is made of two readings, of which the code of the left one comes first
abbrev pub made_of_both : {A B C : Type 0} → (A → B → C) → Result A Code → Result B Code → Result C Code
made_of_both make (Ok a) b = made_of (make a) b
made_of_both make (Err code) b = Err code

-- a reading that another one leads to
abbrev pub after : {A B : Type 0} → Result A Code → (A → Result B Code) → Result B Code
after (Ok a) next = next a
after (Err code) next = Err code

-- what is said without a word, by one word, and by two words of which the left one is read first
abbrev pub none : {A : Type 0} → A → List (List ℕ) → Result A Code
none a [] = Ok a
none a (word ∷ words) = Err WordCount

abbrev pub one : {A : Type 0} → (List ℕ → Result A Code) → List (List ℕ) → Result A Code
one read (word ∷ []) = read word
one read words = Err WordCount

abbrev pub two : {A B : Type 0} → (List ℕ → Result A Code) → (List ℕ → Result B Code) → List (List ℕ) → Result (A × B) Code
two read_left read_right (left ∷ right ∷ []) = made_of_both (λ a b. (a, b)) (read_left left) (read_right right)
two read_left read_right words = Err WordCount

-- a command by its name and the words that follow it
abbrev pub plain_command : Keyword → List (List ℕ) → Result Command Code
plain_command Masters words = made_of command.Masters (one masters_of words)
plain_command Backups words = made_of command.Backups (one backups_of words)
plain_command Table words = made_of (λ p. command.Table p.0 p.1) (two table_of master_of words)
plain_command Client words = made_of command.Client (one client_of words)
plain_command Serve words = made_of command.Serve (one client_of words)
plain_command Repeat words = made_of command.Repeat (one client_of words)
plain_command Migrate words = made_of (λ p. command.Migrate p.0 p.1) (two tablet_of master_of words)
plain_command Priority words = made_of command.Priority (one tablet_of words)
plain_command Split words = made_of (λ p. command.Split p.0 p.1) (two tablet_of hash_of words)
plain_command Turn words = made_of command.Turn (one lane_of words)
plain_command Deliver words = made_of (λ p. command.Deliver p.0 p.1) (two lane_of place_of words)
plain_command Forget words = made_of (λ p. command.Forget p.0 p.1) (two lane_of place_of words)
plain_command Crash words = made_of command.Crash (one master_of words)
plain_command Notice words = made_of command.Notice (one master_of words)
plain_command Settle words = none command.Settle words
plain_command Where words = made_of command.Where (one tablet_of words)
plain_command Dump words = made_of command.Dump (one tablet_of words)
plain_command History words = none command.History words

-- `advance N REACH`: an unknown reach comes before a wrong count of words
abbrev pub advance_of : List (List ℕ) → Result Command Code
advance_of (tablet ∷ reach ∷ more) = after (reach_of reach) (λ r. made_of (λ n. command.Advance n r) (one tablet_of (tablet ∷ more)))
advance_of words = Err WordCount

-- the bytes of a text, or the code of what is wrong with them
abbrev pub text_of : Code → List ℕ → Option TextError → Result (List ℕ) Code
text_of code bytes None = Ok bytes
text_of code bytes (Some (Length count)) = Err code
text_of code bytes (Some fault) = Err BadByte

-- a key, and a value
abbrev pub key_of : List ℕ → Result (List ℕ) Code
key_of word = text_of KeyLength word (key_fault word)

abbrev pub value_of : List ℕ → Result (List ℕ) Code
value_of word = text_of ValueLength word (value_fault word)

-- the value that the words after a key end with, empty if none is given
abbrev pub last_value : List (List ℕ) → Result (List ℕ) Code
last_value [] = Ok []
last_value (word ∷ words) = value_of word

-- whether an operation takes so many words after the key
abbrev pub takes : Operation → ℕ → Bool
takes Get count = count == 0
takes Put count = nat_le count 1
takes CondPut count = count == 1 || count == 2
takes Delete count = count == 0

-- an operation with the words after the key
abbrev pub op_of : Operation → List (List ℕ) → Result Op Code
op_of Get words = Ok op.Get
op_of Put words = made_of op.Put (last_value words)
op_of CondPut [] = Err WordCount
op_of CondPut (version ∷ words) = made_of_both op.CondPut (version_of version) (last_value words)
op_of Delete words = Ok op.Delete

-- a call, its words read from the left
abbrev pub asked : Operation → List ℕ → List ℕ → List ℕ → List (List ℕ) → Result Command Code
asked operation client table key words =
    after (client_of client) (λ c. after (table_of table) (λ t. made_of_both (command.Call c t) (key_of key) (op_of operation words)))

-- the words of a call after its operation
abbrev pub call_with : Operation → List ℕ → List (List ℕ) → Result Command Code
call_with operation client (table ∷ key ∷ words) =
    if takes operation (length words) then asked operation client table key words else Err WordCount
call_with operation client words = Err WordCount

-- `call C get T K`, `call C put T K [V]`, `call C cput T K N [V]`, `call C del T K`: an unknown operation comes before a wrong word count
abbrev pub call_of : List (List ℕ) → Result Command Code
call_of (client ∷ operation ∷ words) = after (operation_of operation) (λ o. call_with o client words)
call_of words = Err WordCount

-- the command that a first word and those after it say
abbrev pub command_of : List ℕ → List (List ℕ) → Result Command Code
command_of name words =
    if bytes_eq name (codes "call") then call_of words
    else if bytes_eq name (codes "advance") then advance_of words
    else after (keyword_of name) (λ keyword. plain_command keyword words)
