-- Commands that are read name numbers of their widths: a client has 32 bits, a table and a version 64.
use Rattle.std.proofs.Common.{arith, ◌≡◌, ℕ, ◌≤◌, List, []}
use Rattle.std.specs.Prelude.{◌-◌, ◌^◌, All, IfOk, Result, Ok}
use Rattle.std.specs.Int.{IsInRange}
use Rattle.std.proofs.lemmas.Bool.{cond_both}
use Rattle.std.proofs.lemmas.List.Elements.{All-weaker}
use Rattle.std.proofs.lemmas.Result.{IfOk-weaker}
use Rattle.rk_types.specs.declared.call.Op.{Op}
use Rattle.rk_types.specs.declared.call.Op.TheVariants as op
use Rattle.rk_script.specs.declared.code.Code.{Code}
use Rattle.rk_script.specs.declared.command.Command.{Command}
use Rattle.rk_script.specs.declared.command.Command.TheVariants as command
use Rattle.rk_script.specs.declared.command.Numbered.{Numbered}
use Rattle.rk_script.specs.declared.names.Keyword.{Keyword}
use Rattle.rk_script.specs.declared.names.Keyword.TheVariants.{Table, Client}
use Rattle.rk_script.specs.declared.names.Operation.{Operation}
use Rattle.rk_script.specs.declared.names.Operation.TheVariants.{CondPut}
use Rattle.rk_script.specs.Commands.{advance_of, after, asked, call_of, key_of, made_of, made_of_both, op_of, plain_command}
use Rattle.rk_script.specs.Numbers.{client_of, number_in, table_of}
use Rattle.rk_script.specs.Script.{script_of}
use Rattle.rk_script.proofs.LawfulLemmas.{after-keeps, free, made_of-keeps, made_of_both-keeps, number_in-range, one-keeps, script_keeps, two-keeps}

-- the version that an operation expects, if it expects one, has 64 bits
abbrev pub HasVersion : Op → Type 0
HasVersion (op.CondPut version value) = version ≤ 2 ^ 64 - 1
HasVersion operation = Unit {0}

-- the client, the table and the version that a command makes or asks with have their widths
abbrev pub HasWidths : Command → Type 0
HasWidths (command.Table table master) = table ≤ 2 ^ 64 - 1
HasWidths (command.Client client) = client ≤ 2 ^ 32 - 1
HasWidths (command.Call client table key operation) = (client ≤ 2 ^ 32 - 1) × (table ≤ 2 ^ 64 - 1) × HasVersion operation
HasWidths other = Unit {0}

-- a number that is read is no greater than the most
number_in-most : (least most : ℕ) (word : List ℕ) → IfOk (number_in least most word) (λ n. n ≤ most)
number_in-most least most word =
    IfOk-weaker (number_in least most word) (IsInRange least most) (λ n. n ≤ most) (λ n range. range.1) (number_in-range least most word)

client_of-most : (word : List ℕ) → IfOk (client_of word) (λ client. client ≤ 2 ^ 32 - 1)
client_of-most word = number_in-most 1 (2 ^ 32 - 1) word

table_of-most : (word : List ℕ) → IfOk (table_of word) (λ table. table ≤ 2 ^ 64 - 1)
table_of-most word = number_in-most 1 (2 ^ 64 - 1) word

-- ---- plain commands

-- a command of which nothing is asked
made_free : {A : Type 0} (make : A → Command) (read : Result A Code) → ((a : A) → HasWidths (make a)) → IfOk (made_of make read) HasWidths
made_free make read has = made_of-keeps (λ a. Unit {0}) HasWidths make read (λ a nothing. has a) (free read)

plain_command-widths : (keyword : Keyword) (words : List (List ℕ)) → IfOk (plain_command keyword words) HasWidths
plain_command-widths keyword words = grind (arith, made_free, made_of-keeps, two-keeps, table_of-most, free, one-keeps, client_of-most)

advance_of-widths : (words : List (List ℕ)) → IfOk (advance_of words) HasWidths
advance_of-widths words = grind (arith, after-keeps, made_free, free)

-- ---- calls

call-widths : (operation : Operation) (c t : ℕ) (key : List ℕ) (words : List (List ℕ)) → c ≤ 2 ^ 32 - 1 → t ≤ 2 ^ 64 - 1
    → IfOk (made_of_both (command.Call c t) (key_of key) (op_of operation words)) HasWidths
call-widths operation c t key words client table = grind (arith, made_of_both-keeps, free, made_of-keeps, number_in-most)

asked-widths : (operation : Operation) (client table key : List ℕ) (words : List (List ℕ)) → IfOk (asked operation client table key words) HasWidths
asked-widths operation client table key words =
    after-keeps (λ c. c ≤ 2 ^ 32 - 1) HasWidths (client_of client) (λ c. after (table_of table) (λ t. made_of_both (command.Call c t) (key_of key) (op_of operation words)))
    (λ c c_most.
    after-keeps (λ t. t ≤ 2 ^ 64 - 1) HasWidths (table_of table) (λ t. made_of_both (command.Call c t) (key_of key) (op_of operation words))
    (λ t t_most. call-widths operation c t key words c_most t_most) (table_of-most table))
    (client_of-most client)

call_of-widths : (words : List (List ℕ)) → IfOk (call_of words) HasWidths
call_of-widths words = grind (arith, after-keeps, free, cond_both, asked-widths)

-- ---- scripts

-- a command at a line has its widths
abbrev pub HasWidthsAt : Numbered → Type 0
HasWidthsAt numbered = HasWidths numbered.command

-- the commands of a script do
pub script_of-widths : (script : List ℕ) (commands : List Numbered) → script_of script ≡ Ok commands → All HasWidthsAt commands
script_of-widths script commands said =
    All-weaker (λ numbered. (1 ≤ numbered.line) × HasWidthsAt numbered) HasWidthsAt (λ numbered has. has.1) commands
    (script_keeps HasWidths call_of-widths advance_of-widths plain_command-widths script commands said)
