-- The names of commands, of the operations of a call, and of the reaches of a migration.
use Rattle.std.specs.Prelude.{ℕ, List, bytes_eq, codes, Result, Ok, Err, if◌then◌else◌}
use Rattle.rk_script.specs.declared.code.Code.{Code}
use Rattle.rk_script.specs.declared.code.Code.TheVariants.{UnknownName}
use Rattle.rk_types.specs.declared.reach.Reach.{Reach}
use Rattle.rk_types.specs.declared.reach.Reach.TheVariants.{Begun, Frozen, Granted, Pulled, Joined, Finished}
use Rattle.rk_script.specs.declared.names.Keyword.{Keyword}
use Rattle.rk_script.specs.declared.names.Keyword.TheVariants as keyword
use Rattle.rk_script.specs.declared.names.Operation.{Operation}
use Rattle.rk_script.specs.declared.names.Operation.TheVariants.{Get, Put, CondPut, Delete}

-- the command that a word names, but for `call` and `advance`, of which a later word names a part
abbrev pub keyword_of : List ℕ → Result Keyword Code
keyword_of word =
    if bytes_eq word (codes "masters") then Ok keyword.Masters
    else if bytes_eq word (codes "backups") then Ok keyword.Backups
    else if bytes_eq word (codes "table") then Ok keyword.Table
    else if bytes_eq word (codes "client") then Ok keyword.Client
    else if bytes_eq word (codes "serve") then Ok keyword.Serve
    else if bytes_eq word (codes "repeat") then Ok keyword.Repeat
    else if bytes_eq word (codes "migrate") then Ok keyword.Migrate
    else if bytes_eq word (codes "priority") then Ok keyword.Priority
    else if bytes_eq word (codes "split") then Ok keyword.Split
    else if bytes_eq word (codes "turn") then Ok keyword.Turn
    else if bytes_eq word (codes "deliver") then Ok keyword.Deliver
    else if bytes_eq word (codes "forget") then Ok keyword.Forget
    else if bytes_eq word (codes "crash") then Ok keyword.Crash
    else if bytes_eq word (codes "notice") then Ok keyword.Notice
    else if bytes_eq word (codes "settle") then Ok keyword.Settle
    else if bytes_eq word (codes "where") then Ok keyword.Where
    else if bytes_eq word (codes "dump") then Ok keyword.Dump
    else if bytes_eq word (codes "history") then Ok keyword.History
    else Err UnknownName

-- the operation of a call that a word names
abbrev pub operation_of : List ℕ → Result Operation Code
operation_of word =
    if bytes_eq word (codes "get") then Ok Get
    else if bytes_eq word (codes "put") then Ok Put
    else if bytes_eq word (codes "cput") then Ok CondPut
    else if bytes_eq word (codes "del") then Ok Delete
    else Err UnknownName

-- the reach that a word names
abbrev pub reach_of : List ℕ → Result Reach Code
reach_of word =
    if bytes_eq word (codes "begun") then Ok Begun
    else if bytes_eq word (codes "frozen") then Ok Frozen
    else if bytes_eq word (codes "granted") then Ok Granted
    else if bytes_eq word (codes "pulled") then Ok Pulled
    else if bytes_eq word (codes "joined") then Ok Joined
    else if bytes_eq word (codes "finished") then Ok Finished
    else Err UnknownName
