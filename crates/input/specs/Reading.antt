-- What a read comes to, and what follows it.
use Rattle.input.specs.declared.reading.Onward.{Onward}
use Rattle.listing.specs.LineText.{longest_log}
use Rattle.std.specs.Io.KnownBytes.{Consumes, IsAtEnd, Keeps}
use Rattle.std.specs.IoError.{error_kind}
use Rattle.std.specs.Prelude.{Bool, Err, IfOk, List, None, Ok, Option, Result, Some, cond, eqb, false, length, take, true, ℕ, ◌+◌, ◌-◌, ◌<◌, ◌≤◌}
use Rattle.std.specs.declared.io.Error.{Error}
use Rattle.std.specs.declared.io.ErrorKind.TheVariants.{Interrupted}
use Rattle.std.specs.declared.io.ErrorKind.{ErrorKind}

-- "the lister takes at most 65,536 bytes": a byte more tells a longer log
abbrev pub most_read : ℕ
most_read = longest_log + 1

-- a signal came first
abbrev pub is_interrupted : ErrorKind → Bool
is_interrupted Interrupted = true
is_interrupted _ = false

-- what follows a read, where so many interrupted reads are still allowed
unfoldable pub behind_read : ℕ → Result ℕ Error → Result (Option Onward) Error
behind_read patience (Ok count) = cond (eqb count 0) (Ok None) (Ok (Some (record { count = count; patience = patience })))
behind_read patience (Err why) =
    cond (is_interrupted (error_kind why)) (cond (eqb patience 0) (Err why) (Ok (Some (record { count = 0; patience = patience - 1 })))) (Err why)

-- behind a read into so much room: no more bytes came than there was room for, and where reading goes on, less is left to read or to allow
abbrev pub GoesOn : ℕ → ℕ → Result (Option Onward) Error → Type 0
GoesOn room patience (Ok (Some on)) = (on.count ≤ room) × ((room - on.count) + on.patience < room + patience)
GoesOn room patience (Ok None) = Unit {0}
GoesOn room patience (Err why) = Unit {0}

-- a log has no more bytes than there is room for
abbrev pub FitsRoom : Result ℕ Error → ℕ → Type 0
FitsRoom read room = IfOk read (λ len. len ≤ room)

-- Behind a read into a room, by what the reader has left before and behind it, where that is known: where reading goes on, the bytes counted are those that came next, and lie
-- at the front of the room; where it has ended, no more are to come; and behind an error none is lost.
abbrev pub Came : Option (List ℕ) → Option (List ℕ) → Result (Option Onward) Error → List ℕ → Type 0
Came old new (Ok (Some on)) room = Consumes old new (take on.count room)
Came old new (Ok None) room = Keeps old new × IsAtEnd new
Came old new (Err why) room = Keeps old new

-- A room is filled, by what the reader has left before and behind it, where that is known: the front of the room is the bytes that came next, so many as is answered, and the
-- room is not full only where no more are to come. Behind an error it is not full, and its front is the bytes that came before.
abbrev pub Fills : Option (List ℕ) → Option (List ℕ) → Result ℕ Error → List ℕ → Type 0
Fills old new (Ok count) room = (count ≤ length room) × Consumes old new (take count room) × (count < length room → IsAtEnd new)
Fills old new (Err why) room = (count : ℕ) × (count < length room) × Consumes old new (take count room)
