-- What follows a read that brought no more than there was room for: where reading goes on, what was read lies within the room, and less is left to read or to allow; and of
-- what the reader has left, the bytes that are counted went, and no others.
-- Assumes nothing.
use Rattle.input.specs.Reading.{Came, GoesOn, behind_read, is_interrupted}
use Rattle.std.proofs.Common.{Bool, Err, List, None, Ok, Option, Result, Some, [], arith, cond, eqb, false, length, refl, subst, sym, take, true, ℕ, ◌-◌, ◌<◌, ◌≡◌, ◌≤◌}
use Rattle.std.proofs.KnownBytes.{Consumes-kept, Consumes-nil}
use Rattle.std.specs.Io.KnownBytes.{Consumes, Keeps, ReadConsumes}
use Rattle.std.specs.IoError.{error_kind}
use Rattle.std.specs.Prelude.{IfOk}
use Rattle.std.specs.declared.io.Error.{Error}
use borrow.Author.Tests.{eqb-false, eqb-true}

pub follows : (room patience : ℕ) (one : Result ℕ Error) → 0 < room → IfOk one (λ n. n ≤ room) → GoesOn room patience (behind_read patience one)
unfolding behind_read
follows room patience (Ok count) some inside = by (eqb count 0) refl
  where
    by : (none : Bool) → eqb count 0 ≡ none → GoesOn room patience (cond none (Ok None) (Ok (Some (record { count = count; patience = patience }))))
    by true t = tt
    by false t = let more = eqb-false count 0 t in (inside, omega arith)
follows room patience (Err why) some inside = by (is_interrupted (error_kind why)) (eqb patience 0) refl
  where
    by : (signal none : Bool) → eqb patience 0 ≡ none
        → GoesOn room patience (cond signal (cond none (Err why) (Ok (Some (record { count = 0; patience = patience - 1 })))) (Err why))
    by true true t = tt
    by true false t = let more = eqb-false patience 0 t in (omega arith, omega arith)
    by false none t = tt

kept : (old new : Option (List ℕ)) → Consumes old new [] → Keeps old new
kept None new none = tt
kept (Some xs) None none = absurd none
kept (Some xs) (Some ys) none = sym none

pub came : (room : List ℕ) (patience : ℕ) (old new : Option (List ℕ)) (one : Result ℕ Error) → 0 < length room → ReadConsumes old new one room
    → Came old new (behind_read patience one) room
unfolding behind_read
came room patience old new (Ok count) some read = by (eqb count 0) refl
  where
    by : (none : Bool) → eqb count 0 ≡ none → Came old new (cond none (Ok None) (Ok (Some (record { count = count; patience = patience })))) room
    by true t = let zero = eqb-true count 0 t in (kept old new (subst (λ n. Consumes old new (take n room)) zero read.0), read.1 zero some)
    by false t = read.0
came room patience old new (Err why) some read = by (is_interrupted (error_kind why)) (eqb patience 0)
  where
    by : (signal none : Bool)
        → Came old new (cond signal (cond none (Err why) (Ok (Some (record { count = 0; patience = patience - 1 })))) (Err why)) room
    by true true = read
    by true false = Consumes-kept old old new _ (Consumes-nil old) read
    by false none = read
