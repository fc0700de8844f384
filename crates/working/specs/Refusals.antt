-- Document 01, "Reasons by who causes them": the numbers, and a list of tests that is scanned for the first that holds.
use Rattle.std.specs.Prelude.{Bool, Err, List, Ok, Result, [], false, true, ℕ, ◌∷◌}
use Rattle.working.specs.declared.Refusal.TheVariants.{AlreadyInForce, BeforeClock, BufferTooShort, EndsInside, FormsUsed, GrantNotAllowed, GuestHere, HoldsLineClear}
use Rattle.working.specs.declared.Refusal.TheVariants.{IllMade, IntervalRunning, MayNotEnter, MayNotMeet, NoGuest, NoLineClear, NoPosition, NotInForce, NotNearest}
use Rattle.working.specs.declared.Refusal.TheVariants.{OpenerAway, OutOfRange, OwesLineClear, ShelfFull, TwelveSent, UnknownKind, UnknownName, VehiclePresent, WrongMap}
use Rattle.working.specs.declared.Refusal.{Refusal}

-- document 01's number of each refusal, and T-06's
abbrev pub number_of : Refusal → ℕ
-- whoever writes the log
number_of EndsInside = 1
number_of UnknownKind = 2
number_of WrongMap = 3
number_of OutOfRange = 4
-- whoever lends memory
number_of IllMade = 5
number_of BufferTooShort = 23
-- whoever declares
number_of AlreadyInForce = 6
number_of NotInForce = 7
number_of VehiclePresent = 8
-- the station master
number_of BeforeClock = 9
number_of OpenerAway = 10
number_of HoldsLineClear = 11
number_of OwesLineClear = 12
number_of GuestHere = 13
number_of NoGuest = 14
number_of NoLineClear = 15
number_of GrantNotAllowed = 16
number_of TwelveSent = 17
number_of FormsUsed = 18
number_of IntervalRunning = 19
-- those on the line
number_of NotNearest = 20
number_of MayNotEnter = 21
number_of MayNotMeet = 22
-- T-06: whoever keeps positions
number_of UnknownName = 24
number_of ShelfFull = 25
number_of NoPosition = 26

-- the number of the refusal that something came to, and 0 where it came to none: of a call, of the writer and of an entry's answer
abbrev pub refusal_in : {T : Type 0} → Result T Refusal → ℕ
refusal_in (Ok _) = 0
refusal_in (Err why) = number_of why

-- a test, and the refusal where it holds
abbrev pub Test : Type 0
Test = Bool × Refusal

-- what a list of tests comes to: allowed, or the refusal
abbrev pub Verdict : Type 0
Verdict = Result (Unit {0}) Refusal

-- the refusal where its test holds, else what the later tests come to
abbrev pub or_else : Bool → Refusal → Verdict → Verdict
or_else true why later = Err why
or_else false why later = later

-- the first test that holds says why; where none does, the entry is allowed
abbrev pub first_of : List Test → Verdict
first_of [] = Ok tt
first_of (t ∷ later) = or_else t.0 t.1 (first_of later)
