-- Short logs of the second program's generator, and the answers that its lister gave, by computation on the definitions.
-- Written by scripts/stored-logs; never by hand. Assumes nothing.
use Prim.Native.Nat.{ℕ}
use Rattle.std.specs.Prelude.{Err}
use Rattle.working.proofs.examples.Computing.{turns_compute}
use Rattle.working.specs.Answers.{accept}
use Rattle.working.specs.Sections.{fresh}
use Rattle.working.specs.Turns.{answers_in, single, turns_of}
use Rattle.working.specs.declared.Refusal.TheVariants.{AlreadyInForce, BeforeClock, EndsInside, GrantNotAllowed, GuestHere, HoldsLineClear, IntervalRunning, MayNotEnter, MayNotMeet, NoGuest}
use Rattle.working.specs.declared.Refusal.TheVariants.{NoLineClear, NotInForce, NotNearest, OpenerAway, OutOfRange, OwesLineClear, UnknownKind, VehiclePresent, WrongMap}
use Rattle.working.specs.declared.Speed.TheVariants.{Booked, Both, Kmh, NoSpeed, Walking}
use mathlib.Core.List.{List, [], ◌∷◌}
use mathlib.Core.Path.{refl, ◌≡◌}

abbrev log_0 : List ℕ
log_0 =
    1 ∷ 1 ∷ 63 ∷ 2 ∷ 1 ∷ 0 ∷ 2 ∷ 3 ∷ 5 ∷ 8 ∷ 31 ∷ 3 ∷ 2 ∷ 0 ∷ 0 ∷ 2 ∷ 1 ∷ 135 ∷ 6 ∷ 2 ∷ 0 ∷ 0 ∷ 2 ∷ 0
    ∷ 1 ∷ 31 ∷ 3 ∷ 2 ∷ 0 ∷ 0 ∷ 1 ∷ 1 ∷ 135 ∷ 6 ∷ 2 ∷ 0 ∷ 8 ∷ 2 ∷ 0 ∷ 1 ∷ 3 ∷ 60 ∷ 74 ∷ 135 ∷ 6 ∷ 1 ∷ 0 ∷ 1
    ∷ 1 ∷ 0 ∷ 1 ∷ 135 ∷ 6 ∷ 2 ∷ 0 ∷ 7 ∷ 2 ∷ 0 ∷ 2 ∷ 135 ∷ 6 ∷ 2 ∷ 0 ∷ 14 ∷ 1 ∷ 0 ∷ 1 ∷ 111 ∷ 9 ∷ 2 ∷ 0 ∷ 14
    ∷ 2 ∷ 3 ∷ 3 ∷ 103 ∷ 4 ∷ 2 ∷ 0 ∷ 17 ∷ 8 ∷ 8 ∷ 135 ∷ 6 ∷ 1 ∷ 0 ∷ 2 ∷ 2 ∷ 0 ∷ 3 ∷ 79 ∷ 9 ∷ 1 ∷ 0 ∷ 7 ∷ 2
    ∷ 8 ∷ 135 ∷ 6 ∷ 2 ∷ 0 ∷ 24 ∷ 1 ∷ 0 ∷ 2 ∷ 111 ∷ 9 ∷ 2 ∷ 0 ∷ 24 ∷ 3 ∷ 6 ∷ 1 ∷ 47 ∷ 5 ∷ 2 ∷ 0 ∷ 24 ∷ 2 ∷ 7
    ∷ 31 ∷ 3 ∷ 2 ∷ 0 ∷ 54 ∷ 3 ∷ 1 ∷ 15 ∷ 9 ∷ 2 ∷ 0 ∷ 23 ∷ 3 ∷ 47 ∷ 9 ∷ 2 ∷ 0 ∷ 54 ∷ 2 ∷ 8 ∷ 135 ∷ 6 ∷ 1 ∷ 0
    ∷ 12 ∷ 2 ∷ 0 ∷ 4 ∷ 31 ∷ 3 ∷ 2 ∷ 0 ∷ 84 ∷ 1 ∷ 1 ∷ 39 ∷ 4 ∷ 2 ∷ 0 ∷ 114 ∷ 6 ∷ 63 ∷ 2 ∷ 2 ∷ 0 ∷ 114 ∷ 3 ∷ 4
    ∷ 2 ∷ 135 ∷ 6 ∷ 2 ∷ 0 ∷ 114 ∷ 2 ∷ 0 ∷ 7 ∷ 63 ∷ 2 ∷ 2 ∷ 0 ∷ 120 ∷ 2 ∷ 2 ∷ 8
    ∷ []

answers_0 : answers_in (turns_of single fresh log_0) ≡
    accept 0 0 NoSpeed ∷ accept 1 7 Walking ∷ accept 1 1 (Kmh 10) ∷ accept 0 0 NoSpeed ∷ accept 2 1 (Kmh 15)
    ∷ Err NotNearest ∷ Err UnknownKind ∷ Err BeforeClock ∷ accept 0 0 NoSpeed ∷ accept 0 0 NoSpeed
    ∷ Err NoLineClear ∷ accept 3 182 Booked ∷ accept 0 0 NoSpeed ∷ accept 2 172 Booked ∷ accept 0 0 NoSpeed
    ∷ Err GrantNotAllowed ∷ accept 4 178 Booked ∷ Err HoldsLineClear ∷ Err BeforeClock ∷ accept 5 114 (Both 10 10)
    ∷ accept 0 0 NoSpeed ∷ accept 6 1 (Kmh 15) ∷ Err NoGuest ∷ accept 7 7 Walking ∷ accept 0 0 NoSpeed
    ∷ accept 8 7 (Kmh 10)
    ∷ []
unfolding turns_compute
answers_0 = refl

abbrev log_2 : List ℕ
log_2 =
    1 ∷ 1 ∷ 31 ∷ 3 ∷ 1 ∷ 0 ∷ 4 ∷ 3 ∷ 1 ∷ 63 ∷ 2 ∷ 1 ∷ 0 ∷ 43 ∷ 2 ∷ 5 ∷ 4 ∷ 31 ∷ 3 ∷ 2 ∷ 0 ∷ 0 ∷ 2 ∷ 1
    ∷ 31 ∷ 3 ∷ 2 ∷ 0 ∷ 30 ∷ 2 ∷ 1 ∷ 31 ∷ 3 ∷ 2 ∷ 0 ∷ 67 ∷ 1 ∷ 1 ∷ 31 ∷ 3 ∷ 2 ∷ 0 ∷ 103 ∷ 2 ∷ 1 ∷ 31 ∷ 3 ∷ 2
    ∷ 0 ∷ 133 ∷ 1 ∷ 1 ∷ 135 ∷ 6 ∷ 2 ∷ 0 ∷ 139 ∷ 2 ∷ 0 ∷ 5 ∷ 63 ∷ 2 ∷ 2 ∷ 0 ∷ 143 ∷ 3 ∷ 3 ∷ 2 ∷ 131 ∷ 7 ∷ 2 ∷ 1
    ∷ 0 ∷ 1 ∷ 135 ∷ 6 ∷ 1 ∷ 0 ∷ 43 ∷ 1 ∷ 0 ∷ 2 ∷ 31 ∷ 3 ∷ 1 ∷ 0 ∷ 43 ∷ 3 ∷ 1 ∷ 31 ∷ 3 ∷ 1 ∷ 0 ∷ 76 ∷ 2 ∷ 1
    ∷ 63 ∷ 2 ∷ 1 ∷ 0 ∷ 106 ∷ 1 ∷ 5 ∷ 1 ∷ 135 ∷ 6 ∷ 2 ∷ 0 ∷ 143 ∷ 2 ∷ 0 ∷ 6 ∷ 31 ∷ 3 ∷ 2 ∷ 0 ∷ 143 ∷ 3 ∷ 1 ∷ 31
    ∷ 3 ∷ 2 ∷ 0 ∷ 173 ∷ 1 ∷ 1 ∷ 31 ∷ 3 ∷ 2 ∷ 0 ∷ 172 ∷ 3 ∷ 1 ∷ 31 ∷ 3 ∷ 2 ∷ 0 ∷ 206 ∷ 3 ∷ 1 ∷ 31 ∷ 3 ∷ 2 ∷ 0
    ∷ 235 ∷ 2 ∷ 1 ∷ 111 ∷ 9 ∷ 1 ∷ 0 ∷ 141 ∷ 3 ∷ 1 ∷ 127 ∷ 31 ∷ 3 ∷ 2 ∷ 0 ∷ 236 ∷ 1 ∷ 1 ∷ 31 ∷ 3 ∷ 2 ∷ 1 ∷ 10 ∷ 3
    ∷ 1 ∷ 135 ∷ 6 ∷ 1 ∷ 0 ∷ 106 ∷ 1 ∷ 0 ∷ 5 ∷ 131 ∷ 7 ∷ 1 ∷ 2 ∷ 0 ∷ 1
    ∷ []

answers_2 : answers_in (turns_of single fresh log_2) ≡
    accept 0 0 NoSpeed ∷ accept 1 1 Walking ∷ accept 2 7 (Kmh 10) ∷ accept 1 1 (Kmh 10) ∷ accept 2 1 (Kmh 10)
    ∷ accept 3 1 (Kmh 15) ∷ accept 4 1 (Kmh 10) ∷ accept 5 1 (Kmh 15) ∷ accept 0 0 NoSpeed ∷ accept 6 7 Walking
    ∷ accept 0 0 NoSpeed ∷ accept 0 0 NoSpeed ∷ accept 3 1 Walking ∷ accept 4 1 (Kmh 10) ∷ accept 5 7 (Kmh 15)
    ∷ accept 0 0 NoSpeed ∷ accept 7 1 Walking ∷ accept 8 1 (Kmh 15) ∷ Err BeforeClock ∷ accept 9 1 Walking
    ∷ Err IntervalRunning ∷ Err OutOfRange ∷ accept 10 1 (Kmh 15) ∷ accept 11 1 Walking ∷ accept 0 0 NoSpeed
    ∷ accept 0 0 NoSpeed
    ∷ []
unfolding turns_compute
answers_2 = refl

abbrev log_18 : List ℕ
log_18 =
    7 ∷ 4 ∷ 2 ∷ 0 ∷ 2 ∷ 79 ∷ 5 ∷ 2 ∷ 0 ∷ 0 ∷ 3 ∷ 3 ∷ 79 ∷ 9 ∷ 1 ∷ 0 ∷ 0 ∷ 2 ∷ 1 ∷ 135 ∷ 6 ∷ 1 ∷ 0 ∷ 0
    ∷ 2 ∷ 0 ∷ 1 ∷ 47 ∷ 5 ∷ 1 ∷ 0 ∷ 9 ∷ 3 ∷ 1 ∷ 27 ∷ 8 ∷ 144 ∷ 29 ∷ 12 ∷ 1 ∷ 1 ∷ 63 ∷ 2 ∷ 1 ∷ 0 ∷ 6 ∷ 1 ∷ 3
    ∷ 8 ∷ 135 ∷ 6 ∷ 2 ∷ 0 ∷ 1 ∷ 1 ∷ 0 ∷ 1 ∷ 103 ∷ 4 ∷ 2 ∷ 0 ∷ 1 ∷ 1 ∷ 8 ∷ 135 ∷ 6 ∷ 1 ∷ 0 ∷ 6 ∷ 2 ∷ 0 ∷ 1
    ∷ 111 ∷ 9 ∷ 1 ∷ 0 ∷ 6 ∷ 3 ∷ 8 ∷ 1 ∷ 0 ∷ 135 ∷ 6 ∷ 2 ∷ 0 ∷ 2 ∷ 1 ∷ 0 ∷ 2 ∷ 1 ∷ 8 ∷ 1 ∷ 1 ∷ 63 ∷ 2 ∷ 2
    ∷ 0 ∷ 9 ∷ 2 ∷ 4 ∷ 8 ∷ 135 ∷ 6 ∷ 1 ∷ 0 ∷ 0 ∷ 2 ∷ 0 ∷ 1 ∷ 79 ∷ 5 ∷ 1 ∷ 0 ∷ 0 ∷ 3 ∷ 8 ∷ 79 ∷ 5 ∷ 1 ∷ 0
    ∷ 0 ∷ 3 ∷ 0 ∷ 71 ∷ 4 ∷ 1 ∷ 0 ∷ 0 ∷ 8 ∷ 63 ∷ 2 ∷ 2 ∷ 0 ∷ 39 ∷ 1 ∷ 5 ∷ 4 ∷ 47 ∷ 9 ∷ 2 ∷ 0 ∷ 48 ∷ 2 ∷ 6
    ∷ 135 ∷ 6 ∷ 2 ∷ 0 ∷ 13 ∷ 1 ∷ 0 ∷ 1 ∷ 47 ∷ 5 ∷ 2 ∷ 0 ∷ 13 ∷ 2 ∷ 8 ∷ 15 ∷ 5 ∷ 2 ∷ 0 ∷ 43 ∷ 2
    ∷ []

answers_18 : answers_in (turns_of single fresh log_18) ≡
    Err NotInForce ∷ Err NotInForce ∷ Err NotInForce ∷ Err NotInForce ∷ Err NotInForce
    ∷ Err WrongMap ∷ accept 0 0 NoSpeed ∷ accept 1 7 (Kmh 15) ∷ accept 0 0 NoSpeed ∷ accept 1 182 Booked
    ∷ accept 0 0 NoSpeed ∷ accept 2 174 Booked ∷ Err UnknownKind ∷ accept 0 0 NoSpeed ∷ accept 0 0 NoSpeed
    ∷ accept 0 0 NoSpeed ∷ accept 1 7 (Kmh 10) ∷ accept 0 0 NoSpeed ∷ Err NoLineClear ∷ Err OutOfRange
    ∷ accept 1 172 Booked ∷ Err OpenerAway ∷ Err NoLineClear ∷ accept 0 0 NoSpeed ∷ accept 2 178 Booked
    ∷ accept 3 112 (Both 10 10)
    ∷ []
unfolding turns_compute
answers_18 = refl

abbrev log_53 : List ℕ
log_53 =
    131 ∷ 59 ∷ 2 ∷ 1 ∷ 0 ∷ 1 ∷ 79 ∷ 5 ∷ 1 ∷ 0 ∷ 0 ∷ 1 ∷ 7 ∷ 63 ∷ 2 ∷ 2 ∷ 0 ∷ 1 ∷ 1 ∷ 5 ∷ 3 ∷ 1 ∷ 1 ∷ 63
    ∷ 2 ∷ 1 ∷ 0 ∷ 9 ∷ 2 ∷ 4 ∷ 1 ∷ 135 ∷ 6 ∷ 2 ∷ 0 ∷ 4 ∷ 1 ∷ 0 ∷ 1 ∷ 63 ∷ 2 ∷ 2 ∷ 0 ∷ 4 ∷ 1 ∷ 3 ∷ 6 ∷ 103
    ∷ 4 ∷ 2 ∷ 0 ∷ 10 ∷ 6 ∷ 1 ∷ 232 ∷ 120 ∷ 137 ∷ 54 ∷ 63 ∷ 40 ∷ 120 ∷ 135 ∷ 6 ∷ 1 ∷ 0 ∷ 9 ∷ 2 ∷ 0 ∷ 1 ∷ 79 ∷ 5 ∷ 1
    ∷ 0 ∷ 11 ∷ 1 ∷ 6 ∷ 1 ∷ 8 ∷ 135 ∷ 6 ∷ 2 ∷ 0 ∷ 14 ∷ 1 ∷ 0 ∷ 2 ∷ 135 ∷ 0 ∷ 2 ∷ 0 ∷ 14 ∷ 1 ∷ 0 ∷ 1 ∷ 15 ∷ 5
    ∷ 2 ∷ 0 ∷ 15 ∷ 1 ∷ 135 ∷ 6 ∷ 1 ∷ 0 ∷ 11 ∷ 2 ∷ 0 ∷ 2 ∷ 63 ∷ 2 ∷ 1 ∷ 0 ∷ 17 ∷ 1 ∷ 1 ∷ 7 ∷ 47 ∷ 5 ∷ 2 ∷ 0
    ∷ 48 ∷ 1 ∷ 8 ∷ 15 ∷ 5 ∷ 2 ∷ 0 ∷ 78 ∷ 2 ∷ 135 ∷ 6 ∷ 1 ∷ 0 ∷ 11 ∷ 2 ∷ 0 ∷ 3 ∷ 15 ∷ 5 ∷ 2 ∷ 0 ∷ 111 ∷ 1 ∷ 47
    ∷ 5 ∷ 2 ∷ 0 ∷ 147 ∷ 1 ∷ 8 ∷ 15 ∷ 5 ∷ 2 ∷ 0 ∷ 177 ∷ 3 ∷ 135 ∷ 6 ∷ 1 ∷ 0 ∷ 15 ∷ 2 ∷ 0 ∷ 4 ∷ 31 ∷ 3 ∷ 2 ∷ 0
    ∷ 215 ∷ 1 ∷ 1 ∷ 1
    ∷ []

answers_53 : answers_in (turns_of single fresh log_53) ≡
    Err UnknownKind ∷ Err NotInForce ∷ Err NotInForce ∷ accept 0 0 NoSpeed ∷ accept 1 7 (Kmh 10)
    ∷ accept 0 0 NoSpeed ∷ Err GuestHere ∷ accept 1 182 Booked ∷ Err UnknownKind ∷ accept 0 0 NoSpeed
    ∷ accept 2 172 Booked ∷ Err VehiclePresent ∷ accept 0 0 NoSpeed ∷ Err UnknownKind ∷ accept 2 176 Booked
    ∷ accept 0 0 NoSpeed ∷ Err OwesLineClear ∷ accept 3 114 (Both 25 10) ∷ accept 4 112 (Both 10 10) ∷ accept 0 0 NoSpeed
    ∷ accept 5 112 (Both 25 10) ∷ accept 6 114 (Both 25 10) ∷ accept 7 112 (Both 10 10) ∷ accept 0 0 NoSpeed ∷ accept 8 1 (Kmh 15)
    ∷ Err EndsInside
    ∷ []
unfolding turns_compute
answers_53 = refl

abbrev log_173 : List ℕ
log_173 =
    31 ∷ 3 ∷ 2 ∷ 0 ∷ 0 ∷ 3 ∷ 1 ∷ 1 ∷ 1 ∷ 63 ∷ 2 ∷ 2 ∷ 0 ∷ 2 ∷ 3 ∷ 3 ∷ 2 ∷ 135 ∷ 6 ∷ 1 ∷ 0 ∷ 8 ∷ 2 ∷ 0
    ∷ 1 ∷ 103 ∷ 4 ∷ 1 ∷ 0 ∷ 17 ∷ 3 ∷ 2 ∷ 135 ∷ 6 ∷ 2 ∷ 0 ∷ 4 ∷ 1 ∷ 0 ∷ 1 ∷ 79 ∷ 5 ∷ 2 ∷ 0 ∷ 4 ∷ 3 ∷ 3 ∷ 135
    ∷ 6 ∷ 1 ∷ 0 ∷ 24 ∷ 2 ∷ 0 ∷ 2 ∷ 15 ∷ 9 ∷ 2 ∷ 0 ∷ 34 ∷ 3 ∷ 135 ∷ 6 ∷ 1 ∷ 0 ∷ 24 ∷ 2 ∷ 0 ∷ 3 ∷ 1 ∷ 1 ∷ 47
    ∷ 9 ∷ 2 ∷ 0 ∷ 24 ∷ 1 ∷ 8 ∷ 15 ∷ 5 ∷ 1 ∷ 0 ∷ 24 ∷ 3 ∷ 131 ∷ 7 ∷ 1 ∷ 1 ∷ 0 ∷ 2 ∷ 135 ∷ 6 ∷ 1 ∷ 0 ∷ 34 ∷ 1
    ∷ 0 ∷ 2 ∷ 135 ∷ 6 ∷ 2 ∷ 0 ∷ 39 ∷ 1 ∷ 0 ∷ 2 ∷ 47 ∷ 9 ∷ 1 ∷ 0 ∷ 55 ∷ 1 ∷ 5 ∷ 135 ∷ 6 ∷ 2 ∷ 0 ∷ 39 ∷ 1 ∷ 0
    ∷ 3 ∷ 63 ∷ 2 ∷ 1 ∷ 0 ∷ 85 ∷ 1 ∷ 4 ∷ 8 ∷ 63 ∷ 2 ∷ 2 ∷ 0 ∷ 46 ∷ 1 ∷ 5 ∷ 8 ∷ 131 ∷ 7 ∷ 2 ∷ 1 ∷ 0 ∷ 4 ∷ 135
    ∷ 6 ∷ 2 ∷ 0 ∷ 46 ∷ 2 ∷ 0 ∷ 4 ∷ 63 ∷ 2 ∷ 2 ∷ 0 ∷ 48 ∷ 1 ∷ 1 ∷ 5 ∷ 135 ∷ 6 ∷ 2 ∷ 0 ∷ 48 ∷ 2 ∷ 0 ∷ 5 ∷ 63
    ∷ 2 ∷ 2 ∷ 0 ∷ 50 ∷ 3 ∷ 4 ∷ 4 ∷ 131 ∷ 7 ∷ 2 ∷ 1 ∷ 0 ∷ 4
    ∷ []

answers_173 : answers_in (turns_of single fresh log_173) ≡
    Err NotInForce ∷ accept 0 0 NoSpeed ∷ accept 1 7 Walking ∷ accept 0 0 NoSpeed ∷ accept 1 174 Booked
    ∷ accept 0 0 NoSpeed ∷ accept 2 180 Booked ∷ accept 0 0 NoSpeed ∷ accept 3 112 (Both 10 10) ∷ accept 0 0 NoSpeed
    ∷ Err AlreadyInForce ∷ Err BeforeClock ∷ accept 2 168 Booked ∷ Err MayNotMeet ∷ Err MayNotEnter
    ∷ accept 0 0 NoSpeed ∷ accept 3 106 (Both 25 10) ∷ accept 0 0 NoSpeed ∷ accept 4 7 (Kmh 15) ∷ accept 4 7 (Kmh 15)
    ∷ accept 0 0 NoSpeed ∷ accept 0 0 NoSpeed ∷ accept 5 7 (Kmh 15) ∷ accept 0 0 NoSpeed ∷ accept 6 7 Walking
    ∷ accept 0 0 NoSpeed
    ∷ []
unfolding turns_compute
answers_173 = refl
