-- Short logs of the second program's generator, and the answers that its lister gave, by computation on the definitions.
-- Written by scripts/stored-logs; never by hand. Assumes nothing.
use Prim.Native.Nat.{ℕ}
use Rattle.double.proofs.Computing.{turns_compute}
use Rattle.double.specs.Sections.{fresh}
use Rattle.double.specs.Steps.{double}
use Rattle.std.specs.Prelude.{Err}
use Rattle.working.specs.Answers.{accept}
use Rattle.working.specs.Turns.{answers_in, turns_of}
use Rattle.working.specs.declared.Refusal.TheVariants.{AlreadyInForce, BeforeClock, EndsInside, IntervalRunning, NotInForce, NotNearest}
use Rattle.working.specs.declared.Speed.TheVariants.{Both, NoSpeed}
use mathlib.Core.List.{List, [], ◌∷◌}
use mathlib.Core.Path.{refl, ◌≡◌}

abbrev log_3 : List ℕ
log_3 =
    135 ∷ 6 ∷ 2 ∷ 0 ∷ 0 ∷ 2 ∷ 0 ∷ 1 ∷ 1 ∷ 1 ∷ 7 ∷ 5 ∷ 1 ∷ 0 ∷ 0 ∷ 7 ∷ 5 ∷ 2 ∷ 0 ∷ 0 ∷ 7 ∷ 5 ∷ 2 ∷ 0
    ∷ 30 ∷ 135 ∷ 6 ∷ 2 ∷ 0 ∷ 30 ∷ 2 ∷ 0 ∷ 1 ∷ 135 ∷ 6 ∷ 2 ∷ 0 ∷ 30 ∷ 1 ∷ 0 ∷ 1 ∷ 7 ∷ 5 ∷ 1 ∷ 0 ∷ 30 ∷ 7 ∷ 5
    ∷ 1 ∷ 0 ∷ 60 ∷ 7 ∷ 5 ∷ 2 ∷ 0 ∷ 60 ∷ 7 ∷ 5 ∷ 1 ∷ 0 ∷ 90 ∷ 7 ∷ 5 ∷ 2 ∷ 0 ∷ 90 ∷ 7 ∷ 5 ∷ 2 ∷ 0 ∷ 119 ∷ 7
    ∷ 5 ∷ 1 ∷ 0 ∷ 120 ∷ 7 ∷ 5 ∷ 2 ∷ 0 ∷ 121 ∷ 7 ∷ 5 ∷ 2 ∷ 0 ∷ 151 ∷ 7 ∷ 5 ∷ 2 ∷ 0 ∷ 181 ∷ 7 ∷ 5 ∷ 2 ∷ 0 ∷ 215
    ∷ 7 ∷ 5 ∷ 2 ∷ 0 ∷ 245 ∷ 7 ∷ 5 ∷ 2 ∷ 1 ∷ 21 ∷ 7 ∷ 5 ∷ 1 ∷ 0 ∷ 153 ∷ 7 ∷ 5 ∷ 1 ∷ 0 ∷ 183 ∷ 7 ∷ 5 ∷ 1 ∷ 0
    ∷ 217 ∷ 7 ∷ 5 ∷ 2 ∷ 1 ∷ 51 ∷ 7 ∷ 5 ∷ 1 ∷ 0 ∷ 247 ∷ 1
    ∷ []

answers_3 : answers_in (turns_of double fresh log_3) ≡
    Err NotInForce ∷ accept 0 0 NoSpeed ∷ accept 1 256 (Both 25 10) ∷ accept 1 256 (Both 25 10) ∷ accept 2 256 (Both 25 10)
    ∷ Err NotNearest ∷ accept 0 0 NoSpeed ∷ accept 2 256 (Both 25 10) ∷ accept 3 256 (Both 25 10) ∷ accept 3 256 (Both 25 10)
    ∷ accept 4 256 (Both 25 10) ∷ accept 4 256 (Both 25 10) ∷ Err IntervalRunning ∷ accept 5 256 (Both 25 10) ∷ accept 5 256 (Both 25 10)
    ∷ accept 6 256 (Both 25 10) ∷ accept 7 256 (Both 25 10) ∷ accept 8 256 (Both 25 10) ∷ accept 9 256 (Both 25 10) ∷ accept 10 256 (Both 25 10)
    ∷ accept 6 256 (Both 25 10) ∷ accept 7 256 (Both 25 10) ∷ accept 8 256 (Both 25 10) ∷ accept 11 256 (Both 25 10) ∷ accept 9 256 (Both 25 10)
    ∷ Err EndsInside
    ∷ []
unfolding turns_compute
answers_3 = refl

abbrev log_7 : List ℕ
log_7 =
    7 ∷ 5 ∷ 1 ∷ 0 ∷ 0 ∷ 1 ∷ 1 ∷ 7 ∷ 5 ∷ 2 ∷ 0 ∷ 3 ∷ 7 ∷ 5 ∷ 1 ∷ 0 ∷ 0 ∷ 7 ∷ 5 ∷ 2 ∷ 0 ∷ 33 ∷ 7 ∷ 5
    ∷ 1 ∷ 0 ∷ 32 ∷ 7 ∷ 5 ∷ 1 ∷ 0 ∷ 62 ∷ 7 ∷ 5 ∷ 2 ∷ 0 ∷ 63 ∷ 135 ∷ 6 ∷ 1 ∷ 0 ∷ 62 ∷ 2 ∷ 0 ∷ 1 ∷ 135 ∷ 6 ∷ 1
    ∷ 0 ∷ 66 ∷ 2 ∷ 0 ∷ 2 ∷ 135 ∷ 6 ∷ 1 ∷ 0 ∷ 66 ∷ 2 ∷ 0 ∷ 3 ∷ 7 ∷ 5 ∷ 2 ∷ 0 ∷ 93 ∷ 7 ∷ 5 ∷ 2 ∷ 0 ∷ 123 ∷ 135
    ∷ 6 ∷ 1 ∷ 0 ∷ 74 ∷ 1 ∷ 0 ∷ 4 ∷ 7 ∷ 5 ∷ 2 ∷ 0 ∷ 153 ∷ 7 ∷ 5 ∷ 2 ∷ 0 ∷ 183 ∷ 135 ∷ 6 ∷ 1 ∷ 0 ∷ 66 ∷ 2 ∷ 0
    ∷ 4 ∷ 7 ∷ 5 ∷ 2 ∷ 0 ∷ 213 ∷ 7 ∷ 5 ∷ 1 ∷ 0 ∷ 92 ∷ 7 ∷ 5 ∷ 2 ∷ 0 ∷ 243 ∷ 135 ∷ 6 ∷ 1 ∷ 0 ∷ 92 ∷ 2 ∷ 0 ∷ 5
    ∷ 135 ∷ 6 ∷ 1 ∷ 0 ∷ 92 ∷ 2 ∷ 0 ∷ 6 ∷ 135 ∷ 6 ∷ 1 ∷ 0 ∷ 92 ∷ 2 ∷ 0 ∷ 7 ∷ 135 ∷ 6 ∷ 2 ∷ 0 ∷ 243 ∷ 1 ∷ 0 ∷ 1
    ∷ 7 ∷ 5 ∷ 1 ∷ 0 ∷ 122 ∷ 135 ∷ 6 ∷ 2 ∷ 0 ∷ 243 ∷ 1 ∷ 0 ∷ 2 ∷ 135 ∷ 6 ∷ 1 ∷ 0 ∷ 122 ∷ 2 ∷ 0 ∷ 8 ∷ 135 ∷ 6 ∷ 2
    ∷ 0 ∷ 243 ∷ 1 ∷ 0 ∷ 2 ∷ 7 ∷ 5 ∷ 2 ∷ 1 ∷ 17 ∷ 135 ∷ 6 ∷ 1 ∷ 0 ∷ 122 ∷ 2 ∷ 0 ∷ 9 ∷ 7 ∷ 5 ∷ 1 ∷ 0 ∷ 161 ∷ 135
    ∷ 6 ∷ 1 ∷ 0 ∷ 165 ∷ 2 ∷ 0 ∷ 10 ∷ 135 ∷ 6 ∷ 2 ∷ 1 ∷ 17 ∷ 1 ∷ 0 ∷ 3 ∷ 135 ∷ 6 ∷ 2 ∷ 1 ∷ 17 ∷ 1 ∷ 0 ∷ 4 ∷ 7
    ∷ 5 ∷ 2 ∷ 0 ∷ 191 ∷ 7 ∷ 5 ∷ 1 ∷ 1 ∷ 47 ∷ 135 ∷ 6 ∷ 1 ∷ 1 ∷ 48 ∷ 2 ∷ 0 ∷ 8 ∷ 7 ∷ 5 ∷ 1 ∷ 1 ∷ 82 ∷ 135 ∷ 6
    ∷ 2 ∷ 1 ∷ 17 ∷ 1 ∷ 0 ∷ 5 ∷ 1
    ∷ []

answers_7 : answers_in (turns_of double fresh log_7) ≡
    Err NotInForce ∷ accept 0 0 NoSpeed ∷ accept 1 256 (Both 25 10) ∷ accept 1 256 (Both 25 10) ∷ accept 2 256 (Both 25 10)
    ∷ accept 2 256 (Both 25 10) ∷ accept 3 256 (Both 25 10) ∷ accept 3 256 (Both 25 10) ∷ accept 0 0 NoSpeed ∷ accept 0 0 NoSpeed
    ∷ accept 0 0 NoSpeed ∷ accept 4 256 (Both 25 10) ∷ accept 5 256 (Both 25 10) ∷ Err NotNearest ∷ accept 6 256 (Both 25 10)
    ∷ accept 7 256 (Both 25 10) ∷ accept 0 0 NoSpeed ∷ accept 8 256 (Both 25 10) ∷ accept 4 256 (Both 25 10) ∷ accept 9 256 (Both 25 10)
    ∷ accept 0 0 NoSpeed ∷ accept 0 0 NoSpeed ∷ accept 0 0 NoSpeed ∷ accept 0 0 NoSpeed ∷ accept 5 256 (Both 25 10)
    ∷ accept 0 0 NoSpeed ∷ accept 0 0 NoSpeed ∷ Err NotNearest ∷ accept 10 256 (Both 25 10) ∷ accept 0 0 NoSpeed
    ∷ accept 6 256 (Both 25 10) ∷ accept 0 0 NoSpeed ∷ accept 0 0 NoSpeed ∷ accept 0 0 NoSpeed ∷ Err BeforeClock
    ∷ accept 7 256 (Both 25 10) ∷ Err NotNearest ∷ accept 8 256 (Both 25 10) ∷ accept 0 0 NoSpeed ∷ Err EndsInside
    ∷ []
unfolding turns_compute
answers_7 = refl

abbrev log_21 : List ℕ
log_21 =
    135 ∷ 6 ∷ 2 ∷ 0 ∷ 0 ∷ 1 ∷ 0 ∷ 1 ∷ 135 ∷ 6 ∷ 1 ∷ 0 ∷ 0 ∷ 2 ∷ 0 ∷ 1 ∷ 7 ∷ 5 ∷ 1 ∷ 0 ∷ 6 ∷ 1 ∷ 1 ∷ 1
    ∷ 1 ∷ 1 ∷ 8 ∷ 1 ∷ 8 ∷ 7 ∷ 5 ∷ 1 ∷ 0 ∷ 9 ∷ 7 ∷ 5 ∷ 1 ∷ 0 ∷ 0 ∷ 135 ∷ 6 ∷ 2 ∷ 0 ∷ 7 ∷ 2 ∷ 0 ∷ 1 ∷ 7
    ∷ 5 ∷ 1 ∷ 0 ∷ 3 ∷ 7 ∷ 5 ∷ 2 ∷ 0 ∷ 9 ∷ 1 ∷ 1 ∷ 7 ∷ 5 ∷ 2 ∷ 0 ∷ 0 ∷ 7 ∷ 5 ∷ 2 ∷ 0 ∷ 34 ∷ 7 ∷ 5 ∷ 2
    ∷ 0 ∷ 63 ∷ 7 ∷ 5 ∷ 1 ∷ 0 ∷ 0 ∷ 7 ∷ 5 ∷ 2 ∷ 0 ∷ 64 ∷ 7 ∷ 5 ∷ 1 ∷ 0 ∷ 30 ∷ 7 ∷ 5 ∷ 1 ∷ 0 ∷ 68 ∷ 7 ∷ 5
    ∷ 2 ∷ 0 ∷ 94 ∷ 7 ∷ 5 ∷ 2 ∷ 0 ∷ 124 ∷ 7 ∷ 5 ∷ 1 ∷ 0 ∷ 100 ∷ 7 ∷ 5 ∷ 1 ∷ 0 ∷ 130 ∷ 7 ∷ 5 ∷ 2 ∷ 0 ∷ 154 ∷ 7
    ∷ 5 ∷ 1 ∷ 0 ∷ 160 ∷ 7 ∷ 5 ∷ 2 ∷ 0 ∷ 183 ∷ 7 ∷ 5 ∷ 1 ∷ 0 ∷ 199 ∷ 7 ∷ 5 ∷ 1 ∷ 0 ∷ 229 ∷ 7 ∷ 5 ∷ 1 ∷ 1 ∷ 3
    ∷ 7 ∷ 5 ∷ 1 ∷ 1 ∷ 32 ∷ 7 ∷ 5 ∷ 2 ∷ 0 ∷ 184 ∷ 7 ∷ 5 ∷ 1 ∷ 1 ∷ 35 ∷ 7 ∷ 5 ∷ 2 ∷ 0 ∷ 214 ∷ 7 ∷ 5 ∷ 1 ∷ 1
    ∷ 73 ∷ 7 ∷ 5 ∷ 1 ∷ 1 ∷ 103 ∷ 7 ∷ 5 ∷ 2 ∷ 0 ∷ 247 ∷ 7 ∷ 5 ∷ 2 ∷ 1 ∷ 29 ∷ 7 ∷ 5 ∷ 2 ∷ 1 ∷ 66 ∷ 7 ∷ 5 ∷ 2
    ∷ 1 ∷ 102
    ∷ []

answers_21 : answers_in (turns_of double fresh log_21) ≡
    Err NotInForce ∷ Err NotInForce ∷ Err NotInForce ∷ accept 0 0 NoSpeed ∷ Err AlreadyInForce
    ∷ accept 0 0 NoSpeed ∷ Err NotInForce ∷ Err NotInForce ∷ Err NotInForce ∷ Err NotInForce
    ∷ Err NotInForce ∷ Err NotInForce ∷ accept 0 0 NoSpeed ∷ accept 1 256 (Both 25 10) ∷ accept 2 256 (Both 25 10)
    ∷ Err IntervalRunning ∷ accept 1 256 (Both 25 10) ∷ accept 3 256 (Both 25 10) ∷ accept 2 256 (Both 25 10) ∷ accept 3 256 (Both 25 10)
    ∷ accept 4 256 (Both 25 10) ∷ accept 5 256 (Both 25 10) ∷ accept 4 256 (Both 25 10) ∷ accept 5 256 (Both 25 10) ∷ accept 6 256 (Both 25 10)
    ∷ accept 6 256 (Both 25 10) ∷ Err IntervalRunning ∷ accept 7 256 (Both 25 10) ∷ accept 8 256 (Both 25 10) ∷ accept 9 256 (Both 25 10)
    ∷ Err IntervalRunning ∷ accept 7 256 (Both 25 10) ∷ accept 10 256 (Both 25 10) ∷ accept 8 256 (Both 25 10) ∷ accept 11 256 (Both 25 10)
    ∷ accept 12 256 (Both 25 10) ∷ accept 9 256 (Both 25 10) ∷ accept 10 256 (Both 25 10) ∷ accept 11 256 (Both 25 10) ∷ accept 12 256 (Both 25 10)
    ∷ []
unfolding turns_compute
answers_21 = refl
