-- T-06's 281 bytes, in figures: sections with the bytes that they are kept as, every figure at its place with a value of its own; bytes that are no position; the numbers of a
-- speed; and steps on positions, with the order of 26 and 23. The bytes are docs/FORMAT.md's and written by hand, so that a misreading that definition and code share shows here.
-- Assumes nothing.
use Prim.Native.Nat.{ℕ, ◌+◌, ◌-◌}
use Rattle.std.specs.Prelude.{None, Some}
use Rattle.working.proofs.examples.Computing.{positions_compute}
use Rattle.working.proofs.examples.EntryTable.{below}
use Rattle.working.proofs.examples.Literals.{counts, figures, vehicle, working}
use Rattle.working.specs.Entries.{every}
use Rattle.working.specs.Positions.{StepsPosition, answer_in, if_allowed, is_position, position_of, section_at, speed_number, step_tests}
use Rattle.working.specs.Refusals.{first_of, refusal_in}
use Rattle.working.specs.Sections.{emptied, fresh, fresh_desk, with_waiting}
use Rattle.working.specs.Steps.{step_of}
use Rattle.working.specs.declared.Movement.TheVariants.{LastTrain, Open, Return, Through, Train}
use Rattle.working.specs.declared.Section.{Section}
use Rattle.working.specs.declared.Speed.TheVariants.{Booked, Both, Kmh, NoSpeed, Walking}
use Rattle.working.specs.declared.Vehicle.{Vehicle}
use lib.Dec.{eqb, leb, ltb}
use lib.ListN.{drop, replicate, set, take}
use mathlib.Core.Bool.{Bool, cond, false, not, true, ◌&&◌, ◌||◌}
use mathlib.Core.List.{List, [], map, ◌++◌, ◌∷◌}
use mathlib.Core.Path.{refl, ◌≡◌}

-- ---- a section, and the bytes that it is kept as

pub record Row : Type 0 where
  pub section : Section
  pub bytes : List ℕ

-- docs/FORMAT.md's worked position: a LAST TRAIN and a TRAIN of A, one entry refused for A
abbrev worked_section : Section
worked_section =
    working (counts 1 0 0) (vehicle (LastTrain 0 2 2) 1 3 2 false 0 ∷ vehicle (Train 0 0) 1 2 2 false 0 ∷ [])
    (figures 126 3 2 (Some 126) false 0 0 0 2)
    (figures 75 1 1 (Some 75) false 0 0 0 4)

abbrev pub worked : List ℕ
worked =
    (0x09 ∷ 0x01 ∷ 0x00 ∷ 0x03 ∷ 0x02 ∷ 0x00 ∷ 0x00 ∷ 0x00 ∷ 0x02 ∷ 0x02 ∷ [])
    ++ (0x05 ∷ 0x01 ∷ 0x00 ∷ 0x02 ∷ 0x02 ∷ 0x00 ∷ 0x00 ∷ 0x00 ∷ 0x00 ∷ 0x00 ∷ [])
    ++ replicate 220 0
    ++ (0x01 ∷ [])
    ++ (0x00 ∷ 0x00 ∷ 0x00 ∷ 0x01 ∷ 0x00 ∷ 0x00 ∷ 0x00 ∷ 0x00 ∷ 0x00 ∷ 0x00 ∷ 0x00 ∷ 0x00 ∷ [])
    ++ (0x00 ∷ 0x7E ∷ 0x00 ∷ 0x03 ∷ 0x02 ∷ 0x01 ∷ 0x00 ∷ 0x7E ∷ 0x00 ∷ 0x00 ∷ 0x00 ∷ 0x00 ∷ 0x02 ∷ 0x00 ∷ [])
    ++ (0x00 ∷ 0x4B ∷ 0x00 ∷ 0x01 ∷ 0x01 ∷ 0x01 ∷ 0x00 ∷ 0x4B ∷ 0x00 ∷ 0x00 ∷ 0x00 ∷ 0x00 ∷ 0x04 ∷ 0x00 ∷ [])

-- every kind of a vehicle, met and unmet, asking and granting; every count with four bytes of its own; A's interval running and its opener away, B's neither
abbrev all_kinds_section : Section
all_kinds_section =
    working (counts 0x01020304 0xA1B2C3D4 0xFFFEFDFC)
    (vehicle (Open 6) 1 0x1207 2 false 3
    ∷ vehicle (Open 8) 1 0x0304 1 true 5
    ∷ vehicle Through 1 0x0009 2 false 1
    ∷ vehicle (Return 4 7) 2 0x00FA 1 false 5
    ∷ vehicle (Train 2 3) 2 0x0102 1 false 0
    ∷ vehicle (LastTrain 1 8 6) 2 0x0033 1 false 0
    ∷ vehicle Through 2 0x0005 2 true 1
    ∷ [])
    (with_waiting 4 (figures 0x1234 0x2105 11 (Some 0x0A0B) true 5 7 2 3))
    (with_waiting 2 (figures 0xFEDC 0x0103 9 None false 1 8 6 7))

abbrev pub all_kinds : List ℕ
all_kinds =
    (0x02 ∷ 0x01 ∷ 0x12 ∷ 0x07 ∷ 0x02 ∷ 0x00 ∷ 0x03 ∷ 0x06 ∷ 0x00 ∷ 0x00 ∷ [])
    ++ (0x02 ∷ 0x01 ∷ 0x03 ∷ 0x04 ∷ 0x01 ∷ 0x01 ∷ 0x05 ∷ 0x08 ∷ 0x00 ∷ 0x00 ∷ [])
    ++ (0x03 ∷ 0x01 ∷ 0x00 ∷ 0x09 ∷ 0x02 ∷ 0x00 ∷ 0x01 ∷ 0x00 ∷ 0x00 ∷ 0x00 ∷ [])
    ++ (0x04 ∷ 0x02 ∷ 0x00 ∷ 0xFA ∷ 0x01 ∷ 0x00 ∷ 0x05 ∷ 0x04 ∷ 0x07 ∷ 0x00 ∷ [])
    ++ (0x05 ∷ 0x02 ∷ 0x01 ∷ 0x02 ∷ 0x01 ∷ 0x00 ∷ 0x00 ∷ 0x02 ∷ 0x03 ∷ 0x00 ∷ [])
    ++ (0x09 ∷ 0x02 ∷ 0x00 ∷ 0x33 ∷ 0x01 ∷ 0x00 ∷ 0x00 ∷ 0x01 ∷ 0x08 ∷ 0x06 ∷ [])
    ++ (0x03 ∷ 0x02 ∷ 0x00 ∷ 0x05 ∷ 0x02 ∷ 0x01 ∷ 0x01 ∷ 0x00 ∷ 0x00 ∷ 0x00 ∷ [])
    ++ replicate 170 0
    ++ (0x01 ∷ [])
    ++ (0x01 ∷ 0x02 ∷ 0x03 ∷ 0x04 ∷ 0xA1 ∷ 0xB2 ∷ 0xC3 ∷ 0xD4 ∷ 0xFF ∷ 0xFE ∷ 0xFD ∷ 0xFC ∷ [])
    ++ (0x12 ∷ 0x34 ∷ 0x21 ∷ 0x05 ∷ 0x0B ∷ 0x01 ∷ 0x0A ∷ 0x0B ∷ 0x01 ∷ 0x05 ∷ 0x07 ∷ 0x02 ∷ 0x03 ∷ 0x04 ∷ [])
    ++ (0xFE ∷ 0xDC ∷ 0x01 ∷ 0x03 ∷ 0x09 ∷ 0x00 ∷ 0x00 ∷ 0x00 ∷ 0x00 ∷ 0x01 ∷ 0x08 ∷ 0x06 ∷ 0x07 ∷ 0x02 ∷ [])

-- a running interval with no opener away, and an opener away with the interval stopped; one that runs since minute 0
abbrev intervals_section : Section
intervals_section = working (counts 0 0 0) [] (figures 1 2 3 (Some 0) false 0 0 0 0) (figures 4 5 6 None true 0 0 0 0)

abbrev intervals : List ℕ
intervals =
    replicate 240 0
    ++ (0x01 ∷ [])
    ++ replicate 12 0
    ++ (0x00 ∷ 0x01 ∷ 0x00 ∷ 0x02 ∷ 0x03 ∷ 0x01 ∷ 0x00 ∷ 0x00 ∷ 0x00 ∷ 0x00 ∷ 0x00 ∷ 0x00 ∷ 0x00 ∷ 0x00 ∷ [])
    ++ (0x00 ∷ 0x04 ∷ 0x00 ∷ 0x05 ∷ 0x06 ∷ 0x00 ∷ 0x00 ∷ 0x00 ∷ 0x01 ∷ 0x00 ∷ 0x00 ∷ 0x00 ∷ 0x00 ∷ 0x00 ∷ [])

-- all 24 places: A12 to A1 and B1 to B12, engines under their numbers as first, second and so on
abbrev engine : ℕ → ℕ → ℕ → Vehicle
engine sender heading form = vehicle Through sender form heading false 1

abbrev engine_place : ℕ → ℕ → ℕ → List ℕ
engine_place sender heading form = 0x03 ∷ sender ∷ 0x00 ∷ form ∷ heading ∷ 0x00 ∷ 0x01 ∷ 0x00 ∷ 0x00 ∷ 0x00 ∷ []

abbrev rising : List ℕ
rising = 1 ∷ 2 ∷ 3 ∷ 4 ∷ 5 ∷ 6 ∷ 7 ∷ 8 ∷ 9 ∷ 10 ∷ 11 ∷ 12 ∷ []

abbrev falling : List ℕ
falling = 12 ∷ 11 ∷ 10 ∷ 9 ∷ 8 ∷ 7 ∷ 6 ∷ 5 ∷ 4 ∷ 3 ∷ 2 ∷ 1 ∷ []

abbrev joined : List (List ℕ) → List ℕ
joined [] = []
joined (bytes ∷ l) = bytes ++ joined l

abbrev twelve_section : Section
twelve_section =
    working (counts 0 0 0) (map (engine 1 2) falling ++ map (engine 2 1) rising) (figures 330 12 12 (Some 330) false 0 0 0 0) (figures 331 12 12 (Some 331) false 0 0 0 0)

abbrev twelve : List ℕ
twelve =
    joined (map (engine_place 1 2) falling)
    ++ joined (map (engine_place 2 1) rising)
    ++ (0x01 ∷ [])
    ++ replicate 12 0
    ++ (0x01 ∷ 0x4A ∷ 0x00 ∷ 0x0C ∷ 0x0C ∷ 0x01 ∷ 0x01 ∷ 0x4A ∷ 0x00 ∷ 0x00 ∷ 0x00 ∷ 0x00 ∷ 0x00 ∷ 0x00 ∷ [])
    ++ (0x01 ∷ 0x4B ∷ 0x00 ∷ 0x0C ∷ 0x0C ∷ 0x01 ∷ 0x01 ∷ 0x4B ∷ 0x00 ∷ 0x00 ∷ 0x00 ∷ 0x00 ∷ 0x00 ∷ 0x00 ∷ [])

abbrev rows : List Row
rows =
    record { section = worked_section; bytes = worked }
    ∷ record { section = all_kinds_section; bytes = all_kinds }
    ∷ record { section = intervals_section; bytes = intervals }
    ∷ record { section = twelve_section; bytes = twelve }
    -- "The fresh section": 281 zeros
    ∷ record { section = fresh; bytes = replicate 281 0 }
    -- not in force, and the counts at their largest values
    ∷ record { section = emptied false (counts 4294967295 4294967295 4294967295); bytes = replicate 241 0 ++ replicate 12 0xFF ++ replicate 28 0 }
    -- in force, and all else as fresh
    ∷ record { section = working (counts 0 0 0) [] fresh_desk fresh_desk; bytes = replicate 240 0 ++ 0x01 ∷ replicate 40 0 }
    ∷ []

abbrev sections_in : List Row → List Section
sections_in l = map (λ (r : Row). r.section) l

abbrev bytes_in : List Row → List (List ℕ)
bytes_in l = map (λ (r : Row). r.bytes) l

-- each section is written as its bytes, each of which are read as their section, and are a position
rows_hold : (map position_of (sections_in rows) ≡ bytes_in rows)
    × (map section_at (bytes_in rows) ≡ sections_in rows)
    × (map is_position (bytes_in rows) ≡ true ∷ true ∷ true ∷ true ∷ true ∷ true ∷ true ∷ [])
unfolding positions_compute
rows_hold = (refl, refl, refl)

-- "not in force, all but the count is as fresh": of the 281 zeros, those in the first place, in the last and behind the places, one may be a 1 that stands in a count, and the one
-- that says in force
zeros_but_one : below (λ at. (ltb at 10 || leb 230 at) && is_position (set (replicate 281 0) at 1)) 281 []
    ≡ 240 ∷ 241 ∷ 242 ∷ 243 ∷ 244 ∷ 245 ∷ 246 ∷ 247 ∷ 248 ∷ 249 ∷ 250 ∷ 251 ∷ 252 ∷ []
unfolding positions_compute
zeros_but_one = refl

-- ---- bytes that are no position

-- "281 bytes", no more and no fewer
lengths : map is_position ([] ∷ replicate 280 0 ∷ replicate 281 0 ∷ replicate 282 0 ∷ take 280 worked ∷ (worked ++ 0 ∷ []) ∷ []) ≡ false ∷ false ∷ true ∷ false ∷ false ∷ false ∷ []
unfolding positions_compute
lengths = refl

-- a byte of a position, and the values that it may have beside the other bytes
record Byte : Type 0 where
  at : ℕ
  least : ℕ
  most : ℕ

abbrev byte : ℕ → ℕ → ℕ → Byte
byte at least most = record { at = at; least = least; most = most }

abbrev only : ℕ → ℕ → Byte
only at value = byte at value value

abbrev any : ℕ → Byte
any at = byte at 0 255

abbrev in_all_kinds : List Byte
in_all_kinds =
    -- OPEN, A4615, unmet: sender, form number, heading; met or not, class, asked; granted and given up
    only 1 1 ∷ byte 2 0 0x20 ∷ any 3 ∷ only 4 2 ∷ byte 5 0 1 ∷ byte 6 1 5 ∷ byte 7 1 8 ∷ only 8 0 ∷ only 9 0
    -- OPEN, met: heading, met
    ∷ byte 14 1 2 ∷ only 15 1
    -- THROUGH: met or not, class, and the rest
    ∷ byte 25 0 1 ∷ only 26 1 ∷ only 27 0 ∷ only 28 0 ∷ only 29 0
    -- RETURN: kind, sender, met, class, asked, granted, given up
    ∷ only 30 4 ∷ only 31 2 ∷ only 35 0 ∷ byte 36 1 5 ∷ byte 37 0 8 ∷ byte 38 0 8 ∷ only 39 0
    -- TRAIN: met, class, asked, granted, given up
    ∷ only 45 0 ∷ only 46 0 ∷ byte 47 0 8 ∷ byte 48 0 8 ∷ only 49 0
    -- LAST TRAIN: kind, met, class, asked, granted, given up
    ∷ only 50 9 ∷ only 55 0 ∷ only 56 0 ∷ byte 57 0 8 ∷ byte 58 0 8 ∷ byte 59 0 7
    -- THROUGH, met: heading, met
    ∷ byte 64 1 2 ∷ only 65 1
    -- the first unused place, and the last
    ∷ only 70 0 ∷ only 71 0 ∷ only 73 0 ∷ only 74 0 ∷ only 75 0 ∷ only 76 0 ∷ only 77 0 ∷ only 78 0 ∷ only 79 0 ∷ only 230 0 ∷ only 239 0
    -- in force, and the counts
    ∷ only 240 1
    ∷ any 241 ∷ any 244 ∷ any 245 ∷ any 248 ∷ any 249 ∷ any 252
    -- A's desk: a clock not before minute 2,571; last not before 4,615; three vehicles present; the interval running, not since after minute 4,660
    ∷ byte 253 0x0A 255 ∷ any 254 ∷ byte 255 0x13 0x27 ∷ any 256 ∷ byte 257 3 12 ∷ only 258 1 ∷ byte 259 0 0x12 ∷ any 260
    ∷ byte 261 0 1 ∷ byte 262 0 5 ∷ byte 263 0 8 ∷ byte 264 0 8 ∷ byte 265 0 8 ∷ byte 266 0 8
    -- B's desk: last not before 258; four vehicles present; the interval stopped, or running since minute 0
    ∷ any 267 ∷ any 268 ∷ byte 269 1 0x27 ∷ byte 270 2 255 ∷ byte 271 4 12 ∷ byte 272 0 1 ∷ only 273 0 ∷ only 274 0
    ∷ byte 275 0 1 ∷ byte 276 0 5 ∷ byte 277 0 8 ∷ byte 278 0 8 ∷ byte 279 0 8 ∷ byte 280 0 8
    ∷ []

abbrev takes : List ℕ → ℕ → ℕ → Bool
takes bytes at value = is_position (set bytes at value)

-- it takes its least and its most, and not the values beside them that a byte may have
abbrev holds : List ℕ → Byte → Bool
holds bytes b =
    every
    (takes bytes b.at b.least
    ∷ (eqb b.least b.most || takes bytes b.at b.most)
    ∷ (eqb b.least 0 || not (takes bytes b.at (b.least - 1)))
    ∷ (eqb b.most 255 || not (takes bytes b.at (b.most + 1)))
    ∷ [])

-- the bytes of a list that do not hold
abbrev failing : List ℕ → List Byte → List ℕ
failing bytes [] = []
failing bytes (b ∷ l) = cond (holds bytes b) (failing bytes l) (b.at ∷ failing bytes l)

values_hold : failing all_kinds in_all_kinds ≡ []
unfolding positions_compute
values_hold = refl

-- what a vehicle may have left on, all else as it is: an OPEN is as a RETURN, a THROUGH as one that neither asks nor grants, and a TRAIN as a LAST TRAIN
kinds_hold : map (λ at. below (takes all_kinds at) 16 []) (0 ∷ 20 ∷ 40 ∷ []) ≡ (2 ∷ 4 ∷ []) ∷ (3 ∷ 4 ∷ []) ∷ (5 ∷ 9 ∷ []) ∷ []
unfolding positions_compute
kinds_hold = refl

-- "in order from A to B", and unused places behind them: a place left out before a vehicle, and B's vehicle nearer A than A's
no_positions : map is_position ((replicate 10 0 ++ take 10 worked ++ drop 20 worked) ∷ (take 10 all_kinds ++ engine_place 2 1 1 ++ drop 20 all_kinds) ∷ []) ≡ false ∷ false ∷ []
unfolding positions_compute
no_positions = refl

-- ---- the numbers of a speed

speed_numbers : map speed_number (NoSpeed ∷ Walking ∷ Kmh 10 ∷ Kmh 15 ∷ Booked ∷ Both 25 10 ∷ Both 10 10 ∷ []) ≡ 0 ∷ 65536 ∷ 131082 ∷ 131087 ∷ 196608 ∷ 268554 ∷ 264714 ∷ []
speed_numbers = refl

-- ---- the step on a position

-- what a call must answer, and leave in the position and in the numbers lent: whatever it is said to, it is this
abbrev Steps : List ℕ → List ℕ → List ℕ → ℕ → List ℕ → List ℕ → Type 0
Steps position entry numbers answer positionAfter numbersAfter = (a : ℕ) (p n : List ℕ) → StepsPosition position entry numbers a p n
    → (a ≡ answer) × (p ≡ positionAfter) × (n ≡ numbersAfter)

steps_as : {position entry numbers : List ℕ} (a : ℕ) (p n : List ℕ) → StepsPosition position entry numbers a p n
    → let v = first_of (step_tests position numbers) in
    let r = step_of (section_at position) entry in
    (a ≡ if_allowed v (refusal_in v) (refusal_in r.answer)) × (p ≡ if_allowed v position (position_of r.section)) × (n ≡ if_allowed v numbers (answer_in r.answer numbers))
steps_as a p n h = (h.answered, h.left, h.put)

-- docs/FORMAT.md: before the seventh entry of that log, and between it and the eighth, which is counted
abbrev before_last : List ℕ
before_last =
    (0x05 ∷ 0x01 ∷ 0x00 ∷ 0x02 ∷ 0x02 ∷ 0x00 ∷ 0x00 ∷ 0x00 ∷ 0x00 ∷ 0x00 ∷ [])
    ++ replicate 230 0
    ++ (0x01 ∷ [])
    ++ replicate 12 0
    ++ (0x00 ∷ 0x60 ∷ 0x00 ∷ 0x02 ∷ 0x01 ∷ 0x01 ∷ 0x00 ∷ 0x60 ∷ 0x00 ∷ 0x00 ∷ 0x02 ∷ 0x03 ∷ 0x00 ∷ 0x00 ∷ [])
    ++ (0x00 ∷ 0x4B ∷ 0x00 ∷ 0x01 ∷ 0x01 ∷ 0x01 ∷ 0x00 ∷ 0x4B ∷ 0x00 ∷ 0x00 ∷ 0x00 ∷ 0x00 ∷ 0x04 ∷ 0x00 ∷ [])

abbrev uncounted : List ℕ
uncounted = set worked 244 0

-- a LAST TRAIN of A in minute 126 that grants two, and a TRAIN of A in minute 156
abbrev the_last : List ℕ
the_last = 0x4F ∷ 0x09 ∷ 0x01 ∷ 0x00 ∷ 0x7E ∷ 0x01 ∷ 0x02 ∷ []

abbrev one_more : List ℕ
one_more = 0x0F ∷ 0x05 ∷ 0x01 ∷ 0x00 ∷ 0x9C ∷ 0x01 ∷ []

-- "The seventh entry, the LAST TRAIN, was answered 0 with the numbers 3, 108 and 268,554 .. The eighth was answered 15, and the three numbers stayed."; a fourth number stays
worked_steps : Steps before_last the_last (71 ∷ 72 ∷ 73 ∷ 74 ∷ []) 0 uncounted (3 ∷ 108 ∷ 268554 ∷ 74 ∷ [])
    × Steps uncounted one_more (3 ∷ 108 ∷ 268554 ∷ []) 15 worked (3 ∷ 108 ∷ 268554 ∷ [])
unfolding positions_compute
worked_steps = (steps_as, steps_as)

-- "bytes that are no well-made section (26) .. then 23, and before any entry is read; none alters anything": 26 alone, 26 with two numbers lent, and 23 alone, each handed
-- bytes that are no entry
abbrev no_position : List ℕ
no_position = set worked 280 9

refused_in_order : Steps no_position [] (71 ∷ 72 ∷ 73 ∷ []) 26 no_position (71 ∷ 72 ∷ 73 ∷ [])
    × Steps no_position one_more (71 ∷ 72 ∷ []) 26 no_position (71 ∷ 72 ∷ [])
    × Steps worked [] (71 ∷ 72 ∷ []) 23 worked (71 ∷ 72 ∷ [])
    × Steps worked one_more [] 23 worked []
unfolding positions_compute
refused_in_order = (steps_as, steps_as, steps_as, steps_as)
