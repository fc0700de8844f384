-- Entries, lists and sections of the double line, each by computation.
-- Assumes nothing.
use Prim.Native.Nat.{ℕ}
use Rattle.double.proofs.Computing.{step_computes}
use Rattle.double.proofs.InOrder.{in_order}
use Rattle.double.proofs.Lists.{after, done, runs}
use Rattle.double.specs.InOrder.{departures, receipts}
use Rattle.double.specs.Sections.{emptied, fresh, fresh_side, line_of, side}
use Rattle.double.specs.Steps.{Decoded, decode, step_of}
use Rattle.double.specs.WellMade.{well_made}
use Rattle.double.specs.declared.Section.{Section}
use Rattle.double.specs.declared.Side.{Side}
use Rattle.std.specs.Prelude.{Err, None, Some}
use Rattle.working.proofs.examples.EntryTable.{below}
use Rattle.working.proofs.examples.Literals.{begin, plain, receive, resume}
use Rattle.working.proofs.laws.Lists.{Todo}
use Rattle.working.specs.Answers.{Answer, accept}
use Rattle.working.specs.Events.{Bad, Says}
use Rattle.working.specs.Refusals.{number_of}
use Rattle.working.specs.Runs.{Done, by_value}
use Rattle.working.specs.Sections.{none_refused, pad_with}
use Rattle.working.specs.declared.Refusal.TheVariants.{AlreadyInForce, BeforeClock, EndsInside, FormsUsed, IllMade, IntervalRunning}
use Rattle.working.specs.declared.Refusal.TheVariants.{NotInForce, NotNearest, OutOfRange, TwelveSent, UnknownKind, VehiclePresent, WrongMap}
use Rattle.working.specs.declared.Speed.TheVariants.{Both}
use Rattle.working.specs.declared.Station.TheVariants.{A, B}
use lib.Dec.{ltb}
use mathlib.Core.Bool.{Bool, false, true}
use mathlib.Core.List.{List, [], map, ◌++◌, ◌∷◌}
use mathlib.Core.Path.{refl, ◌≡◌}

-- ---- which bytes are an entry

-- bytes pass the refusals up to a number
abbrev passes : ℕ → Decoded → Bool
passes n (Says event) = true
passes n (Bad why) = ltb n (number_of why)

-- enough bytes for every map, with every field in its range
abbrev bytes_with : ℕ → ℕ → List ℕ
bytes_with map kind = map ∷ kind ∷ 1 ∷ 1 ∷ 1 ∷ 1 ∷ 1 ∷ 1 ∷ 1 ∷ 1 ∷ 1 ∷ 1 ∷ []

-- of the 256 kinds four are known
known_kinds : below (λ kind. passes 2 (decode (bytes_with 0x07 kind))) 256 [] ≡ 1 ∷ 5 ∷ 6 ∷ 8 ∷ []
unfolding step_computes
known_kinds = refl

-- and each has one of the 256 maps
abbrev maps_of : ℕ → List ℕ
maps_of kind = below (λ map. passes 4 (decode (bytes_with map kind))) 256 []

maps_by_kind : maps_of 1 ∷ maps_of 5 ∷ maps_of 6 ∷ maps_of 8 ∷ [] ≡ (0x01 ∷ []) ∷ (0x07 ∷ []) ∷ (0x87 ∷ []) ∷ (0x01 ∷ []) ∷ []
unfolding step_computes
maps_by_kind = refl

-- ---- lists of entries

-- the minute in two bytes
abbrev pub train : ℕ → ℕ → ℕ → List ℕ
train station high low = 0x07 ∷ 5 ∷ station ∷ high ∷ low ∷ []

abbrev pub todo : List (List ℕ) → List Todo
todo l = map (λ bytes. record { form = by_value; bytes = bytes }) l

abbrev pub answers : Section → List (List ℕ) → List Answer
answers s l = map (λ (d : Done). d.answer) (done s (todo l))

-- a departure's, on T/C 602 alone and at both speeds
abbrev pub order : ℕ → Answer
order form = accept form 256 (Both 25 10)

-- three trains from A, one from B, each received
abbrev log : List (List ℕ)
log =
    train 1 0 0  -- 7
    ∷ resume  -- 7
    ∷ begin
    ∷ begin  -- 6
    ∷ train 1 0 10
    ∷ resume  -- 8, A's line alone
    ∷ train 1 0 39  -- 19
    ∷ train 1 0 40
    ∷ receive 1 40 2 1  -- 20, the line is empty
    ∷ train 2 0 5
    ∷ receive 2 50 1 2  -- 20, the second on the line
    ∷ receive 2 50 2 1  -- 20, its own line
    ∷ receive 2 50 1 1
    ∷ receive 2 49 1 2  -- 9
    ∷ receive 2 60 1 2
    ∷ resume  -- 8, B's line alone
    ∷ receive 1 60 2 1
    ∷ train 1 0 69  -- 19, behind a receipt: "The interval never lapses by a receipt."
    ∷ train 1 0 70
    ∷ receive 2 100 1 3
    ∷ resume
    ∷ []  -- 1
    ∷ (0x07 ∷ 9 ∷ 1 ∷ 0 ∷ 0 ∷ [])  -- 2
    ∷ (0x0F ∷ 5 ∷ 1 ∷ 0 ∷ 0 ∷ 1 ∷ [])  -- 3, a TRAIN with a view
    ∷ train 3 0 0  -- 4
    ∷ []

log_answers : answers fresh log ≡
    Err NotInForce ∷ Err NotInForce ∷ plain ∷ Err AlreadyInForce ∷ order 1 ∷ Err VehiclePresent ∷ Err IntervalRunning ∷ order 2
    ∷ Err NotNearest ∷ order 1 ∷ Err NotNearest ∷ Err NotNearest ∷ plain ∷ Err BeforeClock ∷ plain ∷ Err VehiclePresent ∷ plain
    ∷ Err IntervalRunning ∷ order 3 ∷ plain ∷ plain ∷ Err EndsInside ∷ Err UnknownKind ∷ Err WrongMap ∷ Err OutOfRange ∷ []
unfolding step_computes
log_answers = refl

-- whose they were, which is all that is left
log_after_lem : after fresh (todo log) ≡ emptied false (record { a = 4; b = 3; none = 8 })
unfolding step_computes
log_after_lem = refl

-- A's departures since BEGIN; after another BEGIN there are none
log_departures : (departures A [] (done fresh (todo log)) ≡ 1 ∷ 2 ∷ 3 ∷ []) × (departures A [] (done fresh (todo (log ++ begin ∷ []))) ≡ [])
unfolding step_computes
log_departures = (refl, refl)

-- ---- the thirteenth departure

abbrev pub twelve : List (List ℕ)
twelve =
    begin ∷ train 1 0 0 ∷ train 1 0 30 ∷ train 1 0 60 ∷ train 1 0 90 ∷ train 1 0 120 ∷ train 1 0 150 ∷ train 1 0 180 ∷ train 1 0 210 ∷ train 1 0 240
    ∷ train 1 1 14 ∷ train 1 1 44 ∷ train 1 1 74 ∷ []

-- there is room for twelve on B's line all the same
own_room : answers (after fresh (todo twelve)) (train 1 1 104 ∷ train 2 0 0 ∷ []) ≡ Err TwelveSent ∷ order 1 ∷ []
unfolding step_computes
own_room = refl

-- a receipt at B makes room at A
thirteenth : answers (after fresh (todo twelve)) (receive 2 100 1 1 ∷ train 1 1 104 ∷ []) ≡ plain ∷ order 13 ∷ []
unfolding step_computes
thirteenth = refl

-- the same two changed about: that neighbours of two stations may change places is not claimed of a double line
changed_about_lem : answers (after fresh (todo twelve)) (train 1 1 104 ∷ receive 2 100 1 1 ∷ []) ≡ Err TwelveSent ∷ plain ∷ []
unfolding step_computes
changed_about_lem = refl

-- the theorem for that list: the thirteen that departed are the one received and the twelve on the line
abbrev whole : List Todo
whole = todo (twelve ++ receive 2 100 1 1 ∷ train 1 1 104 ∷ [])

whole_in_order : departures A [] (done fresh whole) ≡ receipts B [] (done fresh whole) ++ line_of (after fresh whole).a
whole_in_order = (in_order (runs fresh whole)).order B

whole-told : (receipts B [] (done fresh whole) ≡ 1 ∷ [])
    × (line_of (after fresh whole).a ≡ 2 ∷ 3 ∷ 4 ∷ 5 ∷ 6 ∷ 7 ∷ 8 ∷ 9 ∷ 10 ∷ 11 ∷ 12 ∷ 13 ∷ [])
unfolding step_computes
whole-told = (refl, refl)

-- ---- 19 at the clock's end: 15 minutes after a departure at 65,520; and 30 minutes after one at 65,505 it has run

clock_end :
    (answers fresh (begin ∷ train 1 255 240 ∷ train 1 255 255 ∷ []) ≡ plain ∷ order 1 ∷ Err IntervalRunning ∷ [])
    × (answers fresh (begin ∷ train 1 255 225 ∷ train 1 255 255 ∷ []) ≡ plain ∷ order 1 ∷ order 2 ∷ [])
unfolding step_computes
clock_end = (refl, refl)

-- ---- sections taken as they stand, and not as a list from fresh leaves them

-- in force, with this side at A
abbrev section_with : Side → Section
section_with d = record { force = true; refused = none_refused; a = d; b = fresh_side }

-- 18: A has used form 9,998
forms_used : (well_made (section_with (side 0 9998 None [])) ≡ true)
    × (answers (section_with (side 0 9998 None [])) (train 1 0 0 ∷ train 1 0 30 ∷ []) ≡ order 9999 ∷ Err FormsUsed ∷ [])
unfolding step_computes
forms_used = (refl, refl)

-- a gap in a line's numbers: they rise, and that is all that is asked of them; the first of them is received
gap : (well_made (section_with (side 0 7 None (2 ∷ 5 ∷ []))) ≡ true)
    × (answers (section_with (side 0 7 None (2 ∷ 5 ∷ []))) (receive 2 0 1 3 ∷ receive 2 0 1 2 ∷ receive 2 0 1 3 ∷ receive 2 0 1 5 ∷ train 1 0 0 ∷ [])
    ≡ Err NotNearest ∷ plain ∷ Err NotNearest ∷ plain ∷ order 8 ∷ [])
unfolding step_computes
gap = (refl, refl)

-- each count stops at its own largest value
counts_stop : after (emptied false (record { a = 4294967295; b = 4294967294; none = 4294967295 })) (todo (train 1 0 0 ∷ train 2 0 0 ∷ train 2 0 0 ∷ resume ∷ []))
    ≡ emptied false (record { a = 4294967295; b = 4294967295; none = 4294967295 })
unfolding step_computes
counts_stop = refl

-- ---- 5: sections that are not well made, each by one test alone; the step alters nothing

abbrev ill_made : List Section
ill_made =
    section_with (side 0 10000 None [])  -- forms end at 9,999
    ∷ section_with (side 0 20 None (1 ∷ 2 ∷ 3 ∷ 4 ∷ 5 ∷ 6 ∷ 7 ∷ 8 ∷ 9 ∷ 10 ∷ 11 ∷ 12 ∷ 13 ∷ []))  -- thirteen on the line
    ∷ section_with (side 0 2 None (0 ∷ []))  -- form 0
    ∷ section_with (side 0 2 None (1 ∷ 3 ∷ []))  -- a form that was not used
    ∷ section_with (side 0 2 None (2 ∷ 1 ∷ []))  -- falling
    ∷ section_with (side 0 2 None (2 ∷ 2 ∷ []))  -- twice the same
    ∷ section_with (record { clock = 0; last = 2; interval = None; numbers = pad_with 0 12 (1 ∷ 2 ∷ []); len = 1 })  -- an unused place
    ∷ section_with (side 4 2 (Some 5) [])  -- an interval later than the clock
    ∷ record { force = false; refused = none_refused; a = fresh_side; b = side 1 0 None [] }  -- not in force, and not as fresh
    ∷ []

ill-made : map (λ s. step_of s begin) ill_made ≡ map (λ s. record { answer = Err IllMade; section = s }) ill_made
unfolding step_computes
ill-made = refl
