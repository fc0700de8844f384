-- Sentences of document 01, and of T-01 in document 02, each as one computed equation.
-- Assumes nothing.
use Prim.Native.Nat.{ℕ}
use Rattle.std.specs.Prelude.{Err, None}
use Rattle.working.proofs.examples.Computing.{reading_computes, step_computes, turns_compute}
use Rattle.working.proofs.examples.Edges.{after, begun, guest, holding}
use Rattle.working.proofs.examples.Literals.{begin, counts, meet, opens, opens_as, plain, receive, resume, returns, returns_asking, through, train, vehicle}
use Rattle.working.specs.Answers.{accept}
use Rattle.working.specs.Entries.{read_at, written_at}
use Rattle.working.specs.Sections.{count_refusal, emptied, fresh, fresh_desk, number_at, pad_to}
use Rattle.working.specs.Steps.{step_of}
use Rattle.working.specs.Terms.{vehicle_at}
use Rattle.working.specs.Turns.{answers_in, single, turns_from, turns_of}
use Rattle.working.specs.declared.Entry.{Entry}
use Rattle.working.specs.declared.Movement.TheVariants.{Open, Return}
use Rattle.working.specs.declared.Read.TheVariants as read
use Rattle.working.specs.declared.Refusal.TheVariants.{BufferTooShort, EndsInside, IllMade, IntervalRunning, UnknownKind, WrongMap}
use Rattle.working.specs.declared.Section.{Section}
use Rattle.working.specs.declared.Speed.TheVariants.{Kmh}
use Rattle.working.specs.declared.Station.TheVariants.{A, B}
use Rattle.working.specs.declared.Station.{Station}
use Rattle.working.specs.declared.Table.TheVariants.{SingleLine}
use mathlib.Core.Bool.{false, true}
use mathlib.Core.List.{List, [], ◌∷◌}
use mathlib.Core.Path.{refl, ◌≡◌}

-- a section that is not well made: a vehicle counted in an unused place
abbrev ill : Section
ill = record { vehicles = pad_to 24 []; len = 1; force = true; refused = counts 7 8 9; a = fresh_desk; b = fresh_desk }

-- a section not in force with so many refused for A, for B, and of no station
abbrev refusing : ℕ → ℕ → ℕ → Section
refusing a b none = emptied false (counts a b none)

-- an OPEN of station x, refused for it where the working is not in force
abbrev opening : Station → List ℕ
opening x = opens (number_at x) 10 1 2

-- A1 and B1 opened, and then met
abbrev opened : Section
opened = after begun (opens 1 10 1 2 ∷ opens 2 11 2 1 ∷ [])

abbrev meeting : Station → Section
meeting x = after opened (meet (number_at x) 1 1 ∷ [])

-- A's train engine, class 2, with three trains asked for, a guest at B
abbrev visiting : Section
visiting = after begun (opens_as 1 10 1 2 3 ∷ receive 2 70 1 1 ∷ [])

-- from the table of edges, A1 a guest at B, its RETURN then on the way
abbrev returning : Section
returning = after guest (returns 2 75 2 ∷ [])

abbrev beginning : Entry
beginning = record { map = 1; kind = 1; station = 0; time = 0; view = 0; class = 0; asked = 0; granted = 0; sender = 0; number = 0 }

-- "A refusal adds 1 to the count and alters nothing else"
refusal_counts : (step_of begun begin).section ≡ count_refusal None begun
unfolding step_computes
refusal_counts = refl

-- "19 interval running, under 30 minutes": at the clock's end too, 15 minutes after a departure at 65,520; and 30 minutes after one at 65,505 it has run
interval_at_clock_end : ((step_of (after begun (through 1 255 240 ∷ [])) (through 1 255 255)).answer ≡ Err IntervalRunning)
    × ((step_of (after begun (through 1 255 225 ∷ [])) (through 1 255 255)).answer ≡ accept 2 1 (Kmh 15))
unfolding step_computes
interval_at_clock_end = (refl, refl)

-- "Each stops at its own largest value.": from 4,294,967,294 to 4,294,967,295, and it stays there
count_stops : (after (refusing 4294967294 5 7) (opening A ∷ []) ≡ refusing 4294967295 5 7)
    × (after (refusing 4294967295 5 7) (opening A ∷ []) ≡ refusing 4294967295 5 7)
    × (after (refusing 5 4294967294 7) (opening B ∷ []) ≡ refusing 5 4294967295 7)
    × (after (refusing 5 4294967295 7) (opening B ∷ []) ≡ refusing 5 4294967295 7)
    × (after (refusing 5 7 4294967294) ([] ∷ []) ≡ refusing 5 7 4294967295)
    × (after (refusing 5 7 4294967295) ([] ∷ []) ≡ refusing 5 7 4294967295)
unfolding step_computes
count_stops = (refl, refl, refl, refl, refl, refl)

-- and at no other's: two have stopped, and the third goes on
others_go_on : (after (refusing 5 4294967295 4294967295) (opening A ∷ []) ≡ refusing 6 4294967295 4294967295)
    × (after (refusing 4294967295 5 4294967295) (opening B ∷ []) ≡ refusing 4294967295 6 4294967295)
    × (after (refusing 4294967295 4294967295 5) ([] ∷ []) ≡ refusing 4294967295 4294967295 6)
unfolding step_computes
others_go_on = (refl, refl, refl)

-- "those of no station (refusals 1 to 4, BEGIN, RESUME and MEET)": a cut OPEN of A, kind 10 at A, which is none, an OPEN of A with one bit too many, one that asks
-- for 9, a MEET that names A, BEGIN in force, and RESUME out of force
of_no_station : (after begun ((0x3F ∷ 2 ∷ 1 ∷ []) ∷ []) ≡ emptied true (counts 0 0 1))
    × (after begun ((0x07 ∷ 10 ∷ 1 ∷ 0 ∷ 10 ∷ []) ∷ []) ≡ emptied true (counts 0 0 1))
    × (after begun ((0x7F ∷ 2 ∷ 1 ∷ 0 ∷ 10 ∷ 1 ∷ 1 ∷ 2 ∷ 1 ∷ []) ∷ []) ≡ emptied true (counts 0 0 1))
    × (after begun (opens 1 10 1 9 ∷ []) ≡ emptied true (counts 0 0 1))
    × (after begun (meet 1 1 1 ∷ []) ≡ emptied true (counts 0 0 1))
    × (after begun (begin ∷ []) ≡ emptied true (counts 0 0 1))
    × (after fresh (resume ∷ []) ≡ emptied false (counts 0 0 1))
unfolding step_computes
of_no_station = (refl, refl, refl, refl, refl, refl, refl)

-- "5 is tested first", also before no bytes, and alters nothing
ill_made_first : ((step_of ill []).answer ≡ Err IllMade) × ((step_of ill []).section ≡ ill)
unfolding step_computes
ill_made_first = (refl, refl)

-- "BEGIN: in force; all but the count as fresh. RESUME: as fresh but the count.": each of the three
begins_and_resumes : (after (refusing 5 6 7) (begin ∷ []) ≡ emptied true (counts 5 6 7)) × (after (refusing 5 6 7) (begin ∷ resume ∷ []) ≡ emptied false (counts 5 6 7))
unfolding step_computes
begins_and_resumes = (refl, refl)

-- "OPEN: out is set. The vehicle carries asked."
opener_away : (opened.a.out ≡ true) × ((vehicle_at opened 0).movement ≡ Open 2)
unfolding step_computes
opener_away = (refl, refl)

-- "OPEN makes guest and asked", and clears nothing: an enquiry is no line clear
enquiry_is_no_line_clear : (guest.b.guest ≡ 1) × (guest.b.clears.asked ≡ 2) × (guest.b.clears.holds ≡ 0)
unfolding guest step_computes
enquiry_is_no_line_clear = (refl, refl, refl)

-- "RETURN: guest and asked at S cleared; the vehicle has the guest's class and carries asked and granted; granted above 0 becomes S's owes."
return_leaves : (returning.b.guest ≡ 0)
    × (returning.b.clears.asked ≡ 0)
    × (returning.b.clears.owes ≡ 2)
    × ((vehicle_at returning 0).class ≡ 1)
    × ((vehicle_at returning 0).movement ≡ Return 0 2)
unfolding guest step_computes
return_leaves = (refl, refl, refl, refl, refl)

-- "TRAIN lowers owes by 1", at the station that receives it; "holds falls by 1" at the one that sent it
train_arrives : ((after holding (train 1 96 ∷ [])).a.clears.holds ≡ 1) × ((after holding (train 1 96 ∷ receive 2 130 1 2 ∷ [])).b.clears.owes ≡ 1)
unfolding guest holding step_computes
train_arrives = (refl, refl)

-- "the vehicle has the guest's class": a guest of class 2, whose RETURN carries class 2
guest_class_kept : (visiting.b.guest ≡ 2) × (vehicle_at (after visiting (returns_asking 2 75 1 3 ∷ [])) 0 ≡ vehicle (Return 1 3) 2 1 1 false 2)
unfolding step_computes
guest_class_kept = (refl, refl)

-- "MEET: .. both then head to the station given and are met": either station, and all else of the two as it was
both_redirected : (x : Station)
    → (vehicle_at (meeting x) 0 ≡ vehicle (Open 2) 1 1 (number_at x) true 1) × (vehicle_at (meeting x) 1 ≡ vehicle (Open 1) 2 1 (number_at x) true 1)
unfolding step_computes
both_redirected A = (refl, refl)
both_redirected B = (refl, refl)

-- "a log of no bytes has no entries"
no_entries : turns_of single fresh [] ≡ []
unfolding turns_from
no_entries = refl

-- "after 2, 3 or 4 reading goes on behind the entry"; "1 .. reading stops"
reading_goes_on : answers_in (turns_of single fresh (0 ∷ 3 ∷ 1 ∷ 1 ∷ 1 ∷ 1 ∷ 7 ∷ 7 ∷ [])) ≡ Err UnknownKind ∷ Err WrongMap ∷ plain ∷ Err EndsInside ∷ []
unfolding turns_compute
reading_goes_on = refl

-- "A position past the end gives a reader 1 and a writer 23."
past_the_end : (read_at SingleLine (1 ∷ 1 ∷ []) 3 ≡ read.Refused EndsInside 3) × (written_at SingleLine (1 ∷ 1 ∷ []) 3 beginning ≡ Err BufferTooShort)
unfolding reading_computes written_at
past_the_end = (refl, refl)
