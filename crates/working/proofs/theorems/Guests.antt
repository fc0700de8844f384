-- T-08, of every list of steps from a fresh section. By the step that had 11 on RETURN: where a RETURN reads 11, no guest stands at that desk (`no_guest_at_11`), and a desk
-- with a guest holds nothing, owes nothing and has nothing waiting (`guests_with_11`). By today's step: the same of a desk with a guest
-- (`guests_today`), and every step has the same section and the same answer, but that a RETURN which read 11 reads 14 (`answered_as_with_11`).
-- That a desk with a guest has no line clears is a clause of the invariant, GUEST. The two steps differ only at a RETURN whose desk holds a line clear. By GUEST no guest
-- stands there, so that today's tests come to 14 where those before stopped at 11 (`verdict_as`); by either it is refused, and the section is the same. So the step with 11
-- on RETURN keeps the invariant as today's does, and what is shown of its lists follows.
-- Assumes nothing.
use Prim.Native.Nat.{ℕ, ◌+◌, ◌<◌}
use Rattle.std.specs.Prelude.{Err, Ok}
use Rattle.working.proofs.examples.Computing.{reading_computes, step_computes}
use Rattle.working.proofs.examples.Consequences.{holding, list}
use Rattle.working.proofs.examples.Literals.{opens, receive, returns}
use Rattle.working.proofs.invariant.Changes.{step_is}
use Rattle.working.proofs.invariant.Preserved.{Good, good_emptied, good_step, kept_at}
use Rattle.working.proofs.laws.Lists.{ListAs, after, done, each_result, next_as, runs, step_did}
use Rattle.working.proofs.laws.Tests.{IsNot, first_is_not, zero_unless}
use Rattle.working.proofs.theorems.Demand3.{kept}
use Rattle.working.specs.Acts as acts
use Rattle.working.specs.Answers.{Answer, accept}
use Rattle.working.specs.Document01.{altered, on_decoded_by, return_tests_01}
use Rattle.working.specs.Effects.{effect_of, way_form}
use Rattle.working.specs.Events.{At, Bad, Begin, Decoded, Meet, Resume, Says, decode}
use Rattle.working.specs.Guests.{AnsweredAsWith11, GuestsToday, GuestsWith11, GuestsWithoutClears, NoGuestAt11, answer_with_14}
use Rattle.working.specs.Guests.{plan_with_11, reason_with_14, returns_with_14, says_return, step_with_11}
use Rattle.working.specs.Reasons.{depart_tests, last_tests, return_tests}
use Rattle.working.specs.Refusals.{Test, Verdict, first_of, number_of, or_else}
use Rattle.working.specs.Runs.{Done, Run, end_by, next, results, results_by, stop}
use Rattle.working.specs.Sections.{desk_of, fresh, nearest_at, none_refused, number_at, other_at, vehicles_of}
use Rattle.working.specs.Steps.{done_by, entered, on_decoded, step_of, unless_refused}
use Rattle.working.specs.WellMade.{well_made}
use Rattle.working.specs.declared.Desk.{Desk}
use Rattle.working.specs.declared.Refusal.TheVariants.{BeforeClock, GrantNotAllowed, HoldsLineClear, NoGuest, NotInForce}
use Rattle.working.specs.declared.Refusal.{Refusal}
use Rattle.working.specs.declared.Section.{Section}
use Rattle.working.specs.declared.Speed.TheVariants.{Booked}
use Rattle.working.specs.declared.Station.TheVariants.{A, B}
use Rattle.working.specs.declared.Station.{Station}
use Rattle.working.specs.declared.Stepped.{Stepped}
use borrow.Author.Tests.{eq-eqb, ltb-true, not-true}
use lib.Dec.{eqb, ltb}
use mathlib.Core.Bool.{Bool, false, false≢true, not, true}
use mathlib.Core.List.{List, [], ◌++◌, ◌∷◌}
use mathlib.Core.Path.{ap, refl, sym, ◌∙◌, ◌≡◌}
use native.Mathlib.Omega.{arith}

-- ---- a desk with a guest

no_clears_lem : (s : Section) → Good s → GuestsWithoutClears s
no_clears_lem s g x guest = let q = (kept_at x s g).own.guests guest in record { holds = q.holds; owes = q.owes; waiting = q.waiting }

-- so where a line clear is held no guest stands
no_guest : (x : Station) (s : Section) → Good s → 0 < (desk_of s x).clears.holds → (desk_of s x).guest ≡ 0
no_guest x s g holds = zero_unless (desk_of s x).guest (λ guest. omega (arith, (no_clears_lem s g x guest).holds))

-- ---- what a RETURN reads

abbrev verdict_with_14 : Verdict → Verdict
verdict_with_14 (Err why) = Err (reason_with_14 why)
verdict_with_14 (Ok _) = Ok tt

-- any refusal but 11 stays
other_stays : (v : Verdict) → IsNot 11 v → v ≡ verdict_with_14 v
other_stays (Err why) other = rw (not-true (eqb (number_of why) 11) other)
other_stays (Ok _) other = refl

-- where no guest stands at a desk that holds a line clear, today's tests of a RETURN come to 14 where document 01's come to 11, and else to the same
verdict_as : (force : Bool) (d : Desk) (time granted : ℕ) → (0 < d.clears.holds → d.guest ≡ 0)
    → first_of (depart_tests force d time (return_tests d granted)) ≡ verdict_with_14 (first_of (depart_tests force d time (return_tests_01 d granted)))
verdict_as force d time granted none =
    let later : List Test = (ltb d.clears.asked granted, GrantNotAllowed) ∷ last_tests d.sent d.last d.interval time in
    by (not force) (ltb time d.clock) (ltb 0 d.clears.holds) (eqb d.guest 0) (first_of later) (first_is_not 11 later refl)
    (λ holds. eq-eqb d.guest 0 (none (ltb-true 0 d.clears.holds holds)))
  where
    by : (idle early holds empty : Bool) (later : Verdict) → IsNot 11 later → (holds ≡ true → empty ≡ true)
        → or_else idle NotInForce (or_else early BeforeClock (or_else empty NoGuest later))
        ≡ verdict_with_14 (or_else idle NotInForce (or_else early BeforeClock (or_else holds HoldsLineClear (or_else empty NoGuest later))))
    by true early holds empty later other then = refl
    by false true holds empty later other then = refl
    by false false true true later other then = refl
    by false false true false later other then = absurd (false≢true (then refl))
    by false false false true later other then = refl
    by false false false false later other then = other_stays later other

-- and document 01's come to 11 only where one is held
eleven_holds : (force : Bool) (d : Desk) (time granted : ℕ) → first_of (depart_tests force d time (return_tests_01 d granted)) ≡ Err HoldsLineClear → 0 < d.clears.holds
eleven_holds force d time granted reads = by (ltb 0 d.clears.holds) refl (first_is_not 11 (depart_tests force d time (return_tests d granted)) refl)
  where
    by : (b : Bool) → ltb 0 d.clears.holds ≡ b → IsNot 11 (first_of (depart_tests force d time (return_tests d granted))) → 0 < d.clears.holds
    by true some other = ltb-true 0 d.clears.holds some
    by false none other = absurd (false≢true (rw (rw none at reads) at other))

-- ---- the step

-- what a RETURN comes to by a verdict
abbrev return_by : Section → Station → ℕ → ℕ → ℕ → Verdict → Stepped Section
return_by s x time asked granted v =
    let act = acts.Return asked granted in
    done_by s (Says (At x time act)) x (unless_refused v (effect_of act x (desk_of s x) time (nearest_at x (vehicles_of s))))

return_as : (s : Section) (x : Station) (time asked granted : ℕ) (v : Verdict) → return_by s x time asked granted (verdict_with_14 v) ≡ altered true answer_with_14 (return_by s x time asked granted v)
return_as s x time asked granted (Err why) = refl
return_as s x time asked granted (Ok _) = refl

-- only the verdict refuses it
refused_by_lem : (s : Section) (x : Station) (time asked granted : ℕ) (v : Verdict) (why : Refusal) → (return_by s x time asked granted v).answer ≡ Err why → v ≡ Err why
refused_by_lem s x time asked granted (Err other) why is = cc
refused_by_lem s x time asked granted (Ok _) why is = cc

decoded_as_lem : (s : Section) (e : Decoded) → Good s → on_decoded s e ≡ altered (says_return e) answer_with_14 (on_decoded_by plan_with_11 s e)
unfolding entered
decoded_as_lem s (Bad why) g = refl
decoded_as_lem s (Says Begin) g = refl
decoded_as_lem s (Says (At x time (acts.Open view class asked))) g = refl
decoded_as_lem s (Says (At x time (acts.Through view))) g = refl
decoded_as_lem s (Says (At x time (acts.Return asked granted))) g =
    ap (return_by s x time asked granted) (verdict_as s.force (desk_of s x) time granted (no_guest x s g))
    ∙ return_as s x time asked granted (first_of (depart_tests s.force (desk_of s x) time (return_tests_01 (desk_of s x) granted)))
decoded_as_lem s (Says (At x time (acts.Train endorsed view asked granted))) g = refl
decoded_as_lem s (Says (At x time (acts.Receive sender form))) g = refl
decoded_as_lem s (Says (Meet x sender form)) g = refl
decoded_as_lem s (Says Resume) g = refl

step_with_11_is : (s : Section) (bytes : List ℕ) → well_made s ≡ true → step_with_11 s bytes ≡ on_decoded_by plan_with_11 s (decode bytes)
unfolding step_with_11
step_with_11_is s bytes made = rw made

step_as : (s : Section) (bytes : List ℕ) → Good s → step_of s bytes ≡ returns_with_14 step_with_11 s bytes
step_as s bytes g =
    let made = g.sound.well in
    step_is s bytes made ∙ decoded_as_lem s (decode bytes) g ∙ ap (altered (says_return (decode bytes)) answer_with_14) (sym (step_with_11_is s bytes made))

-- ---- the lists

same-section : (s : Section) (bytes : List ℕ) → Good s → (step_of s bytes).section ≡ (step_with_11 s bytes).section
same-section s bytes g = ap (λ (r : Stepped Section). r.section) (step_as s bytes g)

good_end : (l : List Done) (s : Section) → Good s → Good (end_by step_with_11 s l)
good_end [] s g = g
good_end (d ∷ l) s g = good_end l (step_with_11 s d.bytes).section (rw (same-section s d.bytes g) at (good_step s d.bytes g))

good_list : (l : List Done) → Good (end_by step_with_11 fresh l)
good_list l = good_end l fresh (good_emptied false none_refused)

list_as : {s t : Section} {l : List Done} → Good s → Run s l t → ListAs step_with_11 (returns_with_14 step_with_11) s l t
list_as g stop = record { each = refl; end = refl }
list_as {s} g (next {t = t} {d = d} h r) =
    let left = (step_did d s t h).left in
    next_as left (step_as s d.bytes g) refl (list_as (rw left (good_step s d.bytes g)) r)

-- ---- the theorems

pub no_guest_at_11 : NoGuestAt11
no_guest_at_11 l bytes x time asked granted says reads =
    let s = end_by step_with_11 fresh l in
    let g = good_list l in
    let now = rw (step_with_11_is s bytes g.sound.well, says) at reads in
    no_guest x s g (eleven_holds s.force (desk_of s x) time granted (refused_by_lem s x time asked granted _ HoldsLineClear now))

pub guests_with_11 : GuestsWith11
guests_with_11 l = no_clears_lem (end_by step_with_11 fresh l) (good_list l)

pub guests_today : GuestsToday
guests_today l s run = no_clears_lem s (kept run).good

pub answered_as_with_11 : AnsweredAsWith11
answered_as_with_11 l s run = let k = list_as (good_emptied false none_refused) run in record { each = each_result run ∙ k.each; end = k.end }

-- ---- the same in other words, of any list, so that a weaker statement is refused

-- a master with a guest never read 11 against a RETURN
never_eleven : (l : List Done) (bytes : List ℕ) (x : Station) (time asked granted : ℕ)
    → let s = end_by step_with_11 fresh l in
    decode bytes ≡ Says (At x time (acts.Return asked granted)) → 0 < (desk_of s x).guest → (step_with_11 s bytes).answer ≡ Err HoldsLineClear → ⊥
never_eleven l bytes x time asked granted says guest reads = omega (arith, no_guest_at_11 l bytes x time asked granted says reads)

-- his desk had nothing held, owed or waiting, and has none today
nothing_there : (l : List Done) (x : Station) → let d = desk_of (end_by step_with_11 fresh l) x in 0 < d.guest → d.clears.holds + d.clears.owes + d.waiting ≡ 0
nothing_there l x guest = omega (arith, guests_with_11 l x guest)

nothing_today : {l : List Done} {s : Section} → Run fresh l s → (x : Station) → let d = desk_of s x in 0 < d.guest → d.clears.holds + d.clears.owes + d.waiting ≡ 0
nothing_today {l} {s} run x guest = omega (arith, guests_today l s run x guest)

-- every answer and every section, and the section at the end
same_but_14 : {l : List Done} {s : Section} (run : Run fresh l s) → (results run ≡ results_by (returns_with_14 step_with_11) fresh l) × (s ≡ end_by step_with_11 fresh l)
same_but_14 {l} {s} run = let k = answered_as_with_11 l s run in (k.each, k.end)

-- ---- such lists there are

-- the section after a list of entries behind BEGIN, by a step, and the answer that it gives there
abbrev reached : (Section → List ℕ → Stepped Section) → List (List ℕ) → Section
reached step l = end_by step fresh (done fresh (list l))

abbrev answers : (Section → List ℕ → Stepped Section) → List (List ℕ) → List ℕ → Answer
answers step l bytes = (step (reached step l) bytes).answer

-- station x holds two line clears: a RETURN that it enters read 11, and reads 14; an OPEN reads 11 by either step
eleven_then_fourteen : (x : Station)
    → (answers step_with_11 (holding x) (returns (number_at x) 91 3) ≡ Err HoldsLineClear)
    × (answers step_of (holding x) (returns (number_at x) 91 3) ≡ Err NoGuest)
    × (answers step_with_11 (holding x) (opens (number_at x) 91 1 2) ≡ Err HoldsLineClear)
    × (answers step_of (holding x) (opens (number_at x) 91 1 2) ≡ Err HoldsLineClear)
unfolding step_computes step_with_11
eleven_then_fourteen A = (refl, refl, refl, refl)
eleven_then_fourteen B = (refl, refl, refl, refl)

-- the opener of the other station stands at x as its guest, and the RETURN is accepted, by either step
abbrev visit : Station → List (List ℕ)
visit x = opens (number_at (other_at x)) 0 1 2 ∷ receive (number_at x) 60 (number_at (other_at x)) 1 ∷ []

guest_returns : (x : Station)
    → ((desk_of (reached step_with_11 (visit x)) x).guest ≡ 1)
    × ((desk_of (reached step_of (visit x)) x).guest ≡ 1)
    × (answers step_with_11 (visit x) (returns (number_at x) 61 2) ≡ accept 1 (way_form x + 164) Booked)
    × (answers step_of (visit x) (returns (number_at x) 61 2) ≡ accept 1 (way_form x + 164) Booked)
unfolding step_computes step_with_11
guest_returns A = (refl, refl, refl, refl)
guest_returns B = (refl, refl, refl, refl)

-- ---- and what the theorems say of them

returns_there : (x : Station) → decode (returns (number_at x) 91 3) ≡ Says (At x 91 (acts.Return 0 3))
unfolding reading_computes
returns_there A = refl
returns_there B = refl

-- x holds two line clears, a RETURN reads 11, and no guest stands there
no_guest_there : (x : Station) → (desk_of (reached step_with_11 (holding x)) x).guest ≡ 0
no_guest_there x = no_guest_at_11 (done fresh (list (holding x))) (returns (number_at x) 91 3) x 91 0 3 (returns_there x) (eleven_then_fourteen x).0

-- a guest stands at x: nothing held, nothing owed and nothing waiting, by the step before T-08, and today
abbrev NoneAt : Desk → Type 0
NoneAt d = (d.clears.holds ≡ 0) × (d.clears.owes ≡ 0) × (d.waiting ≡ 0)

none_then : (x : Station) → NoneAt (desk_of (reached step_with_11 (visit x)) x)
none_then x = let k = guests_with_11 (done fresh (list (visit x))) x (omega (arith, (guest_returns x).0)) in (k.holds, k.owes, k.waiting)

none_today : (x : Station) → NoneAt (desk_of (after fresh (list (visit x))) x)
none_today x =
    let l = list (visit x) in
    let k = guests_today (done fresh l) (after fresh l) (runs fresh l) x (omega (arith, (guest_returns x).1)) in
    (k.holds, k.owes, k.waiting)

-- the list with that RETURN in it: every answer and every section, and the section at the end
as_with_11_there : (x : Station)
    → let l = list (holding x ++ returns (number_at x) 91 3 ∷ []) in
    (results (runs fresh l) ≡ results_by (returns_with_14 step_with_11) fresh (done fresh l)) × (after fresh l ≡ end_by step_with_11 fresh (done fresh l))
as_with_11_there x =
    let l = list (holding x ++ returns (number_at x) 91 3 ∷ []) in
    let k = answered_as_with_11 (done fresh l) (after fresh l) (runs fresh l) in
    (k.each, k.end)
