-- T-08, RETURN while line clears are held. Masters with a guest asked what they must do on reading 11 against a RETURN: no list of steps from a fresh section leads there.
-- The step that had 11 on RETURN stays here as a definition. Of it is shown why the test could go; of today's step, that it differs from this one in nothing but the number
-- which such a RETURN reads.
-- A list by that step is worked on sections and bytes, so that the forms and the answers which stand in it are not looked at; a list today is a run, as in demand 3.
use Rattle.std.specs.Prelude.{Bool, Err, List, Ok, cond, eqb, false, true, ℕ, ◌<◌, ◌≡◌}
use Rattle.working.specs.Acts as acts
use Rattle.working.specs.Acts.{Act}
use Rattle.working.specs.Answers.{Answer, accept}
use Rattle.working.specs.Document01.{altered, on_decoded_by, return_tests_01, tests_by}
use Rattle.working.specs.Effects.{Plan, effect_of}
use Rattle.working.specs.Events.{At, Bad, Begin, Decoded, Meet, Resume, Says, decode}
use Rattle.working.specs.Reasons.{train_tests}
use Rattle.working.specs.Refusals.{first_of, number_of}
use Rattle.working.specs.Runs.{Done, Run, end_by, results, results_by}
use Rattle.working.specs.Sections.{desk_of, fresh}
use Rattle.working.specs.Steps.{if_made, unless_refused}
use Rattle.working.specs.WellMade.{well_made}
use Rattle.working.specs.declared.Desk.{Desk}
use Rattle.working.specs.declared.Refusal.TheVariants.{HoldsLineClear, NoGuest}
use Rattle.working.specs.declared.Refusal.{Refusal}
use Rattle.working.specs.declared.Section.{Section}
use Rattle.working.specs.declared.Station.{Station}
use Rattle.working.specs.declared.Stepped.{Stepped}
use Rattle.working.specs.declared.Vehicle.{Vehicle}

-- ---- the step before T-08: today's, but that a RETURN has document 01's tests, 11 between 9 and 14

abbrev pub plan_with_11 : Act → Station → Bool → Desk → ℕ → Vehicle → Plan
plan_with_11 act x force d time v = unless_refused (first_of (tests_by return_tests_01 train_tests act x force d time v)) (effect_of act x d time v)

unfoldable pub step_with_11 : Section → List ℕ → Stepped Section
step_with_11 s bytes = if_made (well_made s) s (on_decoded_by plan_with_11 s (decode bytes))

-- ---- why the test could go

-- "where a RETURN reads 11, no guest stands at that desk"
abbrev pub NoGuestAt11 : Type 0
NoGuestAt11 = (l : List Done) (bytes : List ℕ) (x : Station) (time asked granted : ℕ)
    → let s = end_by step_with_11 fresh l in
    decode bytes ≡ Says (At x time (acts.Return asked granted)) → (step_with_11 s bytes).answer ≡ Err HoldsLineClear → (desk_of s x).guest ≡ 0

-- no line clears at a desk: none held, none owed and none waiting
pub record NoClears (d : Desk) : Type 0 where
  pub holds : d.clears.holds ≡ 0
  pub owes : d.clears.owes ≡ 0
  pub waiting : d.waiting ≡ 0

-- "a desk with a guest holds nothing and owes nothing", at either station
abbrev pub GuestsWithoutClears : Section → Type 0
GuestsWithoutClears s = (x : Station) → 0 < (desk_of s x).guest → NoClears (desk_of s x)

-- "in every such list", by the step with 11 on RETURN, and today
abbrev pub GuestsWith11 : Type 0
GuestsWith11 = (l : List Done) → GuestsWithoutClears (end_by step_with_11 fresh l)

abbrev pub GuestsToday : Type 0
GuestsToday = (l : List Done) (s : Section) → Run fresh l s → GuestsWithoutClears s

-- ---- what became of the lists

abbrev pub says_return : Decoded → Bool
says_return (Bad why) = false
says_return (Says Begin) = false
says_return (Says (At x time (acts.Open view class asked))) = false
says_return (Says (At x time (acts.Through view))) = false
says_return (Says (At x time (acts.Return asked granted))) = true
says_return (Says (At x time (acts.Train endorsed view asked granted))) = false
says_return (Says (At x time (acts.Receive sender form))) = false
says_return (Says (Meet x sender form)) = false
says_return (Says Resume) = false

-- 14 in place of 11
abbrev pub reason_with_14 : Refusal → Refusal
reason_with_14 why = cond (eqb (number_of why) 11) NoGuest why

abbrev pub answer_with_14 : Answer → Answer
answer_with_14 (Err why) = Err (reason_with_14 why)
answer_with_14 (Ok given) = accept given.form given.forms given.speed

-- a step by which a RETURN reads 14 where it reads 11 by another, and which does all else as that
abbrev pub returns_with_14 : (Section → List ℕ → Stepped Section) → Section → List ℕ → Stepped Section
returns_with_14 step s bytes = altered (says_return (decode bytes)) answer_with_14 (step s bytes)

-- today's step gave each step of a list the section and the answer of the step before T-08, but that a RETURN which read 11 reads 14; and the section at the end is the same
pub record AsWith11 {l : List Done} {s : Section} (run : Run fresh l s) : Type 0 where
  pub each : results run ≡ results_by (returns_with_14 step_with_11) fresh l
  pub end : s ≡ end_by step_with_11 fresh l

abbrev pub AnsweredAsWith11 : Type 0
AnsweredAsWith11 = (l : List Done) (s : Section) (run : Run fresh l s) → AsWith11 run
