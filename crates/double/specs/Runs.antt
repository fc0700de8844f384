-- Lists of steps on one double line section, in either form.
use Rattle.double.specs.Steps.{step_of}
use Rattle.double.specs.declared.Section.{Section}
use Rattle.std.specs.Prelude.{List, ℕ, ◌≡◌}
use Rattle.working.specs.Answers.{Answer}
use Rattle.working.specs.Runs.{Done, RunBy, StepForm, by_value, in_place, results_over, results_with}
use Rattle.working.specs.declared.Stepped.{Stepped}

-- what the contract of each form says: the step that returns the section, and the one that alters it in the owner's own memory, from s to t
abbrev pub StepReturns : Section → List ℕ → Stepped Section → Type 0
StepReturns s bytes r = r ≡ step_of s bytes

abbrev pub StepLeaves : Section → List ℕ → Answer → Section → Type 0
StepLeaves s bytes answer t = (answer ≡ (step_of s bytes).answer) × (t ≡ (step_of s bytes).section)

abbrev pub StepBy : StepForm → Section → List ℕ → Answer → Section → Type 0
StepBy by_value s bytes answer t = StepReturns s bytes (record { answer = answer; section = t })
StepBy in_place s bytes answer t = StepLeaves s bytes answer t

-- the steps of a list, from s to t; each answer with the section after it, as they were and as the definitions fix them
abbrev pub Run : Section → List Done → Section → Type 0
Run s l t = RunBy StepBy s l t

abbrev pub results : {s t : Section} {l : List Done} → Run s l t → List (Stepped Section)
results run = results_with (λ answer s. record { answer = answer; section = s }) run

abbrev pub results_of : Section → List Done → List (Stepped Section)
results_of s l = results_over step_of (λ (r : Stepped Section). r.section) s l
