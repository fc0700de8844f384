-- Lists of steps on a double line section: what either form of the step says is the same, each answer and section is the definition's, every list of bytes and forms has
-- a run, and so have a log's entries, each step handed its own entry's bytes. The laws of lists are `working`'s, which take what a step says.
-- Assumes nothing.
use Prim.Native.Nat.{ℕ}
use Rattle.double.specs.Runs.{Run, StepBy, results, results_of}
use Rattle.double.specs.Steps.{decode, double, step_of}
use Rattle.double.specs.declared.Section.{Section}
use Rattle.working.proofs.laws.Lists.{Todo, after_by, done_by, each_by, runs_by}
use Rattle.working.proofs.laws.Turns.{turns_by}
use Rattle.working.proofs.theorems.OwnBytes.{own_reads}
use Rattle.working.specs.Answers.{Answer}
use Rattle.working.specs.Runs.{Done, StepForm, by_value, in_place, next, step_for, stop}
use Rattle.working.specs.Turns.{own_bytes, section_after, turn_in, turns_of}
use Rattle.working.specs.declared.Stepped.{Stepped}
use lib.ListN.{drop, length}
use mathlib.Core.List.{List, map}
use mathlib.Core.Path.{refl, ◌≡◌}

-- what a step did, whatever its form; and each form says it
pub step_did : (f : StepForm) (s : Section) (bytes : List ℕ) (a : Answer) (t : Section) → StepBy f s bytes a t → record { answer = a; section = t } ≡ step_of s bytes
step_did by_value s bytes a t h = h
step_did in_place s bytes a t h = λ i. record { answer = h.0 i; section = h.1 i }

pub does : (f : StepForm) (s : Section) (bytes : List ℕ) → StepBy f s bytes (step_of s bytes).answer (step_of s bytes).section
does by_value s bytes = refl
does in_place s bytes = (refl, refl)

pub each_result : {s t : Section} {l : List Done} (run : Run s l t) → results run ≡ results_of s l
each_result run = each_by StepBy step_of (λ answer s. record { answer = answer; section = s }) (λ (r : Stepped Section). r.section) (λ answer s. refl) step_did run

-- ---- every list of bytes and forms has a run

abbrev pub done : Section → List Todo → List Done
done s l = done_by double s l

abbrev pub after : Section → List Todo → Section
after s l = after_by double s l

pub runs : (s : Section) (l : List Todo) → Run s (done s l) (after s l)
runs = runs_by double StepBy does

-- ---- and so has a log

-- a step does with its entry's own bytes what it does with the log from there on
own_step : (f : StepForm) (s : Section) (log : List ℕ) (at : ℕ)
    → StepBy f s (own_bytes log (turn_in double s log at)) (step_of s (drop at log)).answer (step_of s (drop at log)).section
unfolding decode step_of
own_step f s log at = rw (← own_reads double s log at) (does f s (own_bytes log (turn_in double s log at)))

abbrev pub steps_of : StepForm → Section → List ℕ → List Done
steps_of f s log = map (step_for f log) (turns_of double s log)

pub own-run : (f : StepForm) (s : Section) (log : List ℕ) → Run s (steps_of f s log) (section_after s (turns_of double s log))
own-run f s log =
    turns_by double log (λ n s at l. Run s (map (step_for f log) l) (section_after s l)) (λ s at. stop) (λ n s at r. stop)
    (λ n s at e g. next (own_step f s log at) stop)
    (λ n s at on l g more. next (own_step f s log at) more)
    (length log) s 0
