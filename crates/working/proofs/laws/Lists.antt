-- Lists of steps: what either form of the step says is the same, a list may be taken apart and put together, and every list of bytes and forms has a run.
-- Assumes nothing.
use Prim.Native.Nat.{ℕ}
use Rattle.working.specs.Answers.{Answer}
use Rattle.working.specs.Runs.{Done, Run, RunBy, StepBy, StepForm, by_value, end_by, in_place, next, results, results_by, results_of, results_over, results_with, stop}
use Rattle.working.specs.Steps.{step_of}
use Rattle.working.specs.Turns.{Working, single}
use Rattle.working.specs.declared.Section.{Section}
use Rattle.working.specs.declared.Stepped.{Stepped}
use mathlib.Core.List.{List, [], ◌++◌, ◌∷◌}
use mathlib.Core.Path.{ap, ap₂, refl, sym, ◌∙◌, ◌≡◌}

-- ---- whatever the section

module _ {S : Type 0} (By : StepForm → S → List ℕ → Answer → S → Type 0) where
  pub split_run : (before : List Done) {s u : S} {l : List Done} → RunBy By s (before ++ l) u → (t : S) × RunBy By s before t × RunBy By t l u
  split_run [] {s} r = (s, stop, r)
  split_run (d ∷ before) (next h r) = let (t, first, later) = split_run before r in (t, next h first, later)

  pub join_run : {before l : List Done} {s t u : S} → RunBy By s before t → RunBy By t l u → RunBy By s (before ++ l) u
  join_run stop r = r
  join_run (next h q) r = next h (join_run q r)

  -- each answer and each section on the way is the definition's, where that is what the two forms say
  module _ {R : Type 0} (step : S → List ℕ → R) (result : Answer → S → R) (section : R → S) (back : (a : Answer) (s : S) → section (result a s) ≡ s)
      (says : (f : StepForm) (s : S) (bytes : List ℕ) (a : Answer) (t : S) → By f s bytes a t → result a t ≡ step s bytes) where
    pub each_by : {s t : S} {l : List Done} (r : RunBy By s l t) → results_with result r ≡ results_over step section s l
    each_by stop = refl
    each_by (next {s} {t} {d = d} {l = l} h r) =
        let did = says d.form s d.bytes d.answer t h in
        ap₂ ◌∷◌ did (each_by r ∙ ap (λ (z : S). results_over step section z l) (sym (back d.answer t) ∙ ap section did))

-- every list of bytes and forms has a run, where the forms say what is worked
pub record Todo : Type 0 where
  pub form : StepForm
  pub bytes : List ℕ

module _ {S : Type 0} (W : Working S) where
  abbrev pub done_by : S → List Todo → List Done
  done_by s [] = []
  done_by s (d ∷ l) = record { form = d.form; bytes = d.bytes; answer = W.answer s d.bytes } ∷ done_by (W.after s d.bytes) l

  abbrev pub after_by : S → List Todo → S
  after_by s [] = s
  after_by s (d ∷ l) = after_by (W.after s d.bytes) l

  pub runs_by : (By : StepForm → S → List ℕ → Answer → S → Type 0) → ((f : StepForm) (s : S) (bytes : List ℕ) → By f s bytes (W.answer s bytes) (W.after s bytes))
      → (s : S) (l : List Todo) → RunBy By s (done_by s l) (after_by s l)
  runs_by By does s [] = stop
  runs_by By does s (d ∷ l) = next (does d.form s d.bytes) (runs_by By does (W.after s d.bytes) l)

-- ---- the single line

-- what a step did, whatever its form
pub record StepDid (d : Done) (s t : Section) : Type 0 where
  pub answered : d.answer ≡ (step_of s d.bytes).answer
  pub left : t ≡ (step_of s d.bytes).section

pub step_did : (d : Done) (s t : Section) → StepBy d.form s d.bytes d.answer t → StepDid d s t
step_did d s t h = by d.form h
  where
    by : (f : StepForm) → StepBy f s d.bytes d.answer t → StepDid d s t
    by by_value h = record { answered = ap (λ (r : Stepped Section). r.answer) h; left = ap (λ (r : Stepped Section). r.section) h }
    by in_place h = record { answered = h.0; left = h.1 }

pub step_by : (f : StepForm) (s : Section) (bytes : List ℕ) {a : Answer} {t : Section} → a ≡ (step_of s bytes).answer
    → t ≡ (step_of s bytes).section → StepBy f s bytes a t
step_by by_value s bytes p q = λ i. record { answer = p i; section = q i }
step_by in_place s bytes p q = (p, q)

pub each_result : {s t : Section} {l : List Done} (r : Run s l t) → results r ≡ results_of s l
each_result r =
    each_by StepBy step_of (λ answer s. record { answer = answer; section = s }) (λ (r : Stepped Section). r.section) (λ answer s. refl)
    (λ f s bytes answer t h. let did = step_did (record { form = f; bytes = bytes; answer = answer }) s t h in λ i. record { answer = did.answered i; section = did.left i })
    r

-- a list by another step: each result is that of `alike`, which leaves the same sections as `step`, and the section at its end is that of `step`
pub record ListAs (step alike : Section → List ℕ → Stepped Section) (s : Section) (l : List Done) (t : Section) : Type 0 where
  pub each : results_of s l ≡ results_by alike s l
  pub end : t ≡ end_by step s l

pub next_as : {step alike : Section → List ℕ → (Stepped Section)} {s t u : Section} {d : Done} {l : List Done} → t ≡ (step_of s d.bytes).section
    → step_of s d.bytes ≡ alike s d.bytes → (alike s d.bytes).section ≡ (step s d.bytes).section → ListAs step alike t l u → ListAs step alike s (d ∷ l) u
next_as {step} {alike} {s} {d = d} {l = l} left same section later =
    let there = left ∙ ap (λ (r : Stepped Section). r.section) same in
    record {
      each = ap₂ ◌∷◌ same (ap (λ (z : Section). results_of z l) (sym left) ∙ later.each ∙ ap (λ (z : Section). results_by alike z l) there);
      end = later.end ∙ ap (λ (z : Section). end_by step z l) (there ∙ section);
    }

abbrev pub done : Section → List Todo → List Done
done s l = done_by single s l

abbrev pub after : Section → List Todo → Section
after s l = after_by single s l

pub runs : (s : Section) (l : List Todo) → Run s (done s l) (after s l)
runs = runs_by single StepBy (λ f s bytes. step_by f s bytes refl refl)
