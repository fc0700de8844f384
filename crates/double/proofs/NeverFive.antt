-- No step of a list from a fresh section is refused with 5: every section on the way is well made, and no other test gives 5, nor does reading.
-- Assumes nothing.
use Prim.Native.Nat.{ℕ}
use Rattle.double.proofs.InOrder.{made-run}
use Rattle.double.proofs.Lists.{step_did}
use Rattle.double.proofs.Preserved.{fresh-made}
use Rattle.double.specs.Runs.{Run, StepBy}
use Rattle.double.specs.Sections.{fresh}
use Rattle.double.specs.Steps.{Begin, Decoded, Depart, Event, Receive, Resume, decode, effect_of, event_of, on_decoded, settled, step_of, tests_of}
use Rattle.double.specs.WellMade.{well_made}
use Rattle.double.specs.declared.Section.{Section}
use Rattle.std.specs.Prelude.{Err, Ok}
use Rattle.working.proofs.laws.Lists.{split_run}
use Rattle.working.proofs.laws.Tests.{IsNot, first_is_not, none_is}
use Rattle.working.proofs.theorems.Corollaries.{Fine, FineSaid, fine_said}
use Rattle.working.specs.Events.{Bad, Says}
use Rattle.working.specs.Refusals.{Verdict, first_of}
use Rattle.working.specs.Runs.{Done, next}
use Rattle.working.specs.declared.Stepped.{Stepped}
use Rattle.working.specs.declared.Table.TheVariants.{DoubleLine}
use mathlib.Core.Bool.{true}
use mathlib.Core.List.{List, ◌++◌, ◌∷◌}
use mathlib.Core.Path.{ap, refl, ◌≡◌}

fine_says : (s : Section) (e : Event) → none_is 5 (tests_of s e) ≡ true → Fine (effect_of s e).answer → Fine (on_decoded s (Says e)).answer
fine_says s e none fine = by (first_of (tests_of s e)) (first_is_not 5 (tests_of s e) none)
  where
    by : (v : Verdict) → IsNot 5 v → Fine (settled s (Says e) v (effect_of s e)).answer
    by (Err why) h = h
    by (Ok _) h = fine

fine_on : (s : Section) (e : Decoded) → FineSaid e → Fine (on_decoded s e).answer
fine_on s (Bad why) h = h
fine_on s (Says Begin) h = fine_says s Begin refl tt
fine_on s (Says (Depart x time)) h = fine_says s (Depart x time) refl tt
fine_on s (Says (Receive x time sender form)) h = fine_says s (Receive x time sender form) refl tt
fine_on s (Says Resume) h = fine_says s Resume refl tt

pub fine_step : (s : Section) (bytes : List ℕ) → well_made s ≡ true → Fine (step_of s bytes).answer
unfolding decode step_of
fine_step s bytes h = rw h (fine_on s (decode bytes) (fine_said DoubleLine event_of bytes))

pub never_five : {l : List Done} {s : Section} → Run fresh l s → (before : List Done) (d : Done) (after : List Done) → l ≡ before ++ d ∷ after → Fine d.answer
never_five {s = s} run before d after is = let (t, first, later) = split_run StepBy before (rw is at run) in by t first later
  where
    by : (t : Section) → Run fresh before t → Run t (d ∷ after) s → Fine d.answer
    by t first (next {t = u} did later) =
        rw (ap (λ (r : Stepped Section). r.answer) (step_did d.form t d.bytes d.answer u did)) (fine_step t d.bytes (made-run fresh-made first))
