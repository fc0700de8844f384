-- A list of tests is scanned for the first that holds: it refuses or allows by that one, and of two lists in a row the second decides where the first lets everything pass.
-- Assumes nothing.
use Rattle.std.specs.Prelude.{Err, Ok}
use Rattle.working.proofs.laws.Every.{Every}
use Rattle.working.proofs.laws.Tests.{NoneHolds, none_holds}
use Rattle.working.specs.Refusals.{Test, Verdict, first_of, or_else}
use Rattle.working.specs.declared.Refusal.{Refusal}
use mathlib.Core.Bool.{Bool, false, true}
use mathlib.Core.List.{List, [], ◌++◌, ◌∷◌}
use mathlib.Core.Path.{refl, ◌∙◌, ◌≡◌}

-- what holds of each refusal, and of an entry that is allowed where no test holds, holds of what the scan finds
pub scanned : (P : Verdict → Type 0) (tests : List Test) → ((why : Refusal) → P (Err why)) → (NoneHolds tests → P (Ok tt)) → P (first_of tests)
scanned P tests refused passed = by (first_of tests) refl
  where
    by : (v : Verdict) → first_of tests ≡ v → P v
    by (Err why) e = refused why
    by (Ok _) e = passed (none_holds tests e)

-- the same, where only the refusal of a test that holds is looked at
pub scanned_each : (P : Verdict → Type 0) (tests : List Test) → Every (λ (t : Test). t.0 ≡ true → P (Err t.1)) tests → (NoneHolds tests → P (Ok tt))
    → P (first_of tests)
scanned_each P [] refused passed = passed tt
scanned_each P (t ∷ tests) refused passed = by t.0 refl (λ fails. scanned_each P tests refused.1 (λ none. passed (fails, none)))
  where
    by : (holds : Bool) → t.0 ≡ holds → (t.0 ≡ false → P (first_of tests)) → P (or_else holds t.1 (first_of tests))
    by true is later = refused.0 is
    by false is later = later is

-- two lists in a row
abbrev or_after : Verdict → Verdict → Verdict
or_after (Err why) later = Err why
or_after (Ok _) later = later

first_of_both : (ts us : List Test) → first_of (ts ++ us) ≡ or_after (first_of ts) (first_of us)
first_of_both [] us = refl
first_of_both (t ∷ ts) us = rw (first_of_both ts us) (by t.0)
  where
    by : (b : Bool) → or_else b t.1 (or_after (first_of ts) (first_of us)) ≡ or_after (or_else b t.1 (first_of ts)) (first_of us)
    by true = refl
    by false = refl

pub first_refuses : (ts us : List Test) {why : Refusal} → first_of ts ≡ Err why → first_of (ts ++ us) ≡ Err why
first_refuses ts us h = first_of_both ts us ∙ rw h

pub first_passes : (ts us : List Test) → first_of ts ≡ Ok tt → first_of (ts ++ us) ≡ first_of us
first_passes ts us h = first_of_both ts us ∙ rw h
