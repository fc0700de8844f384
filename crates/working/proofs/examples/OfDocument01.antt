-- What is said of lists by document 01's own step, and by the step before T-08, drawn from the theorems: sections and papers, on the way and at the end; and what is altered in
-- an answer.
-- Assumes nothing.
use Prim.Native.Nat.{ℕ, ◌+◌, ◌<◌}
use Rattle.std.specs.Prelude.{Err, Ok}
use Rattle.working.proofs.theorems.AsBefore.{answered_as_before}
use Rattle.working.proofs.theorems.Guests.{answered_as_with_11}
use Rattle.working.specs.Answers.{Answer, accept}
use Rattle.working.specs.Document01.{altered, followers_two, is_follower, step_of_01, with_second_figure}
use Rattle.working.specs.Events.{decode}
use Rattle.working.specs.Guests.{answer_with_14, returns_with_14, says_return, step_with_11}
use Rattle.working.specs.Runs.{Done, Run, accepts_by, end_by, results, results_by}
use Rattle.working.specs.Sections.{fresh}
use Rattle.working.specs.Terms.{LAST-TRAIN, kind_in, vehicle_at}
use Rattle.working.specs.declared.Refusal.TheVariants.{HoldsLineClear, NoGuest}
use Rattle.working.specs.declared.Section.{Section}
use Rattle.working.specs.declared.Speed.TheVariants.{Both, Kmh}
use Rattle.working.specs.declared.Station.TheVariants.{A, B}
use Rattle.working.specs.declared.Stepped.{Stepped}
use mathlib.Core.Bool.{Bool, false, true}
use mathlib.Core.List.{List, [], map, ◌∷◌}
use mathlib.Core.Path.{ap, ap₂, refl, ◌∙◌, ◌≡◌}
use native.Mathlib.Omega.{arith}

-- ---- lists from fresh, of any length and in any form

-- a part of each result that `alike` leaves as `step` has it
part_of : {T : Type 0} (part : Stepped Section → T) (step alike : Section → List ℕ → Stepped Section)
    → ((s : Section) (bytes : List ℕ) → (part (alike s bytes) ≡ part (step s bytes)) × ((alike s bytes).section ≡ (step s bytes).section))
    → (s : Section) (l : List Done) → map part (results_by alike s l) ≡ map part (results_by step s l)
part_of part step alike same s [] = refl
part_of part step alike same s (d ∷ l) =
    let (here, left) = same s d.bytes in
    ap₂ ◌∷◌ here (part_of part step alike same (alike s d.bytes).section l ∙ ap (λ (t : Section). map part (results_by step t l)) left)

-- the section after a step; and whether it was accepted, with the form number and the forms
abbrev section_left : Stepped Section → Section
section_left r = r.section

abbrev papers_of : Answer → Bool × ℕ × ℕ
papers_of (Err why) = (false, 0, 0)
papers_of (Ok given) = (true, given.form, given.forms)

abbrev papers : Stepped Section → Bool × ℕ × ℕ
papers r = papers_of r.answer

-- with a second figure, and with 14 for 11, the papers are the same
two_papers : (so : Bool) (r : Stepped Section) → papers (altered so with_second_figure r) ≡ papers r
two_papers true r = by r.answer
  where
    by : (a : Answer) → papers_of (with_second_figure a) ≡ papers_of a
    by (Err why) = refl
    by (Ok _) = refl
two_papers false r = refl

fourteen_papers : (so : Bool) (r : Stepped Section) → papers (altered so answer_with_14 r) ≡ papers r
fourteen_papers true r = by r.answer
  where
    by : (a : Answer) → papers_of (answer_with_14 a) ≡ papers_of a
    by (Err why) = refl
    by (Ok _) = refl
fourteen_papers false r = refl

module _ {l : List Done} {s : Section} (run : Run fresh l s) where
  -- a list of which document 01's own step refuses none: its sections and papers, on the way and at the end; nothing waits, and no vehicle left on kind 9
  module _ (accepted : accepts_by step_of_01 fresh l ≡ true) where
    sections-before : map section_left (results run) ≡ map section_left (results_by step_of_01 fresh l)
    sections-before =
        ap (map section_left) (answered_as_before l s run accepted).each ∙ part_of section_left step_of_01 (followers_two step_of_01) (λ t bytes. (refl, refl)) fresh l

    papers_before : map papers (results run) ≡ map papers (results_by step_of_01 fresh l)
    papers_before =
        ap (map papers) (answered_as_before l s run accepted).each
        ∙ part_of papers step_of_01 (followers_two step_of_01) (λ t bytes. (two_papers (is_follower t (decode bytes)) (step_of_01 t bytes), refl)) fresh l

    end_before : s ≡ end_by step_of_01 fresh l
    end_before = (answered_as_before l s run accepted).end

    none_waits : s.a.waiting + s.b.waiting ≡ 0
    none_waits = let k = answered_as_before l s run accepted in omega (arith, k.waiting A, k.waiting B)

    no_last_train : (i : ℕ) → i < s.len → kind_in (vehicle_at s i).movement ≡ LAST-TRAIN → ⊥
    no_last_train = (answered_as_before l s run accepted).unendorsed

  -- any list, by the step before T-08
  sections_with_11 : map section_left (results run) ≡ map section_left (results_by step_with_11 fresh l)
  sections_with_11 = ap (map section_left) (answered_as_with_11 l s run).each ∙ part_of section_left step_with_11 (returns_with_14 step_with_11) (λ t bytes. (refl, refl)) fresh l

  papers_with_11 : map papers (results run) ≡ map papers (results_by step_with_11 fresh l)
  papers_with_11 =
      ap (map papers) (answered_as_with_11 l s run).each
      ∙ part_of papers step_with_11 (returns_with_14 step_with_11) (λ t bytes. (fourteen_papers (says_return (decode bytes)) (step_with_11 t bytes), refl)) fresh l

-- what is altered in an answer, of any step: a follower's figure has 10 beside it, and a RETURN reads 14 for 11
module _ (step : Section → List ℕ → Stepped Section) (s : Section) (bytes : List ℕ) where
  two_figures : (form forms k : ℕ) → is_follower s (decode bytes) ≡ true → (step s bytes).answer ≡ accept form forms (Kmh k)
      → (followers_two step s bytes).answer ≡ accept form forms (Both k 10)
  two_figures form forms k follows reads = rw (follows, reads)

  not_followed : is_follower s (decode bytes) ≡ false → followers_two step s bytes ≡ step s bytes
  not_followed first = ap (λ (so : Bool). altered so with_second_figure (step s bytes)) first

  fourteen_for_11 : says_return (decode bytes) ≡ true → (step s bytes).answer ≡ Err HoldsLineClear → (returns_with_14 step s bytes).answer ≡ Err NoGuest
  fourteen_for_11 is reads = rw (is, reads)

  no_return : says_return (decode bytes) ≡ false → returns_with_14 step s bytes ≡ step s bytes
  no_return other = ap (λ (so : Bool). altered so answer_with_14 (step s bytes)) other
