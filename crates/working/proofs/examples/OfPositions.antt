-- What is shown of positions, drawn from the theorems: a section in force and one that is not, whatever their counts, written and read; bytes that are read; a step on a
-- section's position, whatever numbers are lent; and speeds by their numbers.
-- Assumes nothing.
use Prim.Native.Nat.{ℕ, ◌≤◌}
use Rattle.std.specs.Prelude.{None, Some}
use Rattle.working.proofs.examples.Computing.{step_computes}
use Rattle.working.proofs.examples.Literals.{counts, figures, vehicle, working}
use Rattle.working.proofs.theorems.Positions.{read_then_written, speeds_told, step_written, written_then_read}
use Rattle.working.specs.Positions.{StepsPosition, answer_in, is_position, position_of, section_at, speed_number}
use Rattle.working.specs.Refusals.{refusal_in}
use Rattle.working.specs.Sections.{emptied, with_waiting}
use Rattle.working.specs.Steps.{step_of}
use Rattle.working.specs.declared.Movement.TheVariants.{LastTrain, Open}
use Rattle.working.specs.declared.Section.{Section}
use Rattle.working.specs.declared.Speed.TheVariants.{Both, Kmh}
use lib.Dec.{ltb}
use lib.ListN.{length}
use mathlib.Core.Bool.{false, true, ◌&&◌}
use mathlib.Core.List.{List, [], ◌∷◌}
use mathlib.Core.Path.{ap, refl, sym, ◌∙◌, ◌≡◌}
use native.Mathlib.Omega.{arith}

-- ---- a section written and read is the same section

-- in force, with an OPEN of A and a LAST TRAIN of B, A's interval stopped and B's running; and not in force: the counts and A's clock whatever they are
abbrev busy : ℕ → ℕ → ℕ → ℕ → Section
busy a b none clock =
    working (counts a b none) (vehicle (Open 6) 1 0x1207 2 false 3 ∷ vehicle (LastTrain 1 8 6) 2 0x33 1 false 0 ∷ [])
    (with_waiting 4 (figures clock 0x2105 11 None true 5 7 2 3))
    (with_waiting 2 (figures 600 0x0103 9 (Some 540) false 1 8 6 7))

abbrev idle : ℕ → ℕ → ℕ → Section
idle a b none = emptied false (counts a b none)

abbrev ReadAgain : Section → Type 0
ReadAgain s = (is_position (position_of s) ≡ true) × (section_at (position_of s) ≡ s)

sections_read_again : (a b none clock : ℕ) → ReadAgain (busy a b none clock) × ReadAgain (idle a b none)
unfolding step_computes
sections_read_again a b none clock = (written_then_read (busy a b none clock) refl refl, written_then_read (idle a b none) refl refl)

-- ---- bytes that read are written as the same bytes

module _ (bytes : List ℕ) (is : is_position bytes ≡ true) where
  -- of any other length there is none
  no_other_length : (n : ℕ) → length bytes ≡ n → n ≡ 281
  no_other_length n long = sym long ∙ (read_then_written bytes is).0

  -- two that say the same section are the same
  one_writing : (others : List ℕ) → is_position others ≡ true → section_at bytes ≡ section_at others → bytes ≡ others
  one_writing others are same = sym (read_then_written bytes is).1 ∙ ap position_of same ∙ (read_then_written others are).1

-- ---- the step on a section's position is the step on the section

-- what a host's call answers, and leaves, on the position of either section, with three numbers lent or more
abbrev StepsAs : Section → Type 0
StepsAs s = (entry numbers : List ℕ) → 3 ≤ length numbers → (answer : ℕ) (position out : List ℕ) → StepsPosition (position_of s) entry numbers answer position out
    → (answer ≡ refusal_in (step_of s entry).answer) × (position ≡ position_of (step_of s entry).section) × (out ≡ answer_in (step_of s entry).answer numbers)

steps_as : (a b none clock : ℕ) → StepsAs (busy a b none clock) × StepsAs (idle a b none)
unfolding step_computes
steps_as a b none clock = (of (busy a b none clock) (step_written (busy a b none clock) refl refl), of (idle a b none) (step_written (idle a b none) refl refl))
  where
    of : (s : Section)
        → ((entry numbers : List ℕ) → 3 ≤ length numbers
        → StepsPosition (position_of s) entry numbers (refusal_in (step_of s entry).answer) (position_of (step_of s entry).section) (answer_in (step_of s entry).answer numbers))
        → StepsAs s
    of s written entry numbers room answer position out h =
        let w = written entry numbers room in
        (h.answered ∙ sym w.answered, h.left ∙ sym w.left, h.put ∙ sym w.put)

-- ---- speeds by their numbers

-- two of n km/h, two with two figures, and one of each, their figures being bytes
speeds_by_number : (n m s e t f : ℕ) → ltb n 256 ≡ true → ltb m 256 ≡ true → ltb s 256 && ltb e 256 ≡ true → ltb t 256 && ltb f 256 ≡ true
    → (speed_number (Kmh n) ≡ speed_number (Kmh m) → n ≡ m)
    × (speed_number (Both s e) ≡ speed_number (Both t f) → s ≡ t)
    × (speed_number (Both s e) ≡ speed_number (Both t f) → e ≡ f)
    × (speed_number (Kmh n) ≡ speed_number (Both s e) → ⊥)
speeds_by_number n m s e t f is-n is_m is-s is-t = (
  λ same. let told = speeds_told (Kmh n) (Kmh m) is-n is_m same in cc,
  λ same. let told = speeds_told (Both s e) (Both t f) is-s is-t same in cc,
  λ same. let told = speeds_told (Both s e) (Both t f) is-s is-t same in cc,
  λ same. let told = speeds_told (Kmh n) (Both s e) is-n is-s same in let z : ◌≡◌ {A = ℕ} 0 1 = cc in omega arith,
)
