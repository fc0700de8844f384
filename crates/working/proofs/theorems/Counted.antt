-- The figures of a log's last line: each of the three counts that the section at the end has is the number of refused turns that are theirs, and entries = accepted
-- + the three. A step on a well-made section leaves a count as it is, or adds 1 where it refuses and the step is theirs (laws/Counts says the rest, of either line).
-- Assumes nothing.
use Prim.Native.Nat.{ℕ}
use Rattle.std.specs.Prelude.{None, Option, Some}
use Rattle.working.proofs.invariant.Changes.{Change, Sound, arrival, change, departure, emptying, meeting, refusal, sound_emptied, sound_step}
use Rattle.working.proofs.laws.Counts.{counted_for, counted_from}
use Rattle.working.proofs.laws.Turns.{entries-sum}
use Rattle.working.proofs.theorems.FirstEntry.{says_there}
use Rattle.working.specs.Entries.{read_at}
use Rattle.working.specs.Events.{Decoded, decode, decoded_as}
use Rattle.working.specs.Sections.{count_of, fresh, none_refused, with_desk, with_vehicles}
use Rattle.working.specs.Steps.{step_of, whose_is}
use Rattle.working.specs.Turns.{LogsCounted, refused_in, section_after, single, turns_of}
use Rattle.working.specs.declared.Desk.{Desk}
use Rattle.working.specs.declared.Section.{Section}
use Rattle.working.specs.declared.Station.TheVariants.{A, B}
use Rattle.working.specs.declared.Station.{Station}
use Rattle.working.specs.declared.Stepped.{Stepped}
use Rattle.working.specs.declared.Table.TheVariants.{SingleLine}
use Rattle.working.specs.declared.Vehicle.{Vehicle}
use lib.ListN.{drop}
use mathlib.Core.Bool.{false}
use mathlib.Core.List.{List}
use mathlib.Core.Path.{refl, ◌≡◌}
use native.Mathlib.Omega.{arith}

-- ---- one step

same_counts : (s : Section) (x : Station) (d : Desk) (l : List Vehicle) → (with_desk (with_vehicles s l) x d).refused ≡ s.refused
same_counts s A d l = refl
same_counts s B d l = refl

counted : (s : Section) (e : Decoded) (r : Stepped Section) → Change s e r → r.section.refused ≡ counted_for r.answer (whose_is e) s.refused
counted s e r (refusal k why) = refl
counted s e r (emptying k force) = refl
counted s e r (departure x time act f p w) = same_counts s x _ _
counted s e r (arrival x time y n k f may w) = same_counts s x _ _
counted s e r (meeting x y n i f h) = refl

-- a turn goes by what is read there
counted_at : (s : Section) (log : List ℕ) (at : ℕ) → Sound s
    → (step_of s (drop at log)).section.refused ≡ counted_for (step_of s (drop at log)).answer (whose_is (decoded_as (read_at SingleLine log at))) s.refused
unfolding decode
counted_at s log at g = rw (← says_there log at) (counted s (decode (drop at log)) (step_of s (drop at log)) (change s (drop at log) g))

-- ---- of a log read from a fresh section

pub logs_counted : LogsCounted
logs_counted log short =
    let turns = turns_of single fresh log in
    let each : (whose : Option Station) → count_of (section_after fresh turns).refused whose ≡ refused_in whose turns =
    λ whose. counted_from single (λ read. whose_is (decoded_as read)) (λ (s : Section). s.refused) Sound (λ s log at g. sound_step s (drop at log) g) counted_at whose log
    fresh (sound_emptied false none_refused) refl short in
    record { each = each; sum = omega (arith, entries-sum turns, each (Some A), each (Some B), each None) }
