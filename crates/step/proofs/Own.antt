-- A well-made section of a double line is its own lines: the places past those in use are blank, and a blank place is the unused one. Words that are a section's own stand
-- for it.
-- Assumes nothing.
use Prim.Native.Nat.{ℕ}
use Rattle.double.proofs.Lines as double_lines
use Rattle.double.proofs.Preserved as doubleKept
use Rattle.double.specs.WellMade as doubleMade
use Rattle.double.specs.declared.Section as doubleSection
use Rattle.double.specs.declared.Side.{Side}
use Rattle.doubleentering.specs.DoubleWords.{trimmed, trimmed_side}
use Rattle.words.specs.Words.{OwnWords, section_in, vehicles_in}
use Rattle.working.proofs.invariant.Made.{length-pad_to}
use Rattle.working.proofs.laws.OwnPlaces.{Each, padded}
use Rattle.working.proofs.laws.Tests.{both}
use Rattle.working.specs.Entries.{every}
use Rattle.working.specs.WellMade.{well_made, zero_tests}
use Rattle.working.specs.declared.Section.{Section}
use Rattle.working.specs.declared.Station.TheVariants.{A, B}
use borrow.Author.Tests.{eqb-true}
use lib.Dec.{eqb}
use lib.ListN.{drop, length}
use mathlib.Core.Bool.{true}
use mathlib.Core.List.{List, [], ◌∷◌}
use mathlib.Core.Path.{◌≡◌}

-- ---- a single line

-- the section in any words has its 24 places
pub long_in : (w : List ℕ) → length (section_in w).vehicles ≡ 24
unfolding section_in
long_in w = length-pad_to 24 (vehicles_in w)

pub own-made : {w : List ℕ} {s : Section} → OwnWords w s → well_made s ≡ true → well_made (section_in w) ≡ true
own-made own well = rw own.section well

-- ---- a double line

each_zero : (l : List ℕ) → every (zero_tests l) ≡ true → Each 0 l
each_zero [] h = tt
each_zero (n ∷ l) h = let p = both (eqb n 0) (every (zero_tests l)) h in (eqb-true n 0 p.0, each_zero l p.1)

own_line : (d : Side) → length d.numbers ≡ 12 → double_lines.Made d → trimmed_side d ≡ d
own_line d long m = rw (padded 0 12 d.len d.numbers long (each_zero (drop d.len d.numbers) m.blank))

pub own_lines : (s : doubleSection.Section) → length s.a.numbers ≡ 12 → length s.b.numbers ≡ 12 → doubleMade.well_made s ≡ true → trimmed s ≡ s
own_lines s long-a long-b well = rw (own_line s.a long-a (doubleKept.side_of_lem s well A), own_line s.b long-b (doubleKept.side_of_lem s well B))
