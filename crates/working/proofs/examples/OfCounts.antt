-- What is shown of the counts of refused entries, drawn from the theorem: of any log that is not longer than a count may be large, each of the three and their sum; and a log with
-- entries refused for A, for B and of no station, in figures.
-- Assumes nothing.
use Prim.Native.Nat.{ℕ, ◌+◌, ◌≤◌}
use Rattle.std.specs.Prelude.{None, Some}
use Rattle.working.proofs.examples.Computing.{turns_compute}
use Rattle.working.proofs.examples.Literals.{begin, counts, meet, returns}
use Rattle.working.proofs.theorems.Counted.{logs_counted}
use Rattle.working.specs.Sections.{fresh}
use Rattle.working.specs.Turns.{accepted_in, entries_in, refused_in, section_after, single, turns_of}
use Rattle.working.specs.declared.Counts.{Counts}
use Rattle.working.specs.declared.Station.TheVariants.{A, B}
use lib.ListN.{length}
use mathlib.Core.List.{List, [], ◌++◌, ◌∷◌}
use mathlib.Core.Path.{refl, ◌≡◌}

-- the counts at the end of a log read from the fresh section
abbrev counts_after : List ℕ → Counts
counts_after log = (section_after fresh (turns_of single fresh log)).refused

module _ (log : List ℕ) (short : length log ≤ 4294967295) where
  -- "entries refused for A, for B, and those of no station"
  three_counts : ((counts_after log).a ≡ refused_in (Some A) (turns_of single fresh log))
      × ((counts_after log).b ≡ refused_in (Some B) (turns_of single fresh log))
      × ((counts_after log).none ≡ refused_in None (turns_of single fresh log))
  three_counts = let c = logs_counted log short in (c.each (Some A), c.each (Some B), c.each None)

  -- entries = accepted + the three
  add_up : entries_in (turns_of single fresh log) ≡ accepted_in (turns_of single fresh log) + ((counts_after log).a + (counts_after log).b + (counts_after log).none)
  add_up = (logs_counted log short).sum

-- a map of 0; BEGIN; BEGIN again; RETURNs with no guest, two of A and one of B; a MEET of nothing; and a map with nothing behind it
abbrev refusals : List ℕ
refusals = 0 ∷ begin ++ begin ++ returns 1 5 1 ++ returns 2 6 1 ++ returns 1 7 1 ++ meet 2 1 1 ++ 0x3F ∷ []

-- eight entries, one accepted; refused 2 for A, 1 for B and 4 of no station
refusals_counted : (entries_in (turns_of single fresh refusals) ≡ 8)
    × (accepted_in (turns_of single fresh refusals) ≡ 1)
    × (refused_in (Some A) (turns_of single fresh refusals) ≡ 2)
    × (refused_in (Some B) (turns_of single fresh refusals) ≡ 1)
    × (refused_in None (turns_of single fresh refusals) ≡ 4)
    × (counts_after refusals ≡ counts 2 1 4)
unfolding turns_compute
refusals_counted = (refl, refl, refl, refl, refl, refl)
