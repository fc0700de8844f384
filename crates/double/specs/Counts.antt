-- Document 02, T-01, of a double line's log: "three counts: entries refused for A, for B, and those of no station", by the turns of the log.
use Rattle.double.specs.Sections.{fresh}
use Rattle.double.specs.Steps.{decoded_as, double, whose_is}
use Rattle.double.specs.declared.Section.{Section}
use Rattle.std.specs.Prelude.{Bool, List, Option, length, not, ℕ, ◌&&◌, ◌+◌, ◌≡◌, ◌≤◌}
use Rattle.working.specs.Sections.{count_of, is_same, total}
use Rattle.working.specs.Turns.{Turn, accepted_in, entries_in, how_many, is_accepted, section_after, turns_of}
use Rattle.working.specs.declared.Station.{Station}

-- a turn that is refused, and theirs; and how many are
abbrev pub is_refused_of : Option Station → Turn Section → Bool
is_refused_of whose t = not (is_accepted t.answer) && is_same whose (whose_is (decoded_as t.read))

abbrev pub refused_in : Option Station → List (Turn Section) → ℕ
refused_in whose l = how_many (is_refused_of whose) l

-- of a log read from the fresh section: each count is the number of refused turns that are theirs, and entries = accepted + the three
pub record Counted (log : List ℕ) : Type 0 where
  pub each : (whose : Option Station) → count_of (section_after fresh (turns_of double fresh log)).refused whose ≡ refused_in whose (turns_of double fresh log)
  pub sum : entries_in (turns_of double fresh log) ≡ accepted_in (turns_of double fresh log) + total (section_after fresh (turns_of double fresh log)).refused

-- of every log that is too short for a count to have stopped
abbrev pub LogsCounted : Type 0
LogsCounted = (log : List ℕ) → length log ≤ 4294967295 → Counted log
