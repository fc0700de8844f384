-- docs/CASES.md: what the figures of a double line's section say.
use Rattle.double.specs.declared.Section.{Section}
use Rattle.double.specs.declared.Side.{Side}
use Rattle.figures.specs.Figures.{counts_at, each_at}
use Rattle.std.specs.Prelude.{List, eqb, ℕ, ◌+◌}
use Rattle.working.specs.Positions.{byte_at, interval_of, two_at}

-- "the twelve places 2 each"
abbrev pub numbers_at : List ℕ → ℕ → List ℕ
numbers_at figures at = each_at (two_at figures) 2 12 at

-- "A's side, then B's", 32 bytes each
abbrev pub side_at : List ℕ → ℕ → Side
side_at figures at = record {
  clock = two_at figures at;
  last = two_at figures (at + 2);
  interval = interval_of (byte_at figures (at + 4)) (two_at figures (at + 5));
  numbers = numbers_at figures (at + 8);
  len = byte_at figures (at + 7);
}

-- the 77 bytes of a section
abbrev pub double_in : List ℕ → Section
double_in figures = record {
  force = eqb (byte_at figures 0) 1;
  refused = counts_at figures 1;
  a = side_at figures 13;
  b = side_at figures 45;
}
