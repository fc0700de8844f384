-- What a host is answered, and what its buffers then hold, by the definitions of a single line's listing and of a log's turns.
use Rattle.listing.specs.LineText.{end_figure_count, end_line, last_line, longest_line, longest_log}
use Rattle.std.specs.Prelude.{Bool, List, None, Option, Some, cond, length, ltb, ℕ, ◌++◌, ◌||◌, ◌≡◌, ◌≤◌}
use Rattle.step.specs.Listings.{figures_in, joined, lines_of, listed_turns, listing_of, listing_room}
use Rattle.step.specs.Running.{last_in}
use Rattle.working.specs.Answers.{Answer}
use Rattle.working.specs.Entries.{pasted}
use Rattle.working.specs.Refusals.{refusal_in}
use Rattle.working.specs.Sections.{fresh}
use Rattle.working.specs.Turns.{single, turns_of}
use Rattle.working.specs.declared.Table.TheVariants.{SingleLine}

-- ---- one rule for every buffer

-- some places at the front, the others as they were, and how many; or, where the call is refused, 0 and nothing altered
pub record Gives (refused : Bool) (given buffer : List ℕ) (r : ℕ) (after : List ℕ) : Type 0 where
  pub count : r ≡ cond refused 0 (length given)
  pub left : after ≡ cond refused buffer (pasted buffer 0 given)

-- ---- the listing, its last line, and the figures of that

-- the whole listing, where the buffer has the room of any log of that length
abbrev pub Lists : List ℕ → List ℕ → ℕ → List ℕ → Type 0
Lists log out = Gives (ltb (length out) (listing_room (length log))) (listing_of SingleLine log) out

-- the figures of a log's last line
abbrev pub last_figures_of : List ℕ → List ℕ
last_figures_of log = figures_in SingleLine fresh (turns_of single fresh log)

-- the last line of its listing
abbrev pub last_line_of : List ℕ → List ℕ
last_line_of log = last_line (length log) (last_figures_of log)

-- the last line, where the buffer has room for the longest
abbrev pub Ends : List ℕ → List ℕ → ℕ → List ℕ → Type 0
Ends log out = Gives (ltb (length out) longest_line) (last_line_of log) out

-- the figures, where there are as many places and the log is not too long: the last line of a longer log has none
abbrev pub Figures : List ℕ → List ℕ → ℕ → List ℕ → Type 0
Figures log figures = Gives (ltb longest_log (length log) || ltb (length figures) end_figure_count) (last_figures_of log) figures

-- the last line and the figures are those of the listing: it ends in the one, whatever the log's length, and that is `end` and the others where the log is not too long
abbrev pub EndsTheListing : Type 0
EndsTheListing = (log : List ℕ) → listing_of SingleLine log ≡ joined (lines_of 0 (listed_turns SingleLine log)) ++ last_line_of log

abbrev pub FiguresInTheEnd : Type 0
FiguresInTheEnd = (log : List ℕ) → length log ≤ longest_log → last_line_of log ≡ end_line (last_figures_of log)

-- ---- the last answer

-- the number of a refusal, 0 where the entry is accepted and where there was none
abbrev pub last_of : Option Answer → ℕ
last_of None = 0
last_of (Some a) = refusal_in a

-- the number that answers a log's last entry
abbrev pub last_answer_of : List ℕ → ℕ
last_answer_of log = last_of (last_in None (turns_of single fresh log))
