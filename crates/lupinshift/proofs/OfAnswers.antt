-- What the contracts of specs/Answers.antt say of calls that are written out, with every bound in figures on both its sides, and what its theorems then say: of document 01's
-- session, of a log that is one BEGIN, and of logs of which only the length is known. Whoever is handed the contract of such a call knows its answer and every byte.
-- Assumes nothing.
use Prim.Native.Nat.{ℕ, ◌+◌}
use Rattle.listing.specs.LineText.{end_line, figures_text}
use Rattle.lupinshift.proofs.Fillings.{ends_the_listing, figures_in_the_end}
use Rattle.lupinshift.specs.Answers.{Ends, Figures, Gives, Lists, last_answer_of, last_figures_of, last_line_of}
use Rattle.step.proofs.Examples.{listing_computes}
use Rattle.step.proofs.OfBlocks.{begin, begin_listed, begin_listed_lem, long_listed}
use Rattle.step.specs.Listings.{joined, lines_of, listing_of}
use Rattle.working.proofs.examples.Session.{session}
use Rattle.working.specs.Sections.{fresh}
use Rattle.working.specs.Turns.{single, taken_in, turns_of}
use Rattle.working.specs.declared.Table.TheVariants.{SingleLine}
use borrow.Author.Tests.{le-ltb, lt-ltb}
use lib.ListN.{drop, length, take}
use mathlib.Core.Bool.{Bool, false, true}
use mathlib.Core.List.{List, [], ◌++◌, ◌∷◌}
use mathlib.Core.Path.{ap, refl, subst, ◌∙◌, ◌≡◌}
use native.Mathlib.Omega.{arith}

-- ---- buffers

-- so many places at the front, and those behind them as they were; with none of them nothing is altered, and the answer is 0
abbrev pub Front : List ℕ → List ℕ → ℕ → List ℕ → Type 0
Front given before r after = (r ≡ length given) × (after ≡ given ++ drop (length given) before)

gave : {refused : Bool} {given buffer after : List ℕ} {r : ℕ} → Gives refused given buffer r after → refused ≡ false → Front given buffer r after
gave {given = given} g e = let from : 0 + length given ≡ length given = omega arith in (rw e at g.count, rw (e, from) at g.left)

gave_none : {refused : Bool} {given buffer after : List ℕ} {r : ℕ} → Gives refused given buffer r after → refused ≡ true → Front [] buffer r after
gave_none g e = (rw e at g.count, rw e at g.left)

-- ---- the listing

-- 25 bytes for each of the log's and 428 more; of a log of more than 65,536 bytes 428
module _ {out after : List ℕ} {r : ℕ} where
  listed_at_478 : length out ≡ 478 → Lists begin out r after → Front begin_listed out r after
  listed_at_478 room g = rw (begin_listed_lem SingleLine) at (gave g (le-ltb (length out) 478 (omega arith)))

  not_listed_at_477 : length out ≡ 477 → Lists begin out r after → Front [] out r after
  not_listed_at_477 room g = gave_none g (lt-ltb (length out) 478 (omega arith))

  longest_listed : (log : List ℕ) → length log ≡ 65536 → length out ≡ 1638828 → Lists log out r after → Front (listing_of SingleLine log) out r after
  longest_listed log size room g = gave g (rw size (le-ltb (length out) 1638828 (omega arith)))

  longest_not_listed : (log : List ℕ) → length log ≡ 65536 → length out ≡ 1638827 → Lists log out r after → Front [] out r after
  longest_not_listed log size room g = gave_none g (rw size (lt-ltb (length out) 1638828 (omega arith)))

  long_listed_lem : (log : List ℕ) → length log ≡ 65537 → length out ≡ 428 → Lists log out r after → Front long_listed out r after
  unfolding listing_of
  long_listed_lem log size room g = let w = gave g (rw size (le-ltb (length out) 428 (omega arith))) in rw (lt-ltb 65536 (length log) (omega arith)) at w

  long_not_listed : (log : List ℕ) → length log ≡ 65537 → length out ≡ 427 → Lists log out r after → Front [] out r after
  long_not_listed log size room g = gave_none g (rw size (lt-ltb (length out) 428 (omega arith)))

-- ---- its last line

abbrev session_end : List ℕ
session_end = 101 ∷ 110 ∷ 100 ∷ 32 ∷ 56 ∷ 32 ∷ 55 ∷ 32 ∷ 49 ∷ 32 ∷ 48 ∷ 32 ∷ 48 ∷ 32 ∷ 50 ∷ 32 ∷ 48 ∷ 32 ∷ 48 ∷ 32 ∷ 48 ∷ 32 ∷ 50 ∷ 10 ∷ []  -- end 8 7 1 0 0 2 0 0 0 2

abbrev session_figures : List ℕ
session_figures = 8 ∷ 7 ∷ 1 ∷ 0 ∷ 0 ∷ 2 ∷ 0 ∷ 0 ∷ 0 ∷ 2 ∷ []

session_figures_lem : last_figures_of session ≡ session_figures
unfolding listing_computes
session_figures_lem = refl

session_end_lem : end_line session_figures ≡ session_end
unfolding listing_computes
session_end_lem = refl

session_ends : last_line_of session ≡ session_end
session_ends = ap end_line session_figures_lem ∙ session_end_lem

-- 214 bytes
module _ {out after : List ℕ} {r : ℕ} where
  ends_at_214 : length out ≡ 214 → Ends session out r after → Front session_end out r after
  ends_at_214 room g = rw session_ends at (gave g (le-ltb (length out) 214 (omega arith)))

  not_at_213 : length out ≡ 213 → Ends session out r after → Front [] out r after
  not_at_213 room g = gave_none g (lt-ltb (length out) 214 (omega arith))

  long_ends : (log : List ℕ) → length log ≡ 65537 → length out ≡ 214 → Ends log out r after → Front long_listed out r after
  long_ends log size room g = let w = gave g (le-ltb (length out) 214 (omega arith)) in rw (lt-ltb 65536 (length log) (omega arith)) at w

-- ---- the figures

-- ten places, and of a log of 65,537 bytes none
module _ {figures after : List ℕ} {r : ℕ} where
  figures_in_10 : length figures ≡ 10 → Figures session figures r after → Front session_figures figures r after
  figures_in_10 room g = subst (λ (given : List ℕ). Front given figures r after) session_figures_lem (gave g (le-ltb (length figures) 10 (omega arith)))

  none_in_9 : length figures ≡ 9 → Figures session figures r after → Front [] figures r after
  none_in_9 room g = gave_none g (lt-ltb (length figures) 10 (omega arith))

  longest_has_some : (log : List ℕ) → length log ≡ 65536 → length figures ≡ 10 → Figures log figures r after → Front (last_figures_of log) figures r after
  longest_has_some log size room g = gave g (rw (size, le-ltb (length figures) 10 (omega arith)))

  long_has_none : (log : List ℕ) → length log ≡ 65537 → length figures ≡ 10 → Figures log figures r after → Front [] figures r after
  long_has_none log size room g = gave_none g (rw (size))

-- ---- the theorems: the listing ends in the last line, whatever the log, and that has the figures where the log is not too long_listed

session_listing_ends : listing_of SingleLine session ≡ joined (lines_of 0 (turns_of single fresh session)) ++ session_end
session_listing_ends = ends_the_listing session ∙ ap (λ (line : List ℕ). joined (lines_of 0 (turns_of single fresh session)) ++ line) session_ends

long_listing_ends : (log : List ℕ) → length log ≡ 65537 → listing_of SingleLine log ≡ long_listed
long_listing_ends log size = ends_the_listing log ∙ rw (lt-ltb 65536 (length log) (omega arith))

-- the longest log that has figures
longest_has_figures : (log : List ℕ) → length log ≡ 65536 → last_line_of log ≡ 101 ∷ 110 ∷ 100 ∷ figures_text (last_figures_of log) ++ 10 ∷ []
unfolding end_line
longest_has_figures log size = figures_in_the_end log (omega arith)

-- ---- the last answer, and the entries taken

-- the session; without its last entry, where the last was 19; no bytes; BEGIN and a map with nothing behind it, 1
answers : (last_answer_of session ≡ 0)
    × (last_answer_of (take 44 session) ≡ 19)
    × (last_answer_of [] ≡ 0)
    × (last_answer_of (0x01 ∷ 0x01 ∷ 0x03 ∷ []) ≡ 1)
unfolding listing_computes
answers = (refl, refl, refl, refl)

-- of the session all eight, the refused one among them; of the other BEGIN alone
taken : (taken_in (turns_of single fresh session) ≡ 8) × (taken_in (turns_of single fresh (0x01 ∷ 0x01 ∷ 0x03 ∷ [])) ≡ 1)
unfolding listing_computes
taken = (refl, refl)
