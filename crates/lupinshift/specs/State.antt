-- Where a single line's listing stands, in words that a host lends: what listing they stand for, of any words, and what the functions on them leave.
use Rattle.listing.specs.LineText.{longest_line}
use Rattle.std.specs.Prelude.{List, [], drop, eqb, false, get_or, length, ltb, take, true, ℕ, ◌++◌, ◌+◌, ◌<◌, ◌∷◌, ◌≡◌, ◌≤◌}
use Rattle.step.specs.ListingLines.{Listing, Portion, begun, block_of, largest_count, listed_of, listing_in}
use Rattle.step.specs.Listings.{listing_of}
use Rattle.step.specs.Tables.{Behind}
use Rattle.step.specs.declared.next_line.Listed.{Listed}
use Rattle.words.specs.Words.{Own, section_in, word_count, words_of}
use Rattle.working.specs.Entries.{pasted}
use Rattle.working.specs.Sections.{fresh}
use Rattle.working.specs.WellMade.{one_if, well_made}
use Rattle.working.specs.declared.Section.{Section}
use Rattle.working.specs.declared.Table.TheVariants.{SingleLine}

-- the words of the section, then the offset, the entries that may come, entries, accepted, and whether it has ended
abbrev pub state_words : ℕ
state_words = word_count + 5

abbrev pub listed_at : List ℕ → Listed
listed_at words = record {
  at = get_or words (word_count + 0) 0;
  left = get_or words (word_count + 1) 0;
  entries = get_or words (word_count + 2) 0;
  accepted = get_or words (word_count + 3) 0;
  ended = eqb (get_or words (word_count + 4) 0) 1;
}

unfoldable pub listing_at : List ℕ → Listing Section
listing_at words = listing_in (listed_at words) (section_in (take word_count words))

-- the five behind the section's words
abbrev pub figure_words : Listed → List ℕ
figure_words p = p.at ∷ p.left ∷ p.entries ∷ p.accepted ∷ one_if p.ended ∷ []

-- words that now stand for a listing, as many as before: behind the section's the five are the listing's figures, and those behind keep their values
pub record StandsFor (l : Listing Section) (words after : List ℕ) : Type 0 where
  pub listing : listing_at after ≡ l
  pub figures : drop word_count after ≡ figure_words (listed_of l) ++ drop state_words words
  pub size : length after ≡ length words

-- those of a section put in front, and its listing's figures
pub record Keeps (section : List ℕ) (p : Listed) (words after : List ℕ) : Type 0 where
  pub holds : StandsFor (listing_in p (section_in section)) words after
  pub front : take word_count after ≡ section

-- the start of a log's listing, in the fresh section's own words, and how many it takes
pub record BeginsIn (log words : List ℕ) (r : ℕ) (after : List ℕ) : Type 0 where
  pub count : r ≡ state_words
  pub state : StandsFor (begun SingleLine log) words after
  pub own : take word_count after ≡ words_of fresh 0

-- or, where there are fewer, 0 and nothing altered
pub record Begins (log words : List ℕ) (r : ℕ) (after : List ℕ) : Type 0 where
  pub short : ltb (length words) state_words ≡ true → (r ≡ 0) × (after ≡ words)
  pub begins : ltb (length words) state_words ≡ false → BeginsIn log words r after

-- the block that comes next, from where the words say that the listing stands
abbrev pub block_at : List ℕ → List ℕ → ℕ → Portion Section
block_at words log room = block_of SingleLine log (listing_at words) room

-- that block: its text at the front of the buffer, the bytes behind which keep their values, and its length; the words then stand for where the listing goes on. The section's
-- become those of the section there, and its own where they were a section's own; where it is not well made they stay as they were.
pub record FillsFrom (words log out : List ℕ) (r : ℕ) (words₁ out₁ : List ℕ) : Type 0 where
  pub count : r ≡ length (block_at words log (length out)).text
  pub left : out₁ ≡ pasted out 0 (block_at words log (length out)).text
  pub state : StandsFor (block_at words log (length out)).listing words words₁
  pub section : Behind SingleLine (take word_count words) (block_at words log (length out)).turns (take word_count words₁)
  pub kept : well_made (listing_at words).section ≡ false → take word_count words₁ ≡ take word_count words

-- or, where there are too few words, 0 and nothing altered
pub record FillsOn (words log out : List ℕ) (r : ℕ) (words₁ out₁ : List ℕ) : Type 0 where
  pub short : ltb (length words) state_words ≡ true → (r ≡ 0) × (words₁ ≡ words) × (out₁ ≡ out)
  pub fills : ltb (length words) state_words ≡ false → FillsFrom words log out r words₁ out₁

-- ---- the calls together

-- the texts that calls leave one after another, whatever the length of each buffer, from some words to those at which the listing has ended
pub data Fillings : List ℕ → List ℕ → List ℕ → Type 0 where
  no_more : {log words : List ℕ} → (listing_at words).ended ≡ true → Fillings log words []
  fill : {log words out words₁ out₁ more : List ℕ} {r : ℕ} → state_words ≤ length words → FillsOn words log out r words₁ out₁ → Fillings log words₁ more
      → Fillings log words (take r out₁ ++ more)

-- from a start in enough words they are together the listing of the log
abbrev pub FillingsAreListing : Type 0
FillingsAreListing = (log words words₁ text : List ℕ) (r : ℕ) → length log < largest_count → state_words ≤ length words
    → Begins log words r words₁ → Fillings log words₁ text → text ≡ listing_of SingleLine log

-- a call with enough words and room for a line answers 0 only where the listing has ended
abbrev pub NoneMore : Type 0
NoneMore = (words log out words₁ out₁ : List ℕ) → state_words ≤ length words → longest_line ≤ length out → FillsOn words log out 0 words₁ out₁
    → (listing_at words).ended ≡ true

-- the words of a section are its own from the start on, so each number that a host hands from call to call is determined
abbrev pub OwnFromTheStart : Type 0
OwnFromTheStart =
    ((log words words₁ : List ℕ) (r : ℕ) → state_words ≤ length words → Begins log words r words₁ → Own (take word_count words₁))
    × ((words log out words₁ out₁ : List ℕ) (r : ℕ) → state_words ≤ length words → FillsOn words log out r words₁ out₁ → Own (take word_count words)
    → Own (take word_count words₁))
