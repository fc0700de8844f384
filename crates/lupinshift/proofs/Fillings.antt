-- The calls that fill a host's buffers come together to the listing, and one with room for a line gives nothing only at the end (the statements: specs/State.antt): what a call
-- leaves in the words stands for where its block ended, so the calls are the blocks of `step`. The section's words are its own from the start on. The last line and its
-- figures are the listing's own (specs/Answers.antt).
-- Assumes nothing.
use Prim.Native.Nat.{ℕ, ◌+◌, ◌≤◌}
use Rattle.listing.specs.LineText.{end_line, long_line, longest_log}
use Rattle.lupinshift.specs.Answers.{EndsTheListing, FiguresInTheEnd, last_figures_of}
use Rattle.lupinshift.specs.State.{Begins, Fillings, FillingsAreListing, FillsOn, NoneMore, OwnFromTheStart, fill, listing_at, no_more, state_words}
use Rattle.step.proofs.Whole.{blocks, none_left_over}
use Rattle.step.specs.Blocks.{Blocks, block, none_left}
use Rattle.step.specs.ListingLines.{Listing, block_of}
use Rattle.step.specs.Listings.{figures_in, joined, lines_of, listing_of}
use Rattle.words.specs.Words.{Own, section_in, start_in, word_count, words_of}
use Rattle.working.specs.Sections.{fresh}
use Rattle.working.specs.Turns.{single, turns_of}
use Rattle.working.specs.declared.Section.{Section}
use Rattle.working.specs.declared.Table.TheVariants.{SingleLine}
use borrow.Author.Tests.{le-ltb}
use lib.Dec.{ltb}
use lib.ListN.{drop, length, take}
use lib.Seq.{take_at}
use mathlib.Core.Bool.{Bool, cond, false, true}
use mathlib.Core.List.{List, [], ◌++◌, ◌∷◌}
use mathlib.Core.Path.{ap, ap₂, refl, subst, sym, ◌∙◌, ◌≡◌}
use native.Mathlib.Omega.{arith}

-- ---- the calls

enough : (words : List ℕ) → state_words ≤ length words → ltb (length words) state_words ≡ false
enough words h = le-ltb (length words) state_words h

-- a call's text is that of a block, and the words after it stand for where the block ended
call_text : {words log out words₁ out₁ : List ℕ} {r : ℕ} → state_words ≤ length words → FillsOn words log out r words₁ out₁
    → take r out₁ ≡ (block_of SingleLine log (listing_at words) (length out)).text
call_text {words} {log} {out} h f =
    let text : List ℕ = (block_of SingleLine log (listing_at words) (length out)).text in
    rw (f.fills (enough words h)).left (take_at text (drop (0 + length text) out) _ (sym (f.fills (enough words h)).count))

all_fillings : {log words text : List ℕ} → Fillings log words text → Blocks SingleLine log (listing_at words) text
all_fillings (no_more e) = none_left e
all_fillings (fill {log} {words} {out} {words₁} {out₁} {more} {r} h f rest) =
    rw (call_text h f) (block (length out) (subst (λ (k : Listing Section). Blocks SingleLine log k more) (f.fills (enough words h)).state.listing (all_fillings rest)))

pub fillings : FillingsAreListing
fillings log words words₁ text r short h began all =
    blocks SingleLine log text short (subst (λ (k : Listing Section). Blocks SingleLine log k text) (began.begins (enough words h)).state.listing (all_fillings all))

pub none_more : NoneMore
none_more words log out words₁ out₁ h room f =
    none_left_over SingleLine log (listing_at words) (length out) room (by (block_of SingleLine log (listing_at words) (length out)).text (f.fills (enough words h)).count)
  where
    by : (text : List ℕ) → 0 ≡ length text → text ≡ []
    by [] e = refl
    by (x ∷ text) e = absurd (omega arith)

-- ---- the words

own-begun : (log words words₁ : List ℕ) (r : ℕ) → state_words ≤ length words → Begins log words r words₁ → Own (take word_count words₁)
unfolding listing_at words_of
own-begun log words words₁ r h began =
    let b = began.begins (enough words h) in
    let section : section_in (take word_count words₁) ≡ fresh = ap (λ (l : Listing Section). l.section) b.state.listing in
    let start : start_in (take word_count words₁) ≡ 0 = ap start_in b.own in
    b.own ∙ sym (ap₂ words_of section start)

pub own_from_the_start : OwnFromTheStart
own_from_the_start = (
  own-begun,
  λ words log out words₁ out₁ r h f own.
      let b = (f.fills (enough words h)).section in
      b.ring.own own ∙ sym (ap₂ words_of b.section b.ring.start),
)

-- ---- the last line

pub ends_the_listing : EndsTheListing
unfolding listing_of
ends_the_listing log = by (ltb longest_log (length log))
  where
    by : (b : Bool) → joined (lines_of 0 (cond b [] (turns_of single fresh log)))
        ++ cond b long_line (end_line (figures_in SingleLine fresh (cond b [] (turns_of single fresh log))))
        ≡ joined (lines_of 0 (cond b [] (turns_of single fresh log))) ++ cond b long_line (end_line (last_figures_of log))
    by true = refl
    by false = refl

pub figures_in_the_end : FiguresInTheEnd
figures_in_the_end log short = rw (le-ltb longest_log (length log) short)
