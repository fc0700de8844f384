-- What the contracts and theorems of specs/State.antt say of calls that are written out, with the bounds in figures: 95 words, lines of at most 214 bytes. A log that is one BEGIN
-- is listed by calls with buffers of 214 bytes, which take a line each, and whoever is handed their contracts knows each answer, byte and word. So it is from words that
-- stand for no well-made section; and of any log of fewer than 2^64 - 1 bytes the calls come to the listing.
-- Assumes nothing.
use Prim.Native.Nat.{suc, zero, ℕ, ◌+◌, ◌-◌, ◌<◌, ◌≤◌}
use Rattle.listing.specs.LineText.{longest_log}
use Rattle.lupinshift.proofs.Fillings.{fillings, none_more, own_from_the_start}
use Rattle.lupinshift.proofs.OfAnswers.{Front}
use Rattle.lupinshift.specs.State.{Begins, Fillings, FillsFrom, FillsOn, StandsFor, figure_words, fill, listing_at, no_more}
use Rattle.step.proofs.Examples.{listing_computes}
use Rattle.step.proofs.Filling.{has_ended, line_comes, no_room}
use Rattle.step.proofs.Next.{some_line}
use Rattle.step.proofs.OfBlocks.{begin, begin_listed, begin_listed_lem, long_listed}
use Rattle.step.specs.ListingLines.{Listing, Portion, block_of, listed_of, next_line, no_line, turns_left, with_more}
use Rattle.step.specs.Listings.{listing_of}
use Rattle.step.specs.Tables.{start_over, start_turned}
use Rattle.words.specs.Words.{Own, by_slot, section_in, slot_words, start_in, words_of}
use Rattle.working.specs.Sections.{fresh, pad_with}
use Rattle.working.specs.Turns.{section_after}
use Rattle.working.specs.declared.Section.{Section}
use Rattle.working.specs.declared.Table.TheVariants.{SingleLine}
use borrow.Author.Tests.{eq-eqb, eqb-true, le-ltb, lt-ltb}
use lib.ListN.{drop, get_or, length, take, take-append-drop}
use mathlib.Core.Bool.{false}
use mathlib.Core.List.{List, [], ◌++◌, ◌∷◌}
use mathlib.Core.Path.{ap, refl, sym, ◌∙◌, ◌≡◌}
use native.Mathlib.Omega.{arith}

-- ---- the words

abbrev zeros : ℕ → List ℕ
zeros zero = []
zeros (suc n) = 0 ∷ zeros n

-- the section's 90, the five behind them, and any others
abbrev state : List ℕ → ℕ → ℕ → ℕ → ℕ → ℕ → List ℕ → List ℕ
state section at left entries accepted ended behind = section ++ (at ∷ left ∷ entries ∷ accepted ∷ ended ∷ behind)

-- what words that stand for a listing are, by the section's
stood : {l : Listing Section} {words after section : List ℕ} → StandsFor l words after → take 90 after ≡ section → after ≡ section ++ (figure_words (listed_of l) ++ drop 95 words)
stood {after = after} s front = sym (take-append-drop 90 after) ∙ rw (front, s.figures)

-- ---- the start

fresh-words : words_of fresh 0 ≡ zeros 90
unfolding by_slot pad_with slot_words words_of
fresh-words = refl

begun_in_95 : {log words after : List ℕ} {r : ℕ} → 95 ≤ length words → Begins log words r after
    → (r ≡ 95) × (after ≡ state (zeros 90) 0 (length log) 0 0 0 (drop 95 words)) × (length after ≡ length words)
begun_in_95 {words = words} room began =
    let b = began.begins (le-ltb (length words) 95 room) in
    (b.count, stood b.state (b.own ∙ fresh-words), b.state.size)

not_begun_in_94 : {log words after : List ℕ} {r : ℕ} → length words ≡ 94 → Begins log words r after → (r ≡ 0) × (after ≡ words)
not_begun_in_94 {words = words} few began = began.short (lt-ltb (length words) 95 (omega arith))

-- ---- a call

-- a block of 214 bytes takes a line, behind which there is no room for another
one_line : (log : List ℕ) (l : Listing Section) → l.ended ≡ false
    → block_of SingleLine log l 214 ≡ with_more (next_line SingleLine log l) (no_line (next_line SingleLine log l).listing)
one_line log l going =
    let next : Portion Section = next_line SingleLine log l in
    line_comes SingleLine log l 214 213 going (omega arith)
    ∙ ap (with_more next) (no_room SingleLine log next.listing (214 - length next.text) 213 (omega (arith, some_line SingleLine log l)))

-- what a call with such a buffer gives, by the block that it takes and by what it makes of the section's words
filled : {words log out words₁ out₁ front : List ℕ} {r : ℕ} {block : Portion Section} → 95 ≤ length words → length out ≡ 214 → FillsOn words log out r words₁ out₁
    → block_of SingleLine log (listing_at words) 214 ≡ block → (FillsFrom words log out r words₁ out₁ → take 90 words₁ ≡ front)
    → Front block.text out r out₁ × (words₁ ≡ front ++ (figure_words (listed_of block.listing) ++ drop 95 words))
filled {words} {log} {out} {block = block} room size f is front =
    let g = f.fills (le-ltb (length words) 95 room) in
    let all : block_of SingleLine log (listing_at words) (length out) ≡ block = rw size is in
    let from : 0 + length block.text ≡ length block.text = omega arith in
    ((rw all at g.count, rw (all, from) at g.left), rw all at (stood g.state (front g)))

-- words that were a section's own become those of the section behind the block
own-front : {words log out words₁ out₁ : List ℕ} {r : ℕ} {block : Portion Section} → length out ≡ 214 → Own (take 90 words) → block_of SingleLine log (listing_at words) 214 ≡ block
    → FillsFrom words log out r words₁ out₁
    → take 90 words₁ ≡ words_of (section_after (section_in (take 90 words)) block.turns) (start_over (start_in (take 90 words)) block.turns)
own-front {words} {log} {out} {block = block} size own is g =
    let all : block_of SingleLine log (listing_at words) (length out) ≡ block = rw size is in
    rw all at (g.section.ring.own own)

-- ---- the log that is one BEGIN

-- what is opened to compute a line and the words behind it
unfoldable state_computes : Unit {0}
unfolding by_slot listing_computes listing_at next_line pad_with section_in slot_words start_turned turns_left words_of
state_computes = tt

abbrev in_force : List ℕ
in_force = 0 ∷ 1 ∷ zeros 88

line_listed : {behind out words₁ out₁ : List ℕ} {r : ℕ} → length out ≡ 214 → FillsOn (state (zeros 90) 0 2 0 0 0 behind) begin out r words₁ out₁
    → Front (take 15 begin_listed) out r out₁ × (words₁ ≡ state in_force 2 1 1 1 0 behind)
unfolding state_computes
line_listed {behind} size f =
    let is = one_line begin (listing_at (state (zeros 90) 0 2 0 0 0 behind)) refl in
    filled (omega arith) size f is (own-front size refl is)

end_listed : {behind out words₁ out₁ : List ℕ} {r : ℕ} → length out ≡ 214 → FillsOn (state in_force 2 1 1 1 0 behind) begin out r words₁ out₁
    → Front (drop 15 begin_listed) out r out₁ × (words₁ ≡ state in_force 2 1 1 1 1 behind)
unfolding state_computes
end_listed {behind} size f =
    let is = one_line begin (listing_at (state in_force 2 1 1 1 0 behind)) refl in
    filled (omega arith) size f is (own-front size refl is)

none_listed : {behind out words₁ out₁ : List ℕ} {r : ℕ} → length out ≡ 214 → FillsOn (state in_force 2 1 1 1 1 behind) begin out r words₁ out₁
    → Front [] out r out₁ × (words₁ ≡ state in_force 2 1 1 1 1 behind)
unfolding state_computes
none_listed {behind} size f =
    let is = has_ended SingleLine begin (listing_at (state in_force 2 1 1 1 1 behind)) 214 214 refl in
    filled (omega arith) size f is (own-front size refl is)

-- three vehicles that are none while the working is not in force, and a 7 in the last slot, where no vehicle stands: no section's own words, and not well made
abbrev ill_made : List ℕ
ill_made = 3 ∷ zeros 88 ++ 7 ∷ []

five_listed : {behind out words₁ out₁ : List ℕ} {r : ℕ} → length out ≡ 214 → FillsOn (state ill_made 0 2 0 0 0 behind) begin out r words₁ out₁
    → Front (49 ∷ 32 ∷ 49 ∷ 32 ∷ 45 ∷ 32 ∷ 110 ∷ 111 ∷ 32 ∷ 53 ∷ 10 ∷ []) out r out₁ × (words₁ ≡ state ill_made 2 1 1 0 0 behind)  -- 1 1 - no 5
unfolding state_computes
five_listed {behind} size f = filled (omega arith) size f (one_line begin (listing_at (state ill_made 0 2 0 0 0 behind)) refl) (λ g. g.kept refl)

-- ---- any call

not_filled_in_94 : {words log out words₁ out₁ : List ℕ} {r : ℕ} → length words ≡ 94 → FillsOn words log out r words₁ out₁ → (r ≡ 0) × (words₁ ≡ words) × (out₁ ≡ out)
not_filled_in_94 {words} few f = f.short (lt-ltb (length words) 95 (omega arith))

-- 0 for a buffer of 214 bytes: the last of the 95 words is 1
ended_word : (words log out words₁ out₁ : List ℕ) → length words ≡ 95 → length out ≡ 214 → FillsOn words log out 0 words₁ out₁ → get_or words 94 0 ≡ 1
unfolding listing_at
ended_word words log out words₁ out₁ room size f = eqb-true (get_or words 94 0) 1 (none_more words log out words₁ out₁ (omega arith) (omega arith) f)

-- ---- the calls together

module _ {log words words₁ out words₂ out₁ : List ℕ} {r r₁ : ℕ} (room : length words ≡ 95) (began : Begins log words r words₁) (f : FillsOn words₁ log out r₁ words₂ out₁) where
  own_behind_two : Own (take 90 words₁) × Own (take 90 words₂)
  own_behind_two =
      let own = own_from_the_start.0 log words words₁ r (omega arith) began in
      (own, own_from_the_start.1 words₁ log out words₂ out₁ r₁ (omega (arith, (begun_in_95 (omega arith) began).2)) f own)

  -- whatever the first buffer, and whatever calls come behind it
  listed_by_calls : {more : List ℕ} → length log < 18446744073709551615 → Fillings log words₂ more → take r₁ out₁ ++ more ≡ listing_of SingleLine log
  listed_by_calls {more} short rest =
      fillings log words words₁ (take r₁ out₁ ++ more) r short (omega arith) began (fill (omega (arith, (begun_in_95 (omega arith) began).2)) f rest)

  -- where the 95th word is then 1, that call has put the whole listing
  listed_by_one : length log < 18446744073709551615 → get_or words₂ 94 0 ≡ 1 → take r₁ out₁ ++ [] ≡ listing_of SingleLine log
  unfolding listing_at
  listed_by_one short ended = listed_by_calls short (no_more (eq-eqb (get_or words₂ 94 0) 1 ended))

-- in the bytes of the log that is one BEGIN, and of one of 2^64 - 2 bytes
begin_by_calls : {words words₁ text : List ℕ} {r : ℕ} → length words ≡ 95 → Begins begin words r words₁ → Fillings begin words₁ text → text ≡ begin_listed
begin_by_calls {words} {words₁} {text} {r} room began all = fillings begin words words₁ text r (omega arith) (omega arith) began all ∙ begin_listed_lem SingleLine

long_by_calls : {log words words₁ text : List ℕ} {r : ℕ} → length log ≡ 18446744073709551614 → length words ≡ 95 → Begins log words r words₁ → Fillings log words₁ text → text ≡ long_listed
unfolding listing_of
long_by_calls {log} {words} {words₁} {text} {r} size room began all =
    fillings log words words₁ text r (omega arith) (omega arith) began all ∙ rw (lt-ltb longest_log (length log) (omega arith))
