-- What is read at the front of a list is the same where the list is cut behind it: `section_front`, `listed_front`, `entry_front`. A section's words and five numbers, before what
-- was behind them, are those of the listing that they were made of: `holds`.
-- With enough words lent, a listing is begun in them, `begins`, and a buffer is filled from where they say that it stands: `fills`.
-- Assumes nothing.
use Prim.Native.Nat.{ℕ, ◌+◌, ◌<◌, ◌≤◌}
use Rattle.lupinshift.specs.Fields.{entry_from}
use Rattle.lupinshift.specs.State.{Begins, FillsOn, Keeps, figure_words, listed_at, listing_at, state_words}
use Rattle.std.proofs.lemmas.List.{get_or-take, take-take}
use Rattle.step.specs.ListingLines.{FillsWords, start_of}
use Rattle.step.specs.declared.next_line.Listed.{Listed}
use Rattle.step.specs.declared.next_line.Put.{Put}
use Rattle.words.specs.Words.{OwnWords, by_slot, slot_words, word_count, words_of}
use Rattle.working.specs.Sections.{fresh}
use Rattle.working.specs.WellMade.{one_if}
use Rattle.working.specs.declared.Table.TheVariants.{SingleLine}
use borrow.Author.Tests.{ltb-true}
use lib.Dec.{eqb}
use lib.ListN.{drop, get_or, length, length-append, length-drop, take}
use lib.Seq.{drop_at, get_or-drop, take_at}
use mathlib.Core.Bool.{Bool, false, true}
use mathlib.Core.List.{List, append_assoc, ◌++◌}
use mathlib.Core.Path.{ap, refl, sym, ◌∙◌, ◌≡◌}
use native.Mathlib.Omega.{arith}

-- ---- what stands at the front

pub section_front : (words : List ℕ) → take word_count (take state_words words) ≡ take word_count words
section_front words = take-take word_count state_words words (omega arith)

pub listed_front : (words : List ℕ) → listed_at (take state_words words) ≡ listed_at words
listed_front words =
    let number : (k : ℕ) → k < state_words → get_or (take state_words words) k 0 ≡ get_or words k 0 = λ k h. get_or-take state_words words k 0 h in
    rw (number 90 (omega arith), number 91 (omega arith), number 92 (omega arith), number 93 (omega arith), number 94 (omega arith))

pub entry_front : (fields : List ℕ) → entry_from (take 10 fields) ≡ entry_from fields
unfolding entry_from
entry_front fields =
    let number : (k : ℕ) → k < 10 → get_or (take 10 fields) k 0 ≡ get_or fields k 0 = λ k h. get_or-take 10 fields k 0 h in
    rw (
      number 0 (omega arith),
      number 1 (omega arith),
      number 2 (omega arith),
      number 3 (omega arith),
      number 4 (omega arith),
      number 5 (omega arith),
      number 6 (omega arith),
      number 7 (omega arith),
      number 8 (omega arith),
      number 9 (omega arith),
    )

-- ---- what they stand for

one_back_lem : (b : Bool) → eqb (one_if b) 1 ≡ b
one_back_lem true = refl
one_back_lem false = refl

pub holds : (l : Listed) (words section after : List ℕ) → length section ≡ word_count → state_words ≤ length words
    → after ≡ (section ++ figure_words l) ++ drop state_words words → Keeps section l words after
unfolding listing_at
holds l words section after size room e =
    let rest : List ℕ = figure_words l ++ drop state_words words in
    let shape : after ≡ section ++ rest = e ∙ append_assoc section (figure_words l) (drop state_words words) in
    let front : take word_count after ≡ section = rw shape (take_at section rest word_count size) in
    let behind : drop word_count after ≡ rest = rw shape (drop_at section rest word_count size) in
    let number : (k : ℕ) → get_or after (word_count + k) 0 ≡ get_or rest k 0 = λ k. sym (get_or-drop word_count after k 0) ∙ ap (λ (x : List ℕ). get_or x k 0) behind in
    record {
      holds = record {
        listing = rw (front, number 0, number 1, number 2, number 3, number 4, one_back_lem l.ended);
        figures = behind;
        size = ap length shape ∙ simp (length-append, length-drop) (omega arith);
      };
      front = front;
    }

-- ---- a call

fresh_size : length (words_of fresh 0) ≡ word_count
unfolding words_of slot_words by_slot
fresh_size = refl

pub begins : {log words section state : List ℕ} {l : Listed} → state_words ≤ length words → OwnWords section fresh → l ≡ start_of (length log) → state ≡ section ++ figure_words l
    → Begins log words state_words (state ++ drop state_words words)
begins {log} {words} {section} {state} {l} enough own start e =
    let k = holds l words section (state ++ drop state_words words) (ap length own.words ∙ fresh_size) enough (ap (λ (x : List ℕ). x ++ drop state_words words) e) in
    record {
      short = λ less. absurd (omega (arith, ltb-true (length words) state_words less));
      begins = λ more. record { count = refl; state = rw (own.section, start) at k.holds; own = k.front ∙ own.words };
    }

pub fills : {words log out section words₁ out₁ : List ℕ} {r : Put} → state_words ≤ length words
    → FillsWords SingleLine log (take word_count words) (listed_at words) out r section out₁ → Keeps section r.listed words words₁ → FillsOn words log out r.behind words₁ out₁
unfolding listing_at
fills {words} enough f k = record {
  short = λ e. absurd (omega (arith, ltb-true (length words) state_words e));
  fills = λ e. record {
    count = f.fills.counted;
    left = f.fills.left;
    state = rw f.fills.listing at k.holds;
    section = rw k.front f.words;
    kept = λ ill. k.front ∙ f.kept ill;
  };
}
