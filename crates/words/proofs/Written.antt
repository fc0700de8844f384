-- Words written out: the figures one by one, so that each is read back where it was put, and the ring behind them.
-- Assumes nothing.
use Prim.Native.Nat.{suc, zero, ℕ, ◌+◌, ◌≤◌}
use Rattle.words.specs.Words.{ring_from, ring_in, word_count, words_from}
use lib.ListN.{drop, get_or, length, set, take}
use lib.Seq.{drop-cons, take_at}
use mathlib.Core.List.{List, [], ◌++◌, ◌∷◌}
use mathlib.Core.Path.{ap, refl, sym, ◌∙◌, ◌≡◌}
use native.Mathlib.Nat.{add-zero}
use native.Mathlib.Omega.{arith}

pub first_words : (i n : ℕ) (w : List ℕ) → i + n ≤ length w → drop i w ≡ words_from i n w ++ drop (i + n) w
first_words i zero w long = sym (ap (λ k. drop k w) (add-zero i))
first_words i (suc n) w long =
    let next : suc i ≡ i + 1 = omega arith in
    let same : i + 1 + n ≡ i + suc n = omega arith in
    drop-cons w i 0 (omega arith) ∙ ap (get_or w i 0 ∷◌) (rw (next, ← same) (first_words (i + 1) n w (omega arith)))

pub words_count : (i n : ℕ) (w : List ℕ) → length (words_from i n w) ≡ n
words_count i zero w = refl
words_count i (suc n) w = ap suc (words_count (i + 1) n w)

-- a word of some, stored
pub taken : (i n : ℕ) (w : List ℕ) → i + n ≤ length w → words_from i n w ≡ take n (drop i w)
taken i n w long = sym (ap (take n) (first_words i n w long) ∙ take_at (words_from i n w) (drop (i + n) w) n (words_count i n w))

abbrev pub written : List ℕ → List ℕ
written w = words_from 0 ring_from w ++ ring_in w

pub as_written : (w : List ℕ) → length w ≡ word_count → w ≡ written w
as_written w long = first_words 0 ring_from w (omega arith)

-- a word stored past some
pub set_past : (p r : List ℕ) (i a : ℕ) → set (p ++ r) (length p + i) a ≡ p ++ set r i a
set_past [] r i a = ap (λ k. set r k a) (omega arith)
set_past (b ∷ p) r i a =
    let on : length (b ∷ p) + i ≡ suc (length p + i) = omega arith in
    ap (λ k. set (b ∷ p ++ r) k a) on ∙ ap (b ∷◌) (set_past p r i a)
