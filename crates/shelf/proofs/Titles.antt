-- Names and titles, byte by byte: zeros, letters that stand first, and a name at the front of zeros.
-- Assumes nothing.
use Prim.Native.Nat.{suc, zero, ℕ, ◌+◌, ◌-◌, ◌≤◌}
use Rattle.std.specs.List.{fold, prefix_len}
use Rattle.working.specs.Sections.{pad_with}
use Rattle.working.specs.Shelves.{is_letter, is_zero, letters_in}
use lib.Dec.{eqb}
use lib.ListN.{drop, length, length-drop, replicate, take}
use lib.Seq.{take_all}
use mathlib.Core.Bool.{Bool, and-true, and_assoc, cond, false, true, ◌&&◌}
use mathlib.Core.List.{List, [], ◌++◌, ◌∷◌}
use mathlib.Core.Path.{ap, refl, sym, ◌∙◌, ◌≡◌}
use native.Mathlib.Omega.{arith}

-- ---- zeros and letters

-- the bytes so far are zero, and so is this one
abbrev pub zero_with : Bool → ℕ → Bool
zero_with before b = before && eqb b 0

pub zero_so_far : (before : Bool) (l : List ℕ) → fold zero_with before l ≡ (before && is_zero l)
unfolding is_zero
zero_so_far before [] = sym (and-true before)
zero_so_far before (b ∷ l) = zero_so_far (before && eqb b 0) l ∙ and_assoc before (eqb b 0) (is_zero l)

pub letters_first : (l : List ℕ) → prefix_len is_letter l ≡ letters_in l
unfolding letters_in
letters_first [] = refl
letters_first (b ∷ l) =
    let one : 1 + prefix_len is_letter l ≡ suc (prefix_len is_letter l) = omega arith in
    ap (λ n. cond (is_letter b) n 0) (one ∙ ap suc (letters_first l))

pub few_first : (l : List ℕ) → letters_in l ≤ length l
unfolding letters_in
few_first [] = omega arith
few_first (b ∷ l) = by (is_letter b) (few_first l)
  where
    by : (letter : Bool) → letters_in l ≤ length l → cond letter (suc (letters_in l)) 0 ≤ suc (length l)
    by true h = omega arith
    by false h = omega arith

-- ---- titles

-- a slice from a place to the end
pub to_end : (l : List ℕ) (at n : ℕ) → length l ≤ n → take (n - at) (drop at l) ≡ drop at l
to_end l at n long = take_all (n - at) (drop at l) (omega (arith, length-drop at l))

-- a name at the front of zeros
pub in_front : (n : ℕ) (l : List ℕ) → length l ≤ n → l ++ drop (length l) (replicate n 0) ≡ pad_with 0 n l
unfolding pad_with
in_front zero [] fits = refl
in_front zero (b ∷ l) fits = absurd (omega arith)
in_front (suc n) [] fits = ap (0 ∷◌) (in_front n [] (omega arith))
in_front (suc n) (b ∷ l) fits = ap (b ∷◌) (in_front n l (omega arith))
