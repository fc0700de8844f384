-- A line of form numbers in twelve places: what is put there is what is read, and it stays rising as trains are sent and received.
-- A side that is well made is one of which five facts hold, and they hold of a side with such a line.
-- Assumes nothing.
use Prim.Native.Nat.{suc, zero, ℕ, ◌+◌, ◌<◌, ◌≤◌}
use Rattle.double.specs.Sections.{line_of, side}
use Rattle.double.specs.Steps.{is_first}
use Rattle.double.specs.WellMade.{rising, side_made, side_tests}
use Rattle.double.specs.declared.Side.{Side}
use Rattle.std.specs.Prelude.{Option}
use Rattle.working.proofs.invariant.Made.{front_padded}
use Rattle.working.proofs.laws.Tests.{both, each_holds, every_holds}
use Rattle.working.specs.Entries.{every}
use Rattle.working.specs.Sections.{pad_with}
use Rattle.working.specs.WellMade.{not_later, zero_tests}
use borrow.Author.Tests.{eqb-true, le-leb, leb-true, lt-ltb, ltb-true}
use lib.Dec.{leb, ltb}
use lib.ListN.{drop, length, take}
use mathlib.Core.Bool.{false≢true, true, ◌&&◌}
use mathlib.Core.List.{List, [], ◌++◌, ◌∷◌}
use mathlib.Core.Path.{ap, refl, ◌≡◌}
use native.Mathlib.Omega.{arith}

-- ---- the places

rest_zero : (n : ℕ) (l : List ℕ) → every (zero_tests (drop (length l) (pad_with 0 n l))) ≡ true
unfolding pad_with
rest_zero zero [] = refl
rest_zero zero (m ∷ l) = refl
rest_zero (suc n) [] = rest_zero n []
rest_zero (suc n) (m ∷ l) = rest_zero n l

length_front : (n : ℕ) (l : List ℕ) → length (take n l) ≤ n
length_front zero l = omega arith
length_front (suc n) [] = omega arith
length_front (suc n) (m ∷ l) = omega (arith, length_front n l)

pub line_length : (d : Side) → length (line_of d) ≤ d.len
line_length d = length_front d.len d.numbers

-- ---- rising

-- a rising line's first, and what comes behind it
pub record Rises (below last n : ℕ) (l : List ℕ) : Type 0 where
  pub above : below < n
  pub within : n ≤ last
  pub later : rising n last l ≡ true

rises : (below last n : ℕ) (l : List ℕ) → rising below last (n ∷ l) ≡ true → Rises below last n l
rises below last n l r =
    let (first, later) = both (ltb below n && leb n last) (rising n last l) r in
    let (above, within) = both (ltb below n) (leb n last) first in
    record { above = ltb-true below n above; within = leb-true n last within; later = later }

rising_from : (below last n : ℕ) (l : List ℕ) → Rises below last n l → rising below last (n ∷ l) ≡ true
rising_from below last n l r = rw (lt-ltb below n r.above, le-leb n last r.within) r.later

-- with the next form number behind
pub rising_next : (below last : ℕ) (l : List ℕ) → below ≤ last → rising below last l ≡ true → rising below (last + 1) (l ++ (last + 1) ∷ []) ≡ true
rising_next below last [] h r = rising_from below (last + 1) (last + 1) [] (record { above = omega arith; within = omega arith; later = refl })
rising_next below last (n ∷ l) h r =
    let p = rises below last n l r in
    rising_from below (last + 1) n (l ++ (last + 1) ∷ []) (record { above = p.above; within = omega arith; later = rising_next n last l p.within p.later })

-- without the first
pub rising_rest : (below last : ℕ) (l : List ℕ) → rising below last l ≡ true → rising below last (drop 1 l) ≡ true
rising_rest below last [] r = refl
rising_rest below last (n ∷ []) r = refl
rising_rest below last (n ∷ m ∷ l) r =
    let p = rises below last n (m ∷ l) r in
    let q = rises n last m l p.later in
    rising_from below last m l (record { above = omega arith; within = q.within; later = q.later })

-- the first of a line, and the rest
pub first_rest : (n : ℕ) (l : List ℕ) → is_first n l ≡ true → l ≡ n ∷ drop 1 l
first_rest n [] h = absurd (false≢true h)
first_rest n (m ∷ l) h = ap (◌∷ l) (eqb-true m n h)

-- ---- a side

pub record Made (d : Side) : Type 0 where
  pub last : d.last ≤ 9999
  pub len : d.len ≤ 12
  pub rises : rising 0 d.last (line_of d) ≡ true
  pub blank : every (zero_tests (drop d.len d.numbers)) ≡ true
  pub minute : not_later d.interval d.clock ≡ true

pub made_of : (d : Side) → side_made d ≡ true → Made d
made_of d h =
    let (last, (len, (rises, (blank, (minute, end))))) = each_holds (side_tests d) h in
    record { last = leb-true d.last 9999 last; len = leb-true d.len 12 len; rises = rises; blank = blank; minute = minute }

pub side-made : (d : Side) → Made d → side_made d ≡ true
side-made d m = every_holds (side_tests d) (le-leb d.last 9999 m.last, (le-leb d.len 12 m.len, (m.rises, (m.blank, (m.minute, tt)))))

module _ (clock last : ℕ) (i : Option ℕ) (l : List ℕ) (fits : length l ≤ 12) where
  pub line_there : line_of (side clock last i l) ≡ l
  line_there = front_padded 0 12 l fits

  pub made-side : last ≤ 9999 → rising 0 last l ≡ true → not_later i clock ≡ true → Made (side clock last i l)
  made-side top rises minute = record { last = top; len = fits; rises = rw line_there rises; blank = rest_zero 12 l; minute = minute }
