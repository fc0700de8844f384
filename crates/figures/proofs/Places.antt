-- Places of the same size, one behind another, read one by one, are all of them; and the vehicles that position's reader finds in 24 places are a section's.
-- Assumes nothing.
use Prim.Native.Nat.{min, suc, zero, ℕ, ◌*◌, ◌+◌, ◌/◌, ◌<◌, ◌≤◌}
use Rattle.figures.specs.Figures.{each_at, places_in, vehicle_at}
use Rattle.position.proofs.Places.{length-vehicles_from}
use Rattle.position.specs.Reading.{vehicles_from}
use Rattle.working.specs.Sections.{pad_to, pad_with}
use Rattle.working.specs.declared.Vehicle.{Vehicle}
use borrow.Author.Count.{below_more}
use lib.ListN.{drop, get_or, length, set}
use lib.Seq.{drop-drop, ext_get_or, get_or-set_other, get_or-set_same}
use mathlib.Core.List.{List, [], ◌∷◌}
use mathlib.Core.Path.{ap, refl, sym, ◌∙◌, ◌≡◌}
use native.Mathlib.Nat.{suc-mul}
use native.Mathlib.Omega.{arith}

module _ {A : Type 0} (read : ℕ → A) (size : ℕ) (none : A) where
  place_at : (count k at : ℕ) → k < count → get_or (each_at read size count at) k none ≡ read (at + k * size)
  unfolding each_at
  place_at zero k at h = absurd (omega arith)
  place_at (suc count) zero at h = ap read (omega arith)
  place_at (suc count) (suc k) at h = place_at count k (at + size) (omega arith) ∙ ap read (omega (arith, suc-mul k size))

  places-length : (count at : ℕ) → length (each_at read size count at) ≡ count
  unfolding each_at
  places-length zero at = refl
  places-length (suc count) at = ap suc (places-length count (at + size))

  -- the places below i, the first of them at a place, are those of the list
  abbrev pub Reads : ℕ → ℕ → List A → Type 0
  Reads i at places = (k : ℕ) → k < i → read (at + k * size) ≡ get_or places k none

  pub all-places : (count at : ℕ) (places : List A) → length places ≡ count → Reads count at places → places ≡ each_at read size count at
  all-places count at places long each =
      ext_get_or none places (each_at read size count at) (long ∙ sym (places-length count at))
      (λ k h. sym (each k (omega arith)) ∙ sym (place_at count k at (omega arith)))

  -- with what stands at the next place stored, one more place is read
  pub place_more : (i at : ℕ) (places : List A) (v : A) → i < length places → Reads i at places → read (at + i * size) ≡ v → Reads (i + 1) at (set places i v)
  place_more i at places v less each here =
      below_more (λ k. read (at + k * size) ≡ get_or (set places i v) k none) i
      (λ k h. rw (get_or-set_other places i k v none (λ e. omega arith)) (each k h))
      (rw (get_or-set_same places i v none less) here)

-- ---- a section's places

from_each : (n at : ℕ) (figures : List ℕ) → vehicles_from n (drop at figures) ≡ each_at (vehicle_at figures) 10 n at
unfolding vehicles_from each_at
from_each zero at figures = refl
from_each (suc n) at figures = ap (vehicle_at figures at ∷◌) (ap (vehicles_from n) (drop-drop 10 at figures) ∙ from_each n (at + 10) figures)

-- as many as there is room for are padded with none
pad_full : (n : ℕ) (l : List Vehicle) → length l ≡ n → pad_to n l ≡ l
unfolding pad_with
pad_full zero [] long = refl
pad_full zero (v ∷ l) long = absurd (omega arith)
pad_full (suc n) [] long = absurd (omega arith)
pad_full (suc n) (v ∷ l) long = ap (v ∷◌) (pad_full n l (omega arith))

-- a head has bytes for all 24 places
pub section_places : (figures : List ℕ) → 240 ≤ length figures → pad_to 24 (vehicles_from (min (min 24 24) (length figures / 10)) figures) ≡ places_in figures
section_places figures long =
    let all : min (min 24 24) (length figures / 10) ≡ 24 = omega (arith, long) in
    rw all (pad_full 24 (vehicles_from 24 figures) (length-vehicles_from 24 figures) ∙ from_each 24 0 figures)
