-- The places of a shelf from the i-th on, as the definitions go over them: what stands in the i-th, and the rest.
-- Assumes nothing.
use Prim.Native.Nat.{suc, ℕ, ◌*◌, ◌+◌, ◌-◌, ◌<◌}
use Rattle.working.specs.Positions.{is_position}
use Rattle.working.specs.Shelves.{is_among, is_title, is_zero, places_made, title_in, used_well}
use lib.ListN.{drop, take}
use lib.Seq.{drop-drop}
use mathlib.Core.Bool.{Bool, and-true, and_assoc, cond, not, ◌&&◌}
use mathlib.Core.List.{List}
use mathlib.Core.Path.{ap, ◌∙◌, ◌≡◌}
use native.Mathlib.Omega.{arith}

-- the bytes from a place on
abbrev pub places_from : List ℕ → ℕ → List ℕ
places_from shelf i = drop (293 * i) shelf

module _ (shelf : List ℕ) (i : ℕ) (less : i < 16) where
  left : 16 - i ≡ suc (16 - (i + 1))
  left = omega arith

  behind : drop 293 (places_from shelf i) ≡ places_from shelf (i + 1)
  behind = let on : 293 * i + 293 ≡ 293 * (i + 1) = omega arith in drop-drop 293 (293 * i) shelf ∙ ap (λ k. drop k shelf) on

  -- by the tests of the code
  pub made_next : {zeros used : Bool} → zeros ≡ is_zero (take (293 * i + 293 - 293 * i) (places_from shelf i)) → used ≡ used_well (15 - i) (places_from shelf i)
      → places_made (16 - i) (places_from shelf i) ≡ cond zeros (is_zero (places_from shelf i)) (used && places_made (16 - (i + 1)) (places_from shelf (i + 1)))
  unfolding places_made
  made_next z u =
      let whole : 293 * i + 293 - 293 * i ≡ 293 = omega arith in
      let others : 15 - i ≡ 16 - (i + 1) = omega arith in
      rw (z, u, whole, others, left, behind)

  pub used_here :
      (is_title (title_in (places_from shelf i)) && is_position (take 281 (drop (293 * i + 12) shelf)))
      && not (is_among (title_in (places_from shelf i)) (16 - (i + 1)) (places_from shelf (i + 1)))
      ≡ used_well (15 - i) (places_from shelf i)
  unfolding used_well
  used_here =
      let others : 15 - i ≡ 16 - (i + 1) = omega arith in
      rw (others, behind, drop-drop 12 (293 * i) shelf, and-true) (and_assoc (is_title (title_in (places_from shelf i))) _ _)
