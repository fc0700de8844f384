-- What is read off bytes that should be a position.
use Rattle.std.specs.Prelude.{Bool, List, [], cond, drop, eqb, length, suc, take, true, zero, ℕ, ◌∷◌, ◌≡◌}
use Rattle.words.specs.Words.{section_in, words_of}
use Rattle.working.specs.Positions.{is_position, section_at, vehicle_in}
use Rattle.working.specs.declared.Vehicle.{Vehicle}

-- the vehicles that so many places say, one behind another, whatever stands there
unfoldable pub vehicles_from : ℕ → List ℕ → List Vehicle
vehicles_from zero bytes = []
vehicles_from (suc n) bytes = vehicle_in (take 10 bytes) ∷ vehicles_from n (drop 10 bytes)

-- whether they are one; and of as many bytes as a position has, the own words of the section that they say, which stand for it
pub record Reads (bytes : List ℕ) (told : Bool) (before after : List ℕ) : Type 0 where
  pub is : told ≡ is_position bytes
  pub left : after ≡ cond (eqb (length bytes) 281) (words_of (section_at bytes) 0) before
  pub says : told ≡ true → section_in after ≡ section_at bytes
