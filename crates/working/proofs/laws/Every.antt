-- A statement about every element of a list; and a test that holds of every vehicle, as such a statement and back.
-- Assumes nothing.
use Prim.Native.Nat.{suc, zero, ℕ, ◌<◌}
use Rattle.working.proofs.laws.Tests.{and, both}
use Rattle.working.specs.WellMade.{all}
use Rattle.working.specs.declared.Vehicle.{Vehicle}
use lib.ListN.{get_or, length}
use mathlib.Core.Bool.{Bool, true}
use mathlib.Core.List.{List, [], ◌++◌, ◌∷◌}
use mathlib.Core.Path.{refl, ◌≡◌}
use native.Mathlib.Omega.{arith}

abbrev pub Every : {T : Type 0} → (T → Type 0) → List T → Type 0
Every P [] = Unit {0}
Every P (t ∷ l) = P t × Every P l

module _ {T : Type 0} (P : T → Type 0) where
  pub every_at : (d : T) (l : List T) → Every P l → (i : ℕ) → i < length l → P (get_or l i d)
  every_at d [] h i k = absurd (omega arith)
  every_at d (t ∷ l) h zero k = h.0
  every_at d (t ∷ l) h (suc i) k = every_at d l h.1 i (omega arith)

  pub every_map : (Q : T → Type 0) → ((t : T) → P t → Q t) → (l : List T) → Every P l → Every Q l
  every_map Q f [] h = tt
  every_map Q f (t ∷ l) h = (f t h.0, every_map Q f l h.1)

  -- one more at the end
  pub every_add : (l : List T) (t : T) → Every P l → P t → Every P (l ++ t ∷ [])
  every_add [] t h p = (p, tt)
  every_add (u ∷ l) t h p = (h.0, every_add l t h.1 p)

  pub every-before : (l : List T) (t : T) → Every P (l ++ t ∷ []) → Every P l × P t
  every-before [] t h = (tt, h.0)
  every-before (u ∷ l) t h = let (before, last) = every-before l t h.1 in ((h.0, before), last)

module _ (p : Vehicle → Bool) (P : Vehicle → Type 0) where
  pub all-every : ((v : Vehicle) → p v ≡ true → P v) → (l : List Vehicle) → all p l ≡ true → Every P l
  all-every f [] h = tt
  all-every f (v ∷ l) h = let (first, rest) = both (p v) (all p l) h in (f v first, all-every f l rest)

  pub every-all : ((v : Vehicle) → P v → p v ≡ true) → (l : List Vehicle) → Every P l → all p l ≡ true
  every-all f [] h = refl
  every-all f (v ∷ l) h = and (p v) (all p l) (f v h.0) (every-all f l h.1)
