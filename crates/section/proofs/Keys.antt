-- The keys of the vehicles passed, each put into a place that had none: a key is missing among them where its vehicle differs from each passed, since a form number
-- is below 65536 and so a key tells both sender and form number.
-- Assumes nothing.
use Prim.Native.Nat.{suc, zero, ℕ, ◌-◌, ◌<◌, ◌≤◌}
use Rattle.section.specs.Made.{Keyed, differs_from, lacks, no_key}
use Rattle.working.specs.WellMade.{same_form}
use Rattle.working.specs.declared.Vehicle.{Vehicle}
use borrow.Author.Tests.{eq-eqb, ne_eqb}
use lib.Dec.{eqb}
use lib.ListN.{get_or, length, length-set, set}
use lib.Seq.{get_or-set_other}
use mathlib.Core.Bool.{Bool, and-false, false, not, true, ◌&&◌}
use mathlib.Core.List.{List, [], ◌∷◌}
use mathlib.Core.Path.{ap, ap₂, refl, sym, ◌∙◌, ◌≡◌}
use native.Mathlib.Decide.{ℕ_discrete}
use native.Mathlib.Omega.{arith}

-- l are the vehicles passed, down to place i
pub record Noted (l : List Vehicle) (keys : List ℕ) (i : ℕ) : Type 0 where
  pub long : length keys ≡ 24
  pub unkeyed : (k : ℕ) → k < i → get_or keys k 0 ≡ no_key
  pub noted : (v : Vehicle) (n : ℕ) → Keyed v n → lacks n keys ≡ differs_from v l

-- ---- a key tells its vehicle

one_key : (v w : Vehicle) (m n : ℕ) → Keyed v n → Keyed w m → eqb m n ≡ same_form v w
one_key v w m n of-v of-w = by (ℕ_discrete v.sender w.sender) (ℕ_discrete v.form w.form)
  where
    by : Dec (v.sender ≡ w.sender) → Dec (v.form ≡ w.form) → eqb m n ≡ same_form v w
    by (yes p) (yes q) = rw (eq-eqb m n (omega arith), eq-eqb v.sender w.sender p, eq-eqb v.form w.form q)
    by (yes p) (no q) = rw (ne_eqb m n (λ e. q (omega arith)), ne_eqb v.form w.form q, and-false)
    by (no p) q = rw (ne_eqb m n (λ e. p (omega arith)), ne_eqb v.sender w.sender p)

-- ---- a key is put

swapped : (a b c : Bool) → (a && (b && c)) ≡ (b && (a && c))
swapped true b c = refl
swapped false b c = sym (and-false b)

lacks-put : (n m : ℕ) (l : List ℕ) (k : ℕ) → k < length l → (get_or l k 0 ≡ n → ⊥) → lacks n (set l k m) ≡ (not (eqb m n) && lacks n l)
lacks-put n m [] k less other = absurd (omega arith)
lacks-put n m (a ∷ l) zero less other = rw (ne_eqb a n other)
lacks-put n m (a ∷ l) (suc k) less other = ap (not (eqb a n) &&◌) (lacks-put n m l k (omega arith) other) ∙ swapped (not (eqb a n)) (not (eqb m n)) (lacks n l)

pub one_noted : {l : List Vehicle} {keys : List ℕ} {i : ℕ} (w : Vehicle) (m : ℕ) → Noted l keys i → 0 < i → i ≤ 24 → Keyed w m → Noted (w ∷ l) (set keys (i - 1) m) (i - 1)
one_noted {l} {keys} {i} w m so_far some most keyed = record {
  long = length-set keys (i - 1) m ∙ so_far.long;
  unkeyed = λ k less. get_or-set_other keys (i - 1) k m 0 (λ e. omega arith) ∙ so_far.unkeyed k (omega arith);
  noted = λ v n of-v.
      lacks-put n m keys (i - 1) (omega arith) (λ e. omega (arith, so_far.unkeyed (i - 1) (omega arith)))
      ∙ ap₂ (λ x y. not x && y) (one_key v w m n of-v keyed) (so_far.noted v n of-v);
}
