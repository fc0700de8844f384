-- Two slices compared byte by byte, and bytes put behind others.
-- Assumes nothing.
use Prim.Native.Nat.{ℕ, ◌+◌}
use Rattle.std.specs.Cmp.Lexicographic.{pointwise}
use Rattle.working.proofs.theorems.Positions.{read_then_written}
use Rattle.working.specs.Entries.{pasted}
use Rattle.working.specs.Positions.{is_position, same_bytes}
use lib.Dec.{eqb}
use lib.ListN.{drop, length, take}
use lib.Seq.{drop-append-add, take-append-add}
use mathlib.Core.Bool.{Bool, false, true, ◌&&◌}
use mathlib.Core.List.{List, [], append_assoc, ◌++◌, ◌∷◌}
use mathlib.Core.Path.{ap, refl, ◌∙◌, ◌≡◌}
use native.Mathlib.Nat.{add_assoc}

-- ---- the same bytes

-- bytes of another length than a position's are none
pub other_position : (bytes : List ℕ) → (length bytes ≡ 281 → ⊥) → false ≡ is_position bytes
other_position bytes differ = by (is_position bytes) refl
  where
    by : (t : Bool) → is_position bytes ≡ t → false ≡ t
    by true h = absurd (differ (read_then_written bytes h).0)
    by false h = refl

-- std's `==` goes over two slices as the definition does
pub pointwise_same : (a b : List ℕ) → pointwise eqb a b ≡ same_bytes a b
unfolding same_bytes
pointwise_same [] [] = refl
pointwise_same [] (d ∷ b) = refl
pointwise_same (c ∷ a) [] = refl
pointwise_same (c ∷ a) (d ∷ b) = ap (λ t. eqb c d && t) (pointwise_same a b)

-- ---- bytes put behind others

pub paste_behind : (a l : List ℕ) (n k : ℕ) (bytes : List ℕ) → length a ≡ n → pasted (a ++ l) (n + k) bytes ≡ a ++ pasted l k bytes
paste_behind a l n k bytes long =
    let front : take (n + k) (a ++ l) ≡ a ++ take k l = rw long at (take-append-add a l k) in
    let back : drop (n + k + length bytes) (a ++ l) ≡ drop (k + length bytes) l =
    ap (λ m. drop m (a ++ l)) (add_assoc n k (length bytes)) ∙ rw long at (drop-append-add a l (k + length bytes)) in
    rw (front, back) (append_assoc a (take k l) (bytes ++ drop (k + length bytes) l))
