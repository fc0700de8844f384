-- A pass down, from B's end to A's: at place i it has what a definition by recursion says of the vehicles from place i on, and takes in the one before. The same by
-- references to them, which come last first.
-- Assumes nothing.
use Prim.Native.Nat.{min, suc, ℕ, ◌-◌, ◌<◌, ◌≤◌}
use Rattle.std.proofs.lemmas.Grind.{reverse_onto}
use Rattle.std.proofs.lemmas.List.Sums.{fold-append}
use Rattle.std.specs.List.{fold}
use denote.Ref.{Bor}
use lib.ListN.{drop, get_or, length, length-map, length-reverse, take}
use lib.Seq.{drop-cons, take_all}
use mathlib.Core.List.{List, [], map, map-append, reverse, reverse-append, reverse-reverse, ◌++◌, ◌∷◌}
use mathlib.Core.Path.{ap, refl, sym, ◌∙◌, ◌≡◌}
use native.Mathlib.Decide.{dec_le}
use native.Mathlib.Omega.{arith}

-- the one before
pub one_before : {T : Type 0} (l : List T) (i : ℕ) (d : T) → 0 < i → i ≤ length l → drop (i - 1) l ≡ get_or l (i - 1) d ∷ drop i l
one_before l i d some within =
    let back : suc (i - 1) ≡ i = omega arith in
    rw back at (drop-cons l (i - 1) d (omega arith))

-- a length beyond the last place is as good as the number of places
pub take_present : {A : Type 0} (l : List A) (n k : ℕ) → length l ≡ k → take (min n k) l ≡ take n l
take_present {A} l n k h = by (dec_le n k)
  where
    by : Dec (n ≤ k) → take (min n k) l ≡ take n l
    by (yes p) = let e : min n k ≡ n = omega arith in rw e
    by (no q) = let e : min n k ≡ k = omega arith in rw e (take_all k l (omega arith) ∙ sym (take_all n l (omega arith)))

-- ---- what a pass by references, last element first, has passed

-- the elements, in their order
abbrev pub passed : {A : Type 0} → List (Bor A) → List A
passed yielded = reverse (map (λ y. y.now) yielded)

pub one_passed : {A : Type 0} (yielded : List (Bor A)) (y : Bor A) → passed (yielded ++ y ∷ []) ≡ y.now ∷ passed yielded
one_passed yielded y = simp (map-append, reverse-append)

pub fewer_passed : {A : Type 0} (yielded : List (Bor A)) (l : List A) → length yielded < length (reverse l) → length (passed yielded) < length l
fewer_passed yielded l h = simp (length-reverse, length-map) (omega (arith, simp length-reverse at h))

pub whole_passed : {A : Type 0} (yielded : List (Bor A)) (l : List A) → map (λ y. y.now) yielded ≡ reverse l → passed yielded ≡ l
whole_passed yielded l e = ap reverse e ∙ reverse-reverse l

-- a fold of them is what a definition by recursion says
pub fold_back : {A B : Type 0} (h : B → A → B) (of : List A → B) → ((x : A) (l : List A) → of (x ∷ l) ≡ h (of l) x) → (l : List A) → fold h (of []) (reverse l) ≡ of l
fold_back h of step [] = refl
fold_back h of step (x ∷ l) =
    rw (reverse_onto l x [], fold-append h (of []) (reverse l) (x ∷ []), fold_back h of step l) (sym (step x l))
