-- A shelf's places as `chunks_exact` gives them, and what is searched for among them: that place is the one that the definitions find.
-- Assumes nothing.
use Prim.Native.Nat.{suc, zero, ℕ, ◌*◌, ◌+◌, ◌/◌, ◌<◌, ◌≤◌}
use Rattle.std.proofs.Common.{None, Option, Some}
use Rattle.std.proofs.lemmas.Iterator.Splits.{YieldsList-from_shown_while}
use Rattle.std.proofs.lemmas.Iterator.{YieldsList}
use Rattle.std.specs.Cmp.Lexicographic.{pointwise}
use Rattle.std.specs.List.{list_any, position_or_len}
use Rattle.std.specs.Option.{MatchOption}
use Rattle.std.specs.Slice.Iter.{chunks_exact_rest, chunks_exact_size, chunks_exact_steps}
use Rattle.std.specs.declared.slice.ChunksExact.{ChunksExact}
use Rattle.working.specs.Positions.{byte_at, same_bytes}
use Rattle.working.specs.Shelves.{is_among, place_for, title_in}
use borrow.Author.Tests.{ltb-false, ltb-true}
use lib.Dec.{eqb, ltb}
use lib.ListN.{drop, length, length-append, length-drop, take}
use lib.Seq.{drop-append_seam, take-append_seam}
use mathlib.Core.Bool.{Bool, cond, false, not, true, ◌&&◌, ◌||◌}
use mathlib.Core.List.{List, [], ◌++◌, ◌∷◌}
use mathlib.Core.Path.{ap, ap₂, refl, subst, ◌∙◌, ◌≡◌}
use native.Mathlib.Omega.{arith}

-- so many places, one behind another
unfoldable pub parts : ℕ → List ℕ → List (List ℕ)
parts zero l = []
parts (suc n) l = take 293 l ∷ parts n (drop 293 l)

-- ---- what `chunks_exact` gives

pub length-parts : (n : ℕ) (l : List ℕ) → length (parts n l) ≡ n
unfolding parts
length-parts zero l = refl
length-parts (suc n) l = ap suc (length-parts n (drop 293 l))

shown : ChunksExact ℕ → List (List ℕ)
shown s = parts (length (chunks_exact_rest s) / 293) (chunks_exact_rest s)

one_part : (x rest : List ℕ) → length x ≡ 293 → parts (length (x ++ rest) / 293) (x ++ rest) ≡ x ∷ parts (length rest / 293) rest
unfolding parts
one_part x rest long =
    let more : length (x ++ rest) / 293 ≡ suc (length rest / 293) = omega (arith, length-append x rest) in
    let front : take 293 (x ++ rest) ≡ x = rw long at (take-append_seam x rest) in
    let back : drop 293 (x ++ rest) ≡ rest = rw long at (drop-append_seam x rest) in
    rw (more, front, back) refl

yielded : (s : ChunksExact ℕ) → chunks_exact_size s ≡ 293 → YieldsList (chunks_exact_steps {A = ℕ}) (λ y. y.now) s (shown s)
unfolding shown
yielded s size = YieldsList-from_shown_while (chunks_exact_steps {A = ℕ}) (λ y. y.now) shown (λ t. chunks_exact_size t ≡ 293)
    (λ a b p h. let few : length (chunks_exact_rest a) / 293 ≡ 0 = omega (arith, h.1.0, p) in rw length-parts few)
    (λ a x b p h. (h.0 ∙ p, rw h.1.0 (one_part x.now (chunks_exact_rest b) (h.1.1 ∙ p))))
    s size

pub places_yielded : (s : ChunksExact ℕ) (l : List ℕ) (n : ℕ) → chunks_exact_size s ≡ 293 → chunks_exact_rest s ≡ l → length l ≡ 293 * n
    → YieldsList (chunks_exact_steps {A = ℕ}) (λ y. y.now) s (parts n l)
unfolding shown
places_yielded s l n size rest long =
    let many : length l / 293 ≡ n = omega arith in
    let same : shown s ≡ parts n l = ap₂ parts (ap (λ xs. length xs / 293) rest ∙ many) rest in
    let P : List (List ℕ) → Type 0 = λ ys. YieldsList (chunks_exact_steps {A = ℕ}) (λ y. y.now) s ys in
    subst P same (yielded s size)

-- ---- what is looked for in a place

-- two numbers compared either way round
eqb_turned : (a b : ℕ) → eqb a b ≡ eqb b a
eqb_turned a b = search arith

turned : (a b : List ℕ) → pointwise eqb a b ≡ same_bytes b a
unfolding same_bytes
turned [] [] = refl
turned [] (d ∷ b) = refl
turned (c ∷ a) [] = refl
turned (c ∷ a) (d ∷ b) = ap₂ (λ t u. t && u) (eqb_turned c d) (turned a b)

front : (k n : ℕ) (l : List ℕ) → k ≤ n → take k (take n l) ≡ take k l
front zero n l less = refl
front (suc k) zero l less = absurd (omega arith)
front (suc k) (suc n) [] less = refl
front (suc k) (suc n) (c ∷ l) less = ap (c ∷◌) (front k n l (omega arith))

-- a place begins with the title, and with a zero
abbrev pub has : List ℕ → List ℕ → Bool
has title place = pointwise eqb title (take (length title) place)

has_here : (title l : List ℕ) → length title ≡ 12 → has title (take 293 l) ≡ same_bytes (title_in l) title
has_here title l long = rw (long, front 12 293 l (omega arith)) (turned title (take 12 l))

unused_here : (l : List ℕ) → 0 < length l → pointwise eqb (0 ∷ []) (take 1 (take 293 l)) ≡ eqb (byte_at l 0) 0
unused_here [] some = absurd (omega arith)
unused_here (c ∷ l) some = search arith

-- ---- what is found

pub among_parts : (title : List ℕ) → length title ≡ 12 → (n : ℕ) (l : List ℕ) → list_any (has title) (parts n l) ≡ is_among title n l
unfolding parts is_among
among_parts title long zero l = refl
among_parts title long (suc n) l = ap₂ (λ t u. t || u) (has_here title l long) (among_parts title long n (drop 293 l))

chosen : (t : Bool) (n : ℕ) → cond (not t) (1 + n) 0 ≡ cond t 0 (suc n)
chosen true n = refl
chosen false n = omega arith

pub place_in_parts : (title : List ℕ) → length title ≡ 12 → (n : ℕ) (l : List ℕ) → length l ≡ 293 * n
    → position_or_len (λ place. has title place || pointwise eqb (0 ∷ []) (take 1 place)) (parts n l) ≡ place_for title n l
unfolding parts place_for
place_in_parts title long zero l all = refl
place_in_parts title long (suc n) l all =
    let later = place_in_parts title long n (drop 293 l) (omega (arith, length-drop 293 l)) in
    rw (has_here title l long, unused_here l (omega arith), later) (chosen _ _)

-- at most as many as the places
pub place_most : (title : List ℕ) (n : ℕ) (l : List ℕ) → place_for title n l ≤ n
unfolding place_for
place_most title zero l = omega arith
place_most title (suc n) l = by (same_bytes (title_in l) title || eqb (byte_at l 0) 0) (place_most title n (drop 293 l))
  where
    by : (here : Bool) → place_for title n (drop 293 l) ≤ n → cond here 0 (suc (place_for title n (drop 293 l))) ≤ suc n
    by true h = omega arith
    by false h = omega arith

pub found : (r : Option ℕ) (k : ℕ) → k ≤ 16 → r ≡ cond (ltb k 16) (Some k) None → MatchOption r (k ≡ 16) (λ i. (i ≡ k) × (i < 16))
found r k most is = by (ltb k 16) refl
  where
    by : (less : Bool) → ltb k 16 ≡ less → MatchOption r (k ≡ 16) (λ i. (i ≡ k) × (i < 16))
    by true t = rw (is, t) (refl, ltb-true k 16 t)
    by false t = rw (is, t) (omega (arith, ltb-false k 16 t))
