-- The numbers in a station's twelve places: each is read off the word of its place, and a word stored there alters that number alone. And the line that they hold: the
-- first of them, as many as are on it, with one more behind them or without the first.
-- Assumes nothing.
use Prim.Native.Nat.{min, suc, zero, ℕ, ◌%◌, ◌+◌, ◌-◌, ◌<◌, ◌≤◌}
use Rattle.double.specs.Steps.{is_first}
use Rattle.doubleentering.specs.DoubleWords.{PlacesBecome, moved_up, places_from, places_in}
use Rattle.section.proofs.Passes.{take_present}
use Rattle.std.proofs.lemmas.List.{ext_get_or}
use Rattle.words.specs.Words.{ring_from, ring_in, word_count}
use Rattle.working.specs.Sections.{other_at, pad_with}
use Rattle.working.specs.declared.Station.TheVariants.{A, B}
use Rattle.working.specs.declared.Station.{Station}
use borrow.Author.Tests.{lt-ltb}
use lib.Dec.{eqb, ltb}
use lib.ListN.{drop, get_or, get_or-append, get_or-map, length, length-append, length-drop, length-map, length-set, length-take, replicate, set, take}
use lib.Seq.{drop-set-add, drop-set-lt, get_or-append-add, get_or-drop, get_or-take, length-take-le, take-append-le, take-set-le, take-set-lt, take-suc-set, take_all}
use mathlib.Core.Bool.{◌&&◌}
use mathlib.Core.List.{List, [], map, ◌++◌, ◌∷◌}
use mathlib.Core.Path.{ap, refl, sym, ◌∙◌, ◌≡◌}
use native.Mathlib.Decide.{dec_lt}
use native.Mathlib.Numerals.{add-one}
use native.Mathlib.Omega.{arith}

-- the number of a word
abbrev number : ℕ → ℕ
number word = word % 65536

-- ---- twelve words of the ring

-- where the words of a station's places begin
abbrev pub line_from : Station → ℕ
line_from x = ring_from + places_from x

places-end : (x : Station) → places_from x ≤ 12
places-end A = omega arith
places-end B = omega arith

map-set : (l : List ℕ) (i v : ℕ) → map number (set l i v) ≡ set (map number l) i (number v)
map-set [] i v = refl
map-set (a ∷ l) zero v = refl
map-set (a ∷ l) (suc i) v = ap (number a ∷◌) (map-set l i v)

pub places_count : (w : List ℕ) → length w ≡ word_count → (x : Station) → length (places_in (ring_in w) x) ≡ 12
places_count w long x = simp (length-map, length-take, length-drop) (omega (arith, places-end x))

pub place_at : (w : List ℕ) (x : Station) (i : ℕ) → i < 12 → get_or (places_in (ring_in w) x) i 0 ≡ number (get_or w (line_from x + i) 0)
place_at w x i less =
    let own = drop (places_from x) (ring_in w) in
    let there : ring_from + (places_from x + i) ≡ line_from x + i = omega arith in
    let read = get_or-take 12 own i 0 less ∙ get_or-drop (places_from x) (ring_in w) i 0 ∙ get_or-drop ring_from w (places_from x + i) 0 ∙ ap (λ k. get_or w k 0) there in
    get_or-map number (take 12 own) i 0 ∙ ap number read

-- ---- a word is stored

ring-set : (w : List ℕ) (x : Station) (i v : ℕ) → ring_in (set w (line_from x + i) v) ≡ set (ring_in w) (places_from x + i) v
ring-set w x i v =
    let there : line_from x + i ≡ ring_from + (places_from x + i) = omega arith in
    ap (λ k. ring_in (set w k v)) there ∙ drop-set-add ring_from w (places_from x + i) v

others-set : (x : Station) (ring : List ℕ) (i v : ℕ) → i < 12 → places_in (set ring (places_from x + i) v) (other_at x) ≡ places_in ring (other_at x)
others-set A ring i v less = ap (λ t. map number (take 12 t)) (drop-set-lt 12 ring (0 + i) v (omega arith))
others-set B ring i v less = ap (map number) (take-set-le 12 ring (12 + i) v (omega arith))

pub place-put : (w : List ℕ) → length w ≡ word_count → (x : Station) (i v : ℕ) → i < 12 → PlacesBecome w (set w (line_from x + i) v) x (λ t. set t i (number v))
place-put w long x i v less =
    let own = drop (places_from x) (ring_in w) in
    let stored = drop-set-add (places_from x) (ring_in w) i v in
    record {
      long = long;
      same = length-set w (line_from x + i) v;
      figures = take-set-le ring_from w (line_from x + i) v (omega arith);
      places = ap (λ r. places_in r x) (ring-set w x i v) ∙ ap (map number) (ap (take 12) stored ∙ take-set-lt 12 own i v less) ∙ map-set (take 12 own) i v;
      others = ap (λ r. places_in r (other_at x)) (ring-set w x i v) ∙ others-set x (ring_in w) i v less;
    }

pub places_then : {w u v : List ℕ} {x : Station} {f g : List ℕ → List ℕ} → PlacesBecome w u x f → PlacesBecome u v x g → PlacesBecome w v x (λ t. g (f t))
places_then {g = g} one two = record {
  long = one.long;
  same = two.same ∙ one.same;
  figures = two.figures ∙ one.figures;
  places = two.places ∙ ap g one.places;
  others = two.others ∙ one.others;
}

-- what they become may be said otherwise
pub places_as : {w u : List ℕ} {x : Station} {f : List ℕ → List ℕ} (g : List ℕ → List ℕ) → PlacesBecome w u x f
    → f (places_in (ring_in w) x) ≡ g (places_in (ring_in w) x) → PlacesBecome w u x g
places_as g one e = record { long = one.long; same = one.same; figures = one.figures; places = one.places ∙ e; others = one.others }

-- ---- the line in them

-- n places of m, and zeros behind them
pub padded : (n m : ℕ) (l : List ℕ) → length l ≡ m → take n l ++ drop n (replicate {A = ℕ} m 0) ≡ pad_with 0 m (take n l)
unfolding pad_with
padded zero m l h = zeros m
  where
    zeros : (m : ℕ) → replicate {A = ℕ} m 0 ≡ pad_with 0 m []
    zeros zero = refl
    zeros (suc m) = ap (0 ∷◌) (zeros m)
padded (suc n) zero [] h = refl
padded (suc n) zero (a ∷ l) h = absurd (omega arith)
padded (suc n) (suc m) [] h = absurd (omega arith)
padded (suc n) (suc m) (a ∷ l) h = ap (a ∷◌) (padded n m l (omega arith))

-- they are read as they were put
pub line_kept : (n m : ℕ) (l : List ℕ) → length l ≡ m → take n (pad_with 0 m (take n l)) ≡ take n l
unfolding pad_with
line_kept zero m l h = refl
line_kept (suc n) zero [] h = refl
line_kept (suc n) zero (a ∷ l) h = absurd (omega arith)
line_kept (suc n) (suc m) [] h = absurd (omega arith)
line_kept (suc n) (suc m) (a ∷ l) h = ap (a ∷◌) (line_kept n m l (omega arith))

-- the first of them
pub first_of : (form n : ℕ) (l : List ℕ) → 0 < length l → is_first form (take n l) ≡ (ltb 0 n && eqb (get_or l 0 0) form)
first_of form n [] some = absurd (omega arith)
first_of form zero (a ∷ l) some = refl
first_of form (suc n) (a ∷ l) some = rw (lt-ltb 0 (suc n) (omega arith))

-- one more behind them
pub line_next : (l : List ℕ) (n form : ℕ) → n < length l → take (n + 1) (set l n form) ≡ take n l ++ form ∷ []
line_next l n form less = rw (add-one n) (take-suc-set l n form less)

-- all have moved up, and so the line is without its first
pub line_rest : (n : ℕ) (l : List ℕ) → length l ≡ 12 → take (min n 12 - 1) (moved_up l) ≡ drop 1 (take n l)
line_rest n [] long = absurd (omega arith)
line_rest zero (a ∷ l) long = refl
line_rest (suc n) (a ∷ l) long =
    let fewer : min (suc n) 12 - 1 ≡ min n 11 = omega arith in
    let all : take 11 l ≡ l = take_all 11 l (omega arith) in
    rw (fewer, all, take-append-le (min n 11) l _ (omega arith)) (take_present l n 11 (omega arith))

-- ---- all have moved up

-- each number is that of the place behind it, and the last keeps its own
moved_at : (l : List ℕ) → length l ≡ 12 → (i : ℕ) → i < 12 → get_or (moved_up l) i 0 ≡ get_or l (min (i + 1) 11) 0
moved_at l long i less = by (dec_lt i 11)
  where
    size : length (take 11 (drop 1 l)) ≡ 11
    size = length-take-le 11 (drop 1 l) (simp length-drop (omega arith))

    by : Dec (i < 11) → get_or (moved_up l) i 0 ≡ get_or l (min (i + 1) 11) 0
    by (yes p) =
        let next : 1 + i ≡ min (i + 1) 11 = omega arith in
        get_or-append (take 11 (drop 1 l)) (drop 11 l) 0 i (omega (arith, size)) ∙ get_or-take 11 (drop 1 l) i 0 p ∙ get_or-drop 1 l i 0 ∙ ap (λ k. get_or l k 0) next
    by (no q) =
        let last : i ≡ length (take 11 (drop 1 l)) + 0 = omega (arith, size) in
        let own : 11 + 0 ≡ min (i + 1) 11 = omega arith in
        ap (λ k. get_or (moved_up l) k 0) last ∙ get_or-append-add (take 11 (drop 1 l)) (drop 11 l) 0 0 ∙ get_or-drop 11 l 0 0 ∙ ap (λ k. get_or l k 0) own

-- eleven words copied to the place before them, and all others as they were
pub record Copied (w u : List ℕ) (x : Station) : Type 0 where
  pub long : length w ≡ word_count
  pub same : length u ≡ length w
  pub below : (k d : ℕ) → k < line_from x → get_or u k d ≡ get_or w k d
  pub moved : (k d : ℕ) → line_from x ≤ k → k < line_from x + 11 → get_or u k d ≡ get_or w (line_from x + 1 + (k - line_from x)) d
  pub behind : (k d : ℕ) → line_from x + 11 ≤ k → get_or u k d ≡ get_or w k d

word_moved : (w u : List ℕ) (x : Station) → Copied w u x → (i : ℕ) → i < 12 → get_or u (line_from x + i) 0 ≡ get_or w (line_from x + min (i + 1) 11) 0
word_moved w u x c i less = by (dec_lt i 11)
  where
    by : Dec (i < 11) → get_or u (line_from x + i) 0 ≡ get_or w (line_from x + min (i + 1) 11) 0
    by (yes p) =
        let next : line_from x + 1 + (line_from x + i - line_from x) ≡ line_from x + min (i + 1) 11 = omega arith in
        c.moved (line_from x + i) 0 (omega arith) (omega arith) ∙ ap (λ k. get_or w k 0) next
    by (no q) =
        let own : line_from x + i ≡ line_from x + min (i + 1) 11 = omega arith in
        c.behind (line_from x + i) 0 (omega arith) ∙ ap (λ k. get_or w k 0) own

other_word : (w u : List ℕ) (x : Station) → Copied w u x → (i : ℕ) → i < 12 → get_or u (line_from (other_at x) + i) 0 ≡ get_or w (line_from (other_at x) + i) 0
other_word w u A c i less = c.behind (line_from B + i) 0 (omega arith)
other_word w u B c i less = c.below (line_from A + i) 0 (omega arith)

pub line_moved : (w u : List ℕ) (x : Station) → Copied w u x → PlacesBecome w u x moved_up
line_moved w u x c =
    let t = places_in (ring_in w) x in
    let count = places_count w c.long x in
    let after = places_count u (c.same ∙ c.long) x in
    let other = places_count w c.long (other_at x) in
    let other-after = places_count u (c.same ∙ c.long) (other_at x) in
    let size : length (moved_up t) ≡ 12 = simp (length-append, length-take, length-drop) (omega arith) in
    let front : length (take ring_from u) ≡ ring_from = length-take-le ring_from u (omega (arith, c.same, c.long)) in
    let front-before : length (take ring_from w) ≡ ring_from = length-take-le ring_from w (omega (arith, c.long)) in
    record {
      long = c.long;
      same = c.same;
      figures = ext_get_or 0 (take ring_from u) (take ring_from w) (front ∙ sym front-before) (λ i h.
          get_or-take ring_from u i 0 (omega (arith, front)) ∙ c.below i 0 (omega (arith, front)) ∙ sym (get_or-take ring_from w i 0 (omega (arith, front))));
      places = ext_get_or 0 (places_in (ring_in u) x) (moved_up t) (after ∙ sym size) (λ i h.
          place_at u x i (omega arith) ∙ ap number (word_moved w u x c i (omega arith)) ∙ sym (place_at w x (min (i + 1) 11) (omega arith)) ∙ sym (moved_at t count i (omega arith)));
      others = ext_get_or 0 (places_in (ring_in u) (other_at x)) (places_in (ring_in w) (other_at x)) (other-after ∙ sym other) (λ i h.
          place_at u (other_at x) i (omega arith) ∙ ap number (other_word w u x c i (omega arith)) ∙ sym (place_at w (other_at x) i (omega arith)));
    }
