-- The shelf as it is laid out from names and from what is kept under each: a title and 281 bytes for each name, in order, and zeros in the places behind them. Laid out so
-- it is a shelf, where the names are names, no two the same, and what is kept are positions; a name is found in its own place, and a new one in the first that is unused;
-- a fetch gives what is kept there; and a store leaves a shelf laid out, with the name among its names and what is stored kept under it. All go by induction over the
-- places, each of 293 bytes at the front of those behind it. A title tells its name, since no letter is 0.
-- Assumes nothing.
use Prim.Native.Nat.{suc, zero, ℕ, ◌*◌, ◌+◌, ◌≤◌}
use Rattle.working.proofs.invariant.Made.{front_padded, length_padded}
use Rattle.working.proofs.laws.Every.{Every, every_map}
use Rattle.working.proofs.laws.Tests.{and, both, clash, each_holds, every_holds}
use Rattle.working.proofs.theorems.Positions.{bytes_same, same_bytes_lem}
use Rattle.working.specs.Entries.{every, pasted}
use Rattle.working.specs.Positions.{byte_at, is_position, same_bytes}
use Rattle.working.specs.Sections.{pad_with}
use Rattle.working.specs.Shelves.{is_among, is_letter, is_name, is_shelf, is_title, is_zero, letters_in, place_for, places_made, position_in, title_in, title_of, used_well}
use borrow.Author.Tests.{eq-eqb, eqb-true, leb-true, ne_eqb}
use lib.Dec.{eqb, eqb-suc-suc, leb}
use lib.ListN.{drop, length, length-append, length-replicate, replicate, take}
use lib.Seq.{drop-append-add, drop_at, get_or-append-add, take-append-add, take_at}
use mathlib.Core.Bool.{Bool, cond, false, false≢true, not, or-false, or-true, true, true≢false}
use mathlib.Core.List.{List, [], append_assoc, ◌++◌, ◌∷◌}
use mathlib.Core.Path.{ap, ap₂, refl, subst, sym, ◌∙◌, ◌≡◌}
use native.Mathlib.Omega.{arith}

-- ---- names

-- two pairs of which the bytes are the same only together
pub same_when : (a b c d : List ℕ) → (a ≡ b → c ≡ d) → (c ≡ d → a ≡ b) → same_bytes a b ≡ same_bytes c d
same_when a b c d to back = by (same_bytes a b) (same_bytes c d) refl refl
  where
    by : (x y : Bool) → same_bytes a b ≡ x → same_bytes c d ≡ y → x ≡ y
    by true true p q = refl
    by true false p q = absurd (clash (rw (to (same_bytes_lem a b p)) (bytes_same d)) q)
    by false true p q = absurd (clash (rw (back (same_bytes_lem c d q)) (bytes_same b)) p)
    by false false p q = refl

-- letters, at most 12: every name, and what stands in an unused place
pub record Spelt (x : List ℕ) : Type 0 where
  pub letters : letters_in x ≡ length x
  pub fits : length x ≤ 12

pub spelt : (x : List ℕ) → is_name x ≡ true → Spelt x
unfolding is_name
spelt x h =
    let e = each_holds (leb 1 (length x) ∷ leb (length x) 12 ∷ eqb (letters_in x) (length x) ∷ []) h in
    record { letters = eqb-true (letters_in x) (length x) e.1.1.0; fits = leb-true (length x) 12 e.1.0 }

spelt_none : Spelt []
unfolding letters_in
spelt_none = record { letters = refl; fits = omega arith }

pub letters_padded : (n : ℕ) (x : List ℕ) → length x ≤ n → letters_in x ≡ length x → letters_in (pad_with 0 n x) ≡ length x
unfolding letters_in pad_with
letters_padded zero [] fits h = refl
letters_padded zero (b ∷ x) fits h = absurd (omega arith)
letters_padded (suc n) [] fits h = refl
letters_padded (suc n) (b ∷ x) fits h = by (is_letter b) h (letters_padded n x (omega arith))
  where
    by : (is : Bool) → cond is (suc (letters_in x)) 0 ≡ suc (length x) → (letters_in x ≡ length x → letters_in (pad_with 0 n x) ≡ length x)
        → cond is (suc (letters_in (pad_with 0 n x))) 0 ≡ suc (length x)
    by true h later = ap suc (later (omega arith))
    by false h later = h

pub zeros_behind : (n : ℕ) (x : List ℕ) → is_zero (drop (length x) (pad_with 0 n x)) ≡ true
unfolding is_zero pad_with
zeros_behind zero [] = refl
zeros_behind zero (b ∷ x) = refl
zeros_behind (suc n) [] = zeros_behind n []
zeros_behind (suc n) (b ∷ x) = zeros_behind n x

pub name_again : {x : List ℕ} → Spelt x → take (letters_in (title_of x)) (title_of x) ≡ x
name_again {x} s = rw (letters_padded 12 x s.fits s.letters) (front_padded 0 12 x s.fits)

pub same_title : {x y : List ℕ} → Spelt x → Spelt y → same_bytes (title_of x) (title_of y) ≡ same_bytes x y
same_title {x} {y} s t =
    same_when (title_of x) (title_of y) x y (λ same. sym (name_again s) ∙ ap (λ (l : List ℕ). take (letters_in l) l) same ∙ name_again t) (ap title_of)

pub title_made : (x : List ℕ) → is_name x ≡ true → is_title (title_of x) ≡ true
unfolding is_name is_title
title_made x h =
    let s = spelt x h in
    rw (letters_padded 12 x s.fits s.letters) (and (leb 1 (length x)) _ (both (leb 1 (length x)) _ h).0 (zeros_behind 12 x))

first_letter : (x position rest : List ℕ) → is_name x ≡ true → eqb (byte_at ((title_of x ++ position) ++ rest) 0) 0 ≡ false
unfolding is_name letters_in pad_with
first_letter [] position rest h = absurd (false≢true h)
first_letter (b ∷ x) position rest h = by (is_letter b) refl (spelt (b ∷ x) h).letters
  where
    by : (is : Bool) → is_letter b ≡ is → cond is (suc (letters_in x)) 0 ≡ suc (length x) → eqb b 0 ≡ false
    by true is e = let least = leb-true 65 b (both (leb 65 b) (leb b 90) is).0 in ne_eqb b 0 (λ zero. omega arith)
    by false is e = absurd (omega arith)

not_none : (x : List ℕ) → is_name x ≡ true → same_bytes [] x ≡ false
unfolding is_name same_bytes
not_none [] h = absurd (false≢true h)
not_none (b ∷ x) h = refl

-- ---- a place at the front of others

-- its name's title and what is kept there, of 293 bytes: what is read of it, and what is read and put further on
record Place (title position rest : List ℕ) : Type 0 where
  long : length (title ++ position) ≡ 293
  titled : title_in ((title ++ position) ++ rest) ≡ title
  kept : position_in ((title ++ position) ++ rest) ≡ position
  behind : drop 293 ((title ++ position) ++ rest) ≡ rest
  drop_on : (n : ℕ) → drop (293 * suc n) ((title ++ position) ++ rest) ≡ drop (293 * n) rest
  byte_on : (n : ℕ) → byte_at ((title ++ position) ++ rest) (293 * suc n) ≡ byte_at rest (293 * n)
  put_on : (n : ℕ) (bytes : List ℕ) → pasted ((title ++ position) ++ rest) (293 * suc n) bytes ≡ (title ++ position) ++ pasted rest (293 * n) bytes
  put_here : (bytes : List ℕ) → length bytes ≡ 293 → pasted ((title ++ position) ++ rest) 0 bytes ≡ bytes ++ rest

place : (x position rest : List ℕ) → length position ≡ 281 → Place (title_of x) position rest
place x position rest p = record {
  long = long;
  titled = rw (append_assoc title position rest) (take_at title (position ++ rest) 12 t);
  kept = rw (append_assoc title position rest, drop_at title (position ++ rest) 12 t) (take_at position rest 281 p);
  behind = drop_at (title ++ position) rest 293 long;
  drop_on = λ n. rw (from n) (drop-append-add (title ++ position) rest (293 * n));
  byte_on = λ n. rw (from n) (get_or-append-add (title ++ position) rest (293 * n) 0);
  put_on = λ n bytes.
      let end : 293 * suc n + length bytes ≡ length (title ++ position) + (293 * n + length bytes) = omega (arith, long) in
      rw (end, from n, take-append-add (title ++ position) rest (293 * n), drop-append-add (title ++ position) rest (293 * n + length bytes))
      (append_assoc (title ++ position) (take (293 * n) rest) (bytes ++ drop (293 * n + length bytes) rest));
  put_here = λ bytes e. rw (e, drop_at (title ++ position) rest 293 long);
}
  where
    title : List ℕ
    title = title_of x

    t : length title ≡ 12
    t = length_padded 0 12 x

    long : length (title ++ position) ≡ 293
    long = length-append title position ∙ omega (arith, t)

    from : (n : ℕ) → 293 * suc n ≡ length (title ++ position) + 293 * n
    from n = omega (arith, long)

-- a name that is not in the first place is among the places behind it or nowhere
among_later : {x y : List ℕ} (position rest : List ℕ) (n : ℕ) → length position ≡ 281 → Spelt y → Spelt x → same_bytes y x ≡ false
    → is_among (title_of x) (suc n) ((title_of y ++ position) ++ rest) ≡ is_among (title_of x) n rest
unfolding is_among
among_later {x} {y} position rest n p s t other = let first = place y position rest p in rw (first.titled, first.behind, same_title s t, other)

-- ---- the names of a shelf

-- no two are the same
abbrev pub Apart : List ℕ → List ℕ → Type 0
Apart x y = same_bytes y x ≡ false

abbrev pub Distinct : List (List ℕ) → Type 0
Distinct [] = Unit {0}
Distinct (x ∷ names) = Every (Apart x) names × Distinct names

abbrev pub AllNames : List (List ℕ) → Type 0
AllNames names = Every (λ x. is_name x ≡ true) names

-- a name in its place, or behind the others where it is new
abbrev pub added : List ℕ → List (List ℕ) → List (List ℕ)
added x [] = x ∷ []
added x (y ∷ names) = y ∷ cond (same_bytes y x) names (added x names)

pub every_added : (P : List ℕ → Type 0) (x : List ℕ) (names : List (List ℕ)) → P x → Every P names → Every P (added x names)
every_added P x [] p h = (p, tt)
every_added P x (y ∷ names) p h = (h.0, by (same_bytes y x) (every_added P x names p h.1))
  where
    by : (known : Bool) → Every P (added x names) → Every P (cond known names (added x names))
    by true later = h.1
    by false later = later

pub distinct_added : (x : List ℕ) (names : List (List ℕ)) → Distinct names → Distinct (added x names)
distinct_added x [] h = (tt, tt)
distinct_added x (y ∷ names) h = by (same_bytes y x) refl (distinct_added x names h.1)
  where
    by : (known : Bool) → same_bytes y x ≡ known → Distinct (added x names) → Every (Apart y) (cond known names (added x names)) × Distinct (cond known names (added x names))
    by true is later = h
    by false is later = (every_added (Apart y) x names (same_when x y y x sym sym ∙ is) h.0, later)

-- ---- the layout

-- what is kept in an unused place
pub no_position : List ℕ
no_position = replicate 281 0

-- so many places: each name with what f says is kept under it, and behind them the unused places, which have no name
abbrev pub laid_out : (List ℕ → List ℕ) → ℕ → List (List ℕ) → List ℕ
laid_out f zero names = []
laid_out f (suc n) [] = (title_of [] ++ no_position) ++ laid_out f n []
laid_out f (suc n) (x ∷ names) = (title_of x ++ f x) ++ laid_out f n names

laid_same : (f g : List ℕ → List ℕ) (n : ℕ) (names : List (List ℕ)) → Every (λ x. f x ≡ g x) names → laid_out f n names ≡ laid_out g n names
laid_same f g zero names h = refl
laid_same f g (suc n) [] h = ap ((title_of [] ++ no_position) ++◌) (laid_same f g n [] h)
laid_same f g (suc n) (x ∷ names) h = ap₂ (λ (kept rest : List ℕ). (title_of x ++ kept) ++ rest) h.0 (laid_same f g n names h.1)

long_none : length no_position ≡ 281
unfolding no_position
long_none = length-replicate {A = ℕ} 281 0

-- ---- zeros

zero_both : (a b : List ℕ) → is_zero a ≡ true → is_zero b ≡ true → is_zero (a ++ b) ≡ true
unfolding is_zero
zero_both [] b p q = q
zero_both (c ∷ a) b p q = let (first, later) = both (eqb c 0) (is_zero a) p in and (eqb c 0) (is_zero (a ++ b)) first (zero_both a b later q)

zero_replicate : (n : ℕ) → is_zero (replicate n 0) ≡ true
unfolding is_zero
zero_replicate zero = refl
zero_replicate (suc n) = zero_replicate n

all_zero_lem : (l : List ℕ) → is_zero l ≡ true → l ≡ replicate (length l) 0
unfolding is_zero
all_zero_lem [] h = refl
all_zero_lem (b ∷ l) h = let (first, later) = both (eqb b 0) (is_zero l) h in ap₂ ◌∷◌ (eqb-true b 0 first) (all_zero_lem l later)

zero_unused : is_zero (title_of [] ++ no_position) ≡ true
unfolding no_position
zero_unused = zero_both (title_of []) (replicate 281 0) (zeros_behind 12 []) (zero_replicate 281)

zero_laid : (f : List ℕ → List ℕ) (n : ℕ) → is_zero (laid_out f n []) ≡ true
unfolding is_zero
zero_laid f zero = refl
zero_laid f (suc n) = zero_both (title_of [] ++ no_position) (laid_out f n []) zero_unused (zero_laid f n)

-- what begins with another byte is not all zeros
not_zero : (l : List ℕ) (n : ℕ) → eqb (byte_at l 0) 0 ≡ false → is_zero (take (suc n) l) ≡ false
unfolding is_zero
not_zero [] n h = absurd (true≢false h)
not_zero (b ∷ l) n h = rw h

module _ (f : List ℕ → List ℕ) (long : (x : List ℕ) → length (f x) ≡ 281) where
  -- ---- it is a shelf

  length_laid : (n : ℕ) (names : List (List ℕ)) → length (laid_out f n names) ≡ 293 * n
  length_laid zero names = refl
  length_laid (suc n) [] = length-append (title_of [] ++ no_position) (laid_out f n []) ∙ omega (arith, (place [] no_position [] long_none).long, length_laid n [])
  length_laid (suc n) (x ∷ names) = length-append (title_of x ++ f x) (laid_out f n names) ∙ omega (arith, (place x (f x) [] (long x)).long, length_laid n names)

  pub empty_laid : (n : ℕ) → replicate (293 * n) 0 ≡ laid_out f n []
  empty_laid n = sym (rw (length_laid n []) at (all_zero_lem (laid_out f n []) (zero_laid f n)))

  not_among : (x : List ℕ) → is_name x ≡ true → (n : ℕ) (names : List (List ℕ)) → AllNames names → Every (Apart x) names → is_among (title_of x) n (laid_out f n names) ≡ false
  unfolding is_among
  not_among x h zero names all apart = refl
  not_among x h (suc n) [] all apart =
      among_later no_position (laid_out f n []) n long_none spelt_none (spelt x h) (not_none x h) ∙ not_among x h n [] all apart
  not_among x h (suc n) (y ∷ names) all apart =
      among_later (f y) (laid_out f n names) n (long y) (spelt y all.0) (spelt x h) apart.0 ∙ not_among x h n names all.1 apart.1

  module _ (positions : (x : List ℕ) → is_position (f x) ≡ true) where
    places-made : (n : ℕ) (names : List (List ℕ)) → AllNames names → Distinct names → places_made n (laid_out f n names) ≡ true
    unfolding places_made used_well
    places-made zero names all apart = refl
    places-made (suc n) [] all apart =
        rw (take_at (title_of [] ++ no_position) (laid_out f n []) 293 (place [] no_position [] long_none).long, zero_unused) (zero_laid f (suc n))
    places-made (suc n) (x ∷ names) all apart =
        let rest = laid_out f n names in
        let first = place x (f x) rest (long x) in
        let tests = is_title (title_of x) ∷ is_position (f x) ∷ not (is_among (title_of x) n rest) ∷ [] in
        rw (not_zero ((title_of x ++ f x) ++ rest) 292 (first_letter x (f x) rest all.0), first.titled, first.kept, first.behind)
        (and (every tests) (places_made n rest)
        (every_holds tests (title_made x all.0, (positions x, (ap not (not_among x all.0 n names all.1 apart.0), tt)))) (places-made n names all.1 apart.1))

    pub shelf_laid : (names : List (List ℕ)) → AllNames names → Distinct names → is_shelf (laid_out f 16 names) ≡ true
    unfolding is_shelf
    shelf_laid names all apart =
        and (eqb (length (laid_out f 16 names)) 4688) (places_made 16 (laid_out f 16 names)) (eq-eqb (length (laid_out f 16 names)) 4688 (length_laid 16 names))
        (places-made 16 names all apart)

  -- ---- where a name is

  place_among : (x y : List ℕ) → is_name x ≡ true → is_name y ≡ true → (n : ℕ) (rest : List ℕ)
      → place_for (title_of x) (suc n) ((title_of y ++ f y) ++ rest) ≡ cond (same_bytes y x) 0 (suc (place_for (title_of x) n rest))
  unfolding place_for
  place_among x y p q n rest =
      let first = place y (f y) rest (long y) in
      rw (first.titled, first.behind, first_letter y (f y) rest q, same_title (spelt y q) (spelt x p), or-false (same_bytes y x))

  place-unused : (title : List ℕ) (n : ℕ) (rest : List ℕ) → place_for title (suc n) ((title_of [] ++ no_position) ++ rest) ≡ 0
  unfolding pad_with place_for
  place-unused title n rest = rw (or-true (same_bytes (title_in ((title_of [] ++ no_position) ++ rest)) title))

  module _ (x : List ℕ) (h : is_name x ≡ true) where
    abbrev at : ℕ → List (List ℕ) → ℕ
    at n names = place_for (title_of x) n (laid_out f n names)

    -- ---- a fetch

    module _ (P : List ℕ → Type 0) where
      abbrev Gives : ℕ → List ℕ → Type 0
      Gives i places = eqb (byte_at places (293 * i)) 0 ≡ false → P x × (position_in (drop (293 * i) places) ≡ f x)

      pub fetch_laid : (n : ℕ) (names : List (List ℕ)) → AllNames names → Every P names → Gives (at n names) (laid_out f n names)
      unfolding pad_with
      fetch_laid zero names all each = λ there. absurd (true≢false there)
      fetch_laid (suc n) [] all each = rw (place-unused (title_of x) n (laid_out f n [])) (λ there. absurd (true≢false there))
      fetch_laid (suc n) (y ∷ names) all each = rw (place_among x y h all.0 n (laid_out f n names)) (by (same_bytes y x) refl (fetch_laid n names all.1 each.1))
        where
          first : Place (title_of y) (f y) (laid_out f n names)
          first = place y (f y) (laid_out f n names) (long y)

          by : (same : Bool) → same_bytes y x ≡ same → Gives (at n names) (laid_out f n names) → Gives (cond same 0 (suc (at n names))) (laid_out f (suc n) (y ∷ names))
          by true is later there = let same : y ≡ x = same_bytes_lem y x is in (subst P same each.0, first.kept ∙ ap f same)
          by false is later there = rw (first.drop_on (at n names)) (later (rw (first.byte_on (at n names)) at there))

    -- ---- a store

    module _ (g : List ℕ → List ℕ) (long-stored : length (g x) ≡ 281) (others : (y : List ℕ) → Apart x y → f y ≡ g y) where
      abbrev Puts : ℕ → ℕ → List ℕ → List ℕ → Type 0
      Puts n i places after = eqb i n ≡ false → pasted places (293 * i) (title_of x ++ g x) ≡ after

      pub store_laid : (n : ℕ) (names : List (List ℕ)) → AllNames names → Distinct names → Puts n (at n names) (laid_out f n names) (laid_out g n (added x names))
      unfolding place_for
      store_laid zero names all apart = λ room. absurd (true≢false room)
      store_laid (suc n) [] all apart =
          rw (place-unused (title_of x) n (laid_out f n []))
          (λ room. (place [] no_position (laid_out f n []) long_none).put_here (title_of x ++ g x) (place x (g x) [] long-stored).long ∙ ap ((title_of x ++ g x) ++◌) (laid_same f g n [] tt))
      store_laid (suc n) (y ∷ names) all apart =
          rw (place_among x y h all.0 n (laid_out f n names)) (by (same_bytes y x) refl (store_laid n names all.1 apart.1))
        where
          first : Place (title_of y) (f y) (laid_out f n names)
          first = place y (f y) (laid_out f n names) (long y)

          by : (same : Bool) → same_bytes y x ≡ same → Puts n (at n names) (laid_out f n names) (laid_out g n (added x names))
              → Puts (suc n) (cond same 0 (suc (at n names))) (laid_out f (suc n) (y ∷ names)) (laid_out g (suc n) (y ∷ cond same names (added x names)))
          by true is later room =
              let same : y ≡ x = same_bytes_lem y x is in
              first.put_here (title_of x ++ g x) (place x (g x) [] long-stored).long
              ∙ ap₂ (λ (z rest : List ℕ). (title_of z ++ g z) ++ rest) (sym same)
              (laid_same f g n names (every_map (Apart y) (λ z. f z ≡ g z) (λ z other. others z (rw same at other)) names apart.0))
          by false is later room =
              first.put_on (at n names) (title_of x ++ g x)
              ∙ ap₂ (λ (kept rest : List ℕ). (title_of y ++ kept) ++ rest) (others y is) (later (sym (eqb-suc-suc (at n names) n) ∙ room))
