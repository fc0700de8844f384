-- T-06, "The lent shelf is 16 places of name, zeros to 12, and well-made position, in the order first stored, no name twice, the rest zero; another is 5": 16 places of 293
-- bytes, 4,688 in all; and what a store and a fetch make of it.
use Rattle.std.specs.Prelude.{Bool, List, [], cond, drop, eqb, false, leb, length, ltb, not, suc, take, true, zero, ℕ, ◌&&◌, ◌*◌, ◌++◌, ◌||◌, ◌∷◌, ◌≡◌}
use Rattle.working.specs.Entries.{every, pasted}
use Rattle.working.specs.Positions.{byte_at, if_allowed, is_position, same_bytes}
use Rattle.working.specs.Refusals.{Test, first_of, refusal_in}
use Rattle.working.specs.Sections.{pad_with}
use Rattle.working.specs.declared.Refusal.TheVariants.{BufferTooShort, IllMade, NoPosition, ShelfFull, UnknownName}

-- ---- names

abbrev pub is_letter : ℕ → Bool
is_letter b = leb 65 b && leb b 90

-- how many letters stand before anything else
unfoldable pub letters_in : List ℕ → ℕ
letters_in [] = 0
letters_in (b ∷ bytes) = cond (is_letter b) (suc (letters_in bytes)) 0

-- "names of 1 to 12 capital letters"
unfoldable pub is_name : List ℕ → Bool
is_name name = every (leb 1 (length name) ∷ leb (length name) 12 ∷ eqb (letters_in name) (length name) ∷ [])

-- "name, zeros to 12"
abbrev pub title_of : List ℕ → List ℕ
title_of name = pad_with 0 12 name

unfoldable pub is_zero : List ℕ → Bool
is_zero [] = true
is_zero (b ∷ bytes) = eqb b 0 && is_zero bytes

-- letters, one at least, and zeros
unfoldable pub is_title : List ℕ → Bool
is_title title = leb 1 (letters_in title) && is_zero (drop (letters_in title) title)

-- ---- the places, each at the front of the bytes from it on

abbrev pub title_in : List ℕ → List ℕ
title_in places = take 12 places

abbrev pub position_in : List ℕ → List ℕ
position_in places = take 281 (drop 12 places)

-- one of so many places has the name
unfoldable pub is_among : List ℕ → ℕ → List ℕ → Bool
is_among title zero places = false
is_among title (suc n) places = same_bytes (title_in places) title || is_among title n (drop 293 places)

-- a used place, with so many behind it: a name that none of these has, and "well-made position"
unfoldable pub used_well : ℕ → List ℕ → Bool
used_well n places = every (is_title (title_in places) ∷ is_position (position_in places) ∷ not (is_among (title_in places) n (drop 293 places)) ∷ [])

-- so many places, the used ones first: "no name twice, the rest zero"
unfoldable pub places_made : ℕ → List ℕ → Bool
places_made zero places = true
places_made (suc n) places = cond (is_zero (take 293 places)) (is_zero places) (used_well n places && places_made n (drop 293 places))

unfoldable pub is_shelf : List ℕ → Bool
is_shelf shelf = eqb (length shelf) 4688 && places_made 16 shelf

-- Which place a name has among so many: the one that has it, else the first that is unused, which alone begins with a zero; their number where there is neither.
unfoldable pub place_for : List ℕ → ℕ → List ℕ → ℕ
place_for title zero places = 0
place_for title (suc n) places = cond (same_bytes (title_in places) title || eqb (byte_at places 0) 0) 0 (suc (place_for title n (drop 293 places)))

abbrev pub place_named : List ℕ → List ℕ → ℕ
place_named shelf name = place_for (title_of name) 16 shelf

-- ---- store

abbrev pub store_tests : List ℕ → List ℕ → List ℕ → List Test
store_tests shelf name position =
    (not (is_shelf shelf), IllMade)  -- 5
    ∷ (not (is_name name), UnknownName)  -- 24 "a name not of that form"
    ∷ (eqb (place_named shelf name) 16, ShelfFull)  -- 25 "a seventeenth name"
    ∷ (not (is_position position), NoPosition)  -- 26 "bytes that are no well-made section"
    ∷ []

-- "storing under a used name replaces it", in its place
abbrev pub stored_in : List ℕ → List ℕ → List ℕ → List ℕ
stored_in shelf name position = pasted shelf (293 * place_named shelf name) (title_of name ++ position)

pub record Stores (shelf name position : List ℕ) (answer : ℕ) (after : List ℕ) : Type 0 where
  pub answered : answer ≡ refusal_in (first_of (store_tests shelf name position))
  pub left : after ≡ if_allowed (first_of (store_tests shelf name position)) shelf (stored_in shelf name position)

-- ---- fetch

abbrev pub fetch_tests : List ℕ → List ℕ → List ℕ → List Test
fetch_tests shelf name buffer =
    (not (is_shelf shelf), IllMade)  -- 5
    ∷ (not (is_name name), UnknownName)  -- 24 "a name not of that form"
    ∷ (eqb (byte_at shelf (293 * place_named shelf name)) 0, UnknownName)  -- 24 "or on a fetch not on the shelf"
    ∷ (ltb (length buffer) 281, BufferTooShort)  -- 23
    ∷ []

-- the position at the buffer's front; bytes behind it keep their values
abbrev pub fetched_from : List ℕ → List ℕ → List ℕ → List ℕ
fetched_from shelf name buffer = pasted buffer 0 (position_in (drop (293 * place_named shelf name) shelf))

pub record Fetches (shelf name buffer : List ℕ) (answer : ℕ) (after : List ℕ) : Type 0 where
  pub answered : answer ≡ refusal_in (first_of (fetch_tests shelf name buffer))
  pub left : after ≡ if_allowed (first_of (fetch_tests shelf name buffer)) buffer (fetched_from shelf name buffer)
