-- T-06's shelf, in figures: which bytes are a name and which a shelf; stores and fetches with every byte that they leave; and the order of 5, 24, 25, 26 and 23, each with a later
-- reason beside it. The bytes are docs/FORMAT.md's and written by hand, so that a misreading that definition and code share shows here.
-- Assumes nothing.
use Prim.Native.Nat.{ℕ}
use Rattle.working.proofs.examples.Computing.{shelves_compute}
use Rattle.working.proofs.examples.EntryTable.{below}
use Rattle.working.proofs.examples.PositionTable.{all_kinds, worked}
use Rattle.working.specs.Positions.{if_allowed}
use Rattle.working.specs.Refusals.{first_of, refusal_in}
use Rattle.working.specs.Shelves.{Fetches, Stores, fetch_tests, fetched_from, is_name, is_shelf, store_tests, stored_in}
use lib.ListN.{replicate, set, take}
use mathlib.Core.Bool.{false, true}
use mathlib.Core.List.{List, [], map, ◌++◌, ◌∷◌}
use mathlib.Core.Path.{refl, ◌≡◌}

-- ---- "names of 1 to 12 capital letters"

-- A to Z, and no byte besides: neither the `@` before A nor the `[` behind Z
letters : below (λ letter. is_name (letter ∷ [])) 256 []
    ≡ 65 ∷ 66 ∷ 67 ∷ 68 ∷ 69 ∷ 70 ∷ 71 ∷ 72 ∷ 73 ∷ 74 ∷ 75 ∷ 76 ∷ 77 ∷ 78 ∷ 79 ∷ 80 ∷ 81 ∷ 82 ∷ 83 ∷ 84 ∷ 85 ∷ 86 ∷ 87 ∷ 88 ∷ 89 ∷ 90 ∷ []
unfolding shelves_compute
letters = refl

-- 1 to 12 of them
lengths : below (λ n. is_name (replicate n 65)) 16 [] ≡ 1 ∷ 2 ∷ 3 ∷ 4 ∷ 5 ∷ 6 ∷ 7 ∷ 8 ∷ 9 ∷ 10 ∷ 11 ∷ 12 ∷ []
unfolding shelves_compute
lengths = refl

-- every one of them is a letter: `AZ`, `Za`, `@A`, `A[`, an A with a zero behind it, twelve of which the last is a space, and of which the first is a 5
spelt : map is_name
    ((65 ∷ 90 ∷ [])
    ∷ (90 ∷ 97 ∷ [])
    ∷ (64 ∷ 65 ∷ [])
    ∷ (65 ∷ 91 ∷ [])
    ∷ (65 ∷ 0 ∷ [])
    ∷ (replicate 11 65 ++ 32 ∷ [])
    ∷ (53 ∷ replicate 11 65)
    ∷ [])
    ≡ true ∷ false ∷ false ∷ false ∷ false ∷ false ∷ false ∷ []
unfolding shelves_compute
spelt = refl

-- ---- shelves

-- the fresh section's position, and a shelf with nothing on it
abbrev fresh_position : List ℕ
fresh_position = replicate 281 0

abbrev empty : List ℕ
empty = replicate 4688 0

-- docs/FORMAT.md's: GIVENUP with the worked position, then FRESH with the fresh section, and 14 unused places
abbrev given_up : List ℕ
given_up = 0x47 ∷ 0x49 ∷ 0x56 ∷ 0x45 ∷ 0x4E ∷ 0x55 ∷ 0x50 ∷ []

abbrev fresh_name : List ℕ
fresh_name = 0x46 ∷ 0x52 ∷ 0x45 ∷ 0x53 ∷ 0x48 ∷ []

abbrev given_up_title : List ℕ
given_up_title = 0x47 ∷ 0x49 ∷ 0x56 ∷ 0x45 ∷ 0x4E ∷ 0x55 ∷ 0x50 ∷ 0x00 ∷ 0x00 ∷ 0x00 ∷ 0x00 ∷ 0x00 ∷ []

abbrev fresh_title : List ℕ
fresh_title = 0x46 ∷ 0x52 ∷ 0x45 ∷ 0x53 ∷ 0x48 ∷ 0x00 ∷ 0x00 ∷ 0x00 ∷ 0x00 ∷ 0x00 ∷ 0x00 ∷ 0x00 ∷ []

abbrev one : List ℕ
one = given_up_title ++ worked ++ replicate 4395 0

abbrev two : List ℕ
two = given_up_title ++ worked ++ fresh_title ++ replicate 281 0 ++ replicate 4102 0

-- sixteen names, A to P, the first with the worked position, and fifteen with the fresh section
abbrev lettered : List ℕ → List ℕ
lettered [] = []
lettered (letter ∷ l) = letter ∷ replicate 11 0 ++ replicate 281 0 ++ lettered l

abbrev full : List ℕ
full = 65 ∷ replicate 11 0 ++ worked ++ lettered (66 ∷ 67 ∷ 68 ∷ 69 ∷ 70 ∷ 71 ∷ 72 ∷ 73 ∷ 74 ∷ 75 ∷ 76 ∷ 77 ∷ 78 ∷ 79 ∷ 80 ∷ [])

-- "16 places of name, zeros to 12, and well-made position, in the order first stored, no name twice, the rest zero"
are_shelves : map is_shelf (empty ∷ one ∷ two ∷ full ∷ []) ≡ true ∷ true ∷ true ∷ true ∷ []
unfolding shelves_compute
are_shelves = refl

-- one byte more, one fewer; of `two`: a byte in the last place; its first place unused and its second used; FRESH under the name GIVENUP too; a small letter first in a name,
-- a letter behind its zeros, a first byte of 0; a position that is none; of `full`: the last name that of the first
abbrev no_shelves : List (List ℕ)
no_shelves =
    replicate 4687 0
    ∷ replicate 4689 0
    ∷ take 4687 full
    ∷ (full ++ 0 ∷ [])
    ∷ set two 4687 1
    ∷ set two 586 1
    ∷ (replicate 293 0 ++ take 4395 two)
    ∷ (given_up_title ++ worked ++ given_up_title ++ replicate 281 0 ++ replicate 4102 0)
    ∷ set two 293 0x66
    ∷ set two 304 0x46
    ∷ set two 0 0
    ∷ set two 292 9
    ∷ set full 4395 65
    ∷ []

no_shelves_lem : map is_shelf no_shelves ≡ map (λ bytes. false) no_shelves
unfolding shelves_compute
no_shelves_lem = refl

-- ---- store

-- what a store must answer, and leave as the shelf: whatever it is said to, it is this
abbrev StoresAs : List ℕ → List ℕ → List ℕ → ℕ → List ℕ → Type 0
StoresAs shelf name position answer after = (a : ℕ) (s : List ℕ) → Stores shelf name position a s → (a ≡ answer) × (s ≡ after)

stores_as : {shelf name position : List ℕ} (a : ℕ) (s : List ℕ) → Stores shelf name position a s
    → (a ≡ refusal_in (first_of (store_tests shelf name position)))
    × (s ≡ if_allowed (first_of (store_tests shelf name position)) shelf (stored_in shelf name position))
stores_as a s h = (h.answered, h.left)

-- "in the order first stored": the first two places; then "storing under a used name replaces it", where it lies; on a full shelf too, in the last place
stored : StoresAs empty given_up worked 0 one
    × StoresAs one fresh_name fresh_position 0 two
    × StoresAs two given_up all_kinds 0 (given_up_title ++ all_kinds ++ fresh_title ++ replicate 281 0 ++ replicate 4102 0)
    × StoresAs two fresh_name worked 0 (given_up_title ++ worked ++ fresh_title ++ worked ++ replicate 4102 0)
    × StoresAs full (80 ∷ []) worked 0 (take 4395 full ++ 80 ∷ replicate 11 0 ++ worked)
unfolding shelves_compute
stored = (stores_as, stores_as, stores_as, stores_as, stores_as)

-- a name not on these shelves, a small letter, and thirteen letters
abbrev q : List ℕ
q = 81 ∷ []

abbrev small : List ℕ
small = 97 ∷ []

abbrev thirteen : List ℕ
thirteen = replicate 13 65

-- bytes that are no shelf, the second of them with sixteen used places; and bytes that are no position
abbrev not_shelf : List ℕ
not_shelf = set two 4687 1

abbrev not_shelf_full : List ℕ
not_shelf_full = set full 4395 65

abbrev no_position : List ℕ
no_position = set worked 280 9

-- "24 .. 25 .. 26, in that order", 5 before them; "none alters anything"
store_refused :
    -- 5 alone, then beside 24, beside 25 on a full one, and beside 26
    StoresAs not_shelf q worked 5 not_shelf
    × StoresAs not_shelf [] worked 5 not_shelf
    × StoresAs not_shelf_full q worked 5 not_shelf_full
    × StoresAs not_shelf q no_position 5 not_shelf
    -- 24 alone, then beside 25, beside 26, and beside both
    × StoresAs empty thirteen worked 24 empty
    × StoresAs full small worked 24 full
    × StoresAs empty [] no_position 24 empty
    × StoresAs full small no_position 24 full
    -- 25 alone, and beside 26
    × StoresAs full q worked 25 full
    × StoresAs full q no_position 25 full
    -- 26 alone, under a new name and under a used one
    × StoresAs two q no_position 26 two
    × StoresAs full (65 ∷ []) no_position 26 full
unfolding shelves_compute
store_refused = (stores_as, stores_as, stores_as, stores_as, stores_as, stores_as, stores_as, stores_as, stores_as, stores_as, stores_as, stores_as)

-- ---- fetch

-- what a fetch must answer, and leave in the buffer
abbrev FetchesAs : List ℕ → List ℕ → List ℕ → ℕ → List ℕ → Type 0
FetchesAs shelf name buffer answer after = (a : ℕ) (b : List ℕ) → Fetches shelf name buffer a b → (a ≡ answer) × (b ≡ after)

fetches_as : {shelf name buffer : List ℕ} (a : ℕ) (b : List ℕ) → Fetches shelf name buffer a b
    → (a ≡ refusal_in (first_of (fetch_tests shelf name buffer)))
    × (b ≡ if_allowed (first_of (fetch_tests shelf name buffer)) buffer (fetched_from shelf name buffer))
fetches_as a b h = (h.answered, h.left)

abbrev room : List ℕ
room = replicate 281 7

abbrev short : List ℕ
short = replicate 280 7

-- each of two, the first and the last of sixteen; bytes behind the position keep their values
fetched : FetchesAs two given_up room 0 worked
    × FetchesAs two fresh_name (room ++ 8 ∷ 9 ∷ []) 0 (fresh_position ++ 8 ∷ 9 ∷ [])
    × FetchesAs full (65 ∷ []) room 0 worked
    × FetchesAs full (80 ∷ []) room 0 fresh_position
unfolding shelves_compute
fetched = (fetches_as, fetches_as, fetches_as, fetches_as)

-- "a name not of that form, or on a fetch not on the shelf (24) .. then 23", 5 before them
fetch-refused :
    -- 5 alone, then beside 24 for its form and for a name not there, and beside 23
    FetchesAs not_shelf given_up room 5 room
    × FetchesAs not_shelf [] room 5 room
    × FetchesAs not_shelf_full q room 5 room
    × FetchesAs not_shelf given_up short 5 short
    -- 24 for its form, then beside 23; and for a name not there, then beside 23, on a full shelf too
    × FetchesAs two small room 24 room
    × FetchesAs two thirteen short 24 short
    × FetchesAs two q room 24 room
    × FetchesAs two q short 24 short
    × FetchesAs full q short 24 short
    -- 23 alone
    × FetchesAs two given_up short 23 short
    × FetchesAs two given_up [] 23 []
unfolding shelves_compute
fetch-refused = (fetches_as, fetches_as, fetches_as, fetches_as, fetches_as, fetches_as, fetches_as, fetches_as, fetches_as, fetches_as, fetches_as)
