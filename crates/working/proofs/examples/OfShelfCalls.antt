-- What each clause about lists of stores and fetches on one shelf says of calls that are written out, drawn from the theorem, over shelves, positions and buffers that nothing
-- computes; and that there is such a list, from the empty shelf.
-- Assumes nothing.
use Prim.Native.Nat.{ℕ, ◌<◌}
use Rattle.working.proofs.laws.Stores.{StoreLeaves, fetch_of, room-kept, room_empty, room_second, store_given, store_leaves, zero_keeps}
use Rattle.working.proofs.theorems.ShelfCalls.{shelf_calls_hold}
use Rattle.working.specs.Entries.{pasted}
use Rattle.working.specs.Positions.{is_position, same_bytes}
use Rattle.working.specs.ShelfCalls.{ShelfCall, ShelfCalls, fetched, next, stop, stored}
use Rattle.working.specs.Shelves.{Fetches, Stores, is_name, is_shelf, is_zero, letters_in, place_named, stored_in}
use borrow.Author.Tests.{lt-ltb}
use lib.Dec.{eqb}
use lib.ListN.{drop, get_or, length, take}
use mathlib.Core.Bool.{false, not, true}
use mathlib.Core.List.{List, [], ◌∷◌}
use mathlib.Core.Path.{ap, refl, ◌∙◌, ◌≡◌}
use native.Mathlib.Omega.{arith}

-- ---- names

-- "CLASS" and "NIGHT"
abbrev pub CLASS : List ℕ
CLASS = 67 ∷ 76 ∷ 65 ∷ 83 ∷ 83 ∷ []

abbrev pub NIGHT : List ℕ
NIGHT = 78 ∷ 73 ∷ 71 ∷ 72 ∷ 84 ∷ []

-- ---- a list

-- CLASS is stored; NIGHT, which is not on the shelf, is asked for, and stored; CLASS is replaced; the bytes of a third store under CLASS are no position, and CLASS is asked for
-- with too little room
abbrev list : List ℕ → List ℕ → List ℕ → List ℕ → List ℕ → List ShelfCall
list p q r bad short = stored CLASS p 0 ∷ fetched NIGHT short 24 short ∷ stored NIGHT q 0 ∷ stored CLASS r 0 ∷ stored CLASS bad 26 ∷ fetched CLASS short 23 short ∷ []

module _ {p q r bad short shelf end : List ℕ} (calls : ShelfCalls shelf (list p q r bad short) end) where
  -- CLASS is the second position stored under it, into 281 bytes and into 300; NIGHT is what was stored before that
  fetched-last : (buffer : List ℕ) (answer : ℕ) (after : List ℕ) → Fetches end CLASS buffer answer after → length buffer ≡ 281 → (answer ≡ 0) × (after ≡ pasted buffer 0 r)
  unfolding same_bytes
  fetched-last buffer answer after did room =
      (shelf_calls_hold calls).last (stored CLASS p 0 ∷ fetched NIGHT short 24 short ∷ stored NIGHT q 0 ∷ []) (stored CLASS bad 26 ∷ fetched CLASS short 23 short ∷ []) CLASS r
      refl refl buffer answer after (omega arith) did

  fetched-with_more : (buffer : List ℕ) (answer : ℕ) (after : List ℕ) → Fetches end NIGHT buffer answer after → length buffer ≡ 300 → (answer ≡ 0) × (after ≡ pasted buffer 0 q)
  unfolding same_bytes
  fetched-with_more buffer answer after did room =
      (shelf_calls_hold calls).last (stored CLASS p 0 ∷ fetched NIGHT short 24 short ∷ []) (stored CLASS r 0 ∷ stored CLASS bad 26 ∷ fetched CLASS short 23 short ∷ []) NIGHT q
      refl refl buffer answer after (omega arith) did

  -- the first place and the last, which begins at byte 4,395, keep their titles where they have any; and a shelf is still one
  places-kept : eqb (get_or shelf 0 0) 0 ≡ false → eqb (get_or shelf 4395 0) 0 ≡ false → (take 12 end ≡ take 12 shelf) × (take 12 (drop 4395 end) ≡ take 12 (drop 4395 shelf))
  places-kept first last = ((shelf_calls_hold calls).places 0 (ap not first), (shelf_calls_hold calls).places 15 (ap not last))

  still_shelf : is_shelf shelf ≡ true → is_shelf end ≡ true
  still_shelf made = (shelf_calls_hold calls).made made

-- ---- any calls

-- whatever the contracts say of a store and of a fetch are calls: of any bytes lent as a shelf, any name, position and buffer, and any answer
calls_are : (shelf name position : List ℕ) (answer : ℕ) (left other buffer : List ℕ) (number : ℕ) (after : List ℕ)
    → Stores shelf name position answer left → Fetches left other buffer number after
    → ShelfCalls shelf (stored name position answer ∷ fetched other buffer number after ∷ []) left
calls_are shelf name position answer left other buffer number after first second =
    next first (next {c = fetched other buffer number after} (second, refl) stop)

-- ---- one store

module _ {p shelf end : List ℕ} (did : Stores shelf CLASS p 0 end) where
  abbrev one : ShelfCalls shelf (stored CLASS p 0 ∷ []) end
  one = next did stop

  -- every other name has what it had, for every buffer: a position, too little room, or it is not on the shelf
  others-kept : (buffer : List ℕ) (answer : ℕ) (after : List ℕ) → Fetches shelf NIGHT buffer answer after → Fetches end NIGHT buffer answer after
  unfolding same_bytes
  others-kept = (shelf_calls_hold one).others NIGHT refl

  -- no name at all: CLASS with a zero behind it, which has the same title
  no_name_kept : (buffer : List ℕ) → Fetches shelf (67 ∷ 76 ∷ 65 ∷ 83 ∷ 83 ∷ 0 ∷ []) buffer 24 buffer → Fetches end (67 ∷ 76 ∷ 65 ∷ 83 ∷ 83 ∷ 0 ∷ []) buffer 24 buffer
  unfolding same_bytes
  no_name_kept buffer = (shelf_calls_hold one).others (67 ∷ 76 ∷ 65 ∷ 83 ∷ 83 ∷ 0 ∷ []) refl buffer 24 buffer

-- ---- there are such lists

-- the list above is one, from an empty shelf, where p, q and r are positions and `bad` is none, and `short` has fewer than 281 bytes
pub class_named : is_name CLASS ≡ true
unfolding is_name letters_in
class_named = refl

pub night_named : is_name NIGHT ≡ true
unfolding is_name letters_in
night_named = refl

module _ (shelf : List ℕ) (zeros : is_zero shelf ≡ true) (made : is_shelf shelf ≡ true) (p q r : List ℕ) (p-well : is_position p ≡ true) (q-well : is_position q ≡ true)
    (r-well : is_position r ≡ true) where
  abbrev pub with_class : List ℕ
  with_class = stored_in shelf CLASS p

  abbrev pub with_both : List ℕ
  with_both = stored_in with_class NIGHT q

  abbrev pub replaced : List ℕ
  replaced = stored_in with_both CLASS r

  pub class_left : StoreLeaves shelf CLASS p with_class
  class_left = store_leaves shelf CLASS p made class_named (room_empty shelf zeros CLASS) p-well

  pub room_night : eqb (place_named with_class NIGHT) 16 ≡ false
  unfolding same_bytes
  room_night = room_second shelf zeros CLASS NIGHT p class_named night_named refl p-well

  pub night_left : StoreLeaves with_class NIGHT q with_both
  night_left = store_leaves with_class NIGHT q class_left.made night_named room_night q-well

  pub room_class : eqb (place_named with_both CLASS) 16 ≡ false
  unfolding same_bytes
  room_class = room-kept with_both CLASS night_left.made (night_left.others CLASS class_named refl ∙ class_left.there)

  pub replaced_left : StoreLeaves with_both CLASS r replaced
  replaced_left = store_leaves with_both CLASS r night_left.made class_named room_class r-well

  module _ (bad short : List ℕ) (bad-not : is_position bad ≡ false) (few : length short < 281) where
    unknown : Fetches with_class NIGHT short 24 short
    unfolding same_bytes
    unknown = rw (class_left.others NIGHT night_named refl ∙ zero_keeps shelf zeros NIGHT) at (fetch_of with_class NIGHT short class_left.made night_named)

    refused : Stores replaced CLASS bad 26 replaced
    refused =
        let room = room-kept replaced CLASS replaced_left.made replaced_left.there in
        record { answered = rw (replaced_left.made, class_named, room, bad-not); left = rw (replaced_left.made, class_named, room, bad-not) }

    too_short : Fetches replaced CLASS short 23 short
    too_short = rw (replaced_left.there, lt-ltb (length short) 281 few) at (fetch_of replaced CLASS short replaced_left.made class_named)

    is_list : ShelfCalls shelf (list p q r bad short) replaced
    is_list =
        next (store_given shelf CLASS p made class_named (room_empty shelf zeros CLASS) p-well)
        (next {c = fetched NIGHT short 24 short} (unknown, refl)
        (next (store_given with_class NIGHT q class_left.made night_named room_night q-well)
        (next (store_given with_both CLASS r night_left.made class_named room_class r-well)
        (next {c = stored CLASS bad 26} refused (next {c = fetched CLASS short 23 short} (too_short, refl) stop)))))
