-- What the tests of a store and of a fetch say of what is lent, and the bytes that a fetch copies.
-- Assumes nothing.
use Prim.Native.Nat.{ℕ, ◌*◌, ◌+◌, ◌≤◌}
use Rattle.working.proofs.laws.Tests.{both}
use Rattle.working.specs.Entries.{pasted}
use Rattle.working.specs.Shelves.{is_name, is_shelf, place_for, place_named, places_made, position_in, title_of}
use borrow.Author.Tests.{eqb-true, leb-true}
use lib.Dec.{eqb, leb}
use lib.ListN.{drop, length, length-drop, length-take, take}
use lib.Seq.{drop-drop}
use mathlib.Core.Bool.{true}
use mathlib.Core.List.{List, ◌++◌}
use mathlib.Core.Path.{ap, sym, ◌∙◌, ◌≡◌}
use native.Mathlib.Omega.{arith}

-- ---- the place of a name

pub at_place : (shelf name : List ℕ) {title : List ℕ} {place : ℕ} → place ≡ place_for title 16 shelf → title ≡ title_of name → place_named shelf name ≡ place
at_place shelf name found titled = sym (found ∙ ap (λ t. place_for t 16 shelf) titled)

-- ---- lengths

pub short_name : (name : List ℕ) → is_name name ≡ true → length name ≤ 12
unfolding is_name
short_name name h = leb-true (length name) 12 (both (leb (length name) 12) _ (both (leb 1 (length name)) _ h).1).0

pub long-shelf : (shelf : List ℕ) → is_shelf shelf ≡ true → length shelf ≡ 4688
unfolding is_shelf
long-shelf shelf h = eqb-true (length shelf) 4688 (both (eqb (length shelf) 4688) (places_made 16 shelf) h).0

-- ---- a position at the front of a buffer, of which a slice has k bytes

pub fetched : (shelf buffer : List ℕ) (place k : ℕ) → k ≡ 281 → 293 * place + 293 ≤ length shelf
    → take k (drop (293 * place + 12) shelf) ++ drop 281 buffer ≡ pasted buffer 0 (position_in (drop (293 * place) shelf))
fetched shelf buffer place k whole inside =
    let long : length (position_in (drop (293 * place) shelf)) ≡ 281 = simp (length-take, length-drop) (omega arith) in
    rw (whole, long, ← drop-drop 12 (293 * place) shelf)
