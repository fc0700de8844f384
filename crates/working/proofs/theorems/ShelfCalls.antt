-- Lists of stores and fetches on one shelf, whoever wrote it. The statement: specs/ShelfCalls.antt.
-- A call that is refused leaves the shelf, and so does every fetch. An accepted store leaves a shelf on which its position is read under its own name, under every other name
-- what was read before, and in every used place the title that it had (proofs/laws/Stores.antt). Over a list all of these follow call by call, and a fetch of the name last
-- stored answers what it would have answered behind that store.
-- Assumes nothing.
use Prim.Native.Nat.{ℕ, ◌*◌, ◌+◌, ◌≤◌}
use Rattle.working.proofs.laws.Stores.{Stored, accepted, fetch-same, fetch_given, refused, store_by}
use Rattle.working.proofs.laws.Tests.{both}
use Rattle.working.specs.Entries.{pasted}
use Rattle.working.specs.Positions.{byte_at, same_bytes}
use Rattle.working.specs.ShelfCalls.{ShelfCall, ShelfCallBy, ShelfCalls, ShelfCallsHold, fetched, is_used, next, none_under, stop, stored, stores_under, title_at}
use Rattle.working.specs.Shelves.{Fetches, Stores, is_shelf}
use borrow.Author.Tests.{not-true}
use lib.Dec.{eqb}
use lib.ListN.{drop, length}
use lib.Seq.{get_or-drop, get_or-take}
use mathlib.Core.Bool.{and-true, false, not, true, true≢false}
use mathlib.Core.List.{List, [], ◌++◌, ◌∷◌}
use mathlib.Core.Path.{ap, refl, sym, ◌∙◌, ◌≡◌}
use native.Mathlib.Omega.{arith}

-- ---- one call

-- a used place is one whose title begins with another byte than 0
first_of : (shelf : List ℕ) (i : ℕ) → byte_at shelf (293 * i) ≡ byte_at (title_at shelf i) 0
first_of shelf i =
    let here : 293 * i + 0 ≡ 293 * i = omega arith in
    sym (get_or-take 12 (drop (293 * i) shelf) 0 0 (omega arith) ∙ get_or-drop (293 * i) shelf 0 0 ∙ ap (byte_at shelf) here)

module _ (shelf left : List ℕ) where
  made_next : (c : ShelfCall) → ShelfCallBy shelf c left → is_shelf shelf ≡ true → is_shelf left ≡ true
  made_next (stored name position answer) did made = by (store_by did)
    where
      by : Stored shelf name position answer left → is_shelf left ≡ true
      by (refused some same) = rw same made
      by (accepted zero before is now) = now.made
  made_next (fetched name buffer answer after) (did, same) made = rw same made

  places_next : (c : ShelfCall) → ShelfCallBy shelf c left → (i : ℕ) → is_used shelf i ≡ true → (is_used left i ≡ true) × (title_at left i ≡ title_at shelf i)
  places_next (stored name position answer) did i used = by (store_by did)
    where
      by : Stored shelf name position answer left → (is_used left i ≡ true) × (title_at left i ≡ title_at shelf i)
      by (refused some same) = rw same (used, refl)
      by (accepted zero before is now) =
          let title = now.titles i (not-true (eqb (byte_at shelf (293 * i)) 0) used) in
          (ap (λ (b : ℕ). not (eqb b 0)) (first_of left i ∙ ap (λ (t : List ℕ). byte_at t 0) title ∙ sym (first_of shelf i)) ∙ used, title)
  places_next (fetched name buffer answer after) (did, same) i used = rw same (used, refl)

  others_next : (c : ShelfCall) → ShelfCallBy shelf c left → (name : List ℕ) → stores_under name c ≡ false → {buffer : List ℕ} {answer : ℕ} {after : List ℕ}
      → Fetches shelf name buffer answer after → Fetches left name buffer answer after
  others_next (stored other position put) did name none {buffer} {answer} {after} before = by (store_by did)
    where
      by : Stored shelf other position put left → Fetches left name buffer answer after
      by (refused some same) = rw same before
      by (accepted zero made is now) =
          let differs : same_bytes name other ≡ false = sym (and-true (same_bytes name other)) ∙ (rw zero at none) in
          fetch-same shelf left name buffer made now.made (λ named. now.others name named differs) before
  others_next (fetched other put answer after) (did, same) name none before = rw same before

-- ---- a list

made_list : {shelf end : List ℕ} {l : List ShelfCall} → ShelfCalls shelf l end → is_shelf shelf ≡ true → is_shelf end ≡ true
made_list stop made = made
made_list (next {shelf} {left} {c = c} did calls) made = made_list calls (made_next shelf left c did made)

places_list : {shelf end : List ℕ} {l : List ShelfCall} → ShelfCalls shelf l end → (i : ℕ) → is_used shelf i ≡ true → title_at end i ≡ title_at shelf i
places_list stop i used = refl
places_list (next {shelf} {left} {c = c} did calls) i used = let (still, same) = places_next shelf left c did i used in places_list calls i still ∙ same

others_list : {shelf end : List ℕ} {l : List ShelfCall} → ShelfCalls shelf l end → (name : List ℕ) → none_under name l ≡ true
    → {buffer : List ℕ} {answer : ℕ} {after : List ℕ} → Fetches shelf name buffer answer after → Fetches end name buffer answer after
others_list stop name none before = before
others_list (next {shelf} {left} {c = c} {l = l} did calls) name none before =
    let (first, later) = both (not (stores_under name c)) (none_under name l) none in
    others_list calls name later (others_next shelf left c did name (not-true (stores_under name c) first) before)

-- behind an accepted store a fetch of its name gives its position
last_next : {shelf left : List ℕ} (name position : List ℕ) → Stores shelf name position 0 left → (buffer : List ℕ) → 281 ≤ length buffer
    → Fetches left name buffer 0 (pasted buffer 0 position)
last_next {shelf} {left} name position did buffer room = by (store_by did)
  where
    by : Stored shelf name position 0 left → Fetches left name buffer 0 (pasted buffer 0 position)
    by (refused some same) = absurd (true≢false some)
    by (accepted zero made is now) = fetch_given left name buffer now.made is now.there room

last_list : (before since : List ShelfCall) (name position : List ℕ) {shelf end : List ℕ} → ShelfCalls shelf (before ++ stored name position 0 ∷ since) end
    → none_under name since ≡ true → (buffer : List ℕ) → 281 ≤ length buffer → Fetches end name buffer 0 (pasted buffer 0 position)
last_list [] since name position (next did calls) none buffer room = others_list calls name none (last_next name position did buffer room)
last_list (c ∷ before) since name position (next did calls) none buffer room = last_list before since name position calls none buffer room

-- ---- the theorem

pub shelf_calls_hold : {shelf end : List ℕ} {l : List ShelfCall} (calls : ShelfCalls shelf l end) → ShelfCallsHold calls
shelf_calls_hold calls = record {
  last = λ before since name position is none buffer answer after room did.
      let now = last_list before since name position (rw is at calls) none buffer room in
      (did.answered ∙ sym now.answered, did.left ∙ sym now.left);
  others = λ name none buffer answer after before. others_list calls name none before;
  places = places_list calls;
  made = made_list calls;
}
