-- T-06, "A fetched section equals the one last stored under that name, if nobody else writes the shelf": one statement about every list of stores and fetches on one shelf,
-- whoever wrote that shelf, of any names, any positions and any buffers, accepted or refused. In plain words: docs/THEOREM.md, "Lists of calls".
use Rattle.std.specs.Prelude.{Bool, List, [], drop, eqb, false, length, not, true, ℕ, ◌&&◌, ◌*◌, ◌++◌, ◌∷◌, ◌≡◌, ◌≤◌}
use Rattle.working.specs.Entries.{pasted}
use Rattle.working.specs.Positions.{byte_at, same_bytes}
use Rattle.working.specs.Shelves.{Fetches, Stores, is_shelf, title_in}

-- ---- calls

-- a call with what is handed over besides the shelf and the number answered; a fetch with its buffer before and after
pub data ShelfCall : Type 0 where
  stored : (name position : List ℕ) (answer : ℕ) → ShelfCall
  fetched : (name buffer : List ℕ) (answer : ℕ) (after : List ℕ) → ShelfCall

-- what the contracts of the two functions say of a call: the shelf before and after it; "if nobody else writes the shelf", a fetch leaves it as it was
abbrev pub ShelfCallBy : List ℕ → ShelfCall → List ℕ → Type 0
ShelfCallBy shelf (stored name position answer) left = Stores shelf name position answer left
ShelfCallBy shelf (fetched name buffer answer after) left = Fetches shelf name buffer answer after × (left ≡ shelf)

pub data ShelfCalls : List ℕ → List ShelfCall → List ℕ → Type 0 where
  stop : {shelf : List ℕ} → ShelfCalls shelf [] shelf
  next : {shelf left end : List ℕ} {c : ShelfCall} {l : List ShelfCall} → ShelfCallBy shelf c left → ShelfCalls left l end → ShelfCalls shelf (c ∷ l) end

-- an accepted store under a name
abbrev pub stores_under : List ℕ → ShelfCall → Bool
stores_under name (stored other position answer) = same_bytes name other && eqb answer 0
stores_under name (fetched other buffer answer after) = false

abbrev pub none_under : List ℕ → List ShelfCall → Bool
none_under name [] = true
none_under name (c ∷ l) = not (stores_under name c) && none_under name l

-- the title of the place of this number, from 0, and whether that place is used
abbrev pub title_at : List ℕ → ℕ → List ℕ
title_at shelf i = title_in (drop (293 * i) shelf)

abbrev pub is_used : List ℕ → ℕ → Bool
is_used shelf i = not (eqb (byte_at shelf (293 * i)) 0)

-- ---- the whole

-- It asks nothing of the bytes lent, of names, positions or buffers: a store that is accepted was lent a shelf and handed a name and a position.
pub record ShelfCallsHold {shelf end : List ℕ} {l : List ShelfCall} (calls : ShelfCalls shelf l end) : Type 0 where
  -- "A fetched section equals the one last stored under that name": behind an accepted store, with no other accepted under that name since, a fetch of the name into 281 bytes
  -- or more is accepted and gives that position; bytes behind it keep their values
  pub last : (before since : List ShelfCall) (name position : List ℕ) → l ≡ before ++ stored name position 0 ∷ since → none_under name since ≡ true
      → (buffer : List ℕ) (answer : ℕ) (after : List ℕ) → 281 ≤ length buffer → Fetches end name buffer answer after
      → (answer ≡ 0) × (after ≡ pasted buffer 0 position)
  -- a name that no store of the list was accepted under keeps what it had, or stays off the shelf: a fetch of it answers and gives what it did before, for every buffer
  pub others : (name : List ℕ) → none_under name l ≡ true → (buffer : List ℕ) (answer : ℕ) (after : List ℕ)
      → Fetches shelf name buffer answer after → Fetches end name buffer answer after
  -- no name is moved from its place
  pub places : (i : ℕ) → is_used shelf i ≡ true → title_at end i ≡ title_at shelf i
  -- a shelf stays a shelf
  pub made : is_shelf shelf ≡ true → is_shelf end ≡ true
