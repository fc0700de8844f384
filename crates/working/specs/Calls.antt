-- T-06, one statement about every list of steps, stores and fetches on one section and one shelf, from the fresh section and the empty shelf, accepted or refused. In plain
-- words: docs/THEOREM.md, "Lists of calls".
use Rattle.std.specs.Prelude.{Bool, List, [], cond, drop, eqb, false, not, replicate, take, true, ℕ, ◌&&◌, ◌++◌, ◌∷◌, ◌≡◌}
use Rattle.working.specs.Demand3.{Demand3}
use Rattle.working.specs.Entries.{is_in}
use Rattle.working.specs.Positions.{StepsPosition, position_of, same_bytes}
use Rattle.working.specs.Runs.{Done, Run, in_place}
use Rattle.working.specs.Sections.{fresh}
use Rattle.working.specs.Shelves.{Fetches, Stores}
use Rattle.working.specs.Steps.{step_of}
use Rattle.working.specs.declared.Section.{Section}

-- ---- calls

-- what a host keeps: the section's position, in its own bytes, and the shelf
pub record Kept : Type 0 where
  pub position : List ℕ
  pub shelf : List ℕ

-- the fresh section is 281 zeros, and the empty shelf is zeros
abbrev pub start : Kept
start = record { position = replicate 281 0; shelf = replicate 4688 0 }

-- a call of a list with what the host hands over besides and the number answered: a step has an entry's bytes, and the numbers lent before and after it; a fetch has so many
-- of the section's own bytes for its buffer, all of them or fewer
pub data Call : Type 0 where
  stepped : (entry numbers : List ℕ) (answer : ℕ) (after : List ℕ) → Call
  stored : (name : List ℕ) (answer : ℕ) → Call
  fetched : (name : List ℕ) (room answer : ℕ) → Call

-- what the contracts of the three functions say of a call: each store is handed the section's own position, and each fetch puts it back there
abbrev pub CallBy : Kept → Call → Kept → Type 0
CallBy k (stepped entry numbers answer after) m = StepsPosition k.position entry numbers answer m.position after × (m.shelf ≡ k.shelf)
CallBy k (stored name answer) m = Stores k.shelf name k.position answer m.shelf × (m.position ≡ k.position)
CallBy k (fetched name room answer) m =
    Fetches k.shelf name (take room k.position) answer (take room m.position) × (drop room m.position ≡ drop room k.position) × (m.shelf ≡ k.shelf)

pub data Calls : Kept → List Call → Kept → Type 0 where
  stop : {k : Kept} → Calls k [] k
  next : {k m n : Kept} {c : Call} {l : List Call} → CallBy k c m → Calls m l n → Calls k (c ∷ l) n

-- ---- histories

-- the entries' bytes of the steps that led to the section, and of those that led to what is stored under each name
pub record Histories : Type 0 where
  pub own : List (List ℕ)
  pub under : List ℕ → List (List ℕ)

abbrev pub no_history : Histories
no_history = record { own = []; under = λ name. [] }

-- a call refused with 5 or 23 to 26 leaves all
abbrev pub leaves_all : ℕ → Bool
leaves_all answer = is_in answer (5 ∷ 23 ∷ 24 ∷ 25 ∷ 26 ∷ [])

-- a step answered with 0, 1 to 4 or 6 to 22 is added to the section's; an accepted store copies it to the name; an accepted fetch copies the name's back
abbrev pub with_call : Call → Histories → Histories
with_call (stepped entry numbers answer after) h = cond (leaves_all answer) h (record { own = h.own ++ entry ∷ []; under = h.under })
with_call (stored name answer) h = cond (leaves_all answer) h (record { own = h.own; under = λ other. cond (same_bytes other name) h.own (h.under other) })
with_call (fetched name room answer) h = cond (leaves_all answer) h (record { own = h.under name; under = h.under })

abbrev pub with_calls : Histories → List Call → Histories
with_calls h [] = h
with_calls h (c ∷ l) = with_calls (with_call c h) l

-- a section's history after a list of calls
abbrev pub history_of : List Call → List (List ℕ)
history_of l = (with_calls no_history l).own

-- a history as a list of demand 3, and the section that it leads to, from s
abbrev pub steps_from : Section → List (List ℕ) → List Done
steps_from s [] = []
steps_from s (bytes ∷ h) = record { form = in_place; bytes = bytes; answer = (step_of s bytes).answer } ∷ steps_from (step_of s bytes).section h

abbrev pub leads_to : Section → List (List ℕ) → Section
leads_to s [] = s
leads_to s (bytes ∷ h) = leads_to (step_of s bytes).section h

-- ---- the whole

abbrev pub is_store_of : List ℕ → Call → Bool
is_store_of name (stepped entry numbers answer after) = false
is_store_of name (stored other answer) = same_bytes name other && eqb answer 0
is_store_of name (fetched other room answer) = false

abbrev pub none_stores : List ℕ → List Call → Bool
none_stores name [] = true
none_stores name (c ∷ l) = not (is_store_of name c) && none_stores name l

-- the position that the section had at the last accepted store under a name
pub record LastStored (name : List ℕ) (l : List Call) (position : List ℕ) : Type 0 where
  pub before : List Call
  pub since : List Call
  pub is : l ≡ before ++ stored name 0 ∷ since
  pub last : none_stores name since ≡ true
  pub then : position ≡ position_of (leads_to fresh (history_of before))

-- the answers of a list
abbrev pub answered_by : Call → ℕ
answered_by (stepped entry numbers answer after) = answer
answered_by (stored name answer) = answer
answered_by (fetched name room answer) = answer

abbrev pub none_answered : ℕ → List Call → Bool
none_answered number [] = true
none_answered number (c ∷ l) = not (eqb (answered_by c) number) && none_answered number l

-- Every point of a list is the end of a list, so that what is said of the end is said of every point.
pub record CallsHold {l : List Call} {k : Kept} (calls : Calls start l k) : Type 0 where
  -- the section is what its history leads to from fresh
  pub section : k.position ≡ position_of (leads_to fresh (history_of l))
  -- and demand 3 holds of that history, its claims about opposed vehicles and owed clears among the rest
  pub run : Run fresh (steps_from fresh (history_of l)) (leads_to fresh (history_of l))
  pub demand3 : Demand3 run
  -- an accepted fetch gives the section last stored under that name
  pub fetch : (before : List Call) (name : List ℕ) (room : ℕ) → l ≡ before ++ fetched name room 0 ∷ [] → LastStored name before k.position
  -- where nobody else writes section and shelf, both stay well made
  pub made : (none_answered 5 l ≡ true) × (none_answered 26 l ≡ true)
