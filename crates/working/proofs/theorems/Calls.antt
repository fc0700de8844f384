-- Lists of calls, whole: of every list of steps, stores and fetches from the fresh section and the empty shelf. The statement: specs/Calls.antt.
-- After each call the position is that of the section which its history leads to, and the shelf is laid out from the names stored so far, each with the position that its own
-- history leads to and with the call that stored it last. Every history leads to a well-made section, so that every position on the way reads and every shelf is one: no call
-- is answered 5 or 26, a step is answered by the step on that section, and what is fetched was stored. The list grows at its end, and with it what is kept of it.
-- Assumes nothing.
use Prim.Native.Nat.{ℕ, ◌+◌, ◌≤◌}
use Rattle.working.proofs.invariant.Changes.{Sound}
use Rattle.working.proofs.laws.Every.{Every, every_map}
use Rattle.working.proofs.laws.Lists.{step_by}
use Rattle.working.proofs.laws.Numbers.{step_counted}
use Rattle.working.proofs.laws.Scans.{scanned_each}
use Rattle.working.proofs.laws.Shelves.{AllNames, Distinct, added, distinct_added, empty_laid, every_added, fetch_laid, laid_out, shelf_laid, store_laid}
use Rattle.working.proofs.laws.Tests.{and, both, clash, each_holds}
use Rattle.working.proofs.theorems.Demand3.{demand3, kept}
use Rattle.working.proofs.theorems.Positions.{bytes_same, position_fresh, position_of_lem, read_then_written, same_bytes_lem, section_again}
use Rattle.working.specs.Calls.{Call, CallBy, Calls, CallsHold, Histories, Kept, LastStored, answered_by, fetched, history_of, is_store_of, leads_to, leaves_all, next, no_history}
use Rattle.working.specs.Calls.{none_answered, none_stores, start, stepped, steps_from, stop, stored, with_call, with_calls}
use Rattle.working.specs.Entries.{every, pasted}
use Rattle.working.specs.Positions.{if_allowed, is_position, position_of, same_bytes, section_at, step_tests}
use Rattle.working.specs.Refusals.{Verdict, first_of, refusal_in}
use Rattle.working.specs.Runs as runs
use Rattle.working.specs.Runs.{Run, in_place}
use Rattle.working.specs.Sections.{fresh}
use Rattle.working.specs.Shelves.{fetch_tests, fetched_from, is_name, is_shelf, place_named, store_tests, stored_in}
use Rattle.working.specs.Steps.{step_of}
use Rattle.working.specs.declared.Section.{Section}
use borrow.Author.Tests.{ltb-false, ne_eqb, not-false, not-true}
use lib.Dec.{eqb}
use lib.ListN.{drop, drop_of_length-le, length, length-take, take, take-append-drop}
use mathlib.Core.Bool.{Bool, and-false, false, false≢true, not, true, ◌&&◌}
use mathlib.Core.List.{List, [], append-nil, append_assoc, ◌++◌, ◌∷◌}
use mathlib.Core.Path.{ap, ap₂, refl, sym, ◌∙◌, ◌≡◌}
use native.Mathlib.Omega.{arith}

-- ---- a history

history_run : (s : Section) (h : List (List ℕ)) → Run s (steps_from s h) (leads_to s h)
history_run s [] = runs.stop
history_run s (bytes ∷ h) = runs.next (step_by in_place s bytes refl refl) (history_run (step_of s bytes).section h)

leads_last : (s : Section) (h : List (List ℕ)) (bytes : List ℕ) → leads_to s (h ++ bytes ∷ []) ≡ (step_of (leads_to s h) bytes).section
leads_last s [] bytes = refl
leads_last s (first ∷ h) bytes = leads_last (step_of s first).section h bytes

-- the position that a history leads to from fresh
abbrev placed : List (List ℕ) → List ℕ
placed h = position_of (leads_to fresh h)

module _ (h : List (List ℕ)) where
  sound : Sound (leads_to fresh h)
  sound = (kept (history_run fresh h)).good.sound

  reads : is_position (placed h) ≡ true
  reads = position_of_lem (leads_to fresh h) sound.places sound.well

  long : length (placed h) ≡ 281
  long = (read_then_written (placed h) reads).0

  again : section_at (placed h) ≡ leads_to fresh h
  again = section_again (leads_to fresh h) sound.places sound.well

-- ---- a list with one more call

abbrev after : List Call → Histories
after l = with_calls no_history l

with_last_lem : (h : Histories) (l : List Call) (c : Call) → with_calls h (l ++ c ∷ []) ≡ with_call c (with_calls h l)
with_last_lem h [] c = refl
with_last_lem h (d ∷ l) c = with_last_lem (with_call d h) l c

-- none of a list passes a test
module _ (test : Call → Bool) (none : List Call → Bool) (nothing : none [] ≡ true) (more : (c : Call) (l : List Call) → none (c ∷ l) ≡ (not (test c) && none l)) where
  none_last : (l : List Call) (c : Call) → none l ≡ true → test c ≡ false → none (l ++ c ∷ []) ≡ true
  none_last [] c h last = rw (more c [], last) nothing
  none_last (d ∷ l) c h last =
      let (first, later) = both (not (test d)) (none l) (sym (more d l) ∙ h) in
      more d (l ++ c ∷ []) ∙ and (not (test d)) (none (l ++ c ∷ [])) first (none_last l c later last)

later_call : {name position : List ℕ} {l : List Call} (c : Call) → is_store_of name c ≡ false → LastStored name l position → LastStored name (l ++ c ∷ []) position
later_call {name} c other s = record {
  before = s.before;
  since = s.since ++ c ∷ [];
  is = ap (◌++ c ∷ []) s.is ∙ append_assoc s.before (stored name 0 ∷ s.since) (c ∷ []);
  last = none_last (is_store_of name) (none_stores name) refl (λ c l. refl) s.since c s.last other;
  then = s.then;
}

-- ---- what every list keeps

-- what is kept under each name, by its history
abbrev keeps : (List ℕ → List (List ℕ)) → List ℕ → List ℕ
keeps history name = placed (history name)

record OnShelf (l : List Call) (name : List ℕ) : Type 0 where
  named : is_name name ≡ true
  last : LastStored name l (keeps (after l).under name)

record Holds (l : List Call) (k : Kept) : Type 0 where
  position : k.position ≡ placed (after l).own
  names : List (List ℕ)
  apart : Distinct names
  each : Every (OnShelf l) names
  shelf : k.shelf ≡ laid_out (keeps (after l).under) 16 names
  made : (none_answered 5 l ≡ true) × (none_answered 26 l ≡ true)

holds-start : Holds [] start
holds-start = record {
  position = sym position_fresh;
  names = [];
  apart = tt;
  each = tt;
  shelf = empty_laid (keeps no_history.under) (λ name. long []) 16;
  made = (refl, refl);
}

-- an answer that is neither 5 nor 26
abbrev Fine : ℕ → Type 0
Fine n = (eqb n 5 ≡ false) × (eqb n 26 ≡ false)

made-last : (l : List Call) (c : Call) → Fine (answered_by c) → (none_answered 5 l ≡ true) × (none_answered 26 l ≡ true)
    → (none_answered 5 (l ++ c ∷ []) ≡ true) × (none_answered 26 (l ++ c ∷ []) ≡ true)
made-last l c fine made = (last 5 made.0 fine.0, last 26 made.1 fine.1)
  where
    last : (n : ℕ) → none_answered n l ≡ true → eqb (answered_by c) n ≡ false → none_answered n (l ++ c ∷ []) ≡ true
    last n = none_last (λ c. eqb (answered_by c) n) (none_answered n) refl (λ c l. refl) l c

-- a call that stores nothing
holds_on : {l : List Call} {k m : Kept} (c : Call) → Holds l k → m.shelf ≡ k.shelf → (with_call c (after l)).under ≡ (after l).under
    → ((name : List ℕ) → is_store_of name c ≡ false) → m.position ≡ placed (with_call c (after l)).own → Fine (answered_by c) → Holds (l ++ c ∷ []) m
holds_on {l} c h shelf same other position fine = record {
  position = rw (with_last_lem no_history l c) position;
  names = h.names;
  apart = h.apart;
  each = every_map (OnShelf l) (OnShelf (l ++ c ∷ [])) (λ name on. record {
    named = on.named;
    last = rw (with_last_lem no_history l c, same) (later_call c (other name) on.last);
  }) h.names h.each;
  shelf = rw (with_last_lem no_history l c, same) (shelf ∙ h.shelf);
  made = made-last l c fine h.made;
}

-- a call that is refused with 23, 24 or 25
abbrev is_quiet : ℕ → Bool
is_quiet n = every (leaves_all n ∷ not (eqb n 0) ∷ not (eqb n 5) ∷ not (eqb n 26) ∷ [])

leaves : (c : Call) (h : Histories) → leaves_all (answered_by c) ≡ true → with_call c h ≡ h
leaves (stepped entry numbers answer out) h e = rw e
leaves (stored name answer) h e = rw e
leaves (fetched name room answer) h e = rw e

stores_not : (c : Call) → eqb (answered_by c) 0 ≡ false → (name : List ℕ) → is_store_of name c ≡ false
stores_not (stepped entry numbers answer out) e name = refl
stores_not (stored other answer) e name = rw (e, and-false (same_bytes name other))
stores_not (fetched other room answer) e name = refl

holds-refused : {l : List Call} {k m : Kept} (c : Call) → Holds l k → is_quiet (answered_by c) ≡ true → m.position ≡ k.position → m.shelf ≡ k.shelf
    → Holds (l ++ c ∷ []) m
holds-refused {l} c h quiet position shelf =
    let n = answered_by c in
    let (left, (some, (five, (last, end)))) = each_holds (leaves_all n ∷ not (eqb n 0) ∷ not (eqb n 5) ∷ not (eqb n 26) ∷ []) quiet in
    let same = leaves c (after l) left in
    holds_on c h shelf (rw same) (stores_not c (not-true (eqb n 0) some)) (rw same (position ∙ h.position))
    (not-true (eqb n 5) five, not-true (eqb n 26) last)

-- ---- each call

-- an answer that is counted is none that leaves all
counted_other : (n m : ℕ) → leaves_all n ≡ false → leaves_all m ≡ true → eqb n m ≡ false
counted_other n m counted leaves = ne_eqb n m (λ same. clash leaves (rw same at counted))

-- what is put into a buffer of 281 bytes or more of a position is the whole position after it
put_whole : (room : ℕ) (position before bytes : List ℕ) → length before ≡ 281 → length bytes ≡ 281 → 281 ≤ length (take room before)
    → take room position ≡ pasted (take room before) 0 bytes → drop room position ≡ drop room before → position ≡ bytes
put_whole room position before bytes e f full front behind =
    let taken = length-take room before in
    let first : take room position ≡ bytes = front ∙ rw (drop_of_length-le (take room before) {i = 0 + length bytes} (omega arith)) (append-nil bytes) in
    let rest : drop room position ≡ [] = behind ∙ drop_of_length-le before {i = room} (omega arith) in
    sym (take-append-drop room position) ∙ ap₂ ◌++◌ first rest ∙ append-nil bytes

module _ {l : List Call} {k : Kept} (h : Holds l k) where
  long_kept : (name : List ℕ) → length (keeps (after l).under name) ≡ 281
  long_kept name = long ((after l).under name)

  all_named : AllNames h.names
  all_named = every_map (OnShelf l) (λ name. is_name name ≡ true) (λ name on. on.named) h.names h.each

  -- 26 and 5 are never answered
  no_26 : {T : Type 0} → not (is_position k.position) ≡ true → T
  no_26 bad = absurd (clash (rw h.position (reads (after l).own)) (not-true (is_position k.position) bad))

  no_5 : {T : Type 0} → not (is_shelf k.shelf) ≡ true → T
  no_5 bad =
      absurd (clash (rw h.shelf (shelf_laid (keeps (after l).under) long_kept (λ name. reads ((after l).under name)) h.names all_named h.apart))
      (not-true (is_shelf k.shelf) bad))

  module _ (m : Kept) where
    -- ---- a step

    module _ (entry numbers : List ℕ) (answer : ℕ) (out : List ℕ) (same : m.shelf ≡ k.shelf) where
      abbrev step : Call
      step = stepped entry numbers answer out

      abbrev Steps : Verdict → Type 0
      Steps v =
          answer ≡ if_allowed v (refusal_in v) (refusal_in (step_of (section_at k.position) entry).answer)
          → m.position ≡ if_allowed v k.position (position_of (step_of (section_at k.position) entry).section)
          → Holds (l ++ step ∷ []) m

      holds_step : Steps (first_of (step_tests k.position numbers))
      holds_step =
          scanned_each Steps (step_tests k.position numbers) (no_26, ((λ short answered left. holds-refused step h (rw answered) left same), tt))
          (λ passed answered left.
          let history = (after l).own in
          let section : section_at k.position ≡ leads_to fresh history = rw h.position (again history) in
          let counted : leaves_all answer ≡ false = rw (answered, section) (step_counted (leads_to fresh history) entry (sound history).well) in
          holds_on step h same (rw counted) (λ name. refl) (rw (counted, leads_last fresh history entry) (rw section at left))
          (counted_other answer 5 counted refl, counted_other answer 26 counted refl))

    -- ---- a store

    module _ (name : List ℕ) (same : m.position ≡ k.position) where
      abbrev longer : List Call
      longer = l ++ stored name 0 ∷ []

      stored_now : is_name name ≡ true → OnShelf longer name
      stored_now is = record {
        named = is;
        last = rw (with_last_lem no_history l (stored name 0), bytes_same name) (record { before = l; since = []; is = refl; last = refl; then = refl });
      }

      stored_still : is_name name ≡ true → (other : List ℕ) → OnShelf l other → OnShelf longer other
      stored_still is other on = by (same_bytes other name) refl
        where
          by : (b : Bool) → same_bytes other name ≡ b → OnShelf longer other
          by true e = rw (same_bytes_lem other name e) (stored_now is)
          by false e = record { named = on.named; last = rw (with_last_lem no_history l (stored name 0), e) (later_call (stored name 0) (rw e) on.last) }

      stored-shelf : is_name name ≡ true → eqb (place_named k.shelf name) 16 ≡ false → stored_in k.shelf name k.position ≡ laid_out (keeps (after longer).under) 16 (added name h.names)
      stored-shelf is room =
          let now = with_call (stored name 0) (after l) in
          rw (h.shelf, h.position, with_last_lem no_history l (stored name 0))
          (rw (bytes_same name) at
          (store_laid (keeps (after l).under) long_kept name is (keeps now.under) (long (now.under name)) (λ other e. rw e) 16 h.names all_named h.apart
          (rw h.shelf at room)))

      holds-stored : is_name name ≡ true → eqb (place_named k.shelf name) 16 ≡ false → m.shelf ≡ stored_in k.shelf name k.position → Holds longer m
      holds-stored is room left = record {
        position = rw (with_last_lem no_history l (stored name 0)) (same ∙ h.position);
        names = added name h.names;
        apart = distinct_added name h.names h.apart;
        each = every_added (OnShelf longer) name h.names (stored_now is) (every_map (OnShelf l) (OnShelf longer) (stored_still is) h.names h.each);
        shelf = left ∙ stored-shelf is room;
        made = made-last l (stored name 0) (refl, refl) h.made;
      }

      module _ (answer : ℕ) where
        abbrev Stored : Verdict → Type 0
        Stored v = answer ≡ refusal_in v → m.shelf ≡ if_allowed v k.shelf (stored_in k.shelf name k.position) → Holds (l ++ stored name answer ∷ []) m

        holds_store : Stored (first_of (store_tests k.shelf name k.position))
        holds_store =
            let leave : is_quiet answer ≡ true → m.shelf ≡ k.shelf → Holds (l ++ stored name answer ∷ []) m = λ quiet. holds-refused (stored name answer) h quiet same in
            scanned_each Stored (store_tests k.shelf name k.position) (no_5, ((λ bad answered. leave (rw answered)), ((λ full answered. leave (rw answered)), (no_26, tt))))
            (λ passed answered left. rw answered (holds-stored (not-false (is_name name) passed.1.0) passed.1.1.0 left))

    -- ---- a fetch

    module _ (name : List ℕ) (room answer : ℕ) (behind : drop room m.position ≡ drop room k.position) where
      -- what it comes to
      data Fetched : Type 0 where
        refused : is_quiet answer ≡ true → m.position ≡ k.position → Fetched
        given : answer ≡ 0 → OnShelf l name → m.position ≡ keeps (after l).under name → Fetched

      abbrev Fetches : Verdict → Type 0
      Fetches v = answer ≡ refusal_in v → take room m.position ≡ if_allowed v (take room k.position) (fetched_from k.shelf name (take room k.position)) → Fetched

      leave : is_quiet answer ≡ true → take room m.position ≡ take room k.position → Fetched
      leave quiet front = refused quiet (sym (take-append-drop room m.position) ∙ ap₂ ◌++◌ front behind ∙ take-append-drop room k.position)

      fetched_as : Fetches (first_of (fetch_tests k.shelf name (take room k.position)))
      fetched_as =
          scanned_each Fetches (fetch_tests k.shelf name (take room k.position))
          (no_5, ((λ bad answered. leave (rw answered)), ((λ unknown answered. leave (rw answered)), ((λ short answered. leave (rw answered)), tt))))
          (λ passed answered left.
          let there = rw h.shelf at passed.1.1.0 in
          let (on, gives) = fetch_laid (keeps (after l).under) long_kept name (not-false (is_name name) passed.1.0) (OnShelf l) 16 h.names all_named h.each there in
          given answered on
          (put_whole room m.position k.position (keeps (after l).under name) (ap length h.position ∙ long (after l).own) (long_kept name)
          (ltb-false (length (take room k.position)) 281 passed.1.1.1.0) (rw (h.shelf, gives) at left) behind))

      holds-fetch : m.shelf ≡ k.shelf → Fetched → Holds (l ++ fetched name room answer ∷ []) m
      holds-fetch same (refused quiet position) = holds-refused (fetched name room answer) h quiet position same
      holds-fetch same (given accepted on position) = rw accepted (holds_on (fetched name room 0) h same refl (λ other. refl) position (refl, refl))

      gives_last : answer ≡ 0 → Fetched → LastStored name l m.position
      gives_last accepted (refused quiet position) = absurd (false≢true (rw accepted at quiet))
      gives_last accepted (given answered on position) = rw position on.last

-- ---- every list

holds_next : {l : List Call} {k m : Kept} (c : Call) → Holds l k → CallBy k c m → Holds (l ++ c ∷ []) m
holds_next {m = m} (stepped entry numbers answer out) h (did, shelf) = holds_step h m entry numbers answer out shelf did.answered did.left
holds_next {m = m} (stored name answer) h (did, position) = holds_store h m name position answer did.answered did.left
holds_next {m = m} (fetched name room answer) h (did, behind, shelf) =
    holds-fetch h m name room answer behind shelf (fetched_as h m name room answer behind did.answered did.left)

holds_from : (before : List Call) {l : List Call} {k m : Kept} → Holds before k → Calls k l m → Holds (before ++ l) m
holds_from before h stop = rw (append-nil before) h
holds_from before h (next {c = c} {l = l} b calls) = rw (append_assoc before (c ∷ []) l) at (holds_from (before ++ c ∷ []) (holds_next c h b) calls)

holds : {l : List Call} {k : Kept} → Calls start l k → Holds l k
holds calls = holds_from [] holds-start calls

-- an accepted fetch that is the last of a list, behind the calls done and those to come
fetch_gives : (done before : List Call) (name : List ℕ) (room : ℕ) {k m : Kept} → Holds done k → Calls k (before ++ fetched name room 0 ∷ []) m
    → LastStored name (done ++ before) m.position
fetch_gives done [] name room {m = m} h (next (did, behind, shelf) stop) =
    rw (append-nil done) (gives_last h m name room 0 behind refl (fetched_as h m name room 0 behind did.answered did.left))
fetch_gives done (c ∷ before) name room h (next b calls) =
    rw (append_assoc done (c ∷ []) before) at (fetch_gives (done ++ c ∷ []) before name room (holds_next c h b) calls)

-- ---- the theorem

pub calls_hold : {l : List Call} {k : Kept} (calls : Calls start l k) → CallsHold calls
calls_hold {l} calls = record {
  section = (holds calls).position;
  run = history_run fresh (history_of l);
  demand3 = demand3 (history_run fresh (history_of l));
  fetch = λ before name room is. fetch_gives [] before name room holds-start (rw is at calls);
  made = (holds calls).made;
}
