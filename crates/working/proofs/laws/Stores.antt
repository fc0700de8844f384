-- What a store does to a shelf, place by place, and what a fetch reads of it. A well-made shelf is a title with a position for each used place, in order, no title among those
-- behind it, and zeros from the first unused place on. A title is found in its own place, or in the first that is unused; a store puts its title and its position there,
-- and leaves every other place as it was: so the shelf stays one, the position stored is read under its own name, under every other name what was read before, and no used
-- place has another title. All go by induction over the places, each of 293 bytes at the front of those behind it. A title tells its name, since no letter is 0.
-- Assumes nothing.
use Prim.Native.Nat.{suc, zero, ℕ, ◌*◌, ◌+◌, ◌≤◌}
use Rattle.std.specs.Prelude.{Err, None, Ok, Option, Some}
use Rattle.working.proofs.invariant.Made.{length_padded}
use Rattle.working.proofs.laws.Scans.{scanned_each}
use Rattle.working.proofs.laws.Shelves.{same_title, same_when, spelt, title_made}
use Rattle.working.proofs.laws.Tests.{and, both, clash, each_holds, every_holds}
use Rattle.working.proofs.theorems.Positions.{bytes_same, read_then_written, same_bytes_lem}
use Rattle.working.specs.Entries.{every, pasted}
use Rattle.working.specs.Positions.{byte_at, if_allowed, is_position, same_bytes}
use Rattle.working.specs.Refusals.{Verdict, first_of, or_else, refusal_in}
use Rattle.working.specs.Shelves.{Fetches, Stores, fetch_tests, fetched_from, is_among, is_letter, is_name, is_shelf, is_title, is_zero, letters_in, place_for, place_named}
use Rattle.working.specs.Shelves.{places_made, position_in, store_tests, stored_in, title_in, title_of, used_well}
use Rattle.working.specs.declared.Refusal.TheVariants.{BufferTooShort, UnknownName}
use borrow.Author.Tests.{eq-eqb, eqb-true, le-ltb, leb-true, ne_eqb, not-false, not-true}
use lib.Dec.{eqb, eqb-suc-suc, leb, ltb}
use lib.ListN.{drop, get_or-eq_default, length, length-append, length-drop, length-replicate, replicate, take, take-append-drop}
use lib.Seq.{drop-append-add, drop_at, get_or-append-add, length-take-le, take-add, take-append-add, take_at}
use mathlib.Core.Bool.{Bool, cond, false, false≢true, not, or-true, true, true≢false, ◌&&◌}
use mathlib.Core.List.{List, [], append_assoc, ◌++◌, ◌∷◌}
use mathlib.Core.Path.{ap, refl, subst, sym, ◌∙◌, ◌≡◌}
use native.Mathlib.Omega.{arith}

-- ---- names

-- the 12 bytes of a name
record Titled (title : List ℕ) : Type 0 where
  long : length title ≡ 12
  is : is_title title ≡ true

titled : (x : List ℕ) → is_name x ≡ true → Titled (title_of x)
titled x h = record { long = length_padded 0 12 x; is = title_made x h }

first_letter : (title rest : List ℕ) → is_title title ≡ true → eqb (byte_at (title ++ rest) 0) 0 ≡ false
unfolding is_title letters_in
first_letter [] rest h = absurd (false≢true h)
first_letter (b ∷ x) rest h = by (is_letter b) refl (both (leb 1 (letters_in (b ∷ x))) _ h).0
  where
    by : (is : Bool) → is_letter b ≡ is → leb 1 (cond is (suc (letters_in x)) 0) ≡ true → eqb b 0 ≡ false
    by true is e = let least = leb-true 65 b (both (leb 65 b) (leb b 90) is).0 in ne_eqb b 0 (λ zero. omega arith)
    by false is e = absurd (false≢true e)

-- ---- zeros

zero_take : (l : List ℕ) (n : ℕ) → is_zero l ≡ true → is_zero (take n l) ≡ true
unfolding is_zero
zero_take [] zero h = refl
zero_take [] (suc n) h = refl
zero_take (b ∷ l) zero h = refl
zero_take (b ∷ l) (suc n) h = let (first, later) = both (eqb b 0) (is_zero l) h in and (eqb b 0) (is_zero (take n l)) first (zero_take l n later)

zero_drop : (l : List ℕ) (n : ℕ) → is_zero l ≡ true → is_zero (drop n l) ≡ true
unfolding is_zero
zero_drop [] zero h = refl
zero_drop [] (suc n) h = refl
zero_drop (b ∷ l) zero h = h
zero_drop (b ∷ l) (suc n) h = zero_drop l n (both (eqb b 0) (is_zero l) h).1

zero_byte : (l : List ℕ) (i : ℕ) → is_zero l ≡ true → eqb (byte_at l i) 0 ≡ true
unfolding is_zero
zero_byte [] zero h = refl
zero_byte [] (suc i) h = refl
zero_byte (b ∷ l) zero h = (both (eqb b 0) (is_zero l) h).0
zero_byte (b ∷ l) (suc i) h = zero_byte l i (both (eqb b 0) (is_zero l) h).1

pub zero_replicate : (n : ℕ) → is_zero (replicate n 0) ≡ true
unfolding is_zero
zero_replicate zero = refl
zero_replicate (suc n) = zero_replicate n

-- what begins with another byte is not all zeros
not_zero : (l : List ℕ) (n : ℕ) → eqb (byte_at l 0) 0 ≡ false → is_zero (take (suc n) l) ≡ false
unfolding is_zero
not_zero [] n h = absurd (true≢false h)
not_zero (b ∷ l) n h = rw h

-- no title stands among zeros
zero_titled : (places title : List ℕ) → is_zero places ≡ true → is_title title ≡ true → same_bytes (title_in places) title ≡ false
zero_titled places title h is = by (same_bytes (title_in places) title) refl
  where
    by : (b : Bool) → same_bytes (title_in places) title ≡ b → b ≡ false
    by true e =
        let first = first_letter (title_in places) (drop 12 places) (rw (same_bytes_lem (title_in places) title e) is) in
        absurd (clash (zero_byte places 0 h) (rw (take-append-drop 12 places) at first))
    by false e = refl

zero_among : (title : List ℕ) (n : ℕ) (places : List ℕ) → is_title title ≡ true → is_zero places ≡ true → is_among title n places ≡ false
unfolding is_among
zero_among title zero places is h = refl
zero_among title (suc n) places is h = rw (zero_titled places title h is) (zero_among title n (drop 293 places) is (zero_drop places 293 h))

-- ---- a place at the front of others

-- a title and a position, of 293 bytes: what is read of them, and what is read and put further on
record Place (title position rest : List ℕ) : Type 0 where
  long : length (title ++ position) ≡ 293
  first : title_in ((title ++ position) ++ rest) ≡ title
  kept : position_in ((title ++ position) ++ rest) ≡ position
  behind : drop 293 ((title ++ position) ++ rest) ≡ rest
  drop_on : (n : ℕ) → drop (293 * suc n) ((title ++ position) ++ rest) ≡ drop (293 * n) rest
  byte_on : (n : ℕ) → byte_at ((title ++ position) ++ rest) (293 * suc n) ≡ byte_at rest (293 * n)
  put_on : (n : ℕ) (bytes : List ℕ) → pasted ((title ++ position) ++ rest) (293 * suc n) bytes ≡ (title ++ position) ++ pasted rest (293 * n) bytes
  put_here : (bytes : List ℕ) → length bytes ≡ 293 → pasted ((title ++ position) ++ rest) 0 bytes ≡ bytes ++ rest

place : (title position rest : List ℕ) → length title ≡ 12 → length position ≡ 281 → Place title position rest
place title position rest t p = record {
  long = long;
  first = rw (append_assoc title position rest) (take_at title (position ++ rest) 12 t);
  kept = rw (append_assoc title position rest, drop_at title (position ++ rest) 12 t) (take_at position rest 281 p);
  behind = drop_at (title ++ position) rest 293 long;
  drop_on = λ n. rw (from n) (drop-append-add (title ++ position) rest (293 * n));
  byte_on = λ n. rw (from n) (get_or-append-add (title ++ position) rest (293 * n) 0);
  put_on = λ n bytes.
      let end : 293 * suc n + length bytes ≡ length (title ++ position) + (293 * n + length bytes) = omega (arith, long) in
      rw (end, from n, take-append-add (title ++ position) rest (293 * n), drop-append-add (title ++ position) rest (293 * n + length bytes))
      (append_assoc (title ++ position) (take (293 * n) rest) (bytes ++ drop (293 * n + length bytes) rest));
  put_here = λ bytes e. rw (e, drop_at (title ++ position) rest 293 long);
}
  where
    long : length (title ++ position) ≡ 293
    long = length-append title position ∙ omega arith

    from : (n : ℕ) → 293 * suc n ≡ length (title ++ position) + 293 * n
    from n = omega (arith, long)

-- the bytes of a place or more are such a place and what is behind it
split : (places : List ℕ) → places ≡ (title_in places ++ position_in places) ++ drop 293 places
split places = sym (take-append-drop 293 places) ∙ ap (◌++ drop 293 places) (take-add 12 281 places)

-- ---- the places of a shelf

-- a used place: its title, which none of those behind it has, and its position
record Used (n : ℕ) (title position rest : List ℕ) : Type 0 where
  titled : Titled title
  well : is_position position ≡ true
  once : is_among title n rest ≡ false

data Places : ℕ → List ℕ → Type 0 where
  unused : {n : ℕ} {places : List ℕ} → length places ≡ 293 * n → is_zero places ≡ true → Places n places
  used : {n : ℕ} {title position rest : List ℕ} → Used n title position rest → Places n rest → Places (suc n) ((title ++ position) ++ rest)

module _ {n : ℕ} {title position rest : List ℕ} (u : Used n title position rest) where
  at : Place title position rest
  at = place title position rest u.titled.long (read_then_written position u.well).0

  starts : eqb (byte_at ((title ++ position) ++ rest) 0) 0 ≡ false
  starts = rw (append_assoc title position rest) (first_letter title (position ++ rest) u.titled.is)

  place_here : (other : List ℕ) → same_bytes title other ≡ true → place_for other (suc n) ((title ++ position) ++ rest) ≡ 0
  unfolding place_for
  place_here other same = rw (at.first, same)

  among_here : is_among title (suc n) ((title ++ position) ++ rest) ≡ true
  unfolding is_among
  among_here = rw (at.first, bytes_same title)

  module _ (other : List ℕ) (differs : same_bytes title other ≡ false) where
    place_later : place_for other (suc n) ((title ++ position) ++ rest) ≡ suc (place_for other n rest)
    unfolding place_for
    place_later = rw (at.first, at.behind, differs, starts)

    among_later : is_among other (suc n) ((title ++ position) ++ rest) ≡ is_among other n rest
    unfolding is_among
    among_later = rw (at.first, at.behind, differs)

place-unused : (title : List ℕ) (n : ℕ) (places : List ℕ) → is_zero places ≡ true → place_for title (suc n) places ≡ 0
unfolding place_for
place-unused title n places h = rw (zero_byte places 0 h, or-true (same_bytes (title_in places) title))

places_of : (n : ℕ) (places : List ℕ) → length places ≡ 293 * n → places_made n places ≡ true → Places n places
unfolding is_zero places_made used_well
places_of zero [] long made = unused long refl
places_of zero (b ∷ places) long made = absurd (omega arith)
places_of (suc n) places long made = by (is_zero (take 293 places)) made (places_of n (drop 293 places) (length-drop 293 places ∙ omega arith))
  where
    rest : List ℕ
    rest = drop 293 places

    by : (None : Bool) → cond None (is_zero places) (used_well n places && places_made n rest) ≡ true → (places_made n rest ≡ true → Places n rest) → Places (suc n) places
    by true zeros later = unused long zeros
    by false made later =
        let (here, behind) = both (used_well n places) (places_made n rest) made in
        let (title, (position, (once, end))) =
        each_holds (is_title (title_in places) ∷ is_position (position_in places) ∷ not (is_among (title_in places) n rest) ∷ []) here in
        subst (Places (suc n)) (sym (split places))
        (used (record { titled = record { long = length-take-le 12 places (omega arith); is = title }; well = position; once = not-true (is_among (title_in places) n rest) once })
        (later behind))

places-made : {n : ℕ} {places : List ℕ} → Places n places → (length places ≡ 293 * n) × (places_made n places ≡ true)
unfolding places_made used_well
places-made (unused {n} {places} long zeros) = (long, by n)
  where
    by : (n : ℕ) → places_made n places ≡ true
    by zero = refl
    by (suc n) = rw (zero_take places 293 zeros) zeros
places-made (used {n} {title} {position} {rest} u p) =
    let (long, made) = places-made p in
    let tests = is_title title ∷ is_position position ∷ not (is_among title n rest) ∷ [] in (
      length-append (title ++ position) rest ∙ omega (arith, (at u).long),
      rw (not_zero ((title ++ position) ++ rest) 292 (starts u), (at u).first, (at u).kept, (at u).behind)
          (and (every tests) (places_made n rest) (every_holds tests (u.titled.is, (u.well, (ap not u.once, tt)))) made),
    )

-- ---- what is read under a title

abbrev read_from : ℕ → List ℕ → Option (List ℕ)
read_from i places = cond (eqb (byte_at places (293 * i)) 0) None (Some (position_in (drop (293 * i) places)))

abbrev reading : List ℕ → ℕ → List ℕ → Option (List ℕ)
reading title n places = read_from (place_for title n places) places

read_here : {n : ℕ} {title position rest : List ℕ} → Used n title position rest → reading title (suc n) ((title ++ position) ++ rest) ≡ Some position
read_here {title = title} u = rw (place_here u title (bytes_same title), starts u, (at u).kept)

read_later : {n : ℕ} {title position rest : List ℕ} → Used n title position rest → (other : List ℕ) → same_bytes title other ≡ false
    → reading other (suc n) ((title ++ position) ++ rest) ≡ reading other n rest
read_later {n} {rest = rest} u other differs =
    rw (place_later u other differs, (at u).byte_on (place_for other n rest), (at u).drop_on (place_for other n rest))

read-unused : (title : List ℕ) (n : ℕ) (places : List ℕ) → is_zero places ≡ true → reading title n places ≡ None
read-unused title n places h = rw (zero_byte places (293 * place_for title n places) h)

-- ---- a store

-- what a title and a position are put into, of so many places
abbrev stored : List ℕ → List ℕ → ℕ → List ℕ → List ℕ
stored title position n places = pasted places (293 * place_for title n places) (title ++ position)

-- and what that leaves
record Leaves (title position : List ℕ) (n : ℕ) (places after : List ℕ) : Type 0 where
  made : Places n after
  there : reading title n after ≡ Some position
  others : (u : List ℕ) → is_title u ≡ true → same_bytes title u ≡ false → (reading u n after ≡ reading u n places) × (is_among u n after ≡ is_among u n places)
  titles : (i : ℕ) → eqb (byte_at places (293 * i)) 0 ≡ false → title_in (drop (293 * i) after) ≡ title_in (drop (293 * i) places)

module _ (t p : List ℕ) (title : Titled t) (well : is_position p ≡ true) where
  long-stored : length (t ++ p) ≡ 293
  long-stored = (place t p [] title.long (read_then_written p well).0).long

  leaves_unused : (n : ℕ) (places : List ℕ) → length places ≡ 293 * n → is_zero places ≡ true → eqb (place_for t n places) n ≡ false → Leaves t p n places (stored t p n places)
  unfolding place_for
  leaves_unused zero places long zeros room = absurd (true≢false room)
  leaves_unused (suc n) places long zeros room =
      let behind = zero_drop places 293 zeros in
      let now : Used n t p (drop 293 places) = record { titled = title; well = well; once = zero_among t n (drop 293 places) title.is behind } in
      rw (place-unused t n places zeros, long-stored) (record {
        made = used now (unused {n = n} (length-drop 293 places ∙ omega arith) behind);
        there = read_here now;
        others = λ u is differs. (
          read_later now u differs ∙ read-unused u n (drop 293 places) behind ∙ sym (read-unused u (suc n) places zeros),
          among_later now u differs ∙ zero_among u n (drop 293 places) is behind ∙ sym (zero_among u (suc n) places is zeros),
        );
        titles = λ i is-used. absurd (clash (zero_byte places (293 * i) zeros) is-used);
      })

  module _ {n : ℕ} {first position rest : List ℕ} (u : Used n first position rest) where
    leaves_here : Places n rest → first ≡ t → Leaves t p (suc n) ((first ++ position) ++ rest) ((t ++ p) ++ rest)
    leaves_here behind same = record {
      made = used now behind;
      there = read_here now;
      others = λ v is differs.
          let before : same_bytes first v ≡ false = rw same differs in
          (read_later now v differs ∙ sym (read_later u v before), among_later now v differs ∙ sym (among_later u v before));
      titles = titles;
    }
      where
        now : Used n t p rest
        now = record { titled = title; well = well; once = rw same at u.once }

        titles : (i : ℕ) → eqb (byte_at ((first ++ position) ++ rest) (293 * i)) 0 ≡ false
            → title_in (drop (293 * i) ((t ++ p) ++ rest)) ≡ title_in (drop (293 * i) ((first ++ position) ++ rest))
        titles zero is-used = (at now).first ∙ sym same ∙ sym (at u).first
        titles (suc i) is-used = ap title_in ((at now).drop_on i ∙ sym ((at u).drop_on i))

    leaves_later : same_bytes first t ≡ false → {after : List ℕ} → Leaves t p n rest after → Leaves t p (suc n) ((first ++ position) ++ rest) ((first ++ position) ++ after)
    leaves_later differs {after} later = record {
      made = used now later.made;
      there = read_later now t differs ∙ later.there;
      others = λ v is other. others v is other (same_bytes first v) refl;
      titles = titles;
    }
      where
        now : Used n first position after
        now = record { titled = u.titled; well = u.well; once = (later.others first u.titled.is (same_when t first first t sym sym ∙ differs)).1 ∙ u.once }

        others : (v : List ℕ) → is_title v ≡ true → same_bytes t v ≡ false → (same : Bool) → same_bytes first v ≡ same
            → (reading v (suc n) ((first ++ position) ++ after) ≡ reading v (suc n) ((first ++ position) ++ rest))
            × (is_among v (suc n) ((first ++ position) ++ after) ≡ is_among v (suc n) ((first ++ position) ++ rest))
        others v is other true e = rw (sym (same_bytes_lem first v e)) (read_here now ∙ sym (read_here u), among_here now ∙ sym (among_here u))
        others v is other false e =
            let (read, among) = later.others v is other in
            (read_later now v e ∙ read ∙ sym (read_later u v e), among_later now v e ∙ among ∙ sym (among_later u v e))

        titles : (i : ℕ) → eqb (byte_at ((first ++ position) ++ rest) (293 * i)) 0 ≡ false
            → title_in (drop (293 * i) ((first ++ position) ++ after)) ≡ title_in (drop (293 * i) ((first ++ position) ++ rest))
        titles zero is-used = (at now).first ∙ sym (at u).first
        titles (suc i) is-used = rw ((at now).drop_on i, (at u).drop_on i) (later.titles i (rw ((at u).byte_on i) at is-used))

  leaves : {n : ℕ} {places : List ℕ} → Places n places → eqb (place_for t n places) n ≡ false → Leaves t p n places (stored t p n places)
  leaves (unused {n} {places} long zeros) room = leaves_unused n places long zeros room
  leaves (used {n} {title = first} {position} {rest} u behind) room = by (same_bytes first t) refl (λ later. leaves behind later)
    where
      by : (same : Bool) → same_bytes first t ≡ same → (eqb (place_for t n rest) n ≡ false → Leaves t p n rest (stored t p n rest))
          → Leaves t p (suc n) ((first ++ position) ++ rest) (stored t p (suc n) ((first ++ position) ++ rest))
      by true e later = rw (place_here u t e, (at u).put_here (t ++ p) long-stored) (leaves_here u behind (same_bytes_lem first t e))
      by false e later =
          rw (place_later u t e, (at u).put_on (place_for t n rest) (t ++ p))
          (leaves_later u e (later (sym (eqb-suc-suc (place_for t n rest) n) ∙ (rw (place_later u t e) at room))))

-- ---- of a shelf and names

-- what a shelf keeps under a name
abbrev pub kept_in : List ℕ → List ℕ → Option (List ℕ)
kept_in shelf name = reading (title_of name) 16 shelf

pub record StoreLeaves (shelf name position after : List ℕ) : Type 0 where
  pub made : is_shelf after ≡ true
  pub there : kept_in after name ≡ Some position
  pub others : (other : List ℕ) → is_name other ≡ true → same_bytes other name ≡ false → kept_in after other ≡ kept_in shelf other
  pub titles : (i : ℕ) → eqb (byte_at shelf (293 * i)) 0 ≡ false → title_in (drop (293 * i) after) ≡ title_in (drop (293 * i) shelf)

pub store_leaves : (shelf name position : List ℕ) → is_shelf shelf ≡ true → is_name name ≡ true → eqb (place_named shelf name) 16 ≡ false → is_position position ≡ true
    → StoreLeaves shelf name position (stored_in shelf name position)
unfolding is_shelf
store_leaves shelf name position made is room well =
    let (long, places) = both (eqb (length shelf) 4688) (places_made 16 shelf) made in
    let left = leaves (title_of name) position (titled name is) well (places_of 16 shelf (eqb-true (length shelf) 4688 long) places) room in
    let after = stored_in shelf name position in
    let (long_after, Made-after) = places-made left.made in
    record {
      made = and (eqb (length after) 4688) (places_made 16 after) (eq-eqb (length after) 4688 long_after) Made-after;
      there = left.there;
      others = λ other named differs.
          (left.others (title_of other) (title_made other named)
          (same_title (spelt name is) (spelt other named) ∙ same_when name other other name sym sym ∙ differs)).0;
      titles = left.titles;
    }

pub empty_made : is_shelf (replicate 4688 0) ≡ true
unfolding is_shelf
empty_made =
    let (long, made) = places-made (unused {n = 16} (length-replicate {A = ℕ} 4688 0) (zero_replicate 4688)) in
    and (eqb (length (replicate {A = ℕ} 4688 0)) 4688) (places_made 16 (replicate 4688 0)) (eq-eqb (length (replicate {A = ℕ} 4688 0)) 4688 long) made

pub zero_keeps : (shelf : List ℕ) → is_zero shelf ≡ true → (name : List ℕ) → kept_in shelf name ≡ None
zero_keeps shelf zeros name = read-unused (title_of name) 16 shelf zeros

-- ---- a fetch, by what the shelf keeps under its name

abbrev pub verdict_on : Option (List ℕ) → List ℕ → Verdict
verdict_on None buffer = Err UnknownName
verdict_on (Some position) buffer = or_else (ltb (length buffer) 281) BufferTooShort (Ok tt)

abbrev pub given_from : Option (List ℕ) → List ℕ → List ℕ
given_from None buffer = buffer
given_from (Some position) buffer = pasted buffer 0 position

fetch_by : (shelf name buffer : List ℕ) → is_shelf shelf ≡ true → is_name name ≡ true
    → (first_of (fetch_tests shelf name buffer) ≡ verdict_on (kept_in shelf name) buffer)
    × (if_allowed (first_of (fetch_tests shelf name buffer)) buffer (fetched_from shelf name buffer)
    ≡ if_allowed (verdict_on (kept_in shelf name) buffer) buffer (given_from (kept_in shelf name) buffer))
fetch_by shelf name buffer made is = rw (made, is) (by (eqb (byte_at shelf (293 * place_named shelf name)) 0))
  where
    there : List ℕ
    there = position_in (drop (293 * place_named shelf name) shelf)

    by : (none_there : Bool)
        → (or_else none_there UnknownName (or_else (ltb (length buffer) 281) BufferTooShort (Ok tt)) ≡ verdict_on (cond none_there None (Some there)) buffer)
        × (if_allowed (or_else none_there UnknownName (or_else (ltb (length buffer) 281) BufferTooShort (Ok tt))) buffer (pasted buffer 0 there)
        ≡ if_allowed (verdict_on (cond none_there None (Some there)) buffer) buffer (given_from (cond none_there None (Some there)) buffer))
    by true = (refl, refl)
    by false = (refl, refl)

-- where two shelves keep the same under a name, a fetch of it is the same
pub fetch-same : (shelf left name buffer : List ℕ) {answer : ℕ} {after : List ℕ} → is_shelf shelf ≡ true → is_shelf left ≡ true
    → (is_name name ≡ true → kept_in left name ≡ kept_in shelf name) → Fetches shelf name buffer answer after → Fetches left name buffer answer after
fetch-same shelf left name buffer {answer} {after} made still same did = by (is_name name) refl
  where
    by : (is : Bool) → is_name name ≡ is → Fetches left name buffer answer after
    by true is =
        let (verdict, gives) = fetch_by shelf name buffer made is in
        let (verdict-left, gives_left) = fetch_by left name buffer still is in
        record {
          answered = did.answered ∙ ap refusal_in (verdict ∙ ap (λ (o : Option (List ℕ)). verdict_on o buffer) (sym (same is)) ∙ sym verdict-left);
          left = did.left ∙ gives ∙ ap (λ (o : Option (List ℕ)). if_allowed (verdict_on o buffer) buffer (given_from o buffer)) (sym (same is)) ∙ sym gives_left;
        }
    by false is = record { answered = did.answered ∙ rw (made, still, is); left = did.left ∙ rw (made, still, is) }

-- ---- a store, by what it is answered

pub data Stored (shelf name position : List ℕ) (answer : ℕ) (left : List ℕ) : Type 0 where
  refused : eqb answer 0 ≡ false → left ≡ shelf → Stored shelf name position answer left
  accepted : answer ≡ 0 → is_shelf shelf ≡ true → is_name name ≡ true → StoreLeaves shelf name position left → Stored shelf name position answer left

module _ {shelf name position : List ℕ} {answer : ℕ} {left : List ℕ} (did : Stores shelf name position answer left) where
  abbrev Scan : Verdict → Type 0
  Scan v = answer ≡ refusal_in v → left ≡ if_allowed v shelf (stored_in shelf name position) → Stored shelf name position answer left

  scan : Scan (first_of (store_tests shelf name position))
  scan =
      let leave : eqb answer 0 ≡ false → left ≡ shelf → Stored shelf name position answer left = refused in
      scanned_each Scan (store_tests shelf name position)
      ((λ h answered. leave (rw answered)), ((λ h answered. leave (rw answered)), ((λ h answered. leave (rw answered)), ((λ h answered. leave (rw answered)), tt))))
      (λ passed answered put.
      let made = not-false (is_shelf shelf) passed.0 in
      let is = not-false (is_name name) passed.1.0 in
      accepted answered made is (rw put (store_leaves shelf name position made is passed.1.1.0 (not-false (is_position position) passed.1.1.1.0))))

  pub store_by : Stored shelf name position answer left
  store_by = scan did.answered did.left

-- ---- calls that there are

pub store_given : (shelf name position : List ℕ) → is_shelf shelf ≡ true → is_name name ≡ true → eqb (place_named shelf name) 16 ≡ false → is_position position ≡ true
    → Stores shelf name position 0 (stored_in shelf name position)
store_given shelf name position made is room well = record { answered = rw (made, is, room, well); left = rw (made, is, room, well) }

pub fetch_of : (shelf name buffer : List ℕ) → is_shelf shelf ≡ true → is_name name ≡ true
    → Fetches shelf name buffer (refusal_in (verdict_on (kept_in shelf name) buffer)) (if_allowed (verdict_on (kept_in shelf name) buffer) buffer (given_from (kept_in shelf name) buffer))
fetch_of shelf name buffer made is = let (verdict, gives) = fetch_by shelf name buffer made is in record { answered = ap refusal_in (sym verdict); left = sym gives }

pub fetch_given : (shelf name buffer : List ℕ) {position : List ℕ} → is_shelf shelf ≡ true → is_name name ≡ true → kept_in shelf name ≡ Some position → 281 ≤ length buffer
    → Fetches shelf name buffer 0 (pasted buffer 0 position)
fetch_given shelf name buffer made is there room = rw (there, le-ltb (length buffer) 281 room) at (fetch_of shelf name buffer made is)

-- there is room for a name that is on the shelf; on an empty shelf; and behind one other name there
pub room-kept : (shelf name : List ℕ) {position : List ℕ} → is_shelf shelf ≡ true → kept_in shelf name ≡ Some position → eqb (place_named shelf name) 16 ≡ false
unfolding is_shelf
room-kept shelf name made there =
    ne_eqb (place_named shelf name) 16 (λ last.
    let long : length shelf ≡ 4688 = eqb-true (length shelf) 4688 (both (eqb (length shelf) 4688) (places_made 16 shelf) made).0 in
    let nothing : eqb (byte_at shelf 4688) 0 ≡ true = eq-eqb (byte_at shelf 4688) 0 (get_or-eq_default shelf 0 {n = 4688} (omega arith)) in
    let z : None ≡ Some _ = sym (rw (last, nothing)) ∙ there in
    let f : ◌≡◌ {A = ℕ} 0 1 = cc in
    omega arith)

module _ (shelf : List ℕ) (zeros : is_zero shelf ≡ true) where
  pub room_empty : (name : List ℕ) → eqb (place_named shelf name) 16 ≡ false
  room_empty name = rw (place-unused (title_of name) 15 shelf zeros)

  pub room_second : (name other position : List ℕ) → is_name name ≡ true → is_name other ≡ true → same_bytes name other ≡ false → is_position position ≡ true
      → eqb (place_named (stored_in shelf name position) other) 16 ≡ false
  room_second name other position is named differs well =
      let rest = drop 293 shelf in
      let now : Used 15 (title_of name) position rest = record {
        titled = titled name is;
        well = well;
        once = zero_among (title_of name) 15 rest (title_made name is) (zero_drop shelf 293 zeros);
      } in
      rw (
        place-unused (title_of name) 15 shelf zeros,
        (at now).long,
        place_later now (title_of other) (same_title (spelt name is) (spelt other named) ∙ differs),
        place-unused (title_of other) 14 rest (zero_drop shelf 293 zeros),
      )
