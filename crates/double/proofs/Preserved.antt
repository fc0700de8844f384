-- What every step keeps, whatever its bytes: a well-made section is left well made, and the equation of departures, receipts and line holds after the step where it held
-- before. At a station's side a departure adds its number behind both halves of the equation, a receipt moves the line's first to the receipts, BEGIN empties all three,
-- RESUME finds the line empty, and every other step leaves the three as they were.
-- Assumes nothing.
use Prim.Native.Nat.{ℕ, ◌+◌, ◌≤◌}
use Rattle.double.proofs.Lines.{Made, first_rest, line_length, line_there, made-side, made_of, rising_next, rising_rest, side-made}
use Rattle.double.specs.InOrder.{departed_by, received_by}
use Rattle.double.specs.Sections.{emptied, fresh, line_of, side_of, with_clock, with_side}
use Rattle.double.specs.Steps.{Begin, Decoded, Depart, Event, Receive, Resume}
use Rattle.double.specs.Steps.{cleared, decode, decoded_as, departed, effect_of, is_first, on_decoded, refused, same_station, settled, step_of, tests_of}
use Rattle.double.specs.WellMade.{made_tests, well_made}
use Rattle.double.specs.declared.Section.{Section}
use Rattle.double.specs.declared.Side.{Side}
use Rattle.std.specs.Prelude.{Err, None, Option, Some}
use Rattle.working.proofs.laws.Reasons.{LastPasses, last_passes}
use Rattle.working.proofs.laws.Scans.{scanned}
use Rattle.working.proofs.laws.Tests.{NoneHolds, both, each_holds, every_holds, no_test}
use Rattle.working.specs.Events.{Bad, Says}
use Rattle.working.specs.Sections.{other_at, pad_with}
use Rattle.working.specs.WellMade.{not_later}
use Rattle.working.specs.declared.Read.{Read}
use Rattle.working.specs.declared.Refusal.{Refusal}
use Rattle.working.specs.declared.Station.TheVariants.{A, B}
use Rattle.working.specs.declared.Station.{Station}
use Rattle.working.specs.declared.Stepped.{Stepped}
use borrow.Author.Tests.{le-leb, leb-true, ltb-false, not-false}
use lib.ListN.{drop, length, length-append, length-drop}
use mathlib.Core.Bool.{false, true, ◌&&◌}
use mathlib.Core.List.{List, [], append_assoc, ◌++◌, ◌∷◌}
use mathlib.Core.Path.{ap, refl, sym, ◌∙◌, ◌≡◌}
use native.Mathlib.Omega.{arith}

-- ---- a side, with its line

-- from d to e, where the step makes `sending sent` of the numbers sent from there, and `receiving got` of those received
record Passes (d e : Side) (sending receiving : List ℕ → List ℕ) : Type 0 where
  made : Made e
  order : (sent got : List ℕ) → sent ≡ got ++ line_of d → sending sent ≡ receiving got ++ line_of e

stays : (d : Side) → Made d → Passes d d (λ l. l) (λ l. l)
stays d m = record { made = m; order = λ sent got h. h }

departs : (d : Side) (time : ℕ) → Made d → LastPasses d.len d.last → Passes d (departed d time) (λ l. l ++ (d.last + 1) ∷ []) (λ l. l)
departs d time m p =
    let next : List ℕ = (d.last + 1) ∷ [] in
    let fits : length (line_of d ++ next) ≤ 12 = simp length-append (omega (arith, line_length d, p.room)) in
    record {
      made =
          made-side time (d.last + 1) (Some time) (line_of d ++ next) fits (omega (arith, p.unused)) (rising_next 0 d.last (line_of d) (omega arith) m.rises)
          (le-leb time time (omega arith));
      order = λ sent got h. rw (line_there time (d.last + 1) (Some time) (line_of d ++ next) fits) (ap (◌++ next) h ∙ append_assoc got (line_of d) next);
    }

-- the side of the station that receives, and that of the train it receives
receives : (d : Side) (time : ℕ) → Made d → d.clock ≤ time → Passes d (with_clock d time) (λ l. l) (λ l. l)
receives d time m h =
    record { made = record { last = m.last; len = m.len; rises = m.rises; blank = m.blank; minute = later d.interval m.minute }; order = λ sent got p. p }
  where
    later : (i : Option ℕ) → not_later i d.clock ≡ true → not_later i time ≡ true
    later None p = refl
    later (Some minute) p = le-leb minute time (omega (arith, leb-true minute d.clock p))

clears : (d : Side) (form : ℕ) → Made d → is_first form (line_of d) ≡ true → Passes d (cleared d) (λ l. l) (λ l. l ++ form ∷ [])
clears d form m first =
    let rest : List ℕ = drop 1 (line_of d) in
    let fits : length rest ≤ 12 = simp length-drop (omega (arith, line_length d, m.len)) in
    record {
      made = made-side d.clock d.last d.interval rest fits m.last (rising_rest 0 d.last (line_of d) m.rises) m.minute;
      order = λ sent got h.
          rw (line_there d.clock d.last d.interval rest fits) (h ∙ ap (got ++◌) (first_rest form (line_of d) first) ∙ sym (append_assoc got (form ∷ []) rest));
    }

-- ---- the section

-- what the entry e, that makes r of s, keeps
pub record Keeps (s : Section) (e : Decoded) (r : Stepped Section) : Type 0 where
  pub made : well_made r.section ≡ true
  pub order : (x : Station) (sent got : List ℕ) → sent ≡ got ++ line_of (side_of s x)
      → departed_by x e r.answer sent ≡ received_by (other_at x) e r.answer got ++ line_of (side_of r.section x)

pub side_of_lem : (s : Section) → well_made s ≡ true → (x : Station) → Made (side_of s x)
unfolding well_made
side_of_lem s h A = made_of s.a (each_holds (made_tests s) h).0
side_of_lem s h B = made_of s.b (each_holds (made_tests s) h).1.0

force_with : (s : Section) (x : Station) (d : Side) → (with_side s x d).force ≡ s.force
force_with s A d = refl
force_with s B d = refl

-- by what becomes of each side, where working stays in force
keeps : (s : Section) (e : Decoded) (r : Stepped Section) → r.section.force ≡ true
    → ((x : Station) → Passes (side_of s x) (side_of r.section x) (departed_by x e r.answer) (received_by (other_at x) e r.answer)) → Keeps s e r
unfolding well_made
keeps s e r force each = record {
  made = every_holds (made_tests r.section) (side-made r.section.a (each A).made, (side-made r.section.b (each B).made, (rw force, tt)));
  order = λ x. (each x).order;
}

kept_refusal : (s : Section) (e : Decoded) (why : Refusal) → well_made s ≡ true → Keeps s e (refused s e why)
unfolding well_made
kept_refusal s e why h = record { made = h; order = order e }
  where
    order : (e : Decoded) (x : Station) (sent got : List ℕ) → sent ≡ got ++ line_of (side_of s x)
        → departed_by x e (Err why) sent ≡ received_by (other_at x) e (Err why) got ++ line_of (side_of (refused s e why).section x)
    order (Bad w) A sent got p = p
    order (Bad w) B sent got p = p
    order (Says e) A sent got p = p
    order (Says e) B sent got p = p

-- what an accepted RECEIVE found: the clock, and the first on the other's line
module _ (s : Section) (y : Station) (time : ℕ) (sender : Station) (form : ℕ) (n : NoneHolds (tests_of s (Receive y time sender form))) where
  abbrev theirs : Side
  theirs = side_of s (other_at y)

  in_time : (side_of s y).clock ≤ time
  in_time = ltb-false time (side_of s y).clock n.1.0

  the_first : is_first form (line_of theirs) ≡ true
  the_first = (both (same_station sender (other_at y)) (is_first form (line_of theirs)) (not-false (same_station sender (other_at y) && is_first form (line_of theirs)) n.1.1.0)).1

may_depart : (s : Section) (y : Station) (time : ℕ) → NoneHolds (tests_of s (Depart y time)) → LastPasses (side_of s y).len (side_of s y).last
may_depart s y time n = last_passes (side_of s y).len (side_of s y).last (side_of s y).interval time n.1.1

kept_effect : (s : Section) (e : Event) → well_made s ≡ true → NoneHolds (tests_of s e) → Keeps s (Says e) (effect_of s e)
unfolding pad_with well_made
kept_effect s Begin h n = record { made = refl; order = order }
  where
    order : (x : Station) (sent got : List ℕ) → sent ≡ got ++ line_of (side_of s x) → [] ≡ line_of (side_of (emptied true s.refused) x)
    order A sent got p = refl
    order B sent got p = refl
kept_effect s (Depart y time) h n = keeps s (Says (Depart y time)) (effect_of s (Depart y time)) (force_with s y _ ∙ not-false s.force n.0) (by y n)
  where
    by : (y : Station) → NoneHolds (tests_of s (Depart y time)) → (x : Station)
        → Passes (side_of s x) (side_of (effect_of s (Depart y time)).section x) (departed_by x (Says (Depart y time)) (effect_of s (Depart y time)).answer) (λ l. l)
    by A n A = departs s.a time (side_of_lem s h A) (may_depart s A time n)
    by A n B = stays s.b (side_of_lem s h B)
    by B n A = stays s.a (side_of_lem s h A)
    by B n B = departs s.b time (side_of_lem s h B) (may_depart s B time n)
kept_effect s (Receive y time sender form) h n =
    keeps s (Says (Receive y time sender form)) (effect_of s (Receive y time sender form))
    (force_with (with_side s y _) (other_at y) _ ∙ force_with s y _ ∙ not-false s.force n.0) (by y n)
  where
    by : (y : Station) → NoneHolds (tests_of s (Receive y time sender form)) → (x : Station)
        → Passes (side_of s x) (side_of (effect_of s (Receive y time sender form)).section x) (λ l. l)
        (received_by (other_at x) (Says (Receive y time sender form)) (effect_of s (Receive y time sender form)).answer)
    by A n A = receives s.a time (side_of_lem s h A) (in_time s A time sender form n)
    by A n B = clears s.b form (side_of_lem s h B) (the_first s A time sender form n)
    by B n A = clears s.a form (side_of_lem s h A) (the_first s B time sender form n)
    by B n B = receives s.b time (side_of_lem s h B) (in_time s B time sender form n)
kept_effect s Resume h n = record { made = refl; order = order }
  where
    none : s.a.len + s.b.len ≡ 0
    none = no_test (s.a.len + s.b.len) n.1.0

    order : (x : Station) (sent got : List ℕ) → sent ≡ got ++ line_of (side_of s x) → sent ≡ got ++ line_of (side_of (emptied false s.refused) x)
    order A sent got p = let empty : s.a.len ≡ 0 = omega (arith, none) in rw empty at p
    order B sent got p = let empty : s.b.len ≡ 0 = omega (arith, none) in rw empty at p

-- ---- the step

pub kept : (s : Section) (e : Decoded) → well_made s ≡ true → Keeps s e (on_decoded s e)
kept s (Bad why) h = kept_refusal s (Bad why) why h
kept s (Says e) h = scanned (λ v. Keeps s (Says e) (settled s (Says e) v (effect_of s e))) (tests_of s e) (λ why. kept_refusal s (Says e) why h) (kept_effect s e h)

pub step_keeps : (s : Section) (bytes : List ℕ) → well_made s ≡ true → Keeps s (decode bytes) (step_of s bytes)
unfolding step_of
step_keeps s bytes h = rw h (kept s (decode bytes) h)

pub made_step : (s : Section) (bytes : List ℕ) → well_made s ≡ true → well_made (step_of s bytes).section ≡ true
made_step s bytes h = (step_keeps s bytes h).made

-- the same by what was read
pub made-read : (s : Section) (read : Read) → well_made s ≡ true → well_made (on_decoded s (decoded_as read)).section ≡ true
made-read s read h = (kept s (decoded_as read) h).made

pub fresh-made : well_made fresh ≡ true
unfolding pad_with well_made
fresh-made = refl
