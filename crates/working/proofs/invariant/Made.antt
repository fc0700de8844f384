-- Well made, seen from station x: its desk d, the other's o, the vehicles l. A vehicle that leaves x with the next form number, and one that is received at x, keep it so.
-- Each clause is a law of the vehicles present; there is room for a twenty-fifth vehicle nowhere, since each station has sent at most twelve.
-- Assumes nothing.
use Prim.Native.Nat.{suc, zero, ℕ, ◌+◌, ◌-◌, ◌<◌, ◌≤◌}
use Rattle.working.proofs.invariant.Plans.{Departs}
use Rattle.working.proofs.invariant.Receipts.{Arrives, Receipt, arrives_far, arrives_own, arrives_replied, of_other, of_own, receipt}
use Rattle.working.proofs.laws.Clauses.{DeskMade, MovementMade, Numbered, Shape, desk_of_lem, section-made, section_tests}
use Rattle.working.proofs.laws.Every.{Every, every-all, every_map}
use Rattle.working.proofs.laws.Tests.{and, both, clash, or_second}
use Rattle.working.proofs.laws.Vehicles.{From, NotFrom, differ-insert, eqb_sym, every-end, every-insert, insert-length, not_other, not_own, ordered-own, ordered_far, sum-insert}
use Rattle.working.specs.Acts.{Act}
use Rattle.working.specs.Effects.{Departing, arrive_desk, granted_in, replied}
use Rattle.working.specs.Reasons.{may_enter}
use Rattle.working.specs.Sections.{desk_of, insert_at, number_at, other_at, pad_to, pad_with, unused, vehicles_of, with_desk, with_vehicles}
use Rattle.working.specs.WellMade.{all, count_from, differ, is_blank, is_from, one_if, ordered, same_form, well_made}
use Rattle.working.specs.declared.Desk.{Desk}
use Rattle.working.specs.declared.Section.{Section}
use Rattle.working.specs.declared.Station.TheVariants.{A, B}
use Rattle.working.specs.declared.Station.{Station}
use Rattle.working.specs.declared.Vehicle.{Vehicle}
use borrow.Author.Tests.{eq-eqb, eqb-true, ne_eqb}
use lib.Dec.{eqb}
use lib.ListN.{drop, length, take}
use lib.Seq.{length-take-le}
use mathlib.Core.Bool.{Bool, false, not, or-false, true, ◌&&◌}
use mathlib.Core.List.{List, [], ◌∷◌}
use mathlib.Core.Path.{ap, refl, sym, ◌∙◌, ◌≡◌}
use native.Mathlib.Omega.{arith}

-- ---- well made, seen from station x: its desk d, the other's o

pub record Well (x : Station) (d o : Desk) (l : List Vehicle) : Type 0 where
  pub fits : length l ≤ 24
  pub shape : Every Shape l
  pub order : ordered l ≡ true
  pub distinct : differ l ≡ true
  pub own : DeskMade (number_at x) d l
  pub far : DeskMade (number_at (other_at x)) o l

-- every vehicle is one station's or the other's
pub other_sender : (x : Station) (v : Vehicle) → Shape v → NotFrom x v → From (other_at x) v
other_sender A v h e = or_second (eqb v.sender 1) (eqb v.sender 2) h.sender e
other_sender B v h e = sym (or-false (eqb v.sender 1)) ∙ rw e at h.sender

counted : (x : Station) (l : List Vehicle) → Every Shape l → count_from (number_at x) l + count_from (number_at (other_at x)) l ≡ length l
counted x [] h = refl
counted x (v ∷ l) h = omega (arith, counted x l h.1, by (is_from (number_at x) v) refl)
  where
    by : (b : Bool) → is_from (number_at x) v ≡ b → one_if (is_from (number_at x) v) + one_if (is_from (number_at (other_at x)) v) ≡ 1
    by true from = rw (from, not_other x v from)
    by false from = rw (from, other_sender x v h.0 from)

-- there is room for one more
pub room_of : {x : Station} {d o : Desk} {l : List Vehicle} → Well x d o l → d.sent < 12 → length l < 24
room_of {x} {d} {o} {l} w h = omega (arith, counted x l w.shape, w.own.present, w.far.present, w.far.sent)

-- one with an earlier form number is another
other_form : (v w : Vehicle) (last : ℕ) → Numbered v.sender last w → v.form ≡ last + 1 → same_form v w ≡ false
other_form v w last number next = by (eqb v.sender w.sender) refl
  where
    by : (b : Bool) → eqb v.sender w.sender ≡ b → (b && eqb v.form w.form) ≡ false
    by true is = ne_eqb v.form w.form (λ same. omega (arith, number (eqb_sym w.sender v.sender ∙ is)))
    by false is = refl

count-insert : (n : ℕ) (x : Station) (v : Vehicle) (l : List Vehicle) → count_from n (insert_at x v l) ≡ one_if (is_from n v) + count_from n l
count-insert n = sum-insert (λ v. one_if (is_from n v))

-- a vehicle with the next form number leaves x
pub well-insert : (act : Act) (x : Station) (d o : Desk) (p : Departing) (l : List Vehicle) → Well x d o l → Departs act x d p
    → Well x p.desk o (insert_at x p.vehicle l)
well-insert act x d o p l w q =
    let v = p.vehicle in
    let n = number_at x in
    let m = number_at (other_at x) in
    let from : From x v = eq-eqb v.sender n q.sender in
    let one : one_if (is_from n v) ≡ 1 = rw from in
    let none : one_if (is_from m v) ≡ 0 = rw (not_other x v from) in
    let others : (u : Vehicle) → Numbered n d.last u → not (same_form v u) ≡ true = λ u number. rw (other_form v u d.last (rw q.sender number) q.form) in
    let differs = every-all (λ u. not (same_form v u)) (Numbered n d.last) others l w.own.number in
    let earlier = every_map (Numbered n d.last) (Numbered n p.desk.last) (λ u number from. omega (arith, number from, q.last)) l w.own.number in
    record {
      fits = omega (arith, insert-length x v l, room_of w q.room);
      shape = every-insert Shape x v l q.shape w.shape;
      order = ordered-own x v l q.sender ∙ w.order;
      distinct = differ-insert x v l ∙ and (all (λ u. not (same_form v u)) l) (differ l) differs w.distinct;
      own = record {
        last = omega (arith, q.last, q.unused);
        sent = omega (arith, q.sent, q.room);
        present = omega (arith, count-insert n x v l, w.own.present, q.sent);
        bounds = q.bounds;
        interval = q.interval;
        number = every-insert (Numbered n p.desk.last) x v l (λ from. omega (arith, q.last, q.form)) earlier;
      };
      far = record {
        last = w.far.last;
        sent = w.far.sent;
        present = omega (arith, count-insert m x v l, w.far.present);
        bounds = w.far.bounds;
        interval = w.far.interval;
        number = every-insert (Numbered m o.last) x v l (λ theirs. absurd (clash theirs (not_other x v from))) w.far.number;
      };
    }

-- v is received at x: what does not turn on whose it is
module _ (x : Station) (d o e : Desk) (v : Vehicle) (l : List Vehicle) (w : Well x d o (insert_at x v l)) where
  well_rest : ordered l ≡ true → (m : ℕ) → Arrives d e m → count_from (number_at x) l ≤ m → m ≤ 12 → Well x e o l
  well_rest order m a count sent = record {
    fits = omega (arith, insert-length x v l, w.fits);
    shape = (every-end Shape x v l w.shape).0;
    order = order;
    distinct = (both (all (λ u. not (same_form v u)) l) (differ l) (sym (differ-insert x v l) ∙ w.distinct)).1;
    own = record {
      last = omega (arith, a.last, w.own.last);
      sent = omega (arith, a.sent);
      present = omega (arith, a.sent);
      bounds = a.bounds;
      interval = a.interval;
      number = rw a.last (every-end (Numbered (number_at x) d.last) x v l w.own.number).0;
    };
    far = record {
      last = w.far.last;
      sent = w.far.sent;
      present = omega (arith, count-insert (number_at (other_at x)) x v l, w.far.present);
      bounds = w.far.bounds;
      interval = w.far.interval;
      number = (every-end (Numbered (number_at (other_at x)) o.last) x v l w.far.number).0;
    };
  }

  well-own : From x v → Arrives d e (d.sent - 1) → Well x e o l
  well-own is a =
      let one : one_if (is_from (number_at x) v) ≡ 1 = rw is in
      well_rest (sym (ordered-own x v l (eqb-true v.sender (number_at x) is)) ∙ w.order) (d.sent - 1) a
      (omega (arith, count-insert (number_at x) x v l, w.own.present)) (omega (arith, w.own.sent))

  well_far : NotFrom x v → Arrives d e 0 → Well x e o l
  well_far is a =
      let (order, all-far) = ordered_far x v l is w.order in
      well_rest order 0 a (omega (arith, none_own l all-far)) (omega arith)
    where
      none_own : (l : List Vehicle) → Every (From (other_at x)) l → count_from (number_at x) l ≡ 0
      none_own [] h = refl
      none_own (u ∷ l) h = rw (not_own x u h.0, none_own l h.1)

pub well_arrive : (x : Station) (d o : Desk) (time : ℕ) (v : Vehicle) (l : List Vehicle) → Well x d o (insert_at x v l) → may_enter x v ≡ true
    → Well x (arrive_desk x d time v) o l
well_arrive x d o time v l w may = by (receipt x d time v may)
  where
    moves : MovementMade v.movement v.class
    moves = (every-end Shape x v l w.shape).1.moves

    brings : {e : Desk} {n : ℕ} → Arrives d e n → Arrives d (replied (granted_in v.movement) e) n
    brings {e} {n} = arrives_replied d e n v.movement v.class moves

    by : {e : Desk} → Receipt x d time v e → Well x e o l
    by (of_own is slow) = well-own x d o _ v l w is (brings (arrives_own d time v.movement slow w.own.bounds))
    by (of_other is) = well_far x d o _ v l w is (brings (arrives_far d time v.class v.movement moves w.own.bounds))

-- ---- the section

module _ {T : Type 0} (blank : T) where
  -- what was put in n places is what is read there, and n they stay
  pub front_padded : (n : ℕ) (l : List T) → length l ≤ n → take (length l) (pad_with blank n l) ≡ l
  unfolding pad_with
  front_padded n [] h = refl
  front_padded zero (x ∷ l) h = absurd (omega arith)
  front_padded (suc n) (x ∷ l) h = ap (x ∷◌) (front_padded n l (omega arith))

  pub length_padded : (n : ℕ) (l : List T) → length (pad_with blank n l) ≡ n
  unfolding pad_with
  length_padded zero l = refl
  length_padded (suc n) [] = ap suc (length_padded n [])
  length_padded (suc n) (x ∷ l) = ap suc (length_padded n l)

pub vehicles_with : (n : ℕ) (l : List Vehicle) → length l ≤ n → take (length l) (pad_to n l) ≡ l
vehicles_with n l h = front_padded unused n l h

pub vehicles_after : (s : Section) (x : Station) (e : Desk) (l : List Vehicle) → length l ≤ 24 → vehicles_of (with_desk (with_vehicles s l) x e) ≡ l
vehicles_after s A e l h = vehicles_with 24 l h
vehicles_after s B e l h = vehicles_with 24 l h

pub length-pad_to : (n : ℕ) (l : List Vehicle) → length (pad_to n l) ≡ n
length-pad_to n l = length_padded unused n l

rest_blank : (n : ℕ) (l : List Vehicle) → all is_blank (drop (length l) (pad_to n l)) ≡ true
unfolding pad_with
rest_blank zero [] = refl
rest_blank zero (v ∷ l) = refl
rest_blank (suc n) [] = rest_blank n []
rest_blank (suc n) (v ∷ l) = rest_blank n l

pub length_vehicles : (s : Section) → length s.vehicles ≡ 24 → well_made s ≡ true → length (vehicles_of s) ≡ s.len
length_vehicles s places h = length-take-le s.len s.vehicles (omega (arith, (section-made s h).fits))

pub well_of : (s : Section) (x : Station) → length s.vehicles ≡ 24 → well_made s ≡ true → Well x (desk_of s x) (desk_of s (other_at x)) (vehicles_of s)
well_of s x places h =
    let m = section-made s h in
    record {
      fits = omega (arith, length_vehicles s places h, m.fits);
      shape = m.shape;
      order = m.order;
      distinct = m.distinct;
      own = desk_of_lem s x m;
      far = desk_of_lem s (other_at x) m;
    }

-- the section with the vehicles l and x's desk e
pub made_of : (s : Section) (x : Station) (e : Desk) (l : List Vehicle) → s.force ≡ true → Well x e (desk_of s (other_at x)) l
    → well_made (with_desk (with_vehicles s l) x e) ≡ true
made_of s x e l f w = by x w.own w.far
  where
    present : take (length l) (pad_to 24 l) ≡ l
    present = vehicles_with 24 l w.fits

    made : (d o : Desk) → DeskMade 1 d l → DeskMade 2 o l
        → well_made (record { vehicles = pad_to 24 l; len = length l; force = s.force; refused = s.refused; a = d; b = o }) ≡ true
    made d o own far =
        section_tests _
        (record {
          fits = w.fits;
          blank = rest_blank 24 l;
          shape = rw present w.shape;
          order = rw present w.order;
          distinct = rw present w.distinct;
          a = rw present own;
          b = rw present far;
          idle = rw f;
        })

    by : (x : Station) → DeskMade (number_at x) e l → DeskMade (number_at (other_at x)) (desk_of s (other_at x)) l
        → well_made (with_desk (with_vehicles s l) x e) ≡ true
    by A own far = made e s.b own far
    by B own far = made s.a e far own
