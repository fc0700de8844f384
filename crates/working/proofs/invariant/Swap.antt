-- Two accepted entries of different stations, no MEET, the second not receiving what the first sent, change places: the same answers and the same section.
-- Each reads and alters its own desk and its own end of the section. They could meet only with one vehicle in it: a departure into an empty section and its receipt
-- at the other end, which is excluded, or two receipts of one vehicle, of which the second would be refused. It holds on every well-made section.
-- Assumes nothing.
use Prim.Native.Nat.{ℕ, ◌+◌, ◌<◌, ◌≤◌}
use Rattle.std.specs.Prelude.{Err}
use Rattle.working.proofs.invariant.Changes.{Sound, named_there, sound_step, step_is, well_at}
use Rattle.working.proofs.invariant.Made.{room_of, vehicles_after}
use Rattle.working.proofs.invariant.Plans.{Fate, arrives, departs, fate, refuses}
use Rattle.working.proofs.laws.Ranges.{ranged_of}
use Rattle.working.proofs.laws.Tests.{both, clash}
use Rattle.working.proofs.laws.Vehicles.{Nearest, insert-length, nearest, nearest_insert, remove-insert, remove-short}
use Rattle.working.specs.Acts as acts
use Rattle.working.specs.Acts.{Act}
use Rattle.working.specs.Answers.{Answer, accept}
use Rattle.working.specs.Effects.{Arrive, Depart, Plan, Refuse}
use Rattle.working.specs.Events.{At, Decoded, Says, decode}
use Rattle.working.specs.Reasons.{is_named}
use Rattle.working.specs.Sections.{desk_of, insert_at, nearest_at, number_at, remove_at, vehicles_of, with_desk, with_vehicles}
use Rattle.working.specs.Steps.{done_by, entered, on_decoded, plan_of, step_of}
use Rattle.working.specs.Terms.{ReceivesIt, is_departure, is_some}
use Rattle.working.specs.Turns.{is_accepted}
use Rattle.working.specs.declared.Desk.{Desk}
use Rattle.working.specs.declared.Section.{Section}
use Rattle.working.specs.declared.Speed.TheVariants.{NoSpeed}
use Rattle.working.specs.declared.Station.TheVariants.{A, B}
use Rattle.working.specs.declared.Station.{Station}
use Rattle.working.specs.declared.Stepped.{Stepped}
use Rattle.working.specs.declared.Vehicle.{Vehicle}
use borrow.Author.Tests.{eqb-true}
use lib.Dec.{eqb}
use lib.ListN.{length}
use mathlib.Core.Bool.{Bool, false, false≢true, true}
use mathlib.Core.List.{List, [], ◌∷◌}
use mathlib.Core.Path.{ap, ap₂, refl, sym, ◌∙◌, ◌≡◌}
use native.Mathlib.Omega.{arith}

pub data Opposite : Station → Station → Type 0 where
  ab : Opposite A B
  ba : Opposite B A

pub flip : {x y : Station} → Opposite x y → Opposite y x
flip ab = ba
flip ba = ab

-- ---- the two ends

module _ {x y : Station} (o : Opposite x y) where
  far_insert : (v w : Vehicle) (l : List Vehicle) → insert_at x v (insert_at y w l) ≡ insert_at y w (insert_at x v l)
  far_insert v w l = by o
    where
      by : {x y : Station} → Opposite x y → insert_at x v (insert_at y w l) ≡ insert_at y w (insert_at x v l)
      by ab = refl
      by ba = refl

  -- one enters at x
  inserted : (v : Vehicle) (l : List Vehicle) (k : Nearest y l) → insert_at x v l ≡ insert_at y k.vehicle (insert_at x v k.others)
  inserted v l k = ap (insert_at x v) k.whole ∙ far_insert v k.vehicle k.others

  near_inserted : (v : Vehicle) (l : List Vehicle) → 0 < length l → nearest_at y (insert_at x v l) ≡ nearest_at y l
  near_inserted v l h = let k = nearest y l h in ap (nearest_at y) (inserted v l k) ∙ nearest_insert y k.vehicle (insert_at x v k.others) ∙ sym k.near

  remove_inserted : (v : Vehicle) (l : List Vehicle) → 0 < length l → remove_at y (insert_at x v l) ≡ insert_at x v (remove_at y l)
  remove_inserted v l h =
      let k = nearest y l h in
      ap (remove_at y) (inserted v l k) ∙ remove-insert y k.vehicle (insert_at x v k.others) ∙ ap (insert_at x v) (sym k.rest)

  -- one leaves at x and another is left
  near_removed : (l : List Vehicle) → 2 ≤ length l → nearest_at y (remove_at x l) ≡ nearest_at y l
  near_removed l h =
      let k = nearest x l (omega arith) in
      ap (nearest_at y) k.rest ∙ sym (near_inserted k.vehicle k.others (omega (arith, k.size))) ∙ ap (nearest_at y) (sym k.whole)

  removed_both : (l : List Vehicle) → 2 ≤ length l → remove_at y (remove_at x l) ≡ remove_at x (remove_at y l)
  removed_both l h =
      let k = nearest x l (omega arith) in
      let far = ap (remove_at y) k.whole ∙ remove_inserted k.vehicle k.others (omega (arith, k.size)) in
      ap (remove_at y) k.rest ∙ sym (ap (remove_at x) far ∙ remove-insert x k.vehicle (remove_at y k.others))

-- ---- a plan's effect at its station's end

-- how many it takes out of the section
abbrev takes : Plan → ℕ
takes (Refuse r) = 0
takes (Depart p) = 0
takes (Arrive d) = 1

abbrev vehicles_by : Station → Plan → List Vehicle → List Vehicle
vehicles_by x (Refuse r) l = l
vehicles_by x (Depart p) l = insert_at x p.vehicle l
vehicles_by x (Arrive d) l = remove_at x l

abbrev desk_by : Plan → Desk → Desk
desk_by (Refuse r) e = e
desk_by (Depart p) e = p.desk
desk_by (Arrive d) e = d

abbrev answer_by : Plan → Answer
answer_by (Refuse r) = Err r
answer_by (Depart p) = accept p.vehicle.form p.order.forms p.order.speed
answer_by (Arrive d) = accept 0 0 NoSpeed

abbrev Accepts : Plan → Type 0
Accepts p = is_accepted (answer_by p) ≡ true

abbrev section_by : Section → Station → Plan → Section
section_by s x p = with_desk (with_vehicles s (vehicles_by x p (vehicles_of s))) x (desk_by p (desk_of s x))

done_answer : (s : Section) (e : Decoded) (x : Station) (p : Plan) → (done_by s e x p).answer ≡ answer_by p
done_answer s e x (Refuse r) = refl
done_answer s e x (Depart p) = refl
done_answer s e x (Arrive d) = refl

done_section : (s : Section) (e : Decoded) (x : Station) (p : Plan) → Accepts p → (done_by s e x p).section ≡ section_by s x p
done_section s e x (Refuse r) ok = absurd (false≢true ok)
done_section s e x (Depart p) ok = refl
done_section s e x (Arrive d) ok = refl

-- the other end is as it was
near_by : {x y : Station} → Opposite x y → (p : Plan) (l : List Vehicle) → takes p + 1 ≤ length l → nearest_at y (vehicles_by x p l) ≡ nearest_at y l
near_by o (Refuse r) l h = refl
near_by o (Depart p) l h = near_inserted o p.vehicle l (omega arith)
near_by o (Arrive d) l h = near_removed o l (omega arith)

vehicles_by_lem : {x y : Station} → Opposite x y → (p q : Plan) (l : List Vehicle) → takes p + takes q ≤ length l
    → vehicles_by y q (vehicles_by x p l) ≡ vehicles_by x p (vehicles_by y q l)
vehicles_by_lem o (Refuse r) q l h = refl
vehicles_by_lem o (Depart p) (Refuse r) l h = refl
vehicles_by_lem o (Depart p) (Depart q) l h = sym (far_insert o p.vehicle q.vehicle l)
vehicles_by_lem o (Depart p) (Arrive e) l h = remove_inserted o p.vehicle l (omega arith)
vehicles_by_lem o (Arrive d) (Refuse r) l h = refl
vehicles_by_lem o (Arrive d) (Depart q) l h = sym (remove_inserted (flip o) q.vehicle l (omega arith))
vehicles_by_lem o (Arrive d) (Arrive e) l h = removed_both o l (omega arith)

fits_by : (s : Section) (x : Station) → Sound s → {act : Act} {f : Bool} {t : ℕ} {v : Vehicle} {p : Plan} → Fate act x f (desk_of s x) t v p
    → length (vehicles_by x p (vehicles_of s)) ≤ 24
fits_by s x g (refuses r) = (well_at s x g).fits
fits_by s x g (departs {p} f k) = omega (arith, insert-length x p.vehicle (vehicles_of s), room_of (well_at s x g) k.room)
fits_by s x g (arrives y n is f named may) = omega (arith, remove-short x (vehicles_of s), (well_at s x g).fits)

-- ---- what a plan reads

-- only a RECEIVE reads the vehicle nearest the station
plan_same : (act : Act) (x : Station) (f : Bool) (d : Desk) (t : ℕ) (v w : Vehicle) → (is_departure act ≡ false → v ≡ w)
    → plan_of act x f d t v ≡ plan_of act x f d t w
plan_same (acts.Open a b c) x f d t v w h = refl
plan_same (acts.Through a) x f d t v w h = refl
plan_same (acts.Return a b) x f d t v w h = refl
plan_same (acts.Train e a b c) x f d t v w h = refl
plan_same (acts.Receive y n) x f d t v w h = ap (plan_of (acts.Receive y n) x f d t) (h refl)

takes_one : {act : Act} {x : Station} {f : Bool} {d : Desk} {t : ℕ} {v : Vehicle} {p : Plan} → Fate act x f d t v p → Accepts p
    → is_departure act ≡ false → takes p ≡ 1
takes_one (refuses r) ok receives = absurd (false≢true ok)
takes_one (departs f k) ok receives = absurd (clash (ap is_some k.kind) receives)
takes_one (arrives y n is f named may) ok receives = refl

-- into an empty section and out again at the other end: the second receives what the first sent
one_there : (x y : Station) (v : Vehicle) → nearest_at y (insert_at x v []) ≡ v
one_there A A v = refl
one_there A B v = refl
one_there B A v = refl
one_there B B v = refl

same-station : (x z : Station) → eqb (number_at x) (number_at z) ≡ true → z ≡ x
same-station A A h = refl
same-station A B h = absurd (false≢true h)
same-station B A h = absurd (false≢true h)
same-station B B h = refl

just_sent : (x y z : Station) (n : ℕ) (v : Vehicle) → v.sender ≡ number_at x → is_named z n (nearest_at y (insert_at x v [])) ≡ true
    → acts.Receive z n ≡ acts.Receive x v.form
just_sent x y z n v from named =
    let (sender, form) = both (eqb v.sender (number_at z)) (eqb v.form n) (rw (one_there x y v) at named) in
    ap₂ acts.Receive (same-station x z (rw from at sender)) (sym (eqb-true v.form n form))

-- so two that are accepted find enough vehicles l, whichever goes first
enough : (l : List Vehicle) {x y : Station} {act bct : Act} {f : Bool} {d e : Desk} {t u : ℕ} {p q : Plan}
    → Fate act x f d t (nearest_at x l) p → Fate bct y f e u (nearest_at y (vehicles_by x p l)) q → Accepts p → Accepts q
    → (ReceivesIt act x (answer_by p) bct → ⊥)
    → takes p + takes q ≤ length l
enough l (refuses r) second ok_p ok_q apart = absurd (false≢true ok_p)
enough l (departs f k) (refuses r) ok_p ok_q apart = absurd (false≢true ok_q)
enough l (departs f k) (departs f₁ k₁) ok_p ok_q apart = omega arith
enough [] {x} {y} (departs {p} f k) (arrives z n is f₁ named may) ok_p ok_q apart =
    absurd (apart (ap is_some k.kind, is ∙ just_sent x y z n p.vehicle k.sender named))
enough (v ∷ l) (departs f k) (arrives z n is f₁ named may) ok_p ok_q apart = omega arith
enough l (arrives z n is f named may) (refuses r) ok_p ok_q apart = absurd (false≢true ok_q)
enough l {x} (arrives z n is f named may) (departs f₁ k₁) ok_p ok_q apart = omega (arith, named_there z n x l named)
enough l {x} {y} (arrives z n is f named may) (arrives z₁ n₁ is₁ f₁ named₁ may₁) ok_p ok_q apart =
    let k = nearest x l (named_there z n x l named) in
    omega (arith, k.size, ap length k.rest, named_there z₁ n₁ y (remove_at x l) named₁)

-- ---- the two steps

two_desks : {x y : Station} → Opposite x y → (s : Section) (d e : Desk) (l l₁ l₂ : List Vehicle)
    → with_desk (with_vehicles (with_desk (with_vehicles s l₁) x d) l) y e ≡ with_desk (with_vehicles (with_desk (with_vehicles s l₂) y e) l) x d
two_desks ab s d e l l₁ l₂ = refl
two_desks ba s d e l l₁ l₂ = refl

desk_far : {x y : Station} → Opposite x y → (s : Section) (d : Desk) (l : List Vehicle) → desk_of (with_desk (with_vehicles s l) x d) y ≡ desk_of s y
desk_far ab s d l = refl
desk_far ba s d l = refl

force_with : (s : Section) (x : Station) (d : Desk) (l : List Vehicle) → (with_desk (with_vehicles s l) x d).force ≡ s.force
force_with s A d l = refl
force_with s B d l = refl

abbrev plan_at : Section → Station → ℕ → Act → Plan
plan_at s x t act = plan_of act x s.force (desk_of s x) t (nearest_at x (vehicles_of s))

-- what the other station reads and does behind a plan
module _ {x y : Station} (o : Opposite x y) (s : Section) (p : Plan) (fits : length (vehicles_by x p (vehicles_of s)) ≤ 24) where
  plan_after : (t : ℕ) (act : Act) → plan_at (section_by s x p) y t act ≡ plan_of act y s.force (desk_of s y) t (nearest_at y (vehicles_by x p (vehicles_of s)))
  plan_after t act =
      let d = desk_by p (desk_of s x) in
      let l = vehicles_by x p (vehicles_of s) in
      rw (force_with s x d l, desk_far o s d l, vehicles_after s x d l fits)

  section-after : (q : Plan)
      → section_by (section_by s x p) y q ≡ with_desk (with_vehicles (section_by s x p) (vehicles_by y q (vehicles_by x p (vehicles_of s)))) y (desk_by q (desk_of s y))
  section-after q =
      let d = desk_by p (desk_of s x) in
      let l = vehicles_by x p (vehicles_of s) in
      ap₂ (λ (k : List Vehicle) (e : Desk). with_desk (with_vehicles (section_by s x p) (vehicles_by y q k)) y (desk_by q e)) (vehicles_after s x d l fits) (desk_far o s d l)

-- p of x and then q of y: q comes to the same where it goes first, p where it goes second, and so does the section
record Exchange (s : Section) (x y : Station) (t u : ℕ) (act bct : Act) (p q : Plan) : Type 0 where
  first : q ≡ plan_at s y u bct
  second : p ≡ plan_at (section_by s y q) x t act
  end : section_by (section_by s x p) y q ≡ section_by (section_by s y q) x p

exchange : (s : Section) → Sound s → {x y : Station} → Opposite x y → (t u : ℕ) (act bct : Act) (p q : Plan)
    → p ≡ plan_at s x t act → q ≡ plan_of bct y s.force (desk_of s y) u (nearest_at y (vehicles_by x p (vehicles_of s)))
    → Fate act x s.force (desk_of s x) t (nearest_at x (vehicles_of s)) p → Fate bct y s.force (desk_of s y) u (nearest_at y (vehicles_by x p (vehicles_of s))) q
    → Accepts p → Accepts q → (ReceivesIt act x (answer_by p) bct → ⊥) → Exchange s x y t u act bct p q
exchange s g {x} {y} o t u act bct p q is-p is-q fate-p fate-q ok_p ok_q apart =
    let l = vehicles_of s in
    let there = enough l fate-p fate-q ok_p ok_q apart in
    let fits-p = fits_by s x g fate-p in
    let fits-q = fits_by s y g fate-q in
    record {
      first = is-q ∙ plan_same bct y s.force (desk_of s y) u (nearest_at y (vehicles_by x p l)) (nearest_at y l)
          (λ receives. near_by o p l (omega (arith, there, takes_one fate-q ok_q receives)));
      second = is-p ∙ plan_same act x s.force (desk_of s x) t (nearest_at x l) (nearest_at x (vehicles_by y q l))
          (λ receives. sym (near_by (flip o) q l (omega (arith, there, takes_one fate-p ok_p receives)))) ∙ sym (plan_after (flip o) s q fits-q t act);
      end = section-after o s p fits-p q ∙ ap (λ (k : List Vehicle). with_desk (with_vehicles (section_by s x p) k) y (desk_by q (desk_of s y))) (vehicles_by_lem o p q l there)
          ∙ two_desks o s (desk_by p (desk_of s x)) (desk_by q (desk_of s y)) (vehicles_by x p (vehicles_by y q l)) (vehicles_by x p l) (vehicles_by y q l)
          ∙ sym (section-after (flip o) s q fits-q p);
    }

-- ---- two neighbouring steps

-- c before b: each has the answer it had, and the section is the same
pub record Swapped (s : Section) (b c : List ℕ) : Type 0 where
  pub first : (step_of s c).answer ≡ (step_of (step_of s b).section c).answer
  pub second : (step_of (step_of s c).section b).answer ≡ (step_of s b).answer
  pub end : (step_of (step_of s c).section b).section ≡ (step_of (step_of s b).section c).section

-- a step that is station x's act does what its plan p says
record Acted (s : Section) (b : List ℕ) (x : Station) (p : Plan) : Type 0 where
  answers : (step_of s b).answer ≡ answer_by p
  leaves : Accepts p → (step_of s b).section ≡ section_by s x p

acted : (s : Section) (b : List ℕ) (x : Station) (t : ℕ) (act : Act) (p : Plan) → Sound s → decode b ≡ Says (At x t act)
    → p ≡ plan_at s x t act → Acted s b x p
unfolding entered
acted s b x t act p g says is =
    let e = Says (At x t act) in
    let did : step_of s b ≡ done_by s e x p = step_is s b g.well ∙ ap (on_decoded s) says ∙ ap (done_by s e x) (sym is) in
    record {
      answers = ap (λ (r : Stepped Section). r.answer) did ∙ done_answer s e x p;
      leaves = λ ok. ap (λ (r : Stepped Section). r.section) did ∙ done_section s e x p ok;
    }

pub swapped : (s : Section) (b c : List ℕ) (x y : Station) (t u : ℕ) (act bct : Act) → Opposite x y → Sound s → decode b ≡ Says (At x t act)
    → decode c ≡ Says (At y u bct)
    → is_accepted (step_of s b).answer ≡ true → is_accepted (step_of (step_of s b).section c).answer ≡ true
    → (ReceivesIt act x (step_of s b).answer bct → ⊥) → Swapped s b c
swapped s b c x y t u act bct o g says-b says-c ok-b ok-c apart =
    let p = plan_at s x t act in
    let q = plan_of bct y s.force (desk_of s y) u (nearest_at y (vehicles_by x p (vehicles_of s))) in
    let fate-p = fate act x s.force (desk_of s x) t (nearest_at x (vehicles_of s)) (ranged_of b (At x t act) says-b) (well_at s x g).own.bounds in
    let fate-q = fate bct y s.force (desk_of s y) u (nearest_at y (vehicles_by x p (vehicles_of s))) (ranged_of c (At y u bct) says-c) (well_at s y g).own.bounds in
    let first = acted s b x t act p g says-b refl in
    let ok_p : Accepts p = rw first.answers at ok-b in
    let s₁ = section_by s x p in
    let to-s₁ : (step_of s b).section ≡ s₁ = first.leaves ok_p in
    let second = acted s₁ c y u bct q (rw to-s₁ at (sound_step s b g)) says-c (sym (plan_after o s p (fits_by s x g fate-p) u bct)) in
    let ok_q : Accepts q = rw (to-s₁, second.answers) at ok-c in
    let e = exchange s g o t u act bct p q refl refl fate-p fate-q ok_p ok_q (rw first.answers at apart) in
    let s₂ = section_by s y q in
    let now-first = acted s c y u bct q g says-c e.first in
    let to-s₂ : (step_of s c).section ≡ s₂ = now-first.leaves ok_q in
    let now-second = acted s₂ b x t act p (rw to-s₂ at (sound_step s c g)) says-b e.second in
    record {
      first = rw to-s₁ (now-first.answers ∙ sym second.answers);
      second = rw to-s₂ (now-second.answers ∙ sym first.answers);
      end = rw (to-s₁, to-s₂) (now-second.leaves ok_p ∙ sym e.end ∙ sym (second.leaves ok_q));
    }
