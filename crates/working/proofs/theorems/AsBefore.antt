-- T-02: "Lists from fresh once accepted throughout are answered as before." Of every list of steps from fresh of which document 01's own step refuses none, today's step
-- gives each the same section and the same answer, but for the second figure of a follower's speed, and nothing waits at the end: `answered_as_before`.
-- The two steps differ in refusal 16 on a TRAIN, in what a receipt makes of holds, in kind 9, in a follower's speed, and in refusal 11 on a RETURN. In such a list a station
-- that holds a line clear owes none, so that a TRAIN which document 01 lets go is let go; whoever receives a grant owes nothing after it, so that it is held at once
-- (`ReplyLast`); there is no entry of kind 9, since document 01 refuses each with 2 (`KindNine`); a follower's speed is document 01's with 10 beside it, view by view
-- (`train_speed_lem`); and a RETURN which document 01 lets go has passed every test that is left.
-- Assumes nothing.
use Prim.Native.Nat.{ℕ, ◌<◌}
use Rattle.std.specs.Prelude.{Err, Ok}
use Rattle.working.proofs.invariant.Changes.{Change, arrival, change, departure, emptying, meeting, named_there, refusal, step_is, well_at}
use Rattle.working.proofs.invariant.Invariant.{Halves, far_holds}
use Rattle.working.proofs.invariant.Made.{Well, other_sender, vehicles_with}
use Rattle.working.proofs.invariant.Preserved.{Between, Good, good_emptied, good_step, kept_at}
use Rattle.working.proofs.invariant.Receipts.{Receipt, nothing_replied, of_other, of_own, receipt}
use Rattle.working.proofs.invariant.ReplyLast.{Allowed01, ReplyLast, near_rest, paid, replies_far}
use Rattle.working.proofs.invariant.Sides.{moves_far, moves_met, moves_none, moves_of, moves_own, moves_past, moves_skip}
use Rattle.working.proofs.laws.Clauses.{Shape}
use Rattle.working.proofs.laws.Lists.{ListAs, each_result, next_as, step_did}
use Rattle.working.proofs.laws.Reasons.{depart_passes, receive_passes}
use Rattle.working.proofs.laws.Tests.{NoneHolds, both, no_test, none_holds, or_left, or_right, some_test, zero_test}
use Rattle.working.proofs.laws.Vehicles.{From, NotFrom, every-end, nearest, not_other, number_same, ordered_far}
use Rattle.working.proofs.theorems.KindNine.{no_kind_nine, none_last}
use Rattle.working.specs.Acts as acts
use Rattle.working.specs.Acts.{Act}
use Rattle.working.specs.Document01.{AnsweredAsBefore, altered, arrive_desk_01, at_speed, decode01, entered_by, followers_two, holds_after_01, is_follower, is_kind_nine}
use Rattle.working.specs.Document01.{on_decoded_by, plan_of_01, return_tests_01, step_of_01, tests_by, train_speed_01, train_tests_01, with_elsewhere, with_second_figure}
use Rattle.working.specs.Effects.{Arrive, Depart, Plan, Refuse, arrive_desk, effect_of, granted_in, other_desk, own_desk, replied, train_speed}
use Rattle.working.specs.Events.{At, Bad, Begin, Decoded, Meet, Resume, Says, decode}
use Rattle.working.specs.Reasons.{depart_tests, may_enter, return_tests, tests_of, train_tests}
use Rattle.working.specs.Refusals.{Test, Verdict, first_of}
use Rattle.working.specs.Runs.{Done, Run, accepts_by, next, stop}
use Rattle.working.specs.Sections.{desk_of, fresh_desk, insert_at, nearest_at, none_refused, other_at, vehicles_of, with_desk, with_holds, with_vehicles}
use Rattle.working.specs.Speeds.{follows}
use Rattle.working.specs.Steps.{done_by, entered, met_at, on_decoded, plan_of, step_of, unless_refused}
use Rattle.working.specs.Turns.{is_accepted}
use Rattle.working.specs.WellMade.{is_open_or_through, well_made}
use Rattle.working.specs.declared.Desk.{Desk}
use Rattle.working.specs.declared.Movement.TheVariants.{LastTrain, Open, Return, Through, Train}
use Rattle.working.specs.declared.Movement.{Movement}
use Rattle.working.specs.declared.Section.{Section}
use Rattle.working.specs.declared.Speed.{Speed}
use Rattle.working.specs.declared.Station.TheVariants.{A, B}
use Rattle.working.specs.declared.Station.{Station}
use Rattle.working.specs.declared.Stepped.{Stepped}
use Rattle.working.specs.declared.Vehicle.{Vehicle}
use Rattle.working.specs.declared.View.TheVariants.{Clear, Impaired, Night}
use Rattle.working.specs.declared.View.{View}
use borrow.Author.Tests.{lt-ltb, ltb-false, ltb-true}
use lib.Dec.{eqb, ltb}
use mathlib.Core.Bool.{Bool, and-false, cond, false, false≢true, not, true, ◌&&◌}
use mathlib.Core.List.{List, [], ◌++◌, ◌∷◌}
use mathlib.Core.Path.{ap, refl, sym, ◌∙◌, ◌≡◌}

-- what stands beside the invariant, seen from station x, whose desk is d, the other's o
pub record RepliesLast (x : Station) (d o : Desk) (l : List Vehicle) : Type 0 where
  pub own : ReplyLast d (moves_of x l)
  pub far : ReplyLast o (moves_of (other_at x) l)

abbrev RepliesLastIn : Section → Type 0
RepliesLastIn s = RepliesLast A s.a s.b (vehicles_of s)

-- from either station
last_at : (x : Station) (s : Section) → RepliesLastIn s → RepliesLast x (desk_of s x) (desk_of s (other_at x)) (vehicles_of s)
last_at A s k = k
last_at B s k = record { own = k.far; far = k.own }

-- the section with the vehicles l and x's desk e
last_with : (s : Section) (x : Station) (e : Desk) (l : List Vehicle) → Well x e (desk_of s (other_at x)) l → RepliesLast x e (desk_of s (other_at x)) l
    → RepliesLastIn (with_desk (with_vehicles s l) x e)
last_with s A e l w k = rw (vehicles_with 24 l w.fits) k
last_with s B e l w k = rw (vehicles_with 24 l w.fits) (record { own = k.far; far = k.own })

-- ---- a receipt

-- a grant that comes where nothing is owed after it is held at once
grant_held : (g : ℕ) (e : Desk) → e.clears.holds ≡ 0 → e.waiting ≡ 0 → (0 < g → e.clears.owes ≡ 0) → replied g e ≡ with_holds g e
grant_held g e none empty pays = by (ltb 0 g) refl
  where
    by : (b : Bool) → ltb 0 g ≡ b → replied g e ≡ with_holds g e
    by true some = rw (some, empty, pays (ltb-true 0 g some), some)
    by false zero = nothing_replied g e (no_test g zero) empty ∙ rw (no_test g zero, ← none)

-- a station's own vehicle brings no reply
own_same : (d : Desk) (t : ℕ) (m : Movement) → is_open_or_through m ≡ true → d.waiting ≡ 0 → replied (granted_in m) (own_desk d t m) ≡ own_desk d t m
own_same d t (Open a) is empty = nothing_replied 0 _ refl empty
own_same d t Through is empty = nothing_replied 0 _ refl empty
own_same d t (Return a g) is empty = absurd (false≢true is)
own_same d t (Train a g) is empty = absurd (false≢true is)
own_same d t (LastTrain a g u) is empty = absurd (false≢true is)

-- and the other's leaves the desk that document 01 has it leave
other_same : (d : Desk) (t class : ℕ) (m : Movement) → d.clears.holds ≡ 0 → d.waiting ≡ 0 → (0 < granted_in m → (other_desk d t class m).clears.owes ≡ 0)
    → replied (granted_in m) (other_desk d t class m) ≡ with_holds (holds_after_01 m d.clears.holds) (other_desk d t class m)
other_same d t class (Open a) none empty pays = nothing_replied 0 _ refl empty
other_same d t class Through none empty pays = nothing_replied 0 _ refl empty
other_same d t class (Return a g) none empty pays = grant_held g _ none empty pays
other_same d t class (Train a g) none empty pays = grant_held g _ none empty pays
other_same d t class (LastTrain a g u) none empty pays = grant_held g _ none empty pays

-- before the reply is read, a station's own vehicle leaves the line clears as they were
own_stays : (d : Desk) (t : ℕ) (m : Movement) → ((own_desk d t m).clears ≡ d.clears) × ((own_desk d t m).waiting ≡ d.waiting)
own_stays d t (Open a) = (refl, refl)
own_stays d t Through = (refl, refl)
own_stays d t (Return a g) = (refl, refl)
own_stays d t (Train a g) = (refl, refl)
own_stays d t (LastTrain a g u) = (refl, refl)

-- a vehicle v that may enter is received at x: the desk e after it
module _ (x : Station) (d o : Desk) (time : ℕ) (v : Vehicle) (l : List Vehicle)
    (w : Well x d o (insert_at x v l)) (h : Between x d o (insert_at x v l)) (k : RepliesLast x d o (insert_at x v l)) where
  record TakenAs (e : Desk) : Type 0 where
    same : e ≡ arrive_desk_01 x d time v
    replies : RepliesLast x e o l

  taken_own : From x v → is_open_or_through v.movement ≡ true → TakenAs (replied (granted_in v.movement) (own_desk d time v.movement))
  taken_own is slow =
      let own : ReplyLast d (v.movement ∷ moves_of x l) = rw (moves_own x v l is) at k.own in
      let e = own_same d time v.movement slow own.waiting in
      let stays = own_stays d time v.movement in
      record {
        same = e ∙ rw is;
        replies = rw e
            (record {
              own = record { waiting = stays.1 ∙ own.waiting; owes = rw stays.0 own.owes; near = near_rest v.movement (moves_of x l) own.near };
              far = rw (moves_past x v l (not_other x v is)) at k.far;
            });
      }

  taken_other : NotFrom x v → TakenAs (replied (granted_in v.movement) (other_desk d time v.class v.movement))
  taken_other is =
      let shape = (every-end Shape x v l w.shape).1 in
      let none_own = moves_none x l (ordered_far x v l is w.order).1 in
      let theirs = moves_far x v l (other_sender x v shape is) in
      let halves : Halves d o [] (moves_of (other_at x) l ++ v.movement ∷ []) = rw (moves_skip x v l is, none_own, theirs) at h in
      let own : ReplyLast d [] = rw (moves_skip x v l is, none_own) at k.own in
      let far : ReplyLast o (moves_of (other_at x) l ++ v.movement ∷ []) = rw theirs at k.far in
      let after = replies_far d o time v.class v.movement (moves_of (other_at x) l) halves own far in
      record {
        same = other_same d time v.class v.movement (far_holds d o v.movement (moves_of (other_at x) l) halves) own.waiting
            (paid d o time v.class v.movement (moves_of (other_at x) l) halves own far)
            ∙ rw is;
        replies = record { own = rw none_own after.0; far = after.1 };
      }

  taken_as : may_enter x v ≡ true → TakenAs (arrive_desk x d time v)
  taken_as may = by (receipt x d time v may)
    where
      by : {e : Desk} → Receipt x d time v e → TakenAs e
      by (of_own is slow) = taken_own is slow
      by (of_other is) = taken_other is

-- ---- an act that document 01's tests let pass

-- where the station owes nothing, today's tests of a TRAIN and document 01's come to the same
same_tests : (d : Desk) (granted : ℕ) → d.clears.owes ≡ 0 → NoneHolds (train_tests_01 d granted) → train_tests d granted ≡ train_tests_01 d granted
same_tests d granted free none =
    let above = or_left (ltb d.clears.asked granted) _ none.1.0 in
    rw (none.1.0, above, zero_test d.clears.owes free, and-false (ltb 0 granted))

-- a plan with a second figure beside a departure's speed, where that is a follower's
abbrev figured : Bool → Plan → Plan
figured follower (Refuse why) = Refuse why
figured follower (Depart p) = at_speed (cond follower (with_elsewhere p.order.speed) p.order.speed) (Depart p)
figured follower (Arrive d) = Arrive d

unfigured : (p : Plan) → p ≡ figured false p
unfigured (Refuse why) = refl
unfigured (Depart p) = refl
unfigured (Arrive d) = refl

-- document 01's speed of a train, with the second figure where it follows another
train_speed_lem : (booked : Bool) (view : View) → train_speed booked view ≡ cond (not booked) (with_elsewhere (train_speed_01 booked view)) (train_speed_01 booked view)
train_speed_lem true view = refl
train_speed_lem false Clear = refl
train_speed_lem false Night = refl
train_speed_lem false Impaired = refl

-- what is known of an act that passes: the plan is the same but for that figure, and the grant of a TRAIN leaves holds 0
record ActAs (act : Act) (x : Station) (force : Bool) (d : Desk) (time : ℕ) (v : Vehicle) : Type 0 where
  plan : plan_of act x force d time v ≡ figured (follows act d) (plan_of_01 act x force d time v)
  allowed : Allowed01 act d

act_as : (act : Act) (x : Station) (force : Bool) (d o : Desk) (time : ℕ) (l : List Vehicle) → Well x d o l → Between x d o l → RepliesLast x d o l
    → first_of (tests_by return_tests_01 train_tests_01 act x force d time (nearest_at x l)) ≡ Ok tt → ActAs act x force d time (nearest_at x l)
act_as (acts.Open view class asked) x force d o time l w h k passes = record { plan = unfigured _; allowed = tt }
act_as (acts.Through view) x force d o time l w h k passes = record { plan = unfigured _; allowed = tt }
act_as (acts.Return asked granted) x force d o time l w h k passes =
    let own = (depart_passes force d time (return_tests_01 d granted) (none_holds (depart_tests force d time (return_tests_01 d granted)) passes)).own in
    let today : first_of (depart_tests force d time (return_tests d granted)) ≡ (Ok tt) = rw own.0 at passes in
    record { plan = rw (passes, today) (unfigured _); allowed = tt }
act_as (acts.Train endorsed view asked granted) x force d o time l w h k passes =
    let own = (depart_passes force d time (train_tests_01 d granted) (none_holds (depart_tests force d time (train_tests_01 d granted)) passes)).own in
    let leaves-some = or_right (ltb d.clears.asked granted) (ltb 0 granted && ltb 1 d.clears.holds) own.1.0 in
    let same = same_tests d granted (k.own.owes (some_test _ own.0)) own in
    let effect = effect_of (acts.Train endorsed view asked granted) x d time (nearest_at x l) in
    record {
      plan = ap (λ (tests : List Test). unless_refused (first_of (depart_tests force d time tests)) effect) same
          ∙ rw passes (ap (λ (speed : Speed). at_speed speed effect) (train_speed_lem (eqb d.sent 0) view));
      allowed = λ some. ltb-false 1 _ (rw (lt-ltb 0 granted some) at leaves-some);
    }
act_as (acts.Receive sender form) x force d o time l w h k passes =
    let p = receive_passes force d time x sender form (nearest_at x l) (none_holds (tests_of (acts.Receive sender form) x force d time (nearest_at x l)) passes) in
    let n = nearest x l (named_there sender form x l p.named) in
    let same = (taken_as x d o time n.vehicle n.others (rw n.whole at w) (rw n.whole at h) (rw n.whole at k) (rw n.near at p.enters)).same in
    record { plan = rw (passes, n.near, same) (unfigured _); allowed = tt }

-- ---- the step

-- what is known of the act in a step that document 01 accepts
abbrev Allows : Section → Decoded → Type 0
Allows s (Bad why) = Unit {0}
Allows s (Says Begin) = Unit {0}
Allows s (Says (At x time act)) = Allowed01 act (desk_of s x)
Allows s (Says (Meet x sender form)) = Unit {0}
Allows s (Says Resume) = Unit {0}

passes01 : (s : Section) (e : Decoded) (x : Station) (v : Verdict) (p : Plan) → is_accepted (done_by s e x (unless_refused v p)).answer ≡ true → v ≡ Ok tt
passes01 s e x (Err why) p accepted = absurd (false≢true accepted)
passes01 s e x (Ok _) p accepted = refl

-- what a plan with a second figure comes to has that figure in its answer, and nothing else altered
done_figured : (s : Section) (e : Decoded) (x : Station) (follower : Bool) (p : Plan) → done_by s e x (figured follower p) ≡ altered follower with_second_figure (done_by s e x p)
done_figured s e x true (Refuse why) = refl
done_figured s e x true (Depart p) = refl
done_figured s e x true (Arrive d) = refl
done_figured s e x false (Refuse why) = refl
done_figured s e x false (Depart p) = refl
done_figured s e x false (Arrive d) = refl

entered_as : (s : Section) (x : Station) (time : ℕ) (act : Act)
    → let v = nearest_at x (vehicles_of s) in
    plan_of act x s.force (desk_of s x) time v ≡ figured (follows act (desk_of s x)) (plan_of_01 act x s.force (desk_of s x) time v)
    → entered s (At x time act) ≡ altered (follows act (desk_of s x)) with_second_figure (entered_by plan_of_01 s (At x time act))
unfolding entered
entered_as s x time act plan =
    let e = Says (At x time act) in
    let before = plan_of_01 act x s.force (desk_of s x) time (nearest_at x (vehicles_of s)) in
    ap (done_by s e x) plan ∙ done_figured s e x (follows act (desk_of s x)) before

decoded_as_lem : (s : Section) (e : Decoded) → Good s → RepliesLastIn s → is_accepted (on_decoded_by plan_of_01 s e).answer ≡ true
    → (on_decoded s e ≡ altered (is_follower s e) with_second_figure (on_decoded_by plan_of_01 s e)) × Allows s e
decoded_as_lem s (Bad why) g k accepted = absurd (false≢true accepted)
decoded_as_lem s (Says Begin) g k accepted = (refl, tt)
decoded_as_lem s (Says (At x time act)) g k accepted =
    let passes = passes01 s (Says (At x time act)) x _ _ accepted in
    let a = act_as act x s.force (desk_of s x) (desk_of s (other_at x)) time (vehicles_of s) (well_at s x g.sound) (kept_at x s g) (last_at x s k) passes in
    (entered_as s x time act a.plan, a.allowed)
decoded_as_lem s (Says (Meet x sender form)) g k accepted = (refl, tt)
decoded_as_lem s (Says Resume) g k accepted = (refl, tt)

last-emptied : RepliesLast A fresh_desk fresh_desk []
last-emptied = record { own = none; far = none }
  where
    none : ReplyLast fresh_desk []
    none = record { waiting = refl; owes = λ some. refl; near = refl }

last_change : (s : Section) (e : Decoded) (r : Stepped Section) → Good s → RepliesLastIn s → Allows s e → Change s e r → RepliesLastIn r.section
last_change s e r g k allows (refusal step why) = k
last_change s e r g k allows (emptying step force) = last-emptied
last_change s e r g k allows (departure x time act {p} f leaves w) =
    let from : From x p.vehicle = rw leaves.sender (number_same x) in
    let l = vehicles_of s in
    let here = last_at x s k in
    last_with s x p.desk (insert_at x p.vehicle l) w
    (record {
      own = rw (moves_own x p.vehicle l from) (leaves.replies (desk_of s (other_at x)) (moves_of x l) (moves_of (other_at x) l) (kept_at x s g) allows here.own);
      far = rw (moves_past x p.vehicle l (not_other x p.vehicle from)) here.far;
    })
last_change s e r g k allows (arrival x time y n near f may w) =
    let before = rw near.whole at (well_at s x g.sound) in
    last_with s x (arrive_desk x (desk_of s x) time near.vehicle) near.others w
    (taken_as x (desk_of s x) (desk_of s (other_at x)) time near.vehicle near.others before (rw near.whole at (kept_at x s g)) (rw near.whole at (last_at x s k)) may).replies
last_change s e r g k allows (meeting x y n i f w) =
    let present = vehicles_with 24 (met_at x i (vehicles_of s)) w.fits in
    record { own = rw (present, moves_met A x i (vehicles_of s)) k.own; far = rw (present, moves_met B x i (vehicles_of s)) k.far }

step_01_is : (s : Section) (bytes : List ℕ) → well_made s ≡ true → is_kind_nine bytes ≡ false → step_of_01 s bytes ≡ on_decoded_by plan_of_01 s (decode bytes)
unfolding decode01 step_of_01
step_01_is s bytes made other = rw (made, other)

step_as : (s : Section) (bytes : List ℕ) → Good s → RepliesLastIn s → is_accepted (step_of_01 s bytes).answer ≡ true
    → (step_of s bytes ≡ followers_two step_of_01 s bytes) × RepliesLastIn (step_of s bytes).section
step_as s bytes g k accepted =
    let made = g.sound.well in
    let is = step_01_is s bytes made (no_kind_nine s bytes accepted) in
    let (same, allows) = decoded_as_lem s (decode bytes) g k (rw is at accepted) in
    (step_is s bytes made ∙ same ∙ ap (altered (is_follower s (decode bytes)) with_second_figure) (sym is), last_change s (decode bytes) (step_of s bytes) g k allows (change s bytes g.sound))

-- ---- the list

list_as : {s t : Section} {l : List Done} → Good s → RepliesLastIn s → Run s l t → accepts_by step_of_01 s l ≡ true
    → ListAs step_of_01 (followers_two step_of_01) s l t × RepliesLastIn t
list_as g k stop accepted = (record { each = refl; end = refl }, k)
list_as {s} g k (next {t = t} {d = d} {l = l} h r) accepted =
    let (first, others) = both (is_accepted (step_of_01 s d.bytes).answer) (accepts_by step_of_01 (step_of_01 s d.bytes).section l) accepted in
    let (same, replies) = step_as s d.bytes g k first in
    let left = (step_did d s t h).left in
    let there : t ≡ (step_of_01 s d.bytes).section = left ∙ ap (λ (z : Stepped Section). z.section) same in
    let (later, replies-then) = list_as (rw left (good_step s d.bytes g)) (rw left replies) r (rw there others) in
    (next_as left same refl later, replies-then)

-- ---- the theorem

pub answered_as_before : AnsweredAsBefore
answered_as_before l s run accepted =
    let (k, replies) = list_as (good_emptied false none_refused) last-emptied run accepted in
    record { each = each_result run ∙ k.each; end = k.end; waiting = waiting replies; unendorsed = none_last run accepted }
  where
    waiting : RepliesLastIn s → (x : Station) → (desk_of s x).waiting ≡ 0
    waiting k A = k.own.waiting
    waiting k B = k.far.waiting
