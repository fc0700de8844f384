-- Of every list of steps from a fresh section: beside an accepted RETURN there is no accepted entry of the other station but the receipt of what it sent. So demand 3's exchange of
-- neighbours, which excludes no kind, has no RETURN among them.
-- Where a guest stands, the section is empty and neither station holds a line clear; the other station's opener is away and no guest stands there. So the other station may send
-- nothing and has nothing to receive. An entry of the other station before the RETURN leaves the guest's desk as it was; one behind it could stand before it, by demand 3.
-- Assumes nothing.
use Prim.Native.Nat.{ℕ, ◌<◌}
use Rattle.std.specs.Prelude.{Err, Ok}
use Rattle.working.proofs.invariant.Changes.{named_there, sound_step, step_is, well_at}
use Rattle.working.proofs.invariant.Invariant.{Visited, cons_nil, snoc_nil}
use Rattle.working.proofs.invariant.Made.{other_sender}
use Rattle.working.proofs.invariant.Preserved.{Good, kept_at}
use Rattle.working.proofs.invariant.Sides.{moves_far, moves_of, moves_own}
use Rattle.working.proofs.laws.Clauses.{Shape}
use Rattle.working.proofs.laws.Lists.{split_run, step_did}
use Rattle.working.proofs.laws.Reasons.{depart_passes, open_passes, receive_passes, return_passes, train_passes}
use Rattle.working.proofs.laws.Tests.{NoneHolds, clash, none_holds}
use Rattle.working.proofs.laws.Vehicles.{Nearest, every-end, nearest, other_differs}
use Rattle.working.proofs.theorems.Demand3.{demand3, kept}
use Rattle.working.specs.Acts as acts
use Rattle.working.specs.Acts.{Act}
use Rattle.working.specs.Effects.{Arrive, Depart, Plan, Refuse, effect_of}
use Rattle.working.specs.Events.{At, Decoded, Says, decode}
use Rattle.working.specs.Reasons.{open_tests, return_tests, tests_of, train_tests}
use Rattle.working.specs.Refusals.{Verdict, first_of}
use Rattle.working.specs.Runs.{Done, Run, StepBy, next}
use Rattle.working.specs.Sections.{desk_of, fresh, nearest_at, number_at, other_at, vehicles_of}
use Rattle.working.specs.Steps.{done_by, entered, plan_of, step_of, unless_refused}
use Rattle.working.specs.Terms.{AcceptedAt, ReceivesIt}
use Rattle.working.specs.Turns.{is_accepted}
use Rattle.working.specs.WellMade.{is_from, well_made}
use Rattle.working.specs.declared.Desk.{Desk}
use Rattle.working.specs.declared.Section.{Section}
use Rattle.working.specs.declared.Station.TheVariants.{A, B}
use Rattle.working.specs.declared.Station.{Station}
use Rattle.working.specs.declared.Stepped.{Stepped}
use borrow.Author.Tests.{lt-ltb}
use lib.ListN.{length}
use mathlib.Core.Bool.{Bool, false, false≢true, true}
use mathlib.Core.List.{List, ◌++◌, ◌∷◌}
use mathlib.Core.Path.{ap, refl, sym, ◌∙◌, ◌≡◌}
use native.Mathlib.Omega.{arith}

-- ---- a station's act on a well-made section

module _ (s : Section) (bytes : List ℕ) (x : Station) (time : ℕ) (act : Act) (well : well_made s ≡ true) (says : decode bytes ≡ Says (At x time act)) where
  comes_to_lem : step_of s bytes ≡ done_by s (Says (At x time act)) x (plan_of act x s.force (desk_of s x) time (nearest_at x (vehicles_of s)))
  unfolding entered
  comes_to_lem = step_is s bytes well ∙ rw says

  -- accepted, it passed every test of its kind
  passed : is_accepted (step_of s bytes).answer ≡ true → NoneHolds (tests_of act x s.force (desk_of s x) time (nearest_at x (vehicles_of s)))
  passed ok = let tests = tests_of act x s.force (desk_of s x) time (nearest_at x (vehicles_of s)) in none_holds tests (by (first_of tests) (rw comes_to_lem at ok))
    where
      by : (v : Verdict) → is_accepted (done_by s (Says (At x time act)) x (unless_refused v (effect_of act x (desk_of s x) time (nearest_at x (vehicles_of s))))).answer ≡ true → v ≡ Ok tt
      by (Ok _) h = refl
      by (Err why) h = absurd (false≢true h)

-- the other station's desk stays as it was
desk_stays : (s : Section) (e : Decoded) (x : Station) (p : Plan) → desk_of (done_by s e (other_at x) p).section x ≡ desk_of s x
desk_stays s e A (Refuse why) = refl
desk_stays s e B (Refuse why) = refl
desk_stays s e A (Depart p) = refl
desk_stays s e B (Depart p) = refl
desk_stays s e A (Arrive d) = refl
desk_stays s e B (Arrive d) = refl

far_desk : (s : Section) (bytes : List ℕ) (x : Station) (time : ℕ) (act : Act) → well_made s ≡ true → decode bytes ≡ Says (At (other_at x) time act)
    → desk_of (step_of s bytes).section x ≡ desk_of s x
far_desk s bytes x time act well says =
    let plan = plan_of act (other_at x) s.force (desk_of s (other_at x)) time (nearest_at (other_at x) (vehicles_of s)) in
    ap (λ (r : Stepped Section). desk_of r.section x) (comes_to_lem s bytes (other_at x) time act well says) ∙ desk_stays s (Says (At (other_at x) time act)) x plan

-- ---- where a guest stands at x

module _ (s : Section) (good : Good s) (x : Station) (guest : 0 < (desk_of s x).guest) where
  visited : Visited (desk_of s x) (desk_of s (other_at x)) (moves_of x (vehicles_of s)) (moves_of (other_at x) (vehicles_of s))
  visited = (kept_at x s good).own.guests guest

  -- nothing is in the section
  none_present : 0 < length (vehicles_of s) → ⊥
  none_present there = by (is_from (number_at x) k.vehicle) refl
    where
      k : Nearest x (vehicles_of s)
      k = nearest x (vehicles_of s) there

      by : (b : Bool) → is_from (number_at x) k.vehicle ≡ b → ⊥
      by true own = cons_nil (sym (moves_own x k.vehicle k.others own) ∙ rw k.whole at visited.none)
      by false far =
          let shape = (every-end Shape x k.vehicle k.others (rw k.whole at (well_at s x good.sound).shape)).1 in
          snoc_nil (moves_of (other_at x) k.others) k.vehicle.movement
          (sym (moves_far x k.vehicle k.others (other_sender x k.vehicle shape far)) ∙ rw k.whole at visited.none_far)

  -- so the other station may do nothing
  none_accepted : (bytes : List ℕ) (time : ℕ) (act : Act) → decode bytes ≡ Says (At (other_at x) time act) → is_accepted (step_of s bytes).answer ≡ true → ⊥
  none_accepted bytes time act says ok = by act (passed s bytes (other_at x) time act good.sound.well says ok)
    where
      far : Desk
      far = desk_of s (other_at x)

      away : far.out ≡ true
      away = (kept_at x s good).far.outs ∙ rw (lt-ltb 0 (desk_of s x).guest guest)

      by : (act : Act) → NoneHolds (tests_of act (other_at x) s.force far time (nearest_at (other_at x) (vehicles_of s))) → ⊥
      by (acts.Open view class asked) n = clash away (open_passes far (depart_passes s.force far time (open_tests far) n).own).out
      by (acts.Through view) n = clash away (open_passes far (depart_passes s.force far time (open_tests far) n).own).out
      by (acts.Return asked granted) n = omega (arith, return_passes far granted (depart_passes s.force far time (return_tests far granted) n).own, visited.guest)
      by (acts.Train endorsed view asked granted) n =
          omega (arith, (train_passes far granted (depart_passes s.force far time (train_tests far granted) n).own).holds, (kept_at x s good).own.sum, visited.owes)
      by (acts.Receive sender form) n =
          none_present (named_there sender form (other_at x) (vehicles_of s) (receive_passes s.force far time (other_at x) sender form (nearest_at (other_at x) (vehicles_of s)) n).named)

-- ---- the theorem

-- none before it
pub none_before_return : {l : List Done} {s : Section} → Run fresh l s → (before : List Done) (d e : Done) (after : List Done) (x : Station) (act : Act) (asked granted : ℕ)
    → l ≡ before ++ d ∷ e ∷ after → AcceptedAt d (other_at x) act → AcceptedAt e x (acts.Return asked granted) → ⊥
none_before_return {s = s} run before d e after x act asked granted is p q = let (t, first, later) = split_run StepBy before (rw is at run) in by t first later
  where
    by : (t : Section) → Run fresh before t → Run t (d ∷ e ∷ after) s → ⊥
    by t first (next {t = u} h (next {t = v} k more)) =
        let good = (kept first).good in
        let did = step_did d t u h in
        let done = step_did e u v k in
        let well : well_made u ≡ true = rw did.left (sound_step t d.bytes good.sound).well in
        let same : desk_of u x ≡ desk_of t x = rw did.left (far_desk t d.bytes x p.time act good.sound.well p.entry) in
        let tests = passed u e.bytes x q.time (acts.Return asked granted) well q.entry (rw done.answered at q.accepted) in
        let guest = return_passes (desk_of u x) granted (depart_passes u.force (desk_of u x) q.time (return_tests (desk_of u x) granted) tests).own in
        none_accepted t good x (rw same at guest) d.bytes p.time act p.entry (rw did.answered at p.accepted)

-- and none behind it but its receipt
pub none_behind_return : {l : List Done} {s : Section} → Run fresh l s → (before : List Done) (d e : Done) (after : List Done) (x : Station) (act : Act) (asked granted : ℕ)
    → l ≡ before ++ d ∷ e ∷ after → AcceptedAt d x (acts.Return asked granted) → AcceptedAt e (other_at x) act
    → (ReceivesIt (acts.Return asked granted) x d.answer act → ⊥) → ⊥
none_behind_return run before d e after x act asked granted is q p apart =
    let exchanged = (demand3 run).swap before d e after x (other_at x) (acts.Return asked granted) act is q p (other_differs x) apart in
    none_before_return exchanged before e d after x act asked granted refl p q
