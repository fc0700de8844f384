-- Demand 3, whole: of every list of steps from a fresh section, in either form, whatever bytes the steps are given. The statement: specs/Demand3.antt.
-- After each step the section is well made, the invariant holds, and every vehicle present has its departure in the list so far; the claims at the end follow
-- from these. Two neighbours change places because each reads and alters only its own desk and its own end of the section.
-- Assumes nothing.
use Prim.Native.Nat.{ℕ, ◌+◌, ◌<◌}
use Rattle.working.proofs.invariant.Changes.{change}
use Rattle.working.proofs.invariant.Made.{length_vehicles}
use Rattle.working.proofs.invariant.Opposed.{opposed_slow}
use Rattle.working.proofs.invariant.Preserved.{Good, good_emptied, good_step}
use Rattle.working.proofs.invariant.Swap.{Opposite, ab, ba, swapped}
use Rattle.working.proofs.invariant.Told.{Told, carried, owed-told, told_change}
use Rattle.working.proofs.laws.Every.{Every, every_at}
use Rattle.working.proofs.laws.Lists.{StepDid, each_result, join_run, split_run, step_by, step_did}
use Rattle.working.specs.Acts.{Act}
use Rattle.working.specs.Demand3.{Demand3}
use Rattle.working.specs.Effects.{granted_in}
use Rattle.working.specs.Events.{decode}
use Rattle.working.specs.Runs.{Done, Run, StepBy, next, stop}
use Rattle.working.specs.Sections.{desk_of, fresh, none_refused, other_at, unused, vehicles_of}
use Rattle.working.specs.Steps.{step_of}
use Rattle.working.specs.Terms.{AcceptedAt, ReceivesIt, departure_of, given_up_by, left_slowly, on_the_way_to, trains_of, vehicle_at}
use Rattle.working.specs.WellMade.{is_open_or_through}
use Rattle.working.specs.declared.Section.{Section}
use Rattle.working.specs.declared.Station.TheVariants.{A, B}
use Rattle.working.specs.declared.Station.{Station}
use lib.ListN.{length}
use mathlib.Core.Bool.{false, true}
use mathlib.Core.List.{List, [], append-nil, append_assoc, ◌++◌, ◌∷◌}
use mathlib.Core.Path.{refl, sym, ◌∙◌, ◌≡◌}
use native.Mathlib.Omega.{arith}

-- ---- what every list keeps

-- after the steps h
pub record Standing (h : List Done) (s : Section) : Type 0 where
  pub good : Good s
  pub told : Every (Told h) (vehicles_of s)

kept_step : (h : List Done) (d : Done) (s t : Section) → Standing h s → StepBy d.form s d.bytes d.answer t → Standing (h ++ d ∷ []) t
kept_step h d s t k b =
    let did = step_did d s t b in
    let sound = k.good.sound in
    rw did.left
    (record {
      good = good_step s d.bytes k.good;
      told = told_change h d s (decode d.bytes) (step_of s d.bytes) sound (change s d.bytes sound) refl did.answered k.told;
    })

kept_run : (h : List Done) {s t : Section} {l : List Done} → Standing h s → Run s l t → Standing (h ++ l) t
kept_run h k stop = rw (append-nil h) k
kept_run h k (next {s} {t} {d = d} {l = l} b r) = rw (append_assoc h (d ∷ []) l) at (kept_run (h ++ d ∷ []) (kept_step h d s t k b) r)

pub kept : {l : List Done} {s : Section} → Run fresh l s → Standing l s
kept run = kept_run [] (record { good = good_emptied false none_refused; told = tt }) run

-- ---- two neighbours

opposite : (x y : Station) → (x ≡ y → ⊥) → Opposite x y
opposite A A h = absurd (h refl)
opposite A B h = ab
opposite B A h = ba
opposite B B h = absurd (h refl)

module _ (d e : Done) (x y : Station) (first second : Act) (p : AcceptedAt d x first) (q : AcceptedAt e y second)
    (other : x ≡ y → ⊥) (apart : ReceivesIt first x d.answer second → ⊥) where
  swap_known : (t t₁ t₂ u : Section) (after : List Done) → Good t → StepDid d t t₁ → StepDid e t₁ t₂ → Run t₂ after u → Run t (e ∷ d ∷ after) u
  swap_known t t₁ t₂ u after g a b r =
      let later : StepDid e (step_of t d.bytes).section t₂ = rw a.left at b in
      let w = swapped t d.bytes e.bytes x y p.time q.time first second (opposite x y other) g.sound p.entry q.entry
      (rw a.answered at p.accepted) (rw later.answered at q.accepted) (rw a.answered at apart) in
      next (step_by e.form t e.bytes (later.answered ∙ sym w.first) refl)
      (next (step_by d.form (step_of t e.bytes).section d.bytes (a.answered ∙ sym w.second) (later.left ∙ sym w.end)) r)

  swap-run : {t u : Section} {after : List Done} → Good t → Run t (d ∷ e ∷ after) u → Run t (e ∷ d ∷ after) u
  swap-run {t} {u} {after} g (next {t = t₁} h (next {t = t₂} k r)) = swap_known t t₁ t₂ u after g (step_did d t t₁ h) (step_did e t₁ t₂ k) r

-- ---- the theorem

pub demand3 : {l : List Done} {s : Section} (run : Run fresh l s) → Demand3 run
demand3 {l} {s} run = record {
  each = each_result run;
  departed = λ i there. let t = told i there in (t.by, t.is, t.kind);
  opposed = λ i j less there to-B to-A.
      let o = opposed_slow s k.good i j less (omega (arith, len)) to-B to-A in
      (slow i (omega arith) o.0, slow j there o.1);
  owed = λ force x. owed x;
  swap = λ before d e after x y first second is p q other apart.
      let (t, front, back) = split_run StepBy before (rw is at run) in
      join_run StepBy front (swap-run d e x y first second p q other apart (kept front).good back);
}
  where
    k : Standing l s
    k = kept run

    len : length (vehicles_of s) ≡ s.len
    len = length_vehicles s k.good.sound.places k.good.sound.well

    told : (i : ℕ) → i < s.len → Told l (vehicle_at s i)
    told i there = every_at (Told l) unused (vehicles_of s) k.told i (omega (arith, len))

    slow : (i : ℕ) → i < s.len → is_open_or_through (vehicle_at s i).movement ≡ true → left_slowly (departure_of l (vehicle_at s i)) ≡ true
    slow i there is = let t = told i there in rw t.is (t.slowly is)

    owed : (x : Station)
        → (desk_of s x).clears.owes
        ≡ (desk_of s (other_at x)).clears.holds + (desk_of s (other_at x)).waiting + trains_of l s (other_at x) + given_up_by s (other_at x) + on_the_way_to s (other_at x)
    owed A = omega (arith, k.good.kept.own.sum, owed-told l B (vehicles_of s) k.told, carried granted_in A (vehicles_of s))
    owed B = omega (arith, k.good.kept.far.sum, owed-told l A (vehicles_of s) k.told, carried granted_in B (vehicles_of s))
