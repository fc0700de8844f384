-- The theorem about every list of steps from a fresh section, in either form, whatever bytes the steps are given. The statement: specs/InOrder.antt.
-- The invariant is the equation itself, for the departures and receipts so far; beside it, that the section is well made.
-- Assumes nothing.
use Prim.Native.Nat.{ℕ}
use Rattle.double.proofs.Lists.{each_result, own-run, step_did}
use Rattle.double.proofs.Preserved.{Keeps, fresh-made, step_keeps}
use Rattle.double.specs.InOrder.{InOrder, departed_by, departures, receipts, received_by}
use Rattle.double.specs.Runs.{Run, StepBy}
use Rattle.double.specs.Sections.{fresh, line_of, side_of}
use Rattle.double.specs.Steps.{decode}
use Rattle.double.specs.WellMade.{well_made}
use Rattle.double.specs.declared.Section.{Section}
use Rattle.working.specs.Runs.{Done, StepForm, next, stop}
use Rattle.working.specs.Sections.{other_at, pad_with}
use Rattle.working.specs.declared.Station.TheVariants.{A, B}
use Rattle.working.specs.declared.Station.{Station}
use mathlib.Core.Bool.{true}
use mathlib.Core.List.{List, [], ◌++◌}
use mathlib.Core.Path.{refl, ◌≡◌}

-- what a step of a list keeps
step_kept : (s t : Section) (d : Done) → StepBy d.form s d.bytes d.answer t → well_made s ≡ true
    → Keeps s (decode d.bytes) (record { answer = d.answer; section = t })
step_kept s t d did h = rw (step_did d.form s d.bytes d.answer t did) (step_keeps s d.bytes h)

-- ---- from a well-made section on, and from wherever the equation holds on

pub made-run : {s t : Section} {l : List Done} → well_made s ≡ true → Run s l t → well_made t ≡ true
made-run h stop = h
made-run h (next {s} {t} {d = d} did run) = made-run (step_kept s t d did h).made run

order_run : (x : Station) (sent got : List ℕ) {s t : Section} {l : List Done} → well_made s ≡ true → sent ≡ got ++ line_of (side_of s x) → Run s l t
    → departures x sent l ≡ receipts (other_at x) got l ++ line_of (side_of t x)
order_run x sent got h p stop = p
order_run x sent got h p (next {s} {t} {d = d} did run) = let k = step_kept s t d did h in
    order_run x (departed_by x (decode d.bytes) d.answer sent) (received_by (other_at x) (decode d.bytes) d.answer got) k.made (k.order x sent got p) run

-- ---- the theorem

pub in_order : {l : List Done} {s : Section} (run : Run fresh l s) → InOrder run
unfolding pad_with
in_order {l} {s} run = record { each = each_result run; order = order }
  where
    order : (x : Station) → departures (other_at x) [] l ≡ receipts x [] l ++ line_of (side_of s (other_at x))
    order A = order_run B [] [] fresh-made refl run
    order B = order_run A [] [] fresh-made refl run

-- of a log read from a fresh section, each step handed its own entry's bytes
pub own_in_order : (f : StepForm) (log : List ℕ) → InOrder (own-run f fresh log)
own_in_order f log = in_order (own-run f fresh log)
