-- Of a double line's log read from a fresh section, each of the three counts at the end is the number of refused turns that are theirs, and entries = accepted + the three.
-- The statement: specs/Counts.antt. A refusal adds 1 to the count that its step belongs to, and what an accepted entry does leaves all three (`working`, laws/Counts, says the rest).
-- Assumes nothing.
use Prim.Native.Nat.{ℕ}
use Rattle.double.proofs.Preserved.{fresh-made, made_step}
use Rattle.double.proofs.Reading.{step_there}
use Rattle.double.specs.Counts.{LogsCounted, refused_in}
use Rattle.double.specs.Sections.{fresh, with_side}
use Rattle.double.specs.Steps.{Begin, Decoded, Depart, Event, Receive, Resume, decoded_as, double, effect_of, on_decoded, settled, step_of, tests_of, whose_is}
use Rattle.double.specs.WellMade.{well_made}
use Rattle.double.specs.declared.Section.{Section}
use Rattle.double.specs.declared.Side.{Side}
use Rattle.std.specs.Prelude.{None, Option, Some}
use Rattle.working.proofs.laws.Counts.{counted_for, counted_from}
use Rattle.working.proofs.laws.Scans.{scanned}
use Rattle.working.proofs.laws.Turns.{entries_by}
use Rattle.working.specs.Entries.{read_at}
use Rattle.working.specs.Events.{Bad, Says}
use Rattle.working.specs.Sections.{count_of, other_at}
use Rattle.working.specs.Turns.{section_after, turns_of}
use Rattle.working.specs.declared.Read.{Read}
use Rattle.working.specs.declared.Station.TheVariants.{A, B}
use Rattle.working.specs.declared.Station.{Station}
use Rattle.working.specs.declared.Stepped.{Stepped}
use Rattle.working.specs.declared.Table.TheVariants.{DoubleLine}
use lib.ListN.{drop}
use mathlib.Core.Bool.{true}
use mathlib.Core.List.{List}
use mathlib.Core.Path.{refl, ◌∙◌, ◌≡◌}
use native.Mathlib.Omega.{arith}

-- ---- one step

same_counts : (s : Section) (x : Station) (d : Side) → (with_side s x d).refused ≡ s.refused
same_counts s A d = refl
same_counts s B d = refl

-- what is shown of a step that makes r of s
abbrev CountedIn : Section → Decoded → Stepped Section → Type 0
CountedIn s e r = r.section.refused ≡ counted_for r.answer (whose_is e) s.refused

effect_counted : (s : Section) (e : Event) → CountedIn s (Says e) (effect_of s e)
effect_counted s Begin = refl
effect_counted s (Depart x time) = same_counts s x _
effect_counted s (Receive x time sender form) = same_counts (with_side s x _) (other_at x) _ ∙ same_counts s x _
effect_counted s Resume = refl

counted : (s : Section) (e : Decoded) → CountedIn s e (on_decoded s e)
counted s (Bad why) = refl
counted s (Says e) = scanned (λ v. CountedIn s (Says e) (settled s (Says e) v (effect_of s e))) (tests_of s e) (λ why. refl) (λ none. effect_counted s e)

-- a turn goes by what is read there
counted_at : (s : Section) (log : List ℕ) (at : ℕ) → well_made s ≡ true → CountedIn s (decoded_as (read_at DoubleLine log at)) (step_of s (drop at log))
counted_at s log at h = rw (step_there s log at, h) (counted s (decoded_as (read_at DoubleLine log at)))

-- ---- of a log read from a fresh section

pub logs_counted : LogsCounted
logs_counted log short =
    let turns = turns_of double fresh log in
    let whose_read : Read → Option Station = λ read. whose_is (decoded_as read) in
    let each : (whose : Option Station) → count_of (section_after fresh turns).refused whose ≡ refused_in whose turns =
    λ whose. counted_from double whose_read (λ (s : Section). s.refused) (λ (s : Section). well_made s ≡ true) (λ s log at g. made_step s (drop at log) g) counted_at whose log
    fresh fresh-made refl short in
    record { each = each; sum = omega (arith, entries_by whose_read turns, each (Some A), each (Some B), each None) }
