-- Document 01's session, by computation: each entry's answer, and the section at the end.
-- Assumes nothing.
use Prim.Native.Nat.{ℕ}
use Rattle.std.specs.Prelude.{Err}
use Rattle.working.proofs.examples.Computing.{turns_compute}
use Rattle.working.proofs.examples.Literals.{counts}
use Rattle.working.specs.Answers.{accept}
use Rattle.working.specs.Sections.{fresh}
use Rattle.working.specs.Turns.{answers_in, section_after, single, turns_of}
use Rattle.working.specs.declared.Refusal.TheVariants.{IntervalRunning}
use Rattle.working.specs.declared.Section.{Section}
use Rattle.working.specs.declared.Speed.TheVariants.{Booked, Both, Kmh, NoSpeed}
use mathlib.Core.List.{List, [], ◌∷◌}
use mathlib.Core.Path.{refl, ◌≡◌}

abbrev pub session : List ℕ
session =
    0x01 ∷ 0x01
    ∷ 0x3F ∷ 0x02 ∷ 0x01 ∷ 0x00 ∷ 0x0A ∷ 0x01 ∷ 0x01 ∷ 0x02
    ∷ 0x87 ∷ 0x06 ∷ 0x02 ∷ 0x00 ∷ 0x46 ∷ 0x01 ∷ 0x00 ∷ 0x01
    ∷ 0x47 ∷ 0x04 ∷ 0x02 ∷ 0x00 ∷ 0x4B ∷ 0x02
    ∷ 0x87 ∷ 0x06 ∷ 0x01 ∷ 0x00 ∷ 0x5F ∷ 0x02 ∷ 0x00 ∷ 0x01
    ∷ 0x0F ∷ 0x05 ∷ 0x01 ∷ 0x00 ∷ 0x60 ∷ 0x01
    ∷ 0x0F ∷ 0x05 ∷ 0x01 ∷ 0x00 ∷ 0x7D ∷ 0x01
    ∷ 0x0F ∷ 0x05 ∷ 0x01 ∷ 0x00 ∷ 0x7E ∷ 0x01
    ∷ []

the_session : answers_in (turns_of single fresh session) ≡
    accept 0 0 NoSpeed
    ∷ accept 1 7 (Kmh 15)
    ∷ accept 0 0 NoSpeed
    ∷ accept 1 180 Booked
    ∷ accept 0 0 NoSpeed
    ∷ accept 2 168 Booked
    ∷ Err IntervalRunning
    ∷ accept 3 104 (Both 25 10)
    ∷ []
unfolding turns_compute
the_session = refl

last : Section
last = section_after fresh (turns_of single fresh session)

the_end : (last.refused ≡ counts 1 0 0) × (last.len ≡ 2) × (last.a.clears.holds ≡ 0) × (last.a.clears.owes ≡ 0) × (last.b.clears.holds ≡ 0) × (last.b.clears.owes ≡ 2)
unfolding last turns_compute
the_end = (refl, refl, refl, refl, refl, refl)
