-- Bytes of another length are no position, since a position has 281; of others the two tests are the definition's own, and the words are the own of the section that they say.
-- Assumes nothing.
use Rattle.position.proofs.Copies.{other_position, pointwise_same}
use Rattle.position.proofs.Places.{own_read}
use Rattle.position.proofs.sections.read.Goals as goal
use Rattle.std.proofs.Common.{ap, arith, eq-eqb, length, ne_eqb, ◌∙◌, ◌≡◌}
use Rattle.words.specs.Words.{words_of}
use Rattle.working.specs.Positions.{is_position, position_of, section_at}
use Rattle.working.specs.Sections.{vehicles_of, with_vehicles}
use Rattle.working.specs.WellMade.{one_if}

pub returns-in_default : goal.returns-in_default
returns-in_default c =
    let differ : length c.args.bytes.now ≡ 281 → ⊥ = c.in_default.ensures.1 in
    record { is = other_position c.args.bytes.now differ; left = rw (ne_eqb (length c.args.bytes.now) 281 differ); says = λ h. absurd (omega (arith, ap one_if h)) }

pub returns : goal.returns
unfolding is_position
returns c =
    let bytes = c.args.bytes.now in
    let whole = c.in-Ok.ensures.1 in
    let said = c.section_at-section.ensures ∙ ap section_at whole.same in
    let own = ap (λ s. with_vehicles s (vehicles_of s)) said ∙ own_read bytes in
    let stands = c.words_of.ensures.section ∙ own in
    let again = c.position_in-written.ensures ∙ ap position_of stands in
    let same = c.eq.ensures ∙ pointwise_same c.in-Ok.p.now c.position_in-written.result in
    record {
      is = rw (same, c.well_made.ensures, whole.same, again, said);
      left = rw (eq-eqb (length bytes) 281 whole.long) (c.words_of.ensures.words ∙ ap (λ s. words_of s 0) own);
      says = λ h. stands;
    }
