-- Behind the places each figure is put at its own.
-- Assumes nothing.
use Rattle.position.proofs.HighFirst.{flag_byte}
use Rattle.position.proofs.Places.{rest_put}
use Rattle.position.proofs.sections.position_in.Goals as goal
use Rattle.std.proofs.Common.{ap, arith, length, length-append, replicate, rules, set, ◌∙◌, ◌≡◌}
use Rattle.words.specs.Words.{section_in}
use Rattle.working.specs.Entries.{pasted}
use Rattle.working.specs.Positions.{counts_bytes, desk_bytes, places_bytes, position_of}
use Rattle.working.specs.Sections.{vehicles_of}
use Rattle.working.specs.WellMade.{one_if}
use mathlib.Core.Path.{ap₂}

pub returns : goal.returns
unfolding position_of
returns c =
    let s = section_in c.args.words.now in
    let bytes = places_bytes 24 (vehicles_of s) in
    let all : length c.places_in-p.result ≡ 281 = search rules in
    let long : length bytes ≡ 240 = omega (arith, length-append bytes (replicate 41 0), ap length c.places_in-p.ensures) in
    let force = c.from.ensures ∙ flag_byte _ ∙ ap one_if c.in_force.ensures in
    let counts = c.counts_bytes.ensures ∙ ap counts_bytes c.refused.ensures in
    let a = c.desk_bytes.ensures ∙ ap desk_bytes c.desk.ensures in
    let b = c.desk_bytes-2.ensures ∙ ap desk_bytes c.desk-2.ensures in
    let put-counts = c.put_bytes.ensures ∙ ap₂ (λ t l. pasted t 241 l) (ap₂ (λ t f. set t 240 f) c.places_in-p.ensures force) counts in
    let put_a = c.put_bytes-2.ensures ∙ ap₂ (λ t l. pasted t 253 l) put-counts a in
    c.put_bytes-3.ensures ∙ ap₂ (λ t l. pasted t 267 l) put_a b ∙ rest_put bytes (one_if s.force) s.refused s.a s.b long
