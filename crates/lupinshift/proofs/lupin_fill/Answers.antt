-- The listing that the words stand for fills the buffer, and where it then stands is kept in them.
-- Assumes nothing.
use Rattle.lupinshift.proofs.Keeping.{fills, holds, listed_front, section_front}
use Rattle.lupinshift.proofs.lupin_fill.Goals as goal
use Rattle.lupinshift.specs.State.{state_words}
use Rattle.std.proofs.Common.{refl, take, ◌≡◌}

pub returns : goal.returns
returns c =
    let words = c.args.words.now in
    let front : c.in-Some.state.now ≡ take state_words words = c.in-Some.ensures.cases.same in
    let enough = c.in-Some.ensures.cases.enough in
    let put = rw (c.listed_at.ensures, c.section_words-section.ensures, front, section_front words, listed_front words) at c.fill-put.ensures in
    fills enough put (holds c.fill-put.result.listed words c.fill-put.new.words _ c.fill-put.array_long enough (rw c.keep.ensures refl))
