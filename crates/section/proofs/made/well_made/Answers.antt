-- Within the places the code joins the definition's tests in its order, each as its own function found it.
-- Assumes nothing.
use Rattle.section.proofs.made.well_made.Goals as goal
use Rattle.working.specs.WellMade.{well_made}
use borrow.Author.Tests.{le-leb}
use lib.Dec.{eqb}
use mathlib.Core.Bool.{Bool, and-true, and_assoc, true, ◌&&◌, ◌||◌}
use mathlib.Core.Path.{◌∙◌, ◌≡◌}

-- the code's grouping is the definition's
joined : (blank shaped ordered differ a b force empty freshA freshB : Bool)
    → (blank && shaped && ordered && differ && (a && b) && (force || empty && freshA && freshB))
    ≡ (blank && (shaped && (ordered && (differ && (a && (b && ((force || empty && (freshA && (freshB && true))) && true)))))))
joined blank shaped ordered differ a b force empty freshA freshB = simp (and_assoc, and-true)

pub returns : goal.returns
unfolding well_made
returns c =
    let s = c.args.s in
    let found = c.survey_of-survey.result in
    joined c.all_blank.result found.shaped found.ordered c.forms_differ.result
    c.desk_made.result c.desk_made-2.result s.force (eqb s.len 0) c.is_fresh.result c.is_fresh-2.result
    ∙ rw (
      le-leb _ _ c.if-len-gt-PLACES.false,
      c.all_blank.ensures,
      c.forms_differ.ensures,
      c.desk_made.ensures,
      c.desk_made-2.ensures,
      c.is_fresh.ensures,
      c.is_fresh-2.ensures,
      c.survey_of-survey.ensures,
      c.split_at.ensures.front,
      c.split_at.ensures.back,
    )
