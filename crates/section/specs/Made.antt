-- What one pass over the vehicles finds, and a desk beside it: the clauses of `well_made` in the groups in which the code tests them.
use Rattle.section.specs.declared.made.Survey.{Survey}
use Rattle.section.specs.declared.made.Tally.{Tally}
use Rattle.std.specs.Prelude.{Bool, List, [], cond, eqb, leb, not, true, ℕ, ◌&&◌, ◌*◌, ◌++◌, ◌+◌, ◌<◌, ◌∷◌, ◌≡◌}
use Rattle.working.specs.Entries.{every}
use Rattle.working.specs.WellMade.{all, count_from, is_blank, is_from, movement_tests, numbered, one_if, ordered, same_form, shaped}
use Rattle.working.specs.WellMade.{desk_figures, figure_tests, not_later}
use Rattle.working.specs.declared.Desk.{Desk}
use Rattle.working.specs.declared.Movement.{Movement}
use Rattle.working.specs.declared.Vehicle.{Vehicle}

-- class, asked, granted and given up are in the ranges of what the vehicle left on
abbrev pub movement_made : Movement → ℕ → Bool
movement_made movement class = every (movement_tests movement class)

-- "unused places are zero"
abbrev pub all_blank : List Vehicle → Bool
all_blank l = all is_blank l

-- v differs from each of l in sender or form number
abbrev pub differs_from : Vehicle → List Vehicle → Bool
differs_from v l = all (λ w. not (same_form v w)) l

-- ---- keys: sender and form number in one number

abbrev pub key_of : Vehicle → ℕ
key_of v = v.sender * 65536 + v.form

-- no vehicle's key
abbrev pub no_key : ℕ
no_key = 16777216

-- v, of figures that fit their bytes, has the key n
pub record Keyed (v : Vehicle) (n : ℕ) : Type 0 where
  pub is : n ≡ key_of v
  pub form : v.form < 65536
  pub some : n < no_key

-- n is none of l
abbrev pub lacks : ℕ → List ℕ → Bool
lacks n [] = true
lacks n (m ∷ l) = not (eqb m n) && lacks n l

-- ---- the pass over the vehicles

-- the vehicles of station number n among l, whose desk's last form number is last; and with one more in front of them
abbrev pub tally_of : ℕ → ℕ → List Vehicle → Tally
tally_of n last l = record { count = count_from n l; numbered = all (numbered n last) l }

abbrev pub counted : ℕ → ℕ → Vehicle → Tally → Tally
counted n last v t = record { count = one_if (is_from n v) + t.count; numbered = numbered n last v && t.numbered }

-- what is found of the vehicles l; and with one more in front of them
abbrev pub survey_of : ℕ → ℕ → List Vehicle → Survey
survey_of lastA lastB l = record {
  shaped = all shaped l;
  ordered = ordered l;
  alone = all (is_from 2) l;
  a = tally_of 1 lastA l;
  b = tally_of 2 lastB l;
}

abbrev pub seen : ℕ → ℕ → Vehicle → Survey → Survey
seen lastA lastB v s = record {
  shaped = shaped v && s.shaped;
  ordered = cond (is_from 1 v) s.ordered (is_from 2 v && s.alone);
  alone = is_from 2 v && s.alone;
  a = counted 1 lastA v s.a;
  b = counted 2 lastB v s.b;
}

-- one more vehicle can be counted
pub record Room (s : Survey) : Type 0 where
  pub a : s.a.count < 24
  pub b : s.b.count < 24

-- ---- a desk beside its tally

abbrev pub desk_made_with : Desk → Tally → Bool
desk_made_with d t = every (figure_tests (desk_figures d) ++ leb t.count d.sent ∷ not_later d.interval d.clock ∷ t.numbered ∷ [])
