-- Tests: what a conjunction, a disjunction, a comparison with 0 and a list of tests say of their parts; and that a list gives no refusal of a number which none of its tests has.
-- Assumes nothing.
use Prim.Native.Nat.{ℕ, ◌<◌, ◌≤◌}
use Rattle.std.specs.Prelude.{Err, Ok}
use Rattle.working.specs.Entries.{every}
use Rattle.working.specs.Refusals.{Test, Verdict, first_of, number_of, or_else}
use Rattle.working.specs.declared.Refusal.{Refusal}
use borrow.Author.Tests.{eqb-false, le-ltb, ltb-false}
use lib.Dec.{eqb, ltb}
use mathlib.Core.Bool.{Bool, cond, false, false≢true, not, true, true≢false, ◌&&◌, ◌||◌}
use mathlib.Core.List.{List, [], ◌++◌, ◌∷◌}
use mathlib.Core.Path.{refl, sym, ◌∙◌, ◌≡◌}
use native.Mathlib.Omega.{arith}

-- ---- two tests

pub clash : {b : Bool} → b ≡ true → b ≡ false → ⊥
clash p q = false≢true (sym q ∙ p)

pub both : (a b : Bool) → (a && b) ≡ true → (a ≡ true) × (b ≡ true)
both true b e = (refl, e)
both false b e = absurd (false≢true e)

pub and : (a b : Bool) → a ≡ true → b ≡ true → (a && b) ≡ true
and true b p q = q
and false b p q = absurd (false≢true p)

pub or_left : (a b : Bool) → (a || b) ≡ false → a ≡ false
or_left true b e = e
or_left false b e = refl

pub or_right : (a b : Bool) → (a || b) ≡ false → b ≡ false
or_right true b e = absurd (true≢false e)
or_right false b e = e

-- the first fails, so the second holds
pub or_second : (a b : Bool) → (a || b) ≡ true → a ≡ false → b ≡ true
or_second true b e p = absurd (true≢false p)
or_second false b e p = e

pub or_intro : (a b : Bool) → b ≡ true → (a || b) ≡ true
or_intro true b e = refl
or_intro false b e = e

-- ---- a number that is 0 or not

pub no_test : (n : ℕ) → ltb 0 n ≡ false → n ≡ 0
no_test n e = omega (arith, ltb-false 0 n e)

pub some_test : (n : ℕ) → eqb n 0 ≡ false → 0 < n
some_test n e = omega (arith, eqb-false n 0 e)

pub zero_test : (n : ℕ) → n ≡ 0 → ltb 0 n ≡ false
zero_test n e = le-ltb 0 n (omega arith)

pub zero_unless : (n : ℕ) → (0 < n → ⊥) → n ≡ 0
zero_unless n f = omega arith

-- either of two numbers that are at most k
pub either_most : (b : Bool) {m n k : ℕ} → m ≤ k → n ≤ k → cond b m n ≤ k
either_most true p q = p
either_most false p q = q

-- ---- a list of tests that all hold

abbrev pub Each : List Bool → Type 0
Each [] = Unit {0}
Each (t ∷ ts) = (t ≡ true) × Each ts

pub each_holds : (ts : List Bool) → every ts ≡ true → Each ts
each_holds [] e = tt
each_holds (t ∷ ts) e = let p = both t (every ts) e in (p.0, each_holds ts p.1)

pub every_holds : (ts : List Bool) → Each ts → every ts ≡ true
every_holds [] e = refl
every_holds (t ∷ ts) e = and t (every ts) e.0 (every_holds ts e.1)

-- ---- a list of refusals of which none applies

abbrev pub NoneHolds : List Test → Type 0
NoneHolds [] = Unit {0}
NoneHolds (t ∷ ts) = (t.0 ≡ false) × NoneHolds ts

test_fails : (test : Bool) (why : Refusal) (later : Verdict) → or_else test why later ≡ Ok tt → (test ≡ false) × (later ≡ Ok tt)
test_fails true why later e = (cc, cc)
test_fails false why later e = (refl, e)

pub none_holds : (ts : List Test) → first_of ts ≡ Ok tt → NoneHolds ts
none_holds [] e = tt
none_holds (t ∷ ts) e = let p = test_fails t.0 t.1 (first_of ts) e in (p.0, none_holds ts p.1)

-- of two lists in a row, none of either
pub none_of_both : (ts us : List Test) → NoneHolds (ts ++ us) → NoneHolds ts × NoneHolds us
none_of_both [] us n = (tt, n)
none_of_both (t ∷ ts) us n = let p = none_of_both ts us n.1 in ((n.0, p.0), p.1)

-- ---- a list of tests of which none gives the refusal of this number

abbrev pub is_not : ℕ → Refusal → Bool
is_not n why = not (eqb (number_of why) n)

abbrev pub IsNot : ℕ → Verdict → Type 0
IsNot n (Err why) = is_not n why ≡ true
IsNot n (Ok _) = Unit {0}

-- computed on each list as it stands
abbrev pub none_is : ℕ → List Test → Bool
none_is n [] = true
none_is n (t ∷ ts) = is_not n t.1 && none_is n ts

pub first_is_not : (n : ℕ) (ts : List Test) → none_is n ts ≡ true → IsNot n (first_of ts)
first_is_not n [] h = tt
first_is_not n (t ∷ ts) h = let p = both (is_not n t.1) (none_is n ts) h in by t.0 p.0 (first_is_not n ts p.1)
  where
    by : (b : Bool) → is_not n t.1 ≡ true → IsNot n (first_of ts) → IsNot n (or_else b t.1 (first_of ts))
    by true here later = here
    by false here later = later
