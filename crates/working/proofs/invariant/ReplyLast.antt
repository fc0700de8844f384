-- What stands beside the invariant in a list of which document 01's own step refuses none: nothing waits, a desk that holds a line clear owes none, and no vehicle
-- grants any but the one nearest its sender. So whoever receives a grant owes nothing after it, and holds it at once, as in document 01.
-- Assumes nothing.
use Prim.Native.Nat.{ℕ, ◌-◌, ◌<◌, ◌≤◌}
use Rattle.working.proofs.invariant.Invariant.{Halves, all-owed, brings, far_holds, far_sum, granted, or_else, owed_over, own-sum, released, weigh_snoc}
use Rattle.working.proofs.laws.Reasons.{OpenPasses, TrainPasses}
use Rattle.working.proofs.laws.Tests.{zero_unless}
use Rattle.working.specs.Acts as acts
use Rattle.working.specs.Acts.{Act}
use Rattle.working.specs.Effects.{clears_left, departed, granted_desk, granted_in, other_desk, replied, return_desk, train_desk}
use Rattle.working.specs.Sections.{with_out}
use Rattle.working.specs.declared.Desk.{Desk}
use Rattle.working.specs.declared.Movement.TheVariants.{Return}
use Rattle.working.specs.declared.Movement.{Movement}
use lib.ListN.{drop}
use mathlib.Core.Bool.{Bool, false, true}
use mathlib.Core.List.{List, [], ◌++◌, ◌∷◌}
use mathlib.Core.Path.{ap, refl, ◌∙◌, ◌≡◌}
use native.Mathlib.Omega.{arith}

-- a station's desk d, and what its vehicles left on, nearest it first
pub record ReplyLast (d : Desk) (mine : List Movement) : Type 0 where
  pub waiting : d.waiting ≡ 0
  pub owes : 0 < d.clears.holds → d.clears.owes ≡ 0
  pub near : granted (drop 1 mine) ≡ 0

-- what document 01's refusal 16 leaves of an act: a grant only on the TRAIN that leaves holds 0
abbrev pub Allowed01 : Act → Desk → Type 0
Allowed01 (acts.Open view class asked) d = Unit {0}
Allowed01 (acts.Through view) d = Unit {0}
Allowed01 (acts.Return asked granted) d = Unit {0}
Allowed01 (acts.Train endorsed view asked granted) d = 0 < granted → d.clears.holds ≤ 1
Allowed01 (acts.Receive sender form) d = Unit {0}

-- ---- departures

-- a TRAIN leaves fewer held, endorsed as the last or not
fewer : (endorsed : Bool) (holds : ℕ) → clears_left endorsed holds ≤ holds - 1
fewer false holds = omega arith
fewer true holds = omega arith

pub replies_slow : (d o : Desk) (t : ℕ) (out : Bool) (m : Movement) (mine theirs : List Movement) → Halves d o mine theirs → OpenPasses d → ReplyLast d mine
    → ReplyLast (with_out out (departed d t)) (m ∷ mine)
replies_slow d o t out m mine theirs h p k = record { waiting = k.waiting; owes = k.owes; near = omega (arith, h.own.sum, p.owes) }

pub replies_return : (d o : Desk) (t a g : ℕ) (mine theirs : List Movement) → Halves d o mine theirs → 0 < d.guest → ReplyLast d mine
    → ReplyLast (return_desk d t g) (Return a g ∷ mine)
replies_return d o t a g mine theirs h guest k =
    let q = h.own.guests guest in
    record { waiting = k.waiting; owes = λ some. absurd (omega (arith, q.holds)); near = ap granted q.none }

pub replies_train : (d o : Desk) (endorsed : Bool) (t g : ℕ) (m : Movement) (mine theirs : List Movement) → Halves d o mine theirs → TrainPasses d g
    → (0 < g → d.clears.holds ≤ 1) → ReplyLast d mine → ReplyLast (train_desk endorsed d t g) (m ∷ mine)
replies_train d o endorsed t g m mine theirs h p last k =
    let free = k.owes p.holds in
    record {
      waiting = k.waiting;
      owes = λ some. or_else g d.clears.owes free ∙ zero_unless g (λ grants. omega (arith, last grants, fewer endorsed d.clears.holds));
      near = omega (arith, h.own.sum);
    }

-- ---- receipts

-- the nearest leaves; the farthest leaves
pub near_rest : (m : Movement) (l : List Movement) → granted (drop 1 (m ∷ l)) ≡ 0 → granted (drop 1 l) ≡ 0
near_rest m [] h = refl
near_rest m (n ∷ l) h = omega arith

near_before : (l : List Movement) (m : Movement) → granted (drop 1 (l ++ m ∷ [])) ≡ 0 → granted (drop 1 l) ≡ 0
near_before [] m h = refl
near_before (n ∷ l) m h = omega (arith, weigh_snoc granted_in l m)

alone : (l : List Movement) (m : Movement) → granted (drop 1 (l ++ m ∷ [])) ≡ 0 → 0 < granted_in m → l ≡ []
alone [] m h some = refl
alone (n ∷ l) m h some = absurd (omega (arith, weigh_snoc granted_in l m))

-- the other's vehicle
module _ (d o : Desk) (t class : ℕ) (m : Movement) (l : List Movement) (h : Halves d o [] (l ++ m ∷ [])) (own : ReplyLast d []) (far : ReplyLast o (l ++ m ∷ [])) where
  abbrev taken : Desk
  taken = other_desk d t class m

  -- a grant is the last that comes, and its sender holds none
  pub paid : 0 < granted_in m → taken.clears.owes ≡ 0
  paid some =
      let none : owed_over l ≡ 0 = ap owed_over (alone l m far.near some) in
      let their_holds : o.clears.holds ≡ 0 = zero_unless o.clears.holds (λ held. omega (arith, far.owes held, far_sum d o m l h)) in
      omega (arith, own-sum d o m l h, (brings d t class m (all-owed d o m l h)).owes)

  pub replies_far : ReplyLast (replied (granted_in m) taken) [] × ReplyLast o l
  replies_far =
      let b = brings d t class m (all-owed d o m l h) in
      let after = released (granted_desk (granted_in m) taken) (b.holds ∙ far_holds d o m l h) in
      let waits = or_else (granted_in m) taken.waiting (b.waiting ∙ own.waiting) in
      let none : (replied (granted_in m) taken).waiting ≡ 0 = zero_unless _ (λ some. omega (arith, after.sum, after.waits some, paid (omega (arith, after.sum)))) in (
        record { waiting = none; owes = λ some. (after.holding some).0; near = refl },
        record { waiting = far.waiting; owes = far.owes; near = near_before l m far.near },
      )
