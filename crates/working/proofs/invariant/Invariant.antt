-- The invariant behind demand 3, and that each kind of departure and receipt keeps it. It is stated from one station's side: its desk d, the other's desk o, and what
-- the vehicles of each left on, nearest their sender first (`mine`, `theirs`); so no proof here names A or B. docs/THEOREM.md has the clauses in words:
--     SUM     owes = the other's holds + what waits at the other + the other's trains + what these give up + what the own vehicles grant      `sum`
--     OUT     out says whether the opener is away: a guest at the other end, the own OPEN, or the other's RETURN nearest here      `outs`
--     GUEST   a desk with a guest: nothing in the section, no guest opposite, holds and owes nothing, and nothing waits      `guests`
--     HOLDS   a desk that holds a line clear: the other holds none, nothing waits here, every vehicle is a TRAIN of its own that is not endorsed as the last, and nothing
--             is asked here where it owes      `holding`
--     WAIT    a desk where line clears wait: it owes, holds none, and every vehicle is a train of the other that grants nothing      `waits`
--     NEAR    an OPEN is nearest its sender; nearer it than a vehicle with a grant there are only trains that grant nothing, and nearer it than a TRAIN endorsed as the
--             last only OPENs and THROUGHs      `row`, by `Ahead`
--     RETURN  a RETURN is nearest the other station      `row`, by `Ahead`; `clear`
--     FRONT   ahead of a RETURN or a train there are only such, of the same sender      `row`, by `Ahead`; `clear`
-- A train is a TRAIN, endorsed as the last or not. Where one that is endorsed arrives, all that the station owes is that train and what it gives up (`all-owed`), so that
-- "becomes 0" and the sum agree.
-- Assumes nothing.
use Prim.Native.Nat.{ℕ, ◌+◌, ◌-◌, ◌<◌}
use Rattle.working.proofs.laws.Every.{Every, every-before, every_map}
use Rattle.working.proofs.laws.Reasons.{OpenPasses, TrainPasses}
use Rattle.working.proofs.laws.Tests.{clash, no_test, or_left, or_right, some_test, zero_test, zero_unless}
use Rattle.working.specs.Effects.{clears_left, departed, granted_desk, granted_in, if_any, other_desk, received, released_desk, replied, return_desk, train_desk, train_movement}
use Rattle.working.specs.Sections.{with_out}
use Rattle.working.specs.Terms.{given_up_in, is_train, kind_in}
use Rattle.working.specs.WellMade.{is_open_or_through, one_if}
use Rattle.working.specs.declared.Desk.{Desk}
use Rattle.working.specs.declared.Movement.TheVariants.{LastTrain, Open, Return, Through, Train}
use Rattle.working.specs.declared.Movement.{Movement}
use borrow.Author.Tests.{eqb-true, lt-ltb, ltb-false, ltb-true}
use lib.Dec.{eqb, ltb}
use mathlib.Core.Bool.{Bool, cond, false, false≢true, or-true, true, true≢false, ◌||◌}
use mathlib.Core.List.{List, [], ◌++◌, ◌∷◌}
use mathlib.Core.Path.{ap, ap₂, refl, sym, ◌∙◌, ◌≡◌}
use native.Mathlib.Omega.{arith}

-- ---- the clauses

abbrev pub is_open : Movement → Bool
is_open (Open a) = true
is_open Through = false
is_open (Return a g) = false
is_open (Train a g) = false
is_open (LastTrain a g u) = false

abbrev pub is_return : Movement → Bool
is_return (Open a) = false
is_return Through = false
is_return (Return a g) = true
is_return (Train a g) = false
is_return (LastTrain a g u) = false

-- a TRAIN endorsed as the last
abbrev pub is_last : Movement → Bool
is_last (Open a) = false
is_last Through = false
is_last (Return a g) = false
is_last (Train a g) = false
is_last (LastTrain a g u) = true

-- a slow vehicle, OPEN or THROUGH, as against a fast one, RETURN or train; and a train
abbrev pub OpenOrThrough : Movement → Type 0
OpenOrThrough m = is_open_or_through m ≡ true

abbrev pub Trains : Movement → Type 0
Trains m = is_train (kind_in m) ≡ true

abbrev pub train_one : Movement → ℕ
train_one m = one_if (is_train (kind_in m))

abbrev pub weigh : (Movement → ℕ) → List Movement → ℕ
weigh f [] = 0
weigh f (m ∷ l) = f m + weigh f l

-- what the other station owes for a vehicle: the train that it is, and what it gives up
abbrev pub owed_for : Movement → ℕ
owed_for m = train_one m + given_up_in m

abbrev pub owed_over : List Movement → ℕ
owed_over l = weigh owed_for l

abbrev pub granted : List Movement → ℕ
granted l = weigh granted_in l

-- a TRAIN that is not endorsed as the last; a train that grants nothing
pub record Unendorsed (m : Movement) : Type 0 where
  pub train : Trains m
  pub more : is_last m ≡ false

pub record Bare (m : Movement) : Type 0 where
  pub train : Trains m
  pub grants : granted_in m ≡ 0

-- n may stand ahead of m, both of one station, n the farther from their sender
pub record Ahead (m n : Movement) : Type 0 where
  -- RETURN: ahead of a RETURN there is nothing
  pub return : is_return m ≡ false
  -- NEAR: what is ahead is no OPEN, grants nothing unless it is followed by trains that grant nothing, and is endorsed as the last only where no train follows it
  pub no_open : is_open n ≡ false
  pub grants : 0 < granted_in n → Bare m
  pub last : is_last n ≡ true → is_open_or_through m ≡ true
  -- FRONT: ahead of a fast one all are fast
  pub fast : is_open_or_through m ≡ false → is_open_or_through n ≡ false

abbrev pub InRow : List Movement → Type 0
InRow [] = Unit {0}
InRow (m ∷ l) = Every (Ahead m) l × InRow l

abbrev pub last_return : List Movement → Bool
last_return [] = false
last_return (m ∷ []) = is_return m
last_return (m ∷ n ∷ l) = last_return (n ∷ l)

-- the vehicle nearest the station is its own OPEN or the other's RETURN
abbrev pub away_at : List Movement → List Movement → Bool
away_at [] theirs = last_return theirs
away_at (m ∷ l) theirs = is_open m

-- what GUEST says of a desk with a guest, HOLDS of one that holds a line clear, and WAIT of one where line clears wait
pub record Visited (d o : Desk) (mine theirs : List Movement) : Type 0 where
  pub none : mine ≡ []
  pub none_far : theirs ≡ []
  pub guest : o.guest ≡ 0
  pub holds : d.clears.holds ≡ 0
  pub owes : d.clears.owes ≡ 0
  pub waiting : d.waiting ≡ 0

pub record Holding (d o : Desk) (mine theirs : List Movement) : Type 0 where
  pub far_holds : o.clears.holds ≡ 0
  pub waiting : d.waiting ≡ 0
  pub none_far : theirs ≡ []
  pub trains : Every Unendorsed mine
  pub asked : 0 < d.clears.owes → d.clears.asked ≡ 0

pub record Waits (d : Desk) (mine theirs : List Movement) : Type 0 where
  pub owes : 0 < d.clears.owes
  pub holds : d.clears.holds ≡ 0
  pub none : mine ≡ []
  pub bare : Every Bare theirs

-- a fast vehicle has nothing of the other station ahead
pub data Clear (mine theirs : List Movement) : Type 0 where
  all_slow : Every OpenOrThrough mine → Clear mine theirs
  no_far : theirs ≡ [] → Clear mine theirs

pub record Half (d o : Desk) (mine theirs : List Movement) : Type 0 where
  pub sum : d.clears.owes ≡ o.clears.holds + o.waiting + owed_over theirs + granted mine
  pub outs : d.out ≡ (ltb 0 o.guest || away_at mine theirs)
  pub guests : 0 < d.guest → Visited d o mine theirs
  pub holding : 0 < d.clears.holds → Holding d o mine theirs
  pub waits : 0 < d.waiting → Waits d mine theirs
  pub row : InRow mine
  pub clear : Clear mine theirs

-- both sides
pub record Halves (d o : Desk) (mine theirs : List Movement) : Type 0 where
  pub own : Half d o mine theirs
  pub far : Half o d theirs mine

-- ---- facts on the lists

abbrev is_nil : List Movement → Bool
is_nil [] = true
is_nil (m ∷ l) = false

pub cons_nil : {A : Type 0} {m : Movement} {l : List Movement} → ◌≡◌ {A = List Movement} (m ∷ l) [] → A
cons_nil e = absurd (false≢true (ap is_nil e))

pub snoc_nil : {A : Type 0} (l : List Movement) (m : Movement) → l ++ m ∷ [] ≡ [] → A
snoc_nil [] m e = cons_nil e
snoc_nil (n ∷ l) m e = cons_nil e

-- a departure's movement in front does not alter which is farthest
last_cons : (m : Movement) (l : List Movement) → is_return m ≡ false → last_return (m ∷ l) ≡ last_return l
last_cons m [] e = e
last_cons m (n ∷ l) e = refl

last_snoc : (l : List Movement) (m : Movement) → last_return (l ++ m ∷ []) ≡ is_return m
last_snoc [] m = refl
last_snoc (n ∷ []) m = refl
last_snoc (n ∷ k ∷ l) m = last_snoc (k ∷ l) m

far_away : (m : Movement) (t mine : List Movement) → is_return m ≡ false → away_at t mine ≡ away_at t (m ∷ mine)
far_away m [] mine e = sym (last_cons m mine e)
far_away m (n ∷ t) mine e = refl

-- the farthest leaves and is no OPEN: whether the nearest is an OPEN stays
away_snoc : (l : List Movement) (m : Movement) → is_open m ≡ false → away_at (l ++ m ∷ []) [] ≡ away_at l []
away_snoc [] m e = e
away_snoc (n ∷ l) m e = refl

pub weigh_snoc : (f : Movement → ℕ) (l : List Movement) (m : Movement) → weigh f (l ++ m ∷ []) ≡ weigh f l + f m
weigh_snoc f [] m = omega arith
weigh_snoc f (n ∷ l) m = omega (arith, weigh_snoc f l m)

-- an OPEN or a THROUGH grants nothing, nothing is owed for it, and it is no RETURN
record Slow (m : Movement) : Type 0 where
  grants : granted_in m ≡ 0
  owed : owed_for m ≡ 0
  return : is_return m ≡ false

slow : (m : Movement) → OpenOrThrough m → Slow m
slow (Open a) is = record { grants = refl; owed = refl; return = refl }
slow Through is = record { grants = refl; owed = refl; return = refl }
slow (Return a g) is = absurd (false≢true is)
slow (Train a g) is = absurd (false≢true is)
slow (LastTrain a g u) is = absurd (false≢true is)

slow_owed : (l : List Movement) → Every OpenOrThrough l → owed_over l ≡ 0
slow_owed [] h = refl
slow_owed (m ∷ l) h = omega (arith, (slow m h.0).owed, slow_owed l h.1)

slow_last : (l : List Movement) → Every OpenOrThrough l → last_return l ≡ false
slow_last [] h = refl
slow_last (m ∷ l) h = last_cons m l (slow m h.0).return ∙ slow_last l h.1

-- no train and no RETURN
slow_of : (l : List Movement) → InRow l → owed_over l ≡ 0 → last_return l ≡ false → Every OpenOrThrough l
slow_of [] h t r = tt
slow_of (Open a ∷ l) h t r = (refl, slow_of l h.1 (omega arith) (sym (last_cons (Open a) l refl) ∙ r))
slow_of (Through ∷ l) h t r = (refl, slow_of l h.1 (omega arith) (sym (last_cons Through l refl) ∙ r))
slow_of (Return a g ∷ []) h t r = absurd (true≢false r)
slow_of (Return a g ∷ m ∷ l) ((ahead, others), row) t r = absurd (true≢false ahead.return)
slow_of (Train a g ∷ l) h t r = absurd (omega arith)
slow_of (LastTrain a g u ∷ l) h t r = absurd (omega arith)

-- no OPEN, where the nearest is none
abbrev NoOpen : Movement → Type 0
NoOpen m = is_open m ≡ false

no_opens : (l theirs : List Movement) → InRow l → away_at l theirs ≡ false → Every NoOpen l
no_opens [] t h e = tt
no_opens (m ∷ l) t h e = (e, every_map (Ahead m) NoOpen (λ n k. k.no_open) l h.0)

no_open_away : (l theirs : List Movement) → Every NoOpen l → last_return theirs ≡ false → away_at l theirs ≡ false
no_open_away [] t h e = e
no_open_away (m ∷ l) t h e = h.0

-- ahead of an OPEN or THROUGH may stand what is no OPEN and grants nothing
slow_ahead : (m : Movement) (l : List Movement) → OpenOrThrough m → Every NoOpen l → granted l ≡ 0 → Every (Ahead m) l
slow_ahead m [] op h e = tt
slow_ahead m (n ∷ l) op h e = (
  record { return = (slow m op).return; no_open = h.0; grants = λ some. absurd (omega arith); last = λ is. op; fast = λ fast. absurd (clash op fast) },
  slow_ahead m l op h.1 (omega arith),
)

-- a train is no OPEN, not slow and no RETURN
pub record Hauled (m : Movement) : Type 0 where
  pub no_open : is_open m ≡ false
  pub fast : is_open_or_through m ≡ false
  pub return : is_return m ≡ false

pub hauled : (m : Movement) → Trains m → Hauled m
hauled (Open a) is = absurd (false≢true is)
hauled Through is = absurd (false≢true is)
hauled (Return a g) is = absurd (false≢true is)
hauled (Train a g) is = record { no_open = refl; fast = refl; return = refl }
hauled (LastTrain a g u) is = record { no_open = refl; fast = refl; return = refl }

-- ahead of a train may stand TRAINs that are not endorsed as the last; where one of them grants, it grants nothing
trains_ahead : (m : Movement) (l : List Movement) → Trains m → Every Unendorsed l → (0 < granted l → granted_in m ≡ 0) → Every (Ahead m) l
trains_ahead m [] is h free = tt
trains_ahead m (n ∷ l) is h free =
    let k = hauled n h.0.train in (
      record {
        return = (hauled m is).return;
        no_open = k.no_open;
        grants = λ some. record { train = is; grants = free (omega arith) };
        last = λ last. absurd (clash last h.0.more);
        fast = λ fast. k.fast;
      },
      trains_ahead m l is h.1 (λ some. free (omega arith)),
    )

-- the farthest, m, and those behind it
row_snoc : (l : List Movement) (m : Movement) → InRow (l ++ m ∷ []) → InRow l × Every (λ n. Ahead n m) l
row_snoc [] m h = (tt, tt)
row_snoc (n ∷ l) m h =
    let (ahead, farthest) = every-before (Ahead n) l m h.0 in
    let (row, behind) = row_snoc l m h.1 in
    ((ahead, row), (farthest, behind))

-- an OPEN is alone
alone : (l : List Movement) (m : Movement) → InRow (l ++ m ∷ []) → (is_open m ≡ false → ⊥) → l ≡ []
alone [] m h e = refl
alone (n ∷ l) m h e = let (row, (first, others)) = row_snoc (n ∷ l) m h in absurd (e first.no_open)

-- trains, of which there are none
trains_none : (l : List Movement) → Every Bare l → owed_over l ≡ 0 → l ≡ []
trains_none [] h e = refl
trains_none (m ∷ l) h e = let one = ap one_if h.0.train in absurd (omega arith)

-- no RETURN behind
row_last : (l : List Movement) (m : Movement) → Every (λ n. Ahead n m) l → last_return l ≡ false
row_last [] m h = refl
row_last (n ∷ l) m h = last_cons n l h.0.return ∙ row_last l m h.1

pub or_else : (g o : ℕ) → o ≡ 0 → if_any g o ≡ g
or_else g o e = by (ltb 0 g) refl
  where
    by : (b : Bool) → ltb 0 g ≡ b → cond b g o ≡ g
    by true some = refl
    by false none = omega (arith, ltb-false 0 g none)

-- a half of a desk with no guest that holds nothing and where nothing waits: GUEST, HOLDS and WAIT say nothing of it
pub quiet : {d o : Desk} {mine theirs : List Movement} → d.guest ≡ 0 → d.clears.holds ≡ 0 → d.waiting ≡ 0
    → d.clears.owes ≡ o.clears.holds + o.waiting + owed_over theirs + granted mine → d.out ≡ (ltb 0 o.guest || away_at mine theirs)
    → InRow mine → Clear mine theirs → Half d o mine theirs
quiet guest holds waiting sum outs row clear = record {
  sum = sum;
  outs = outs;
  guests = λ some. absurd (omega arith);
  holding = λ some. absurd (omega arith);
  waits = λ some. absurd (omega arith);
  row = row;
  clear = clear;
}

-- ---- departures

-- an OPEN or a THROUGH
pub kept_slow : (d o : Desk) (t : ℕ) (out : Bool) (m : Movement) (mine theirs : List Movement) → Halves d o mine theirs
    → OpenPasses d → is_open_or_through m ≡ true → out ≡ is_open m
    → Halves (with_out out (departed d t)) o (m ∷ mine) theirs
kept_slow d o t out m mine theirs h p op is-out =
    let none_out : (ltb 0 o.guest || away_at mine theirs) ≡ false = sym h.own.outs ∙ p.out in
    let no_guest = or_left (ltb 0 o.guest) (away_at mine theirs) none_out in
    let none_away = or_right (ltb 0 o.guest) (away_at mine theirs) none_out in
    let k = slow m op in
    let own_waits : d.waiting ≡ 0 = zero_unless d.waiting (λ some. omega (arith, h.own.waits some, p.owes)) in
    let ahead = slow_ahead m mine op (no_opens mine theirs h.own.row none_away) (omega (arith, h.own.sum, p.owes)) in
    record {
      own = quiet p.guest p.holds own_waits (omega (arith, h.own.sum, k.grants))
          (is-out ∙ sym (ap (◌|| is_open m) no_guest))
          (ahead, h.own.row) (one_more_lem h.own.clear);
      far = quiet (no_test o.guest no_guest) (omega (arith, h.own.sum, p.owes)) (omega (arith, h.own.sum, p.owes)) (omega (arith, h.far.sum, k.owed))
          (h.far.outs ∙ ap (ltb 0 d.guest ||◌) (far_away m theirs mine k.return))
          h.far.row (all_slow (theirs_open h.far.clear none_away));
    }
  where
    one_more_lem : Clear mine theirs → Clear (m ∷ mine) theirs
    one_more_lem (all_slow all) = all_slow (op, all)
    one_more_lem (no_far nil) = no_far nil

    theirs_open : Clear theirs mine → away_at mine theirs ≡ false → Every OpenOrThrough theirs
    theirs_open (all_slow all) none_away = all
    theirs_open (no_far nil) none_away = slow_of theirs h.far.row (omega (arith, h.own.sum, p.owes)) (rw nil at none_away)

-- a RETURN
pub kept_return : (d o : Desk) (t a g : ℕ) (mine theirs : List Movement) → Halves d o mine theirs
    → 0 < d.guest → Halves (return_desk d t g) o (Return a g ∷ mine) theirs
kept_return d o t a g mine theirs h guest =
    let q = h.own.guests guest in
    let alone : Halves d o [] [] = rw (q.none, q.none_far) at h in
    let owes = or_else g d.clears.owes q.owes in
    rw (q.none, q.none_far)
    (record {
      own = quiet refl q.holds q.waiting (omega (arith, alone.own.sum)) alone.own.outs (tt, tt) (no_far refl);
      far = quiet q.guest (omega (arith, alone.own.sum)) (omega (arith, alone.own.sum)) (omega (arith, alone.far.sum, q.holds, q.waiting))
          (alone.far.outs ∙ rw (lt-ltb 0 d.guest guest)) tt (all_slow tt);
    })

-- what a TRAIN, which is m in the section, leaves of the line clears held, and what is owed for it
pub record Uses (endorsed : Bool) (holds granted : ℕ) (m : Movement) : Type 0 where
  pub train : Trains m
  pub grants : granted_in m ≡ granted
  pub sum : clears_left endorsed holds + owed_for m ≡ holds
  pub more : 0 < clears_left endorsed holds → is_last m ≡ false

pub uses : (endorsed : Bool) (holds a g : ℕ) → 0 < holds → Uses endorsed holds g (train_movement endorsed holds a g)
uses false holds a g some = record { train = refl; grants = refl; sum = omega arith; more = λ left. refl }
uses true holds a g some = record { train = refl; grants = refl; sum = omega arith; more = λ left. absurd (omega arith) }

-- a TRAIN, which is m in the section
pub kept_train : (d o : Desk) (endorsed : Bool) (t g : ℕ) (m : Movement) (mine theirs : List Movement) → Halves d o mine theirs
    → TrainPasses d g → Uses endorsed d.clears.holds g m → Halves (train_desk endorsed d t g) o (m ∷ mine) theirs
kept_train d o endorsed t g m mine theirs h p k =
    let q = h.own.holding p.holds in
    let their_guest : o.guest ≡ 0 = zero_unless o.guest (λ some. omega (arith, h.far.guests some, h.far.sum, p.holds)) in
    let own_guest : d.guest ≡ 0 = zero_unless d.guest (λ some. omega (arith, h.own.guests some, p.holds)) in
    let bare : 0 < d.clears.owes → g ≡ 0 = λ owes. zero_unless g (λ grants. omega (arith, p.free grants)) in
    record {
      own = record {
        sum = now_owes (ltb 0 g) refl h.own.sum;
        outs = h.own.outs ∙ ap (ltb 0 o.guest ||◌) (none_away mine q.trains (ap last_return q.none_far) ∙ sym (hauled m k.train).no_open);
        guests = λ some. absurd (omega arith);
        holding = λ some. record {
          far_holds = q.far_holds;
          waiting = q.waiting;
          none_far = q.none_far;
          trains = (record { train = k.train; more = k.more some }, q.trains);
          asked = answered (ltb 0 g) q.asked;
        };
        waits = λ some. absurd (omega (arith, q.waiting));
        row = (trains_ahead m mine k.train q.trains (λ some. k.grants ∙ bare (omega (arith, h.own.sum))), h.own.row);
        clear = no_far q.none_far;
      };
      far = record {
        sum = omega (arith, h.far.sum, k.sum);
        outs = h.far.outs ∙ ap (ltb 0 d.guest ||◌) (far_away m theirs mine (hauled m k.train).return);
        guests = λ some. absurd (omega arith);
        holding = λ some. absurd (omega (arith, q.far_holds));
        waits = λ some.
            let w = h.far.waits some in
            record { owes = w.owes; holds = w.holds; none = w.none; bare = (record { train = k.train; grants = k.grants ∙ bare (omega (arith, h.own.sum)) }, w.bare) };
        row = h.far.row;
        clear = all_slow (rw q.none_far tt);
      };
    }
  where
    none_away : (l : List Movement) → Every Unendorsed l → last_return theirs ≡ false → away_at l theirs ≡ false
    none_away [] all last = last
    none_away (n ∷ l) all last = (hauled n all.0.train).no_open

    -- a grant answers the enquiry
    answered : (b : Bool) → (0 < d.clears.owes → d.clears.asked ≡ 0) → 0 < cond b g d.clears.owes → cond b 0 d.clears.asked ≡ 0
    answered true asked owes = refl
    answered false asked owes = asked owes

    -- and is owed beside nothing else
    now_owes : (b : Bool) → ltb 0 g ≡ b → d.clears.owes ≡ o.clears.holds + o.waiting + owed_over theirs + granted mine
        → cond b g d.clears.owes ≡ o.clears.holds + o.waiting + owed_over theirs + (granted_in m + granted mine)
    now_owes true some sum = omega (arith, k.grants, p.free (ltb-true 0 g some))
    now_owes false none sum = omega (arith, k.grants, ltb-false 0 g none)

-- ---- receipts

-- the station held nothing: what waited after the reply is then held, where it owes nothing more, and else goes on waiting
pub record Released (d r : Desk) : Type 0 where
  pub sum : r.clears.holds + r.waiting ≡ d.waiting
  pub holding : 0 < r.clears.holds → (r.clears.owes ≡ 0) × (r.waiting ≡ 0)
  pub waits : 0 < r.waiting → (0 < r.clears.owes) × (r.clears.holds ≡ 0)

pub released : (d : Desk) → d.clears.holds ≡ 0 → Released d (released_desk d)
released d none = by (eqb d.clears.owes 0) refl
  where
    by : (b : Bool) → eqb d.clears.owes 0 ≡ b → Released d (released_desk d)
    by true zero =
        let held = or_else d.waiting d.clears.holds none in
        rw zero (record { sum = omega arith; holding = λ some. (eqb-true d.clears.owes 0 zero, refl); waits = λ some. absurd (omega arith) })
    by false owes = rw owes (record { sum = omega arith; holding = λ some. absurd (omega arith); waits = λ some. (some_test d.clears.owes owes, none) })

-- the station's own OPEN or THROUGH
pub kept-own : (d o : Desk) (t sent : ℕ) (m : Movement) (mine theirs : List Movement) → Halves d o (m ∷ mine) theirs
    → is_open_or_through m ≡ true
    → Halves (replied (granted_in m) (with_out (cond (is_open m) false d.out) (received d t sent))) o mine theirs
kept-own d o t sent m mine theirs h op =
    let k = slow m op in
    let own_guest : d.guest ≡ 0 = zero_unless d.guest (λ some. cons_nil (h.own.guests some).none) in
    let their_guest : o.guest ≡ 0 = zero_unless o.guest (λ some. cons_nil (h.far.guests some).none_far) in
    let own-holds : d.clears.holds ≡ 0 = zero_unless d.clears.holds (λ some. let one = ap one_if (h.own.holding some).trains.0.train in omega (arith, k.owed)) in
    let their_holds : o.clears.holds ≡ 0 = zero_unless o.clears.holds (λ some. cons_nil (h.far.holding some).none_far) in
    let own_waits : d.waiting ≡ 0 = zero_unless d.waiting (λ some. cons_nil (h.own.waits some).none) in
    let their_waits : o.waiting ≡ 0 = zero_unless o.waiting (λ some. let one = ap one_if (h.far.waits some).bare.0.train in omega (arith, k.owed)) in
    let still = released (granted_desk (granted_in m) (with_out (cond (is_open m) false d.out) (received d t sent))) own-holds in
    let none_waits : if_any (granted_in m) d.waiting ≡ 0 = or_else (granted_in m) d.waiting own_waits ∙ k.grants in
    let all-open = theirs_open h.far.clear in
    let none_open = every_map (Ahead m) NoOpen (λ n k. k.no_open) mine h.own.row.0 in
    let none_away = no_open_away mine theirs none_open (slow_last theirs all-open) in
    record {
      own = quiet own_guest (omega (arith, still.sum)) (omega (arith, still.sum)) (omega (arith, h.own.sum, k.grants))
          (in_now (is_open m) refl their_guest ∙ sym (ap₂ ◌||◌ (zero_test o.guest their_guest) none_away))
          h.own.row.1 (one_less h.own.clear);
      far = quiet their_guest their_holds their_waits (omega (arith, h.far.sum, k.owed, still.sum))
          (h.far.outs ∙ ap (ltb 0 d.guest ||◌) (sym (far_away m theirs mine k.return)))
          h.far.row (all_slow all-open);
    }
  where
    one_less : Clear (m ∷ mine) theirs → Clear mine theirs
    one_less (all_slow all) = all_slow all.1
    one_less (no_far nil) = no_far nil

    theirs_open : Clear theirs (m ∷ mine) → Every OpenOrThrough theirs
    theirs_open (all_slow all) = all
    theirs_open (no_far nil) = cons_nil nil

    in_now : (b : Bool) → is_open m ≡ b → o.guest ≡ 0 → cond b false d.out ≡ false
    in_now true is none = refl
    in_now false is none = h.own.outs ∙ ap₂ ◌||◌ (zero_test o.guest none) is

-- the other's, that came past nothing of the station's own: what is the same for every kind
module _ (d o : Desk) (m : Movement) (l : List Movement) (h : Halves d o [] (l ++ m ∷ [])) where
  far_guest : d.guest ≡ 0
  far_guest = zero_unless d.guest (λ some. snoc_nil l m (h.own.guests some).none_far)

  their_guest : o.guest ≡ 0
  their_guest = zero_unless o.guest (λ some. snoc_nil l m (h.far.guests some).none)

  pub far_holds : d.clears.holds ≡ 0
  far_holds = zero_unless d.clears.holds (λ some. snoc_nil l m (h.own.holding some).none_far)

  their_waits : o.waiting ≡ 0
  their_waits = zero_unless o.waiting (λ some. snoc_nil l m (h.far.waits some).none)

  pub own-sum : d.clears.owes ≡ o.clears.holds + (owed_over l + owed_for m)
  own-sum = omega (arith, h.own.sum, weigh_snoc owed_for l m, their_waits)

  pub far_sum : o.clears.owes ≡ d.waiting + (granted l + granted_in m)
  far_sum = omega (arith, h.far.sum, weigh_snoc granted_in l m, far_holds)

  far_row : InRow l × Every (λ n. Ahead n m) l
  far_row = row_snoc l m h.far.row

  -- one that is endorsed as the last is all that is owed, with what it gives up: its sender holds none, and behind it no train stands
  pub all-owed : is_last m ≡ true → d.clears.owes ≡ owed_for m
  all-owed last =
      let none_held : o.clears.holds ≡ 0 = zero_unless o.clears.holds (λ some. clash last (every-before Unendorsed l m (h.far.holding some).trains).1.more) in
      let behind = every_map (λ n. Ahead n m) OpenOrThrough (λ n k. k.last last) l far_row.1 in
      omega (arith, own-sum, none_held, slow_owed l behind)

  -- where line clears wait, the one that comes is a train that grants nothing
  waits_bare : 0 < d.waiting → Every Bare l × Bare m
  waits_bare some = every-before Bare l m (h.own.waits some).bare

  -- with its grant, if any, so many wait
  now_waits : if_any (granted_in m) d.waiting ≡ d.waiting + granted_in m
  now_waits = by (ltb 0 (granted_in m)) refl
    where
      by : (b : Bool) → ltb 0 (granted_in m) ≡ b → cond b (granted_in m) d.waiting ≡ d.waiting + granted_in m
      by true some =
          let none : d.waiting ≡ 0 = zero_unless d.waiting (λ waits. omega (arith, (waits_bare waits).1.grants, ltb-true 0 (granted_in m) some)) in
          omega arith
      by false none = omega (arith, ltb-false 0 (granted_in m) none)

  -- and where any do, only trains that grant nothing are behind it
  bare_behind : 0 < d.waiting + granted_in m → Every Bare l
  bare_behind some = by (ltb 0 (granted_in m)) refl
    where
      by : (b : Bool) → ltb 0 (granted_in m) ≡ b → Every Bare l
      by true grants = every_map (λ n. Ahead n m) Bare (λ n k. k.grants (ltb-true 0 (granted_in m) grants)) l far_row.1
      by false none = (waits_bare (omega (arith, ltb-false 0 (granted_in m) none))).0

-- an OPEN becomes a guest
pub kept_guest : (d o : Desk) (t class a : ℕ) (l : List Movement) → Halves d o [] (l ++ Open a ∷ []) → 0 < class
    → Halves (replied 0 (other_desk d t class (Open a))) o [] l
kept_guest d o t class a l h guest =
    let m = Open a in
    let nil : l ≡ [] = alone l m h.far.row true≢false in
    let none : owed_over l ≡ 0 = ap owed_over nil in
    let sum = own-sum d o m l h in
    let their_holds : o.clears.holds ≡ 0 = zero_unless o.clears.holds (λ some. false≢true (every-before Unendorsed l m (h.far.holding some).trains).1.train) in
    let none_waits : d.waiting ≡ 0 = zero_unless d.waiting (λ some. false≢true (waits_bare d o m l h some).1.train) in
    let still = released (granted_desk 0 (other_desk d t class m)) (far_holds d o m l h) in
    record {
      own = record {
        sum = omega (arith, their_waits d o m l h);
        outs = h.own.outs ∙ ap (ltb 0 o.guest ||◌) (last_snoc l m ∙ sym (ap last_return nil));
        guests = λ some. record { none = refl; none_far = nil; guest = their_guest d o m l h; holds = omega (arith, still.sum); owes = omega arith; waiting = omega (arith, still.sum) };
        holding = λ some. absurd (omega (arith, still.sum));
        waits = λ some. absurd (omega (arith, still.sum));
        row = tt;
        clear = all_slow tt;
      };
      far = quiet (their_guest d o m l h) their_holds (their_waits d o m l h) (omega (arith, far_sum d o m l h, still.sum))
          (h.far.outs ∙ rw nil (or-true (ltb 0 d.guest) ∙ rw (lt-ltb 0 class guest)))
          (far_row d o m l h).0 (no_far refl);
    }

-- the line clears that the other's vehicle leaves, before its reply is read
pub record Brings (d : Desk) (m : Movement) (e : Desk) : Type 0 where
  pub holds : e.clears.holds ≡ d.clears.holds
  pub owes : e.clears.owes ≡ d.clears.owes - owed_for m
  pub waiting : e.waiting ≡ d.waiting

pub brings : (d : Desk) (t class : ℕ) (m : Movement) → (is_last m ≡ true → d.clears.owes ≡ owed_for m) → Brings d m (other_desk d t class m)
brings d t class (Open a) all = record { holds = refl; owes = omega arith; waiting = refl }
brings d t class Through all = record { holds = refl; owes = omega arith; waiting = refl }
brings d t class (Return a g) all = record { holds = refl; owes = omega arith; waiting = refl }
brings d t class (Train a g) all = record { holds = refl; owes = refl; waiting = refl }
brings d t class (LastTrain a g u) all = record { holds = refl; owes = omega (arith, all refl); waiting = refl }

-- any but an OPEN goes on, or comes with a grant: out and guest of the desk e that it leaves
record Comes (d : Desk) (m : Movement) (e : Desk) : Type 0 where
  out : e.out ≡ cond (is_return m) false d.out
  guest : e.guest ≡ d.guest

comes : (d : Desk) (t class : ℕ) (m : Movement) → is_open m ≡ false → Comes d m (other_desk d t class m)
comes d t class (Open a) n = absurd (true≢false n)
comes d t class Through n = record { out = refl; guest = refl }
comes d t class (Return a g) n = record { out = refl; guest = refl }
comes d t class (Train a g) n = record { out = refl; guest = refl }
comes d t class (LastTrain a g u) n = record { out = refl; guest = refl }

pub kept_far : (d o : Desk) (t class : ℕ) (m : Movement) (l : List Movement) → Halves d o [] (l ++ m ∷ []) → is_open m ≡ false
    → Halves (replied (granted_in m) (other_desk d t class m)) o [] l
kept_far d o t class m l h n =
    let e = other_desk d t class m in
    let k = comes d t class m n in
    let b = brings d t class m (all-owed d o m l h) in
    let last = row_last l m (far_row d o m l h).1 in
    let own = own-sum d o m l h in
    let far = far_sum d o m l h in
    let now = now_waits d o m l h in
    let after = released (granted_desk (granted_in m) e) (b.holds ∙ far_holds d o m l h) in
    let waited : if_any (granted_in m) e.waiting ≡ d.waiting + granted_in m = ap (if_any (granted_in m)) b.waiting ∙ now in
    record {
      own = record {
        sum = omega (arith, their_waits d o m l h);
        outs = k.out ∙ out_now (is_return m) refl ∙ sym (ap₂ ◌||◌ (zero_test o.guest (their_guest d o m l h)) last);
        guests = λ some. absurd (omega (arith, far_guest d o m l h));
        holding = λ some.
            let paid = after.holding some in
            let nil = trains_none l (bare_behind d o m l h (omega (arith, after.sum))) (omega arith) in
            record { far_holds = omega arith; waiting = paid.1; none_far = nil; trains = tt; asked = λ owes. absurd (omega (arith, paid.0)) };
        waits = λ some.
            let owing = after.waits some in
            record { owes = owing.0; holds = owing.1; none = refl; bare = bare_behind d o m l h (omega (arith, after.sum)) };
        row = tt;
        clear = all_slow tt;
      };
      far = record {
        sum = omega (arith, after.sum);
        outs = h.far.outs ∙ ap₂ ◌||◌ (ap (ltb 0) (sym k.guest)) (away_snoc l m n);
        guests = λ some. absurd (omega (arith, their_guest d o m l h));
        holding = λ some.
            let q = h.far.holding some in
            let none : (replied (granted_in m) e).clears.holds ≡ 0 = zero_unless _ (λ held. omega (arith, after.holding held)) in
            record { far_holds = none; waiting = q.waiting; none_far = refl; trains = (every-before Unendorsed l m q.trains).0; asked = q.asked };
        waits = λ some. absurd (omega (arith, their_waits d o m l h));
        row = (far_row d o m l h).0;
        clear = no_far refl;
      };
    }
  where
    out_now : (b : Bool) → is_return m ≡ b → cond b false d.out ≡ false
    out_now true p = refl
    out_now false p = h.own.outs ∙ ap₂ ◌||◌ (zero_test o.guest (their_guest d o m l h)) (last_snoc l m ∙ p)
