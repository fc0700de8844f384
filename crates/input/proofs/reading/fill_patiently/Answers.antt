-- `reading::fill_patiently`: what a read brought stands behind what was read before it.
-- Assumes nothing.
use Rattle.input.proofs.reading.fill_patiently.Goals as goal
use Rattle.std.proofs.Common.{List, ap, arith, length, length-take-le, rules, subst, sym, take, ℕ, ◌++◌, ◌+◌, ◌∙◌, ◌≡◌, ◌≤◌}
use Rattle.std.proofs.KnownBytes.{Consumes-trans}
use Rattle.std.specs.Io.KnownBytes.{Consumes}
use lib.Seq.{take-append-add, take-append-le}

joined : (room rest behind : List ℕ) (done count : ℕ) → done ≤ length room → count ≤ length rest
    → take done room ++ take count rest ≡ take (done + count) (take done room ++ (rest ++ behind))
joined room rest behind done count within fits =
    sym
    (ap (λ n. take (n + count) (take done room ++ (rest ++ behind))) (sym (length-take-le done room within))
    ∙ take-append-add (take done room) (rest ++ behind) count ∙ ap (λ l. take done room ++ l) (take-append-le count rest behind fits))

pub loop-done-preserved : goal.loop-done-preserved
loop-done-preserved g c =
    let l = c.loop-done in
    let on = rw c.in-Some.is at c.in_ok-on.ensures.on in
    let came = rw c.in-Some.is at c.in_ok-on.ensures.came in
    let fits : c.in-Some.on.count ≤ length c.read_some.new.rest = omega (arith, on.0, c.read_some.auto.rest) in
    record {
      consumed =
          subst (Consumes _ _) (joined l.room c.read_some.new.rest _ l.done c.in-Some.on.count l.invariant.within fits)
          (Consumes-trans _ _ _ _ _ l.invariant.consumed came);
      within = search rules;
    }
