-- An entry's answer: "accepted, with its form number, forms and speed", or refused with a number.
use Rattle.std.specs.Prelude.{Ok, Result, ℕ}
use Rattle.working.specs.declared.Accepted.{Accepted}
use Rattle.working.specs.declared.Refusal.{Refusal}
use Rattle.working.specs.declared.Speed.{Speed}

abbrev pub Answer : Type 0
Answer = Result Accepted Refusal

-- accepted, with a form number, forms and a speed
abbrev pub accept : ℕ → ℕ → Speed → Answer
accept form forms speed = Ok (record { form = form; forms = forms; speed = speed })
