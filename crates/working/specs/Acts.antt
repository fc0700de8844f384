-- What a station enters with a time: an OPEN, THROUGH, RETURN, TRAIN or RECEIVE, with the fields of its kind. T-03: a TRAIN may be "endorsed as
-- the last", kind 9, which our documents write LAST TRAIN.
use Rattle.std.specs.Prelude.{Bool, ℕ}
use Rattle.working.specs.declared.Station.{Station}
use Rattle.working.specs.declared.View.{View}

pub data Act : Type 0 where
  Open : (view : View) (class asked : ℕ) → Act
  Through : (view : View) → Act
  Return : (asked granted : ℕ) → Act
  Train : (endorsed : Bool) (view : View) (asked granted : ℕ) → Act
  Receive : (sender : Station) (form : ℕ) → Act
