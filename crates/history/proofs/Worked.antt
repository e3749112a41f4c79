-- The worked examples compute.
use Rattle.std.proofs.Common.{refl}
use Rattle.fields.specs.Examples.{leading_zero, seven}
use Rattle.fields.specs.Scan.{scan}
use Rattle.fields.proofs.Turns.{ruled, spelt}
use Rattle.history.specs.Examples.{Examples}

pub worked : Examples
unfolding scan
worked = record {
  lowest = refl;
  highest = refl;
  least_lot = refl;
  most_lot = refl;
  no_lot = (refl, refl);
  odd_lot = (refl, refl);
  past_lot = (refl, refl);
  one_share = refl;
  overdrawn = refl;
  emptied = refl;
  refilled = refl;
  passes_again = refl;
  emptied_later = refl;
  refilled_later = refl;
  refused_since = (refl, refl);
  not_yet_shut = refl;
  shut_by_step = refl;
  suspends = (refl, refl);
  reopens = (refl, refl);
  leaves = (refl, refl);
  all_sold = refl;
  one_too_many = (refl, refl);
  returned = refl;
  no_cancel = (refl, refl);
  cancel_once = refl;
  cancel_twice = (refl, refl);
  field_good = refl;
  field_fault = refl;
  field_number = refl;
  field_forms = record { good = spelt seven 7 refl refl; ruled_out = ruled leading_zero 14 refl refl };
}
