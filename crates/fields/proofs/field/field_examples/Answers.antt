use Rattle.std.proofs.Common.{refl, rules}
use Rattle.fields.specs.Examples.{seven, leading_zero}
use Rattle.fields.specs.Scan.{scan}
use Rattle.fields.proofs.Turns.{spelt, ruled}
use Rattle.fields.proofs.field.field_examples.Goals as goal

pub returns : goal.returns
unfolding scan
returns c = record {
  answers = search rules;
  means = record { good = spelt seven 7 refl refl; ruled_out = ruled leading_zero 14 refl refl };
}
