use Rattle.std.proofs.Common.{refl, sym, ◌∙◌}
use Rattle.history.specs.History.{one_more}
use Rattle.history.proofs.Clearing.{at_close}
use Rattle.history.proofs.Conserve.{conserved}
use Rattle.history.proofs.law.history_is_conserved.Goals as goal

pub returns-clause-steps : goal.returns-clause-steps
returns-clause-steps c = record {
  taken = λ d c. record { answers = refl; becomes = refl };
  only = λ d d' d'' c answer answer' x y. (x.answers ∙ sym y.answers, x.becomes ∙ sym y.becomes);
  goes_on = λ d₀ d d' cs c answer r did. one_more d' c answer r did;
}

pub returns-clause-law : goal.returns-clause-law
returns-clause-law c = conserved

pub returns-clause-closing : goal.returns-clause-closing
returns-clause-closing c = at_close
