-- How a day opens.
use Rattle.std.specs.Prelude.{◌≡◌, ℕ, false, not, List, [], ◌∷◌, pos, Some, None, Option}
use Rattle.rules.specs.declared.market.Market.{Market}
use Rattle.rules.specs.declared.phase.Phase.TheVariants.{OpeningCall}
use Rattle.rules.specs.declared.range.Quantity.TheVariants as quantity
use Rattle.rules.specs.declared.refusal.Refusal.{Refusal}
use Rattle.rules.specs.declared.refusal.Refusal.TheVariants as refusal
use Rattle.rules.specs.Ranges.{in_range, range_of}
use Rattle.rules.specs.Rules.{when, first_broken}
use Rattle.rules.specs.Markets.{market_numbered}
use Rattle.gate.specs.declared.figures.Figures.{Figures}

-- The figures that a day opens with: the opening call, the whole quota, no orders, buying not shut.
abbrev pub opened : Market → ℕ → ℕ → Figures
opened market date quota = record { market = market; date = date; quota = quota; balance = pos quota; phase = OpeningCall; shut = false; count = 0 }

-- Market, date and quota are each in their range.
abbrev pub opening_rules : ℕ → ℕ → ℕ → List (Option Refusal)
opening_rules market date quota =
    when (not (in_range (range_of quantity.Market) market)) refusal.Range
    ∷ (when (not (in_range (range_of quantity.Date) date)) refusal.Range
    ∷ (when (not (in_range (range_of quantity.Quota) quota)) refusal.Range
    ∷ []))

-- The day opens: no rule is broken, and its figures are those of that market, date and quota.
pub record OpenedBy (market date quota : ℕ) (f : Figures) : Type 0 where
  pub allowed : first_broken (opening_rules market date quota) ≡ None
  pub of_market : market_numbered market ≡ Some f.market
  pub figures : f ≡ opened f.market date quota
