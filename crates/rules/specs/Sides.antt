-- The two sides of an order.
use Rattle.std.specs.Prelude.{ℕ}
use Rattle.rules.specs.declared.side.Side.{Side}
use Rattle.rules.specs.declared.side.Side.TheVariants.{Buy, Sell}
use Rattle.rules.specs.declared.range.Range.{Range}
use Rattle.rules.specs.Ranges.{from_to}

-- What the rules say of a side: its number, and how many shares an order of it may be of.
pub record SideRules : Type 0 where
  pub number : ℕ
  pub lot : Range

-- Each side's rules: a buy is in hundreds.
abbrev pub side_rules : Side → SideRules
side_rules Buy = record { number = 1; lot = record { least = 100; most = 1000000; unit = 100 } }
side_rules Sell = record { number = 2; lot = from_to 1 1000000 }

-- One thing for a buy, another for a sell.
abbrev pub by_side {ℓ} : {X : Type ℓ} → Side → X → X → X
by_side Buy x y = x
by_side Sell x y = y
