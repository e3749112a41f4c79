-- The two markets.
use Rattle.std.specs.Prelude.{ℕ, [], ◌∷◌, Option}
use Rattle.rules.specs.declared.market.Market.{Market}
use Rattle.rules.specs.declared.market.Market.TheVariants.{Shanghai, Shenzhen}
use Rattle.rules.specs.Cases.{numbered}

-- Each market's number.
abbrev pub market_number : Market → ℕ
market_number Shanghai = 1
market_number Shenzhen = 2

-- The market of a number.
abbrev pub market_numbered : ℕ → Option Market
market_numbered = numbered market_number (Shanghai ∷ (Shenzhen ∷ []))
