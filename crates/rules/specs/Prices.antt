-- The price limits of a day.
use Rattle.std.specs.Prelude.{ℕ, ◌+◌, ◌-◌, ◌*◌, ◌/◌, [], ◌∷◌, Option}
use Rattle.rules.specs.declared.price.PriceBand.{PriceBand}
use Rattle.rules.specs.declared.price.PriceBand.TheVariants.{Five, Ten}
use Rattle.rules.specs.Cases.{numbered}

-- Each band's percentage.
abbrev pub band_percent : PriceBand → ℕ
band_percent Five = 5
band_percent Ten = 10

-- The band of a percentage.
abbrev pub band_of_percent : ℕ → Option PriceBand
band_of_percent = numbered band_percent (Five ∷ (Ten ∷ []))

-- So many hundredths of a price, to the nearest fen, a half up.
abbrev pub hundredths : ℕ → ℕ → ℕ
hundredths close percent = (close * percent + 50) / 100

-- The lowest price of a day: the previous close less the band.
abbrev pub lowest_price : ℕ → PriceBand → ℕ
lowest_price close band = hundredths close (100 - band_percent band)

-- The highest price of a day: the previous close plus the band.
abbrev pub highest_price : ℕ → PriceBand → ℕ
highest_price close band = hundredths close (100 + band_percent band)
