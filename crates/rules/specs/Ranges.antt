-- The ranges of the numbers that the rules bound.
use Rattle.std.specs.Prelude.{ℕ, ◌%◌, Bool, ◌&&◌, ◌==◌, nat_le, nat_lt}
use Rattle.rules.specs.declared.range.Range.{Range}
use Rattle.rules.specs.declared.range.Quantity.{Quantity}
use Rattle.rules.specs.declared.range.Quantity.TheVariants as quantity

-- The number lies between the range's ends, both included, and is a multiple of its unit.
abbrev pub in_range : Range → ℕ → Bool
in_range r n = (nat_le r.least n && nat_le n r.most) && (nat_lt 0 r.unit && n % r.unit == 0)

-- Each whole number from one to the other.
abbrev pub from_to : ℕ → ℕ → Range
from_to least most = record { least = least; most = most; unit = 1 }

-- The range of each quantity.
abbrev pub range_of : Quantity → Range
range_of quantity.Market = from_to 1 2
range_of quantity.Date = from_to 1 99991231
range_of quantity.Quota = from_to 1 1000000000000000
range_of quantity.Code = from_to 1 999999
range_of quantity.Mode = from_to 1 3
range_of quantity.Close = from_to 1 900000
range_of quantity.Band = record { least = 5; most = 10; unit = 5 }
range_of quantity.Participant = from_to 1 99999
range_of quantity.Account = from_to 80000000 80099999
range_of quantity.Holding = from_to 1 9999999999
range_of quantity.Lines = from_to 0 16384
range_of quantity.Link = from_to 0 1
range_of quantity.Price = from_to 1 999999
range_of quantity.Shares = from_to 1 1000000
range_of quantity.TotalShares = from_to 1 1000000000000
range_of quantity.AnyNumber = from_to 0 9999999999999999
