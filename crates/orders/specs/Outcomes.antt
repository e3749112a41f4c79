-- What an accepted call makes of an order.
use Rattle.std.specs.Prelude.{ℕ, ◌+◌, ◌-◌, ◌*◌, cond, ◌==◌}
use Rattle.rules.specs.Sides.{by_side}
use Rattle.orders.specs.declared.order.Order.{Order}
use Rattle.orders.specs.declared.order.Outcome.{Outcome}
use Rattle.orders.specs.declared.order.State.TheVariants.{Done}
use Rattle.orders.specs.Records.{remainder, with_rest}

-- The record after a fill: a fill of all the remainder is the last.
abbrev pub filled_by : Order → ℕ → ℕ → Order
filled_by o shares price = with_rest o (o.filled + shares) o.returned (o.traded + price * shares) (cond (remainder o == shares) Done o.state)

-- What a fill gives back to the balance: of a buy what the price is below its limit, of a sell its value.
abbrev pub raise : Order → ℕ → ℕ → ℕ
raise o shares price = by_side o.side ((o.price - price) * shares) (price * shares)

-- A fill.
abbrev pub traded : Order → ℕ → ℕ → Outcome
traded o shares price = record { order = filled_by o shares price; raise = raise o shares price }

-- The record whose remainder is returned.
abbrev pub ended_by : Order → Order
ended_by o = with_rest o o.filled (o.returned + remainder o) o.traded Done

-- What an ended remainder gives back to the balance: of a buy its value at the limit.
abbrev pub freed : Order → ℕ
freed o = by_side o.side (o.price * remainder o) 0

-- The end of a remainder.
abbrev pub ended : Order → Outcome
ended o = record { order = ended_by o; raise = freed o }
