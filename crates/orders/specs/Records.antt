-- The record of an order, and when it is sound.
use Rattle.std.specs.Prelude.{ℕ, ◌+◌, ◌-◌, ◌*◌, Bool, true, false, not, ◌&&◌, ◌==◌, nat_le, nat_lt, ◌^◌}
use Rattle.rules.specs.declared.range.Quantity.TheVariants as quantity
use Rattle.rules.specs.declared.side.Side.TheVariants.{Buy}
use Rattle.rules.specs.Ranges.{in_range, range_of}
use Rattle.orders.specs.declared.order.Request.{Request}
use Rattle.orders.specs.declared.order.Cancel.TheVariants.{Unasked, Asked}
use Rattle.orders.specs.declared.order.Order.{Order}
use Rattle.orders.specs.declared.order.State.{State}
use Rattle.orders.specs.declared.order.State.TheVariants.{Held, Live, Done}

-- The order waits at the gate for its pass.
abbrev pub is_held : State → Bool
is_held Held = true
is_held (Live c) = false
is_held Done = false

-- The order is at the market.
abbrev pub is_live : State → Bool
is_live Held = false
is_live (Live c) = true
is_live Done = false

-- Nothing is left of the order.
abbrev pub is_done : State → Bool
is_done Held = false
is_done (Live c) = false
is_done Done = true

-- The order is at the market, and no cancel was asked for.
abbrev pub is_unasked : State → Bool
is_unasked Held = false
is_unasked (Live Unasked) = true
is_unasked (Live Asked) = false
is_unasked Done = false

-- The order is at the market, and its cancel was asked for.
abbrev pub is_asked : State → Bool
is_asked Held = false
is_asked (Live Unasked) = false
is_asked (Live Asked) = true
is_asked Done = false

-- The shares that are neither traded nor returned.
abbrev pub remainder : Order → ℕ
remainder o = o.shares - o.filled - o.returned

-- The highest price that there is.
abbrev pub most_price : ℕ
most_price = (range_of quantity.Price).most

-- Both hold, or neither.
abbrev pub alike : Bool → Bool → Bool
alike true b = b
alike false b = not b

-- Price and shares are in range, no more is traded and returned than was asked, the traded value is one that prices allow, and the order is done exactly where no remainder is left.
abbrev pub sound_order : Order → Bool
sound_order o =
    in_range (range_of quantity.Price) o.price
    && (in_range (range_of quantity.Shares) o.shares
    && (nat_le (o.filled + o.returned) o.shares
    && (nat_le o.traded (most_price * o.filled)
    && alike (is_done o.state) (remainder o == 0))))

-- An empty row of a book.
abbrev pub no_order : Order
no_order = record { participant = 0; account = 0; code = 0; side = Buy; price = 0; shares = 0; filled = 0; returned = 0; traded = 0; pool = 0; state = Held }

-- A record has room for the price and the shares of a request.
abbrev pub fits_record : Request → Bool
fits_record a = nat_lt a.price (2 ^ 32) && nat_lt a.shares (2 ^ 32)

-- The record that an accepted request leaves, with the pool that it draws on: nothing is traded or returned yet.
abbrev pub held_order : Request → ℕ → Order
held_order a pool = record { participant = a.participant; account = a.account; code = a.code; side = a.side; price = a.price; shares = a.shares; filled = 0; returned = 0; traded = 0; pool = pool; state = Held }

-- The same order with other numbers for what became of it, in another state.
abbrev pub with_rest : Order → ℕ → ℕ → ℕ → State → Order
with_rest o filled returned traded state = record { participant = o.participant; account = o.account; code = o.code; side = o.side; price = o.price; shares = o.shares; filled = filled; returned = returned; traded = traded; pool = o.pool; state = state }

-- The same order in another state.
abbrev pub with_state : Order → State → Order
with_state o state = with_rest o o.filled o.returned o.traded state

-- The most that an order can be worth.
abbrev pub most_worth : ℕ
most_worth = most_price * (range_of quantity.Shares).most
