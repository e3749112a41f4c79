-- Reserve: the rules that a request keeps, in their order, and what it takes.
use Rattle.std.specs.Prelude.{ℕ, ◌+◌, ◌*◌, Bool, not, ◌||◌, List, [], ◌∷◌, length, pos, ◌-ℤ◌, Some, None, Ok, Err, Option, Result, ◌==◌, int_le, nat_le, nat_lt, slice_set}
use Rattle.rules.specs.declared.range.Quantity.TheVariants as quantity
use Rattle.rules.specs.declared.refusal.Refusal.{Refusal}
use Rattle.rules.specs.declared.refusal.Refusal.TheVariants as refusal
use Rattle.rules.specs.Buyings.{buying_rules}
use Rattle.rules.specs.Phases.{phase_rules}
use Rattle.rules.specs.Prices.{highest_price, lowest_price}
use Rattle.rules.specs.Ranges.{in_range, range_of}
use Rattle.rules.specs.Rules.{first_broken, refusal_in, when}
use Rattle.rules.specs.Sides.{by_side, side_rules}
use Rattle.tables.specs.declared.rows.Security.{Security}
use Rattle.registers.specs.Meaning.{Meaning, draw_answer, drawn}
use Rattle.orders.specs.declared.order.Request.{Request}
use Rattle.orders.specs.Records.{held_order}
use Rattle.gate.specs.declared.figures.Figures.{Figures}
use Rattle.gate.specs.Balances.{most_orders, settled_at}
use Rattle.gate.specs.Desks.{Desk, by_account, desk, line_of}

-- The rule is broken where there is nothing.
abbrev pub wants : {X : Type 0} → Option X → Refusal → Option Refusal
wants (Some x) e = None
wants None e = Some e

-- A price is below the day's lowest or above its highest.
abbrev pub beyond_limits : Security → ℕ → Bool
beyond_limits s price = nat_lt price (lowest_price s.close s.band) || nat_lt (highest_price s.close s.band) price

-- The price keeps the day's limits of its security.
abbrev pub price_rule : Option Security → ℕ → Option Refusal
price_rule (Some s) price = when (beyond_limits s price) refusal.Price
price_rule None price = None

-- The security may be bought.
abbrev pub buying_rule : Option Security → Option Refusal
buying_rule (Some s) = (buying_rules s.buying).refusal
buying_rule None = None

-- The rules of every request: the hour, room in the book, the code, the price, the lot, the participant.
abbrev pub request_rules : Figures → Option Security → ℕ → Request → List (Option Refusal)
request_rules f security room a =
    when (not (phase_rules f.phase).orders) refusal.Hours
    ∷ (when (nat_le room f.count || nat_le most_orders f.count) refusal.Full
    ∷ (wants security refusal.Code
    ∷ (price_rule security a.price
    ∷ (when (not (in_range (side_rules a.side).lot a.shares)) refusal.Lot
    ∷ (when (not (in_range (range_of quantity.Participant) a.participant)) refusal.Account
    ∷ [])))))

-- The further rules of a buy: it names no account, its security may be bought, and there is quota.
abbrev pub buy_rules : Figures → Option Security → Request → List (Option Refusal)
buy_rules f security a =
    when (not (a.account == 0)) refusal.Account
    ∷ (buying_rule security
    ∷ (when (f.shut || int_le f.balance (pos 0)) refusal.Quota
    ∷ []))

-- The pool that a request finds in a register.
abbrev pub found : Meaning → Request → Result ℕ Refusal
found m a = m.finds a.participant a.account a.code

-- The pool that was found has the shares.
abbrev pub draw_rule : Meaning → Result ℕ Refusal → ℕ → Option Refusal
draw_rule m (Ok pool) shares = refusal_in (draw_answer m pool shares)
draw_rule m (Err e) shares = None

-- The further rules of a sell, over the register that it names: its pool is found, and has the shares.
abbrev pub sell_rules : Meaning → Request → List (Option Refusal)
sell_rules m a = refusal_in (found m a) ∷ (draw_rule m (found m a) a.shares ∷ [])

-- The further rules of a request's side.
abbrev pub side_faults : Figures → Option Security → Meaning → Meaning → Request → List (Option Refusal)
side_faults f security participants accounts a =
    by_side a.side (buy_rules f security a) (sell_rules (by_account a.account participants accounts) a)

-- The rules of Reserve: those of every request, then those of its side.
abbrev pub reserve_rules : Desk → Request → List (Option Refusal)
reserve_rules d a =
    first_broken (request_rules d.figures (line_of d.list a.code) (length d.book) a)
    ∷ (first_broken (side_faults d.figures (line_of d.list a.code) d.participants d.accounts a)
    ∷ [])

-- The pool that was found; 0 where none was.
abbrev pub or_zero : Result ℕ Refusal → ℕ
or_zero (Ok pool) = pool
or_zero (Err e) = 0

-- The pool of an order: 0 for a buy.
abbrev pub pool_for : Meaning → Request → ℕ
pool_for m a = by_side a.side 0 (or_zero (found m a))

-- A register that a request's shares are drawn from.
abbrev pub drawn_for : Meaning → Request → Meaning
drawn_for m a = drawn m (or_zero (found m a)) a.shares

-- The participants' register after an accepted request: a sell that names no account draws on it.
abbrev pub participants_drawn : Meaning → Request → Meaning
participants_drawn m a = by_side a.side m (by_account a.account (drawn_for m a) m)

-- The accounts' register after an accepted request: a sell that names an account draws on it.
abbrev pub accounts_drawn : Meaning → Request → Meaning
accounts_drawn m a = by_side a.side m (by_account a.account m (drawn_for m a))

-- The figures after an accepted request: one more order, and of a buy its value at the limit less.
abbrev pub reserved_by : Figures → Request → Figures
reserved_by f a = settled_at f (by_side a.side (f.balance -ℤ pos (a.price * a.shares)) f.balance) f.phase (f.count + 1)

-- The desk after an accepted request.
abbrev pub after_reserve : Desk → Request → Desk
after_reserve d a =
    desk (reserved_by d.figures a) d.list
    (participants_drawn d.participants a)
    (accounts_drawn d.accounts a)
    (slice_set d.book d.figures.count (held_order a (pool_for (by_account a.account d.participants d.accounts) a)))
