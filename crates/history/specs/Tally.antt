-- The tally of a day: what its accepted calls come to, order by order. It is fed the calls with their arguments and the
-- registers' finding rules, and nothing else of the day.
use Rattle.std.specs.Prelude.{ℕ, ◌+◌, ◌-◌, ◌*◌, Bool, true, false, cond, ◌&&◌, List, [], ◌∷◌, ◌++◌, ℤ, pos, ◌+ℤ◌, ◌-ℤ◌, Result, ◌==◌, slice_index_or, slice_set}
use Rattle.rules.specs.declared.phase.Phase.{Phase}
use Rattle.rules.specs.declared.phase.Phase.TheVariants.{OpeningCall}
use Rattle.rules.specs.declared.refusal.Refusal.{Refusal}
use Rattle.rules.specs.declared.side.Side.{Side}
use Rattle.rules.specs.declared.side.Side.TheVariants.{Buy}
use Rattle.rules.specs.Sides.{by_side}
use Rattle.orders.specs.declared.order.Request.{Request}
use Rattle.gate.specs.Calls.{Call, reserve, send, void, trade, give_back, cancel, confirm, decline, step, notice, stepped}
use Rattle.gate.specs.Desks.{by_account}
use Rattle.gate.specs.Reserves.{or_zero}

-- Which register a sell draws on.
pub data Holder : Type 0 where
  participants : Holder
  accounts : Holder

-- It is one and the same register.
abbrev pub same_holder : Holder → Holder → Bool
same_holder participants participants = true
same_holder participants accounts = false
same_holder accounts participants = false
same_holder accounts accounts = true

-- An order that names no account draws on the participants' register.
abbrev pub holder_of : ℕ → Holder
holder_of account = by_account account participants accounts

-- Each register's finding rule: the pool that a participant, an account and a code find in it.
abbrev pub Finding : Type 0
Finding = Holder → ℕ → ℕ → ℕ → Result ℕ Refusal

-- One order: its side, its limit, the register and the pool that a sell draws on; how many of its shares are still reserved,
-- how many were traded, and what those are worth at the prices they were traded at.
pub record Entry : Type 0 where
  pub side : Side
  pub limit : ℕ
  pub holder : Holder
  pub pool : ℕ
  pub reserved : ℕ
  pub traded : ℕ
  pub worth : ℕ

-- The phase that the day has reached, and an entry for each order, in the order of their numbers.
pub record Tally : Type 0 where
  pub phase : Phase
  pub entries : List Entry

-- The entry of no order.
abbrev pub no_entry : Entry
no_entry = record { side = Buy; limit = 0; holder = participants; pool = 0; reserved = 0; traded = 0; worth = 0 }

-- The pool that a request finds in a register, 0 for a buy.
abbrev pub pool_found : Finding → Request → ℕ
pool_found finds a = by_side a.side 0 (or_zero (finds (holder_of a.account) a.participant a.account a.code))

-- The entry of a request: all its shares are still reserved.
abbrev pub entry_for : Finding → Request → Entry
entry_for finds a = record { side = a.side; limit = a.price; holder = holder_of a.account; pool = pool_found finds a; reserved = a.shares; traded = 0; worth = 0 }

-- The entry after a trade: so many shares are no longer reserved but traded, at a price.
abbrev pub moved : Entry → ℕ → ℕ → Entry
moved e shares price = record { side = e.side; limit = e.limit; holder = e.holder; pool = e.pool; reserved = e.reserved - shares; traded = e.traded + shares; worth = e.worth + price * shares }

-- The entry of which no share is still reserved.
abbrev pub released : Entry → Entry
released e = record { side = e.side; limit = e.limit; holder = e.holder; pool = e.pool; reserved = 0; traded = e.traded; worth = e.worth }

-- The tally where the entry of an order's number is changed.
abbrev pub at_entry : ℕ → (Entry → Entry) → Tally → Tally
at_entry number change t = record { phase = t.phase; entries = slice_set t.entries (number - 1) (change (slice_index_or t.entries (number - 1) no_entry)) }

-- The tally after one more accepted call.
abbrev pub tallied : Finding → Call → Tally → Tally
tallied finds (reserve a) t = record { phase = t.phase; entries = t.entries ++ (entry_for finds a ∷ []) }
tallied finds (send pass) t = t
tallied finds (void pass) t = at_entry pass.number released t
tallied finds (trade number shares price) t = at_entry number (λ e. moved e shares price) t
tallied finds (give_back number) t = at_entry number released t
tallied finds (cancel number participant) t = t
tallied finds (confirm number) t = at_entry number released t
tallied finds (decline number) t = t
tallied finds step t = record { phase = stepped t.phase; entries = t.entries }
tallied finds (notice code foreign total) t = t

-- The tally of the accepted calls, the newest of which stands first.
abbrev pub tally : Finding → List Call → Tally
tally finds [] = record { phase = OpeningCall; entries = [] }
tally finds (c ∷ cs) = tallied finds c (tally finds cs)

-- What a list's members come to.
abbrev pub sum_of : {X : Type 0} → (X → ℕ) → List X → ℕ
sum_of f [] = 0
sum_of f (x ∷ xs) = f x + sum_of f xs

-- What an order's shares that are still reserved to be bought are worth, at its limit.
abbrev pub buy_reserved : Entry → ℕ
buy_reserved e = by_side e.side (e.limit * e.reserved) 0

-- What an order's shares that were bought are worth, at the prices they were traded at.
abbrev pub bought : Entry → ℕ
bought e = by_side e.side e.worth 0

-- What an order's shares that were sold are worth, at the prices they were traded at.
abbrev pub sold : Entry → ℕ
sold e = by_side e.side 0 e.worth

-- The quota less what is reserved to be bought and what was bought, and plus what was sold.
abbrev pub figure : ℕ → List Entry → ℤ
figure quota es = ((pos quota -ℤ pos (sum_of buy_reserved es)) -ℤ pos (sum_of bought es)) +ℤ pos (sum_of sold es)

-- The order is a sell that draws on that pool of that register.
abbrev pub in_pool : Holder → ℕ → Entry → Bool
in_pool holder pool e = by_side e.side false (same_holder holder e.holder && pool == e.pool)

-- The shares of a pool that an order still reserves.
abbrev pub shares_reserved : Holder → ℕ → Entry → ℕ
shares_reserved holder pool e = cond (in_pool holder pool e) e.reserved 0

-- The shares of a pool that an order has sold.
abbrev pub shares_sold : Holder → ℕ → Entry → ℕ
shares_sold holder pool e = cond (in_pool holder pool e) e.traded 0
