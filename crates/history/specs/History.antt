-- Histories of a trading day, and the law that holds in each of them.
use Rattle.std.specs.Prelude.{◌≡◌, ℕ, ◌+◌, ◌<◌, true, List, [], ◌∷◌, length, drop, pos, ◌+ℤ◌, ◌-ℤ◌, ◌≤ℤ◌, Some, None, Option, ◌≢◌}
use Rattle.rules.specs.declared.market.Market.{Market}
use Rattle.rules.specs.declared.refusal.Refusal.{Refusal}
use Rattle.rules.specs.declared.side.Side.TheVariants.{Buy}
use Rattle.rules.specs.Phases.{phase_rules}
use Rattle.tables.specs.declared.rows.Security.{Security}
use Rattle.registers.specs.declared.pool.Pool.{Pool}
use Rattle.registers.specs.Meaning.{Fresh, Meaning, opening_of}
use Rattle.orders.specs.declared.order.Request.{Request}
use Rattle.orders.specs.declared.order.Order.{Order}
use Rattle.gate.specs.Calls.{Call, Did, called, refusal_of, reserve}
use Rattle.gate.specs.Closed.{NothingInFlight}
use Rattle.gate.specs.Desks.{Desk, desk}
use Rattle.gate.specs.Opened.{opened}
use Rattle.history.specs.Tally.{Finding, Holder, accounts, bought, figure, participants, shares_reserved, shares_sold, sold, sum_of, tally}

-- A desk's registers.
abbrev pub register_of : Desk → Holder → Meaning
register_of d participants = d.participants
register_of d accounts = d.accounts

-- The finding rules of a desk's registers.
abbrev pub finding_of : Desk → Finding
finding_of d holder = (register_of d holder).finds

-- The accepted calls, the newest first, after one more call and its answer.
abbrev pub noted : Option Refusal → Call → List Call → List Call
noted None c cs = c ∷ cs
noted (Some e) c cs = cs

-- From one desk some calls, accepted or refused, have led to another, and these are the accepted ones.
pub data Ran (d₀ : Desk) : Desk → List Call → Type 0 where
  no_call : Ran d₀ d₀ []
  one_more : {d : Desk} {cs : List Call} (d' : Desk) (c : Call) (answer : Option Refusal) → Ran d₀ d cs → Did d c answer d' → Ran d₀ d' (noted answer c cs)

-- The steps of a history are the calls' contracts, and nothing else: each call takes one at every desk, with one answer and
-- one desk after it, and whatever keeps a call's contract goes on with the history.
pub record Stepwise : Type 0 where
  pub taken : (d : Desk) (c : Call) → Did d c (refusal_of d c) (called d c)
  pub only : (d d' d'' : Desk) (c : Call) (answer answer' : Option Refusal) → Did d c answer d' → Did d c answer' d'' → (answer ≡ answer') × (d' ≡ d'')
  pub goes_on : (d₀ d d' : Desk) (cs : List Call) (c : Call) (answer : Option Refusal) → Ran d₀ d cs → Did d c answer d' → Ran d₀ d' (noted answer c cs)

-- A pool's opening shares are those that may still be sold, those reserved and those sold; where there is no pool, none are.
abbrev pub Balanced : Option Pool → ℕ → ℕ → Type 0
Balanced (Some p) reserved sold = p.opening ≡ p.sellable + reserved + sold
Balanced None reserved sold = (reserved ≡ 0) × (sold ≡ 0)

-- After the accepted calls the figure is 0 or less, in a phase in which that shuts buying.
abbrev pub LowAfter : Finding → ℕ → List Call → Type 0
LowAfter finds quota cs = ((phase_rules (tally finds cs).phase).shuts ≡ true) × (figure quota (tally finds cs).entries ≤ℤ pos 0)

-- It was so at some moment: after one of the accepted calls, since which there were k more.
abbrev pub BeenLow : Finding → ℕ → List Call → Type 0
BeenLow finds quota cs = (k : ℕ) × (k < length cs) × LowAfter finds quota (drop k cs)

-- The law of a day at a desk that the accepted calls have led to from the desk at which the day opened, with its quota.
pub record Law (start : Desk) (quota : ℕ) (cs : List Call) (d : Desk) : Type 0 where
  -- the balance is the quota less what is reserved to be bought and what was bought, and plus what was sold
  pub balance : d.figures.balance ≡ figure quota (tally (finding_of start) cs).entries
  -- the tally has reached the day's phase, and has an entry for each of its orders
  pub phase : d.figures.phase ≡ (tally (finding_of start) cs).phase
  pub orders : d.figures.count ≡ length (tally (finding_of start) cs).entries
  -- no pool comes or goes, and each still has the opening number that it opened with
  pub openings : (holder : Holder) (pool : ℕ) → opening_of (register_of d holder) pool ≡ opening_of (register_of start holder) pool
  -- of every pool of every register, the shares that it opened with may still be sold, are reserved, or are sold
  pub pools : (holder : Holder) (pool : ℕ) → Balanced ((register_of d holder).pools pool) (sum_of (shares_reserved holder pool) (tally (finding_of start) cs).entries) (sum_of (shares_sold holder pool) (tally (finding_of start) cs).entries)
  -- where buying is shut, the balance has been low
  pub shut_since : d.figures.shut ≡ true → BeenLow (finding_of start) quota cs
  -- since the balance has been low, buying is shut
  pub since_shut : BeenLow (finding_of start) quota cs → d.figures.shut ≡ true
  -- a day on which buying is shut accepts no buy
  pub no_buy : d.figures.shut ≡ true → (a : Request) → a.side ≡ Buy → refusal_of d (reserve a) ≢ None

-- What holds at a desk of every history that leads to it, of a day opened over any list, book and fresh registers.
abbrev pub InEveryHistory : (Desk → ℕ → List Call → Desk → Type 0) → Desk → Type 0
InEveryHistory Holds d =
    (market : Market) (date quota : ℕ) (list : List Security) (p a : Meaning) (book : List Order) → Fresh p → Fresh a →
    (cs : List Call) → Ran (desk (opened market date quota) list p a book) d cs →
    Holds (desk (opened market date quota) list p a book) quota cs d

-- The law holds at the desk, whichever history led to it.
abbrev pub Kept : Desk → Type 0
Kept = InEveryHistory Law

-- The law holds at every desk, whichever history led to it.
abbrev pub Conserved : Type 0
Conserved = (d : Desk) → Kept d

-- A pool's opening shares are those that may still be sold and those sold; where there is no pool, none are.
abbrev pub SoldOff : Option Pool → ℕ → Type 0
SoldOff (Some p) sold = p.opening ≡ p.sellable + sold
SoldOff None sold = sold ≡ 0

-- The law of a day with nothing in flight: nothing is reserved any more.
pub record ClosingLaw (start : Desk) (quota : ℕ) (cs : List Call) (d : Desk) : Type 0 where
  -- the balance is the quota less what was bought and plus what was sold
  pub balance : d.figures.balance ≡ (pos quota -ℤ pos (sum_of bought (tally (finding_of start) cs).entries)) +ℤ pos (sum_of sold (tally (finding_of start) cs).entries)
  -- of every pool of every register, the shares that it opened with may still be sold or are sold
  pub pools : (holder : Holder) (pool : ℕ) → SoldOff ((register_of d holder).pools pool) (sum_of (shares_sold holder pool) (tally (finding_of start) cs).entries)

-- Nothing is reserved any more at the desk, whichever history led to it.
abbrev pub Cleared : Desk → Type 0
Cleared = InEveryHistory ClosingLaw

-- Nothing is reserved any more at any desk with nothing in flight, whichever history led to it.
abbrev pub AtClose : Type 0
AtClose = (d : Desk) → NothingInFlight d.figures d.book → Cleared d
