-- Worked examples of the rules.
use Rattle.std.specs.Prelude.{◌≡◌, ℕ, true, false, cond, List, [], ◌∷◌, replicate, pos, negsuc, Some, None, Ok, Err, ◌==◌}
use Rattle.rules.specs.declared.buying.Buying.TheVariants.{Open, Suspended}
use Rattle.rules.specs.declared.market.Market.TheVariants.{Shanghai}
use Rattle.rules.specs.declared.price.PriceBand.TheVariants.{Ten}
use Rattle.rules.specs.declared.refusal.Refusal.{Refusal}
use Rattle.rules.specs.declared.refusal.Refusal.TheVariants as refusal
use Rattle.rules.specs.declared.side.Side.{Side}
use Rattle.rules.specs.declared.side.Side.TheVariants.{Buy, Sell}
use Rattle.rules.specs.Buyings.{after_notice}
use Rattle.rules.specs.Notices.{notice_band}
use Rattle.rules.specs.Prices.{highest_price, lowest_price}
use Rattle.rules.specs.Refusals.{refusal_number}
use Rattle.tables.specs.declared.rows.Security.{Security}
use Rattle.registers.specs.Meaning.{Meaning, pool_of}
use Rattle.orders.specs.declared.order.Request.{Request}
use Rattle.orders.specs.Records.{no_order}
use Rattle.fields.specs.Examples.{FieldExamples, leading_zero, seven}
use Rattle.fields.specs.Reading.{reading}
use Rattle.gate.specs.declared.pass.Pass.{Pass}
use Rattle.gate.specs.Calls.{Call, called, cancel, give_back, refusal_of, reserve, send, step, trade}
use Rattle.gate.specs.Desks.{Desk, desk}
use Rattle.gate.specs.Opened.{opened}

-- A security that closed at 10.05 yuan and may leave that by ten percent.
abbrev pub security : Security
security = record { code = 600000; buying = Open; close = 1005; band = Ten }

-- A register with one pool, of 300 shares, which every order finds.
abbrev pub one_pool : Meaning
one_pool = record { pools = λ k. cond (k == 0) (Some (pool_of 300 300)) None; finds = λ participant account code. Ok 0 }

-- A day of a quota, as it opens, with one security and a book of three rows.
abbrev pub day : ℕ → Desk
day quota = desk (opened Shanghai 20240102 quota) (security ∷ []) one_pool one_pool (replicate 3 no_order)

-- Participant 1 asks for so many shares at 10 yuan.
abbrev pub request : Side → ℕ → Request
request side shares = record { participant = 1; account = 0; code = 600000; side = side; price = 1000; shares = shares }

-- A buy at 10 yuan.
abbrev pub buy : ℕ → Call
buy shares = reserve (request Buy shares)

-- A sell at 10 yuan.
abbrev pub sell : ℕ → Call
sell shares = reserve (request Sell shares)

-- The day's pass for the order of a number.
abbrev pub pass : ℕ → Pass
pass number = record { market = Shanghai; date = 20240102; number = number }

-- The desk after some calls, the first of which stands first.
abbrev pub after : Desk → List Call → Desk
after d [] = d
after d (c ∷ cs) = after (called d c) cs

-- The call breaks no rule.
abbrev pub Passes : Desk → Call → Type 0
Passes d c = refusal_of d c ≡ None

-- The call gets a refusal, which is shown by a number.
abbrev pub Refused : Desk → Call → Refusal → ℕ → Type 0
Refused d c e number = (refusal_of d c ≡ Some e) × (refusal_number e ≡ number)

-- A buy of 100 shares that takes a balance of 100,000 to 0, and a trade of 50 of them 1 yuan below the limit, which makes it 5,000.
abbrev pub empty_and_refill : List Call
empty_and_refill = buy 100 ∷ (send (pass 1) ∷ (trade 1 50 900 ∷ []))

-- What the rules say of some days, line by line.
pub record Examples : Type 0 where
  -- ten percent of 10.05 yuan, to the nearest fen
  pub lowest : lowest_price 1005 Ten ≡ 905
  pub highest : highest_price 1005 Ten ≡ 1106
  -- a buy is in hundreds, up to a million; a sell may be of one share
  pub least_lot : Passes (day 1) (buy 100)
  pub most_lot : Passes (day 1) (buy 1000000)
  pub no_lot : Refused (day 1) (buy 0) refusal.Lot 5
  pub odd_lot : Refused (day 1) (buy 150) refusal.Lot 5
  pub past_lot : Refused (day 1) (buy 1000100) refusal.Lot 5
  pub one_share : Passes (day 1) (sell 1)
  -- a buy passes while any balance is left, and may take more than that
  pub overdrawn : (after (day 1) (buy 100 ∷ [])).figures.balance ≡ negsuc 99998
  -- in the opening call a balance that was 0 and has risen lets buys through
  pub emptied : (after (day 100000) (buy 100 ∷ [])).figures.balance ≡ pos 0
  pub refilled : (after (day 100000) empty_and_refill).figures.balance ≡ pos 5000
  pub passes_again : Passes (after (day 100000) empty_and_refill) (buy 100)
  -- in continuous trading it does not
  pub emptied_later : (after (day 100000) (step ∷ (step ∷ (buy 100 ∷ [])))).figures.balance ≡ pos 0
  pub refilled_later : (after (day 100000) (step ∷ (step ∷ empty_and_refill))).figures.balance ≡ pos 5000
  pub refused_since : Refused (after (day 100000) (step ∷ (step ∷ empty_and_refill))) (buy 100) refusal.Quota 12
  -- a balance of 0 shuts buying at the step into continuous trading, and not before
  pub not_yet_shut : (after (day 100000) (buy 100 ∷ (step ∷ []))).figures.shut ≡ false
  pub shut_by_step : (after (day 100000) (buy 100 ∷ (step ∷ (step ∷ [])))).figures.shut ≡ true
  -- 28 percent of foreign shares suspends buying, 26 reopens it, 27 leaves it
  pub suspends : (after_notice Open (notice_band 28 100) ≡ Suspended) × (after_notice Suspended (notice_band 28 100) ≡ Suspended)
  pub reopens : (after_notice Open (notice_band 26 100) ≡ Open) × (after_notice Suspended (notice_band 26 100) ≡ Open)
  pub leaves : (after_notice Open (notice_band 27 100) ≡ Open) × (after_notice Suspended (notice_band 27 100) ≡ Suspended)
  -- a pool of 300 shares gives no more, until they come back
  pub all_sold : Passes (day 1) (sell 300)
  pub one_too_many : Refused (after (day 1) (sell 300 ∷ [])) (sell 1) refusal.ShortBalance 9
  pub returned : Passes (after (day 1) (sell 300 ∷ (send (pass 1) ∷ (give_back 1 ∷ [])))) (sell 300)
  -- a cancel waits out the second phase, and is asked once
  pub no_cancel : Refused (after (day 1) (buy 100 ∷ (send (pass 1) ∷ (step ∷ [])))) (cancel 1 1) refusal.NoCancel 17
  pub cancel_once : Passes (after (day 1) (buy 100 ∷ (send (pass 1) ∷ []))) (cancel 1 1)
  pub cancel_twice : Refused (after (day 1) (buy 100 ∷ (send (pass 1) ∷ (cancel 1 1 ∷ [])))) (cancel 1 1) refusal.State 14
  -- a first field of fifteen spaces and 7 is the number 7; fourteen spaces and 07 are ruled out at column 16
  pub field_good : reading seven 2 ≡ Ok 7
  pub field_fault : reading leading_zero 2 ≡ Err (record { cause = refusal.Digits; column = 16 })
  pub field_number : refusal_number refusal.Digits ≡ 25
  pub field_forms : FieldExamples
