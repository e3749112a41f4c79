-- What the value of an accepted request is at the most.
use Rattle.std.proofs.Common.{◌≡◌, ℕ, ◌+◌, ◌*◌, ◌≤◌, true, not, ◌||◌, ltb, leb, Some, None, Option, sym, le_trans, mul-le-mul, arith, lit≤}
use Rattle.std.proofs.lemmas.Bool.{and_parts, ltb-false, not-false, or_parts}
use Rattle.rules.specs.declared.price.PriceBand.{PriceBand}
use Rattle.rules.specs.declared.price.PriceBand.TheVariants.{Five, Ten}
use Rattle.rules.specs.declared.range.Quantity.TheVariants as quantity
use Rattle.rules.specs.declared.side.Side.{Side}
use Rattle.rules.specs.declared.side.Side.TheVariants.{Buy, Sell}
use Rattle.rules.specs.Phases.{phase_rules}
use Rattle.rules.specs.Prices.{band_percent, highest_price, lowest_price}
use Rattle.rules.specs.Ranges.{in_range, range_of}
use Rattle.rules.specs.Rules.{first_broken}
use Rattle.rules.specs.Sides.{side_rules}
use Rattle.tables.specs.declared.rows.Security.{Security}
use Rattle.tables.specs.Rows.{security_present}
use Rattle.orders.specs.declared.order.Request.{Request}
use Rattle.std.proofs.lemmas.Bool.Decides.{nat_tests}
use Rattle.orders.specs.Records.{fits_record}
use Rattle.orders.proofs.Passed.{passed}
use Rattle.orders.proofs.Sound.{in_ends}
use Rattle.gate.specs.declared.figures.Figures.{Figures}
use Rattle.gate.specs.Balances.{most_balance, most_orders}
use Rattle.gate.specs.Reserves.{request_rules, beyond_limits}

percent_most : (b : PriceBand) → 100 + band_percent b ≤ 110
percent_most Five = lit≤ tt
percent_most Ten = lit≤ tt

-- the highest price of a security that is present
highest_most : (s : Security) → security_present s ≡ true → highest_price s.close s.band ≤ 999999
highest_most s e =
    let close = in_ends (range_of quantity.Close) s.close (and_parts (in_range (range_of quantity.Code) s.code) _ e).1 in
    let product : s.close * (100 + band_percent s.band) ≤ 900000 * 110 = mul-le-mul close.1 (percent_most s.band) in
    omega arith

lot_most : (side : Side) (shares : ℕ) → in_range (side_rules side).lot shares ≡ true → shares ≤ 1000000
lot_most Buy shares e = (in_ends (side_rules Buy).lot shares e).1
lot_most Sell shares e = (in_ends (side_rules Sell).lot shares e).1

-- price and shares of a request that keeps the rules of every request
pub request_most : (f : Figures) (line : Option Security) (s : Security) (room : ℕ) (a : Request) → line ≡ Some s → security_present s ≡ true → None ≡ first_broken (request_rules f line room a) → (a.price ≤ 999999) × (a.shares ≤ 1000000)
request_most f line s room a e p h =
    let kept : first_broken (request_rules f (Some s) room a) ≡ None = sym (rw e at h) in
    let hours = passed (not (phase_rules f.phase).orders) _ _ kept in
    let full = passed (leb room f.count || leb most_orders f.count) _ _ hours.1 in
    let price = passed (beyond_limits s a.price) _ _ full.1 in
    let lot = passed (not (in_range (side_rules a.side).lot a.shares)) _ _ price.1 in
    let below = ltb-false (highest_price s.close s.band) a.price (or_parts (ltb a.price (lowest_price s.close s.band)) _ price.0).1 in
    (le_trans below (highest_most s p), lot_most a.side a.shares (not-false _ lot.0))

-- its value is within the balance's bounds
pub request_worth : (f : Figures) (line : Option Security) (s : Security) (room : ℕ) (a : Request) → line ≡ Some s → security_present s ≡ true → None ≡ first_broken (request_rules f line room a) → a.price * a.shares ≤ most_balance
request_worth f line s room a e p h =
    let most = request_most f line s room a e p h in
    let worth : a.price * a.shares ≤ 999999 * 1000000 = mul-le-mul most.0 most.1 in
    le_trans worth (lit≤ tt)

-- and a record has room for it
pub request_fits : (a : Request) → (a.price ≤ 999999) × (a.shares ≤ 1000000) → fits_record a ≡ true
request_fits a m = grind (arith, nat_tests, m.0, m.1)
