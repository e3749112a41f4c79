-- What a sound record and a fill that fits say of their numbers.
use Rattle.std.proofs.Common.{◌≡◌, ℕ, ◌+◌, ◌*◌, ◌≤◌, true, false, not, ◌&&◌, eqb, ltb, leb, None, mul-le-mul}
use Rattle.std.proofs.lemmas.Bool.{and_parts, or_parts, not-false, leb-true, ltb-false}
use Rattle.rules.specs.declared.range.Range.{Range}
use Rattle.rules.specs.declared.range.Quantity.TheVariants as quantity
use Rattle.rules.specs.declared.side.Side.{Side}
use Rattle.rules.specs.declared.side.Side.TheVariants.{Buy, Sell}
use Rattle.rules.specs.Ranges.{in_range, range_of}
use Rattle.rules.specs.Rules.{first_broken}
use Rattle.rules.specs.Sides.{by_side}
use Rattle.orders.specs.declared.order.Order.{Order}
use Rattle.orders.specs.Faults.{fill_faults, misfit}
use Rattle.orders.specs.Records.{is_live, most_price, most_worth, remainder, sound_order}
use Rattle.orders.proofs.Passed.{passed}

-- a number in a range is between its ends
pub in_ends : (r : Range) (n : ℕ) → in_range r n ≡ true → (r.least ≤ n) × (n ≤ r.most)
in_ends r n e =
    let ends = and_parts (leb r.least n) _ (and_parts (leb r.least n && leb n r.most) _ e).0 in
    (leb-true r.least n ends.0, leb-true n r.most ends.1)

-- the numbers of a sound record
pub record Fine (o : Order) : Type 0 where
  pub price_most : o.price ≤ 999999
  pub shares_least : 1 ≤ o.shares
  pub shares_most : o.shares ≤ 1000000
  pub within : o.filled + o.returned ≤ o.shares
  pub worth : o.traded ≤ 999999 * o.filled

pub fine_from : (o : Order) → sound_order o ≡ true → Fine o
fine_from o e =
    let a = and_parts (in_range (range_of quantity.Price) o.price) _ e in
    let b = and_parts (in_range (range_of quantity.Shares) o.shares) _ a.1 in
    let c = and_parts (leb (o.filled + o.returned) o.shares) _ b.1 in
    let d = and_parts (leb o.traded (most_price * o.filled)) _ c.1 in
    let price = in_ends (range_of quantity.Price) o.price a.0 in
    let shares = in_ends (range_of quantity.Shares) o.shares b.0 in
    record {
      price_most = price.1;
      shares_least = shares.0;
      shares_most = shares.1;
      within = leb-true _ _ c.0;
      worth = leb-true _ _ d.0;
    }

-- the numbers of a fill that fits
pub record Fitting (o : Order) (shares price : ℕ) : Type 0 where
  pub enough : shares ≤ remainder o
  pub price_most : price ≤ 999999
  pub side : by_side o.side (price ≤ o.price) (o.price ≤ price)

side_from : (s : Side) (limit price : ℕ) → by_side s (ltb limit price) (ltb price limit) ≡ false → by_side s (price ≤ limit) (limit ≤ price)
side_from Buy limit price e = ltb-false limit price e
side_from Sell limit price e = ltb-false price limit e

pub fitting_from : (o : Order) (shares price : ℕ) → misfit o shares price ≡ false → Fitting o shares price
fitting_from o shares price e =
    let a = or_parts _ _ e in
    let b = or_parts (eqb shares 0) _ a.0 in
    let c = or_parts (not (in_range (range_of quantity.Price) price)) _ a.1 in
    record {
      enough = ltb-false _ _ b.1;
      price_most = (in_ends (range_of quantity.Price) price (not-false _ c.0)).1;
      side = side_from o.side o.price price c.1;
    }

-- a product of a price and shares that an order can have
pub worth_most : (price shares : ℕ) → price ≤ 999999 → shares ≤ 1000000 → price * shares ≤ most_worth
worth_most price shares p s = mul-le-mul p s

-- what an accepted fill has passed
pub record Traded (o : Order) (shares price : ℕ) : Type 0 where
  pub sound : sound_order o ≡ true
  pub live : is_live o.state ≡ true
  pub fit : misfit o shares price ≡ false

pub trade_passed : (o : Order) (shares price : ℕ) → first_broken (fill_faults o shares price) ≡ None → Traded o shares price
trade_passed o shares price h =
    let a = passed (not (sound_order o)) _ _ h in
    let b = passed (not (is_live o.state)) _ _ a.1 in
    let c = passed (misfit o shares price) _ _ b.1 in
    record { sound = not-false _ a.0; live = not-false _ b.0; fit = c.0 }
