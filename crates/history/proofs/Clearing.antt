-- With nothing in flight nothing is reserved any more.
use Rattle.std.proofs.Common.{◌≡◌, ℕ, ◌*◌, ◌<◌, Bool, cond, length, get_or, Some, None, Option, refl, ◌∙◌, arith}
use Rattle.rules.specs.declared.side.Side.{Side}
use Rattle.rules.specs.declared.side.Side.TheVariants.{Buy, Sell}
use Rattle.rules.specs.Sides.{by_side}
use Rattle.registers.specs.declared.pool.Pool.{Pool}
use Rattle.gate.specs.Desks.{desk}
use Rattle.gate.specs.Opened.{opened}
use Rattle.history.specs.History.{AtClose, Balanced, SoldOff, finding_of, register_of}
use Rattle.history.specs.Tally.{bought, buy_reserved, in_pool, no_entry, shares_reserved, shares_sold, sold, sum_of, tally}
use Rattle.history.proofs.Conserve.{agree}
use Rattle.history.proofs.Sums.{cond_none, figure_clear, sum_none}

none_reserved : (s : Side) (limit r : ℕ) → r ≡ 0 → by_side s (limit * r) 0 ≡ 0
none_reserved Buy limit r e = rw e (omega arith)
none_reserved Sell limit r e = refl

none_held : (b : Bool) (r : ℕ) → r ≡ 0 → cond b r 0 ≡ 0
none_held b r e = rw e (cond_none b)

sold_off : (o : Option Pool) (R T : ℕ) → R ≡ 0 → Balanced o R T → SoldOff o T
sold_off (Some p) R T e h = omega arith
sold_off None R T e h = h.1

pub at_close : AtClose
at_close d clear market date quota list p a book fp fa cs r =
    let v = agree d market date quota list p a book fp fa cs r in
    let es = (tally (finding_of (desk (opened market date quota) list p a book)) cs).entries in
    let left : (i : ℕ) → i < length es → (get_or es i no_entry).reserved ≡ 0 = λ i l.
    let k : i < d.figures.count = rw (← v.entries) l in
    (v.same i k).reserved ∙ (clear i k).1 in
    record {
      balance = figure_clear quota (sum_of buy_reserved es) (sum_of bought es) (sum_of sold es) d.figures.balance (sum_none buy_reserved es no_entry (λ i l. none_reserved (get_or es i no_entry).side (get_or es i no_entry).limit (get_or es i no_entry).reserved (left i l))) v.balance;
      pools = λ holder j. sold_off ((register_of d holder).pools j) (sum_of (shares_reserved holder j) es) (sum_of (shares_sold holder j) es) (sum_none (shares_reserved holder j) es no_entry (λ i l. none_held (in_pool holder j (get_or es i no_entry)) (get_or es i no_entry).reserved (left i l))) (v.pools holder j);
    }
