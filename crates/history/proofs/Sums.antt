-- Sums over the entries of a tally, and the figure that they make.
use Rattle.std.proofs.Common.{◌≡◌, ℕ, zero, suc, ◌+◌, ◌-◌, ◌*◌, ◌<◌, ◌≤◌, Bool, true, false, cond, List, [], ◌∷◌, ◌++◌, length, get_or, set, ℤ, pos, ◌+ℤ◌, ◌-ℤ◌, refl, ap, add-mul, mul-add, arith}
use Rattle.std.proofs.lemmas.Int.{ints}
use Rattle.rules.specs.declared.side.Side.{Side}
use Rattle.rules.specs.declared.side.Side.TheVariants.{Buy, Sell}
use Rattle.rules.specs.Sides.{by_side}
use Rattle.history.specs.Tally.{sum_of}

-- a sum after one member changed
pub sum_set : {X : Type 0} (f : X → ℕ) (xs : List X) (i : ℕ) (y d : X) → i < length xs → sum_of f (set xs i y) + f (get_or xs i d) ≡ sum_of f xs + f y
sum_set f [] i y d l = absurd (omega arith)
sum_set f (x ∷ xs) zero y d l = omega arith
sum_set f (x ∷ xs) (suc i) y d l =
    let h : i < length xs = omega arith in
    let e = sum_set f xs i y d h in
    omega arith

-- a sum after one more member
pub sum_push : {X : Type 0} (f : X → ℕ) (xs : List X) (y : X) → sum_of f (xs ++ (y ∷ [])) ≡ sum_of f xs + f y
sum_push f [] y = omega arith
sum_push f (x ∷ xs) y = let e = sum_push f xs y in omega arith

-- a sum to which no member adds
pub sum_none : {X : Type 0} (f : X → ℕ) (xs : List X) (d : X) → ((i : ℕ) → i < length xs → f (get_or xs i d) ≡ 0) → sum_of f xs ≡ 0
sum_none f [] d h = refl
sum_none f (x ∷ xs) d h =
    let first : f x ≡ 0 = h zero (omega arith) in
    let rest = sum_none f xs d (λ i l. h (suc i) (omega arith)) in
    omega arith

-- nothing, whichever way
pub cond_none : (b : Bool) → ◌≡◌ {A = ℕ} (cond b 0 0) 0
cond_none true = refl
cond_none false = refl

-- the figure after one entry changed and the balance rose by what that sets free
pub figure_moved : (q H B S H' B' S' h b s h' b' s' by : ℕ) (z : ℤ) → z ≡ ((pos q -ℤ pos H) -ℤ pos B) +ℤ pos S → H' + h ≡ H + h' → B' + b ≡ B + b' → S' + s ≡ S + s' → by + h' + b' + s ≡ h + b + s' → z +ℤ pos by ≡ ((pos q -ℤ pos H') -ℤ pos B') +ℤ pos S'
figure_moved q H B S H' B' S' h b s h' b' s' by z e eh eb es l = omega (arith, ints)

-- what a trade of k shares at a price does to one entry
pub trade_entry : (s : Side) (limit r k price w : ℕ) → k ≤ r → by_side s (price ≤ limit) (limit ≤ price) → by_side s ((limit - price) * k) (price * k) + by_side s (limit * (r - k)) 0 + by_side s (w + price * k) 0 + by_side s 0 w ≡ by_side s (limit * r) 0 + by_side s w 0 + by_side s 0 (w + price * k)
trade_entry Buy limit r k price w h g =
    let a = add-mul (limit - price) price k in
    let b = mul-add limit (r - k) k in
    let c : ((limit - price) + price) * k ≡ limit * k = ap (λ x. x * k) (omega arith) in
    let d : limit * ((r - k) + k) ≡ limit * r = ap (λ x. limit * x) (omega arith) in
    omega arith
trade_entry Sell limit r k price w h g = omega arith

-- what the end of its remainder does to one entry
pub end_entry : (s : Side) (limit r w : ℕ) → by_side s (limit * r) 0 + by_side s (limit * 0) 0 + by_side s w 0 + by_side s 0 w ≡ by_side s (limit * r) 0 + by_side s w 0 + by_side s 0 w
end_entry Buy limit r w = omega arith
end_entry Sell limit r w = refl

-- the figure after one more entry, of which nothing is traded
pub reserve_figure : (s : Side) (q H B S H' B' S' r : ℕ) (z : ℤ) → z ≡ ((pos q -ℤ pos H) -ℤ pos B) +ℤ pos S → H' ≡ H + by_side s r 0 → B' ≡ B + by_side {X = ℕ} s 0 0 → S' ≡ S + by_side {X = ℕ} s 0 0 → by_side s (z -ℤ pos r) z ≡ ((pos q -ℤ pos H') -ℤ pos B') +ℤ pos S'
reserve_figure Buy q H B S H' B' S' r z e h b s = omega (arith, ints)
reserve_figure Sell q H B S H' B' S' r z e h b s = omega (arith, ints)

-- the figure where nothing is reserved
pub figure_clear : (q H B S : ℕ) (z : ℤ) → H ≡ 0 → z ≡ ((pos q -ℤ pos H) -ℤ pos B) +ℤ pos S → z ≡ (pos q -ℤ pos B) +ℤ pos S
figure_clear q H B S z h e = omega (arith, ints)
