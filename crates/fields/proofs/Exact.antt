-- A written form is read as its number, and no other number has it.
use Rattle.std.proofs.Common.{◌≡◌, ℕ, ◌-◌, ◌^◌, ◌<◌, ◌≤◌, Bool, true, false, cond, List, length, get_or, drop, replicate, Ok, Err, decimal, Result, sym, refl, ap, ◌∙◌, subst, arith, MatchResult}
use Rattle.std.proofs.lemmas.Fmt.{length-decimal-le, decimal_injective}
use Rattle.std.proofs.lemmas.List.{drop_at, length-replicate}
use Rattle.std.proofs.lemmas.Bool.{and_parts, leb-true}
use Rattle.rules.specs.declared.range.Quantity.{Quantity}
use Rattle.rules.specs.declared.range.Quantity.TheVariants as quantity
use Rattle.rules.specs.declared.range.Range.{Range}
use Rattle.rules.specs.declared.refusal.Refusal.TheVariants as refusal
use Rattle.rules.specs.Ranges.{in_range, range_of}
use Rattle.fields.specs.Written.{in_columns, Spells, RulesOut}
use Rattle.fields.specs.Scan.{scan}
use Rattle.fields.specs.Faults.{and_then, beside_of}
use Rattle.fields.specs.Reading.{digits_fault, bounded, ranging}
use Rattle.fields.proofs.Columns.{at_space, past_space, length_columns}
use Rattle.fields.proofs.Meaning.{scan_means}

shorter : (m n : ℕ) → m < 10 ^ 16 → n < 10 ^ 16 → in_columns 16 m ≡ in_columns 16 n → length (decimal m) < length (decimal n) → ⊥
shorter m n hm hn e lt =
    let ln = length-decimal-le 16 n (omega arith) hn (omega arith) in
    let s = at_space 16 m (16 - length (decimal n)) (omega arith) in
    let d = past_space n (16 - length (decimal n)) hn (omega arith) (omega arith) in
    let f = ap (λ (xs : List ℕ). get_or xs (16 - length (decimal n)) 0) e in
    omega arith

digits_of : (n : ℕ) → drop (16 - length (decimal n)) (in_columns 16 n) ≡ decimal n
unfolding in_columns
digits_of n = drop_at (replicate (16 - length (decimal n)) 32) (decimal n) (16 - length (decimal n)) (length-replicate {A = ℕ} (16 - length (decimal n)) 32)

pub columns_same : (m n : ℕ) → m < 10 ^ 16 → n < 10 ^ 16 → in_columns 16 m ≡ in_columns 16 n → m ≡ n
columns_same m n hm hn e =
    let l : length (decimal m) ≡ length (decimal n) =
    let less = shorter m n hm hn e in
    let more = shorter n m hn hm (sym e) in
    grind arith in
    let d = sym (digits_of m) ∙ ap (λ (k : ℕ). drop (16 - k) (in_columns 16 m)) l ∙ ap (drop (16 - length (decimal n))) e ∙ digits_of n in
    decimal_injective m n (omega arith) (omega arith) d

exact : (n : ℕ) (r : Result ℕ ℕ) → n < 10 ^ 16 → MatchResult r (λ m. Spells (in_columns 16 n) m) (λ k. RulesOut (in_columns 16 n) k) → r ≡ Ok n
exact n (Ok m) h c = ap Ok (sym (columns_same n m h c.small c.form))
exact n (Err k) h c = absurd (c.none n h refl)

pub scan_written : (n : ℕ) → n < 10 ^ 16 → scan 0 0 (in_columns 16 n) ≡ Ok n
scan_written n h = exact n (scan 0 0 (in_columns 16 n)) h (scan_means (in_columns 16 n) (length_columns 16 n (omega arith) h (omega arith)))

-- what sixteen columns hold
pub most_small : (q : Quantity) → (range_of q).most < 10 ^ 16
most_small quantity.Market = omega arith
most_small quantity.Date = omega arith
most_small quantity.Quota = omega arith
most_small quantity.Code = omega arith
most_small quantity.Mode = omega arith
most_small quantity.Close = omega arith
most_small quantity.Band = omega arith
most_small quantity.Participant = omega arith
most_small quantity.Account = omega arith
most_small quantity.Holding = omega arith
most_small quantity.Lines = omega arith
most_small quantity.Link = omega arith
most_small quantity.Price = omega arith
most_small quantity.Shares = omega arith
most_small quantity.TotalShares = omega arith
most_small quantity.AnyNumber = omega arith

at_most : (r : Range) (n : ℕ) → in_range r n ≡ true → n ≤ r.most
at_most r n h =
    let both = (and_parts _ _ h).0 in
    leb-true n r.most (and_parts _ _ both).1

pub in_range_small : (q : Quantity) (n : ℕ) → in_range (range_of q) n ≡ true → n < 10 ^ 16
in_range_small q n h = let a = at_most (range_of q) n h in let b = most_small q in omega arith

-- a number in its range is read back
pub ranging_written : (q : Quantity) (n column : ℕ) → in_range (range_of q) n ≡ true → ranging q (in_columns 16 n) column ≡ Ok n
ranging_written q n column h =
    ap (λ r. and_then (beside_of r (digits_fault column)) (bounded q column)) (scan_written n (in_range_small q n h))
    ∙ ap (λ b. cond b (Ok n) (Err (record { cause = refusal.Range; column = column }))) h

-- where a test answers a value, it held, and the value is its own
pub tested : {T E : Type 0} (b : Bool) (x y : T) (f : E) → cond b (Ok x) (Err f) ≡ Ok y → (x ≡ y) × (b ≡ true)
tested true x y f e = (cc, refl)
tested false x y f e = grind arith

by_scan : (q : Quantity) (column n : ℕ) (bs : List ℕ) (r : Result ℕ ℕ) → MatchResult r (λ m. Spells bs m) (λ k. RulesOut bs k) → and_then (beside_of r (digits_fault column)) (bounded q column) ≡ Ok n → Spells bs n × (in_range (range_of q) n ≡ true)
by_scan q column n bs (Ok m) c e =
    let t = tested (in_range (range_of q) m) m n (record { cause = refusal.Range; column = column }) e in
    subst (λ (x : ℕ). Spells bs x × (in_range (range_of q) x ≡ true)) t.0 (c, t.1)
by_scan q column n bs (Err k) c e = grind arith

-- and what is read is a written form in its range
pub ranging_spells : (q : Quantity) (column n : ℕ) (bs : List ℕ) → length bs ≡ 16 → ranging q bs column ≡ Ok n → Spells bs n × (in_range (range_of q) n ≡ true)
ranging_spells q column n bs h e = by_scan q column n bs (scan 0 0 bs) (scan_means bs h) e
