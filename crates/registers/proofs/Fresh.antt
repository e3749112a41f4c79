-- Lines of which all may still be sold make a fresh register.
use Rattle.std.proofs.Common.{◌≡◌, ℕ, zero, suc, Bool, cond, List, [], ◌∷◌, ◌++◌, Some, None, Option, Result}
use Rattle.std.proofs.lemmas.Bool.{cond_both}
use Rattle.rules.specs.declared.refusal.Refusal.{Refusal}
use Rattle.rules.specs.declared.range.Quantity.{Quantity}
use Rattle.lookup.specs.declared.key.Pair.{Pair}
use Rattle.tables.specs.declared.rows.Holding.{Holding}
use Rattle.tables.specs.Rows.{held_present}
use Rattle.registers.specs.Meaning.{pool_of, FreshPool, Fresh}
use Rattle.registers.specs.Registers.{held_meaning, FreshHoldings}

row_fresh : (b : Bool) (opening sellable : ℕ) → sellable ≡ opening → FreshPool (cond b (Some (pool_of opening sellable)) None)
row_fresh b opening sellable e = cond_both b _ _ FreshPool (λ t. e) (λ t. tt)

module _ {O : Type 0} (numbers : Quantity) (number : O → ℕ) (finds : List (Option Pair) → ℕ → ℕ → ℕ → Result ℕ Refusal) where
  pub fresh_lines : (lines : List (Holding O)) → FreshHoldings lines → Fresh (held_meaning numbers number finds lines)
  fresh_lines [] f k = tt
  fresh_lines (h ∷ hs) f zero = row_fresh (held_present numbers number h) h.opening h.sellable f.0
  fresh_lines (h ∷ hs) f (suc k) = fresh_lines hs f.1 k

-- one more line of which all may be sold
pub fresh_push : {O : Type 0} (lines : List (Holding O)) (h : Holding O) → FreshHoldings lines → h.sellable ≡ h.opening → FreshHoldings (lines ++ h ∷ [])
fresh_push [] h f e = (e, tt)
fresh_push (x ∷ xs) h f e = (f.0, fresh_push xs h f.1 e)
