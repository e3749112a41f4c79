-- What is known where rules are kept.
use Rattle.std.proofs.Common.{◌≡◌, ℕ, Bool, true, false, Some, None, Option, refl, arith}
use Rattle.rules.specs.declared.refusal.Refusal.{Refusal}
use Rattle.rules.specs.Rules.{when, or_else}

-- a rule is kept, and so are those behind it
pub passed : (b : Bool) (e : Refusal) (rest : Option Refusal) → or_else (when b e) rest ≡ None → (b ≡ false) × (rest ≡ None)
passed true e rest h = let z : ◌≡◌ {A = ℕ} 0 1 = cc in absurd (omega arith)
passed false e rest h = (refl, h)

-- the same of a rule that is not a test
pub passed_any : (r rest : Option Refusal) → or_else r rest ≡ None → (r ≡ None) × (rest ≡ None)
passed_any (Some e) rest h = let z : ◌≡◌ {A = ℕ} 0 1 = cc in absurd (omega arith)
passed_any None rest h = (refl, h)
