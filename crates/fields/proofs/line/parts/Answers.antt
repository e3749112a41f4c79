use Rattle.std.proofs.Common.{◌≡◌, ℕ, zero, suc, ◌+◌, List, refl, rules}
use Rattle.std.specs.Array.{IsFromFnResultFrom}
use Rattle.std.specs.Fn.{Called, Mut}
use Rattle.fields.specs.declared.field.Field.{Field}
use Rattle.fields.specs.Layout.{FieldAt, MadeFrom}
use Rattle.fields.proofs.line.parts.Goals as goal

-- calls that each give what R makes of their field give what R makes of the fields
made : {F T : Type 0} (g : Mut F (ℕ × Unit {0}) T) (R : Field → T → Type 0) (line : List ℕ) (Is : F → Type 0)
    → ((p q : F) (j : ℕ) (x : T) → Is p → Called g p (j, tt) x q → Is q × ((f : Field) × FieldAt line j f × R f x))
    → (p : F) (xs : List T) (j n : ℕ) → Is p → IsFromFnResultFrom g p xs j n → MadeFrom R line xs j n
made g R line Is s p xs j zero is w = tt
made g R line Is s p xs j (suc n) is w =
    let t = s p w.0 j w.1 is w.3 in (t.1.0, w.1, t.1.1, t.1.2, w.2, made g R line Is s w.0 xs (j + 1) n t.0 w.4)

pub returns : goal.returns
returns g c = (search rules, made _ g.T.From.from_gives c.args.line.now (λ p. p.0.now ≡ c.args.line.now) (λ p q j x is w. search rules) _ c.from_fn.result 0 g.row.N refl c.from_fn.ensures.items.each)
