-- The line of a holding, by its three fields.
use Rattle.std.proofs.Common.{◌≡◌, ℕ, ◌+◌, ◌*◌, List, [], ◌∷◌, take, drop, Ok, Err, Result, refl, ap, ◌∙◌}
use Rattle.std.proofs.lemmas.Bool.{eq-eqb}
use Rattle.rules.specs.declared.letter.Letter.{Letter}
use Rattle.rules.specs.declared.range.Quantity.{Quantity}
use Rattle.rules.specs.declared.range.Quantity.TheVariants as quantity
use Rattle.rules.specs.Letters.{letter_rules}
use Rattle.fields.specs.declared.fault.FieldFault.{FieldFault}
use Rattle.fields.specs.declared.field.Field.{Field}
use Rattle.fields.specs.Faults.{and_then}
use Rattle.fields.specs.Layout.{FieldAt, opening, day_letters}
use Rattle.fields.specs.Numbers.{field_in}
use Rattle.fields.specs.Reading.{ranging}
use Rattle.dayfile.specs.Rows.{held_of, line_of}

-- three numbers, read from the left
three_read : {X : Type 0} (a b c : Result ℕ FieldFault) (make : List ℕ → Result X FieldFault) → and_then a (λ x. and_then b (λ y. and_then c (λ z. make (x ∷ (y ∷ (z ∷ [])))))) ≡ and_then (and_then a (λ x. and_then (and_then b (λ y. and_then (and_then c (λ z. Ok (z ∷ []))) (λ ns. Ok (y ∷ ns)))) (λ ns. Ok (x ∷ ns)))) make
three_read (Err f) b c make = refl
three_read (Ok x) (Err f) c make = refl
three_read (Ok x) (Ok y) (Err f) make = refl
three_read (Ok x) (Ok y) (Ok z) make = refl

-- what is read of a field is what stands in the line
read_at : (line : List ℕ) (j : ℕ) (q : Quantity) (f : Field) → FieldAt line j f → ranging q f.bytes.now f.column ≡ field_in line j q
read_at line j q f a = ap (λ bs. ranging q bs f.column) a.bytes ∙ ap (ranging q (take 16 (drop (1 + 16 * j) line))) a.column

pub held_read : {O : Type 0} (numbers : Quantity) (owner : ℕ → O) (l : Letter) (line : List ℕ) (a b c : Field) → (letter_rules l).fields ≡ numbers ∷ (quantity.Code ∷ (quantity.Holding ∷ [])) → opening day_letters line ≡ Ok l → FieldAt line 0 a → FieldAt line 1 b → FieldAt line 2 c → and_then (ranging numbers a.bytes.now a.column) (λ o. and_then (ranging quantity.Code b.bytes.now b.column) (λ k. and_then (ranging quantity.Holding c.bytes.now c.column) (λ s. held_of owner (o ∷ (k ∷ (s ∷ [])))))) ≡ line_of l (held_of owner) line
held_read numbers owner l line a b c fields opens at0 at1 at2 =
    three_read (ranging numbers a.bytes.now a.column) (ranging quantity.Code b.bytes.now b.column) (ranging quantity.Holding c.bytes.now c.column) (held_of owner)
    ∙ rw (read_at line 0 numbers a at0, read_at line 1 quantity.Code b at1, read_at line 2 quantity.Holding c at2, opens, eq-eqb (letter_rules l).byte (letter_rules l).byte refl, fields) refl
