-- The event that a line's fields make is the one that its bytes say.
use Rattle.std.proofs.Common.{◌≡◌, ℕ, List, [], ◌∷◌, Ok, Err, Result, sym, refl, ap, ◌∙◌, ap₂}
use Rattle.rules.specs.declared.letter.Letter.{Letter}
use Rattle.rules.specs.declared.letter.Letter.TheVariants as letter
use Rattle.rules.specs.declared.range.Quantity.{Quantity}
use Rattle.rules.specs.declared.range.Quantity.TheVariants as quantity
use Rattle.rules.specs.declared.side.Side.{Side}
use Rattle.rules.specs.declared.side.Side.TheVariants.{Buy, Sell}
use Rattle.rules.specs.Letters.{letter_rules}
use Rattle.rules.specs.Sides.{by_side}
use Rattle.fields.specs.declared.fault.FieldFault.{FieldFault}
use Rattle.fields.specs.declared.field.Field.{Field}
use Rattle.fields.specs.declared.line.EventLine.{EventLine}
use Rattle.fields.specs.declared.line.EventLine.TheVariants as line
use Rattle.fields.specs.Faults.{and_then}
use Rattle.fields.specs.Layout.{FieldAt, event_letters, opening}
use Rattle.fields.specs.Lines.{EventFieldsOf, event_letter_of}
use Rattle.fields.specs.Numbers.{field_in, numbers_from}
use Rattle.fields.specs.Reading.{ranging}
use Rattle.dayfile.specs.Rows.{named_case}
use Rattle.desk.specs.declared.event.Event.{Event}
use Rattle.desk.specs.declared.event.Event.TheVariants as event
use Rattle.desk.specs.Events.{event_in, event_made, event_of, link_numbered}

read_at : (t : List ℕ) (j : ℕ) (f : Field) (q : Quantity) → FieldAt t j f → ranging q f.bytes.now f.column ≡ field_in t j q
read_at t j f q at = ap₂ (ranging q) at.bytes at.column

abbrev Read : Type 0
Read = Result ℕ FieldFault

-- what is judged first, and then the rest
then_then : {A B C : Type 0} (a : Result A FieldFault) (f : A → Result B FieldFault) (h : B → Result C FieldFault) → and_then (and_then a f) h ≡ and_then a (λ x. and_then (f x) h)
then_then (Ok x) f h = refl
then_then (Err e) f h = refl

-- numbers that are judged from the left, and then what is made of them
one : (a : Read) (K : List ℕ → Result Event FieldFault) → and_then a (λ x. K (x ∷ [])) ≡ and_then (and_then a (λ x. Ok (x ∷ []))) K
one (Ok x) K = refl
one (Err e) K = refl

two : (a b : Read) (K : List ℕ → Result Event FieldFault) → and_then a (λ x. and_then b (λ y. K (x ∷ (y ∷ [])))) ≡ and_then (and_then a (λ x. and_then (and_then b (λ y. Ok (y ∷ []))) (λ ns. Ok (x ∷ ns)))) K
two (Ok x) (Ok y) K = refl
two (Ok x) (Err e) K = refl
two (Err e) b K = refl

three : (a b c : Read) (K : List ℕ → Result Event FieldFault) → and_then a (λ x. and_then b (λ y. and_then c (λ z. K (x ∷ (y ∷ (z ∷ [])))))) ≡ and_then (and_then a (λ x. and_then (and_then b (λ y. and_then (and_then c (λ z. Ok (z ∷ []))) (λ ns. Ok (y ∷ ns)))) (λ ns. Ok (x ∷ ns)))) K
three (Ok x) (Ok y) (Ok z) K = refl
three (Ok x) (Ok y) (Err e) K = refl
three (Ok x) (Err e) c K = refl
three (Err e) b c K = refl

five : (side : Side) (a b c d e : Read) (K : List ℕ → Result Event FieldFault) → ((p q r s t : ℕ) → Ok (event.Request side p q r s t) ≡ K (p ∷ (q ∷ (r ∷ (s ∷ (t ∷ []))))))
    → and_then a (λ p. and_then b (λ q. and_then c (λ r. and_then d (λ s. and_then e (λ t. Ok (event.Request side p q r s t))))))
    ≡ and_then (and_then a (λ p. and_then (and_then b (λ q. and_then (and_then c (λ r. and_then (and_then d (λ s. and_then (and_then e (λ t. Ok (t ∷ []))) (λ ns. Ok (s ∷ ns)))) (λ ns. Ok (r ∷ ns)))) (λ ns. Ok (q ∷ ns)))) (λ ns. Ok (p ∷ ns)))) K
five side (Ok p) (Ok q) (Ok r) (Ok s) (Ok t) K IfOk = IfOk p q r s t
five side (Ok p) (Ok q) (Ok r) (Ok s) (Err f) K IfOk = refl
five side (Ok p) (Ok q) (Ok r) (Err f) e K IfOk = refl
five side (Ok p) (Ok q) (Err f) d e K IfOk = refl
five side (Ok p) (Err f) c d e K IfOk = refl
five side (Err f) b c d e K IfOk = refl

-- the event of the letter and the numbers of a line that opens so
opened_as : (t : List ℕ) (l : Letter) → opening event_letters t ≡ Ok l → and_then (numbers_from 0 (letter_rules l).fields t) (event_made l) ≡ event_of t
opened_as t l o = sym (ap (λ r. and_then r (λ x. and_then (numbers_from 0 (letter_rules x).fields t) (event_made x))) o)

-- an order's line, of either side
requested : (t : List ℕ) (side : Side) → opening event_letters t ≡ Ok (by_side side letter.Buy letter.Sell)
    → and_then (field_in t 0 quantity.AnyNumber) (λ p. and_then (field_in t 1 quantity.AnyNumber) (λ q. and_then (field_in t 2 quantity.AnyNumber) (λ r. and_then (field_in t 3 quantity.AnyNumber) (λ s. and_then (field_in t 4 quantity.AnyNumber) (λ u. Ok (event.Request side p q r s u)))))) ≡ event_of t
requested t Buy o = five Buy (field_in t 0 quantity.AnyNumber) (field_in t 1 quantity.AnyNumber) (field_in t 2 quantity.AnyNumber) (field_in t 3 quantity.AnyNumber) (field_in t 4 quantity.AnyNumber) (event_made letter.Buy) (λ p q r s u. refl) ∙ opened_as t letter.Buy o
requested t Sell o = five Sell (field_in t 0 quantity.AnyNumber) (field_in t 1 quantity.AnyNumber) (field_in t 2 quantity.AnyNumber) (field_in t 3 quantity.AnyNumber) (field_in t 4 quantity.AnyNumber) (event_made letter.Sell) (λ p q r s u. refl) ∙ opened_as t letter.Sell o

pub event_in_of : (t : List ℕ) (l : EventLine) → opening event_letters t ≡ Ok (event_letter_of l) → EventFieldsOf t l → event_in l ≡ event_of t
event_in_of t (line.Request side a b c d e) o at =
    simp (read_at t 0 a quantity.AnyNumber at.0, read_at t 1 b quantity.AnyNumber at.1, read_at t 2 c quantity.AnyNumber at.2, read_at t 3 d quantity.AnyNumber at.3, read_at t 4 e quantity.AnyNumber at.4)
    (requested t side o)
event_in_of t (line.Trade a b c) o at =
    simp (read_at t 0 a quantity.AnyNumber at.0, read_at t 1 b quantity.AnyNumber at.1, read_at t 2 c quantity.AnyNumber at.2)
    (three (field_in t 0 quantity.AnyNumber) (field_in t 1 quantity.AnyNumber) (field_in t 2 quantity.AnyNumber) (event_made letter.Trade) ∙ opened_as t letter.Trade o)
event_in_of t (line.Return a) o at = simp (read_at t 0 a quantity.AnyNumber at) (one (field_in t 0 quantity.AnyNumber) (event_made letter.Return) ∙ opened_as t letter.Return o)
event_in_of t (line.Confirm a) o at = simp (read_at t 0 a quantity.AnyNumber at) (one (field_in t 0 quantity.AnyNumber) (event_made letter.Confirm) ∙ opened_as t letter.Confirm o)
event_in_of t (line.Decline a) o at = simp (read_at t 0 a quantity.AnyNumber at) (one (field_in t 0 quantity.AnyNumber) (event_made letter.Decline) ∙ opened_as t letter.Decline o)
event_in_of t (line.Cancel a b) o at =
    simp (read_at t 0 a quantity.AnyNumber at.0, read_at t 1 b quantity.AnyNumber at.1)
    (two (field_in t 0 quantity.AnyNumber) (field_in t 1 quantity.AnyNumber) (event_made letter.Cancel) ∙ opened_as t letter.Cancel o)
event_in_of t line.Step o at = opened_as t letter.Step o
event_in_of t (line.Notice a b c) o at =
    simp (read_at t 0 a quantity.AnyNumber at.0, read_at t 1 b quantity.AnyNumber at.1, read_at t 2 c quantity.AnyNumber at.2)
    (three (field_in t 0 quantity.AnyNumber) (field_in t 1 quantity.AnyNumber) (field_in t 2 quantity.AnyNumber) (event_made letter.Notice) ∙ opened_as t letter.Notice o)
event_in_of t (line.Link a) o at =
    simp (read_at t 0 a quantity.Link at)
    (then_then (field_in t 0 quantity.Link) (λ n. named_case 2 (link_numbered n)) (λ state. Ok (event.Link state)) ∙ one (field_in t 0 quantity.Link) (event_made letter.Link) ∙ opened_as t letter.Link o)
event_in_of t line.Close o at = opened_as t letter.Close o
