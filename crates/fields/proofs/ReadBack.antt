-- A line is read as its letter and numbers exactly where the input begins with it as it is written.
use Rattle.std.proofs.Common.{◌≡◌, ℕ, ◌+◌, ◌*◌, ◌<◌, Bool, true, false, cond, ◌&&◌, eqb, ltb, List, [], ◌∷◌, ◌++◌, length, get_or, take, drop, Some, None, Ok, Err, Option, Result, refl, ap, ◌∙◌, subst, append_assoc, one-add, arith, take-add}
use Rattle.std.specs.List.{flat_map}
use Rattle.std.proofs.lemmas.List.{drop_more, take_more, get_or-drop, length-drop, length-append, get_or_at}
use Rattle.std.proofs.lemmas.Bool.{and_parts, eqb-true, ltb-true}
use Rattle.std.proofs.lemmas.Bool.Decides.{nat_tests}
use Rattle.rules.specs.declared.letter.Letter.{Letter}
use Rattle.rules.specs.declared.letter.Letter.TheVariants as letter
use Rattle.rules.specs.declared.refusal.Refusal.TheVariants as refusal
use Rattle.rules.specs.Cases.{numbered}
use Rattle.rules.specs.Letters.{letter_rules}
use Rattle.fields.specs.Faults.{and_then}
use Rattle.fields.specs.Layout.{closing, closed, letter_in, opening, letters_of, width_of}
use Rattle.fields.specs.Numbers.{numbers_from, written_line, Within, ReadAs, WrittenAs, ReadsBack}
use Rattle.fields.specs.Written.{in_columns}
use Rattle.fields.proofs.Exact.{tested}
use Rattle.fields.proofs.Numbers.{by_then, numbers_written, numbers_read, numbers_wide}

if_not : {T E : Type 0} (b : Bool) (r : Result T E) (f : E) (x : T) → cond b (Err f) r ≡ Ok x → r ≡ Ok x
if_not false r f x e = e
if_not true r f x e = grind arith

either : {X : Type 0} (b : Bool) (x y : X) (o : Option X) {P : Type 0} → cond b (Some x) o ≡ Some y → (b ≡ true → x ≡ y → P) → (o ≡ Some y → P) → P
either true x y o e this that = this refl (cc)
either false x y o e this that = that e

-- a letter that is found has the byte that it was looked for by
found_byte : {X : Type 0} (number : X → ℕ) (xs : List X) (n : ℕ) (y : X) → numbered number xs n ≡ Some y → n ≡ number y
found_byte number [] n y e = grind arith
found_byte number (x ∷ xs) n y e =
    either (eqb n (number x)) x y (numbered number xs n) e
    (λ t same. eqb-true n (number x) t ∙ ap number same)
    (λ more. found_byte number xs n y more)

-- what a closed line has
closes : (line : List ℕ) (n : ℕ) (x : Unit {0}) → closing line n ≡ Ok x → (1 + 16 * n < length line) × (get_or line (1 + 16 * n) 0 ≡ 10)
closes line n x e =
    let t = tested (ltb (1 + 16 * n) (length line) && eqb (get_or line (1 + 16 * n) 0) 10) tt x (record { cause = refusal.Length; column = 1 }) e in
    let both = and_parts (ltb (1 + 16 * n) (length line)) (eqb (get_or line (1 + 16 * n) 0) 10) t.1 in
    (ltb-true (1 + 16 * n) (length line) both.0, eqb-true (get_or line (1 + 16 * n) 0) 10 both.1)

abbrev Opened : Letter → List ℕ → Type 0
Opened l line = (1 + 16 * length (letter_rules l).fields < length line) × (get_or line (1 + 16 * length (letter_rules l).fields) 0 ≡ 10)

closed_is : (line : List ℕ) (l : Letter) (o : Option Letter) → closed line o ≡ Ok l → (o ≡ Some l) × Opened l line
closed_is line l None e = grind arith
closed_is line l (Some m) e =
    by_then (closing line (length (letter_rules m).fields)) (λ _. Ok m) l e (λ x ex em.
    let same : m ≡ l = cc in
    (ap Some same, subst (λ k. Opened k line) same (closes line (length (letter_rules m).fields) x ex)))

pub opened : (letters : List Letter) (line : List ℕ) (l : Letter) → opening letters line ≡ Ok l → (get_or line 0 0 ≡ (letter_rules l).byte) × (1 + 16 * length (letter_rules l).fields < length line) × (get_or line (1 + 16 * length (letter_rules l).fields) 0 ≡ 10)
opened letters line l e =
    let e1 = if_not (eqb (length line) 0) (closed line (letter_in letters (get_or line 0 0))) (record { cause = refusal.Length; column = 1 }) l e in
    let c = closed_is line l (letter_in letters (get_or line 0 0)) e1 in
    (found_byte (λ k. (letter_rules k).byte) letters (get_or line 0 0) l c.0, c.1.0, c.1.1)

-- a line by its letter, its fields and its line feed
line_form : (line : List ℕ) (byte w : ℕ) → 1 + w < length line → get_or line 0 0 ≡ byte → get_or line (1 + w) 0 ≡ 10 → take (1 + (w + 1)) line ≡ byte ∷ (take w (drop 1 line) ++ (10 ∷ []))
line_form line byte w h a z =
    let first : line ≡ get_or line 0 0 ∷ drop 1 line = drop_more line 0 0 (omega arith) in
    let d : w < length (drop 1 line) = rw (length-drop 1 line) (omega arith) in
    let last = take_more (drop 1 line) w 0 d in
    take-add 1 (w + 1) line
    ∙ ap (λ (t : List ℕ). t ++ take (w + 1) (drop 1 line)) (ap (take 1) first ∙ ap (λ (n : ℕ). n ∷ []) a)
    ∙ ap (λ (t : List ℕ). byte ∷ t) (last ∙ ap (λ (n : ℕ). take w (drop 1 line) ++ (n ∷ [])) (get_or-drop 1 line w 0 ∙ z))

-- what is read is written
pub read_is_written : (letters : List Letter) (l : Letter) (ns line : List ℕ) → opening letters line ≡ Ok l → numbers_from 0 (letter_rules l).fields line ≡ Ok ns → WrittenAs l ns line
read_is_written letters l ns line eo en =
    let o = opened letters line l eo in
    let w = numbers_written (letter_rules l).fields 0 line ns (omega (arith, o.1)) en in
    record {
      within = w.0;
      long = omega (arith, o.1);
      form =
          ap (λ (k : ℕ). take k line) (omega arith)
          ∙ line_form line (letter_rules l).byte (16 * length (letter_rules l).fields) o.1 o.0 o.2
          ∙ ap (λ (t : List ℕ). (letter_rules l).byte ∷ (t ++ (10 ∷ []))) w.1;
    }

-- each letter is in the list of its part, at its own byte
pub letter_found : (l : Letter) → letter_in (letters_of (letter_rules l).part) (letter_rules l).byte ≡ Some l
letter_found letter.Day = refl
letter_found letter.Security = refl
letter_found letter.Holding = refl
letter_found letter.AccountHolding = refl
letter_found letter.Designation = refl
letter_found letter.End = refl
letter_found letter.Step = refl
letter_found letter.Notice = refl
letter_found letter.Link = refl
letter_found letter.Buy = refl
letter_found letter.Sell = refl
letter_found letter.Trade = refl
letter_found letter.Return = refl
letter_found letter.Confirm = refl
letter_found letter.Decline = refl
letter_found letter.Cancel = refl
letter_found letter.Close = refl

closing_is : (line : List ℕ) (n : ℕ) → 1 + 16 * n < length line → get_or line (1 + 16 * n) 0 ≡ 10 → closing line n ≡ Ok tt
closing_is line n h z = grind (arith, nat_tests)

module _ (l : Letter) (ns : List ℕ) (w : Within (letter_rules l).fields ns) where
  pub written_wide : length (written_line l ns) ≡ width_of l
  written_wide =
      let e = numbers_wide (letter_rules l).fields ns w in
      let a = length-append (flat_map (in_columns 16) ns) (10 ∷ []) in
      omega arith

  feed_at : (more : List ℕ) → get_or (written_line l ns ++ more) (1 + 16 * length (letter_rules l).fields) 0 ≡ 10
  feed_at more =
      let e = numbers_wide (letter_rules l).fields ns w in
      ap (λ (k : ℕ). get_or (written_line l ns ++ more) k 0) (one-add (16 * length (letter_rules l).fields))
      ∙ ap (λ (t : List ℕ). get_or t (16 * length (letter_rules l).fields) 0) (append_assoc (flat_map (in_columns 16) ns) (10 ∷ []) more)
      ∙ get_or_at (flat_map (in_columns 16) ns) 10 more 0 (16 * length (letter_rules l).fields) e

  -- a written line opens at its letter in each list that has the letter at its own byte
  pub opening_written : (letters : List Letter) (more : List ℕ) → letter_in letters (letter_rules l).byte ≡ Some l → opening letters (written_line l ns ++ more) ≡ Ok l
  opening_written letters more f =
      let wide = written_wide in
      let long : 1 + 16 * length (letter_rules l).fields < length (written_line l ns ++ more) = rw (length-append (written_line l ns) more) (omega arith) in
      let some : eqb (length (written_line l ns ++ more)) 0 ≡ false = grind (arith, nat_tests) in
      ap (λ b. cond b (Err (record { cause = refusal.Length; column = 1 })) (closed (written_line l ns ++ more) (letter_in letters (letter_rules l).byte))) some
      ∙ ap (λ o. closed (written_line l ns ++ more) o) f
      ∙ ap (λ r. and_then r (λ _. Ok l)) (closing_is (written_line l ns ++ more) (length (letter_rules l).fields) long (feed_at more))

  pub numbers_of_written : (more : List ℕ) → numbers_from 0 (letter_rules l).fields (written_line l ns ++ more) ≡ Ok ns
  numbers_of_written more =
      numbers_read (letter_rules l).fields ns 0 (written_line l ns ++ more) (10 ∷ more) w
      (append_assoc (flat_map (in_columns 16) ns) (10 ∷ []) more)

-- what is written is read
pub written_is_read : (l : Letter) (ns more : List ℕ) → Within (letter_rules l).fields ns → ReadAs (letters_of (letter_rules l).part) l ns (written_line l ns ++ more)
written_is_read l ns more w = record {
  opens = opening_written l ns w (letters_of (letter_rules l).part) more (letter_found l);
  numbers = numbers_of_written l ns w more;
}

pub reads_back : (l : Letter) → ReadsBack l
reads_back l = record {
  read = λ letters ns line r. read_is_written letters l ns line r.opens r.numbers;
  written = written_is_read l;
  wide = written_wide l;
}
