-- The numbers of a line's fields are those that the fields are the written forms of.
use Rattle.std.proofs.Common.{◌≡◌, ℕ, suc, ◌+◌, ◌*◌, ◌≤◌, true, List, [], ◌∷◌, ◌++◌, length, take, drop, Ok, Err, Result, sym, refl, ap, ◌∙◌, subst, append_assoc, arith, take-add}
use Rattle.std.specs.List.{flat_map}
use Rattle.std.proofs.lemmas.List.{drop-drop, length-drop, drop_at, take_at, length-append, length-take-le}
use Rattle.rules.specs.declared.range.Quantity.{Quantity}
use Rattle.rules.specs.Ranges.{in_range, range_of}
use Rattle.fields.specs.Faults.{and_then}
use Rattle.fields.specs.Layout.{part_of}
use Rattle.fields.specs.Numbers.{field_in, numbers_from, Within}
use Rattle.fields.specs.Reading.{ranging}
use Rattle.fields.specs.Written.{in_columns}
use Rattle.fields.proofs.Columns.{length_columns}
use Rattle.fields.proofs.Exact.{in_range_small, ranging_spells, ranging_written}

-- where one thing read after another is good, both are
pub by_then : {A B E : Type 0} {P : Type 0} (r : Result A E) (f : A → Result B E) (y : B) → and_then r f ≡ Ok y → ((x : A) → r ≡ Ok x → f x ≡ Ok y → P) → P
by_then (Ok x) f y e k = k x refl e
by_then (Err z) f y e k = grind arith

pub column_wide : (q : Quantity) (n : ℕ) → in_range (range_of q) n ≡ true → length (in_columns 16 n) ≡ 16
column_wide q n h = let small = in_range_small q n h in length_columns 16 n (omega arith) small (omega arith)

part_long : (j : ℕ) (line : List ℕ) → 17 + 16 * j ≤ length line → length (part_of line j) ≡ 16
part_long j line h = length-take-le 16 (drop (1 + 16 * j) line) (rw (length-drop (1 + 16 * j) line) (omega arith))

parts_step : (j k : ℕ) (line : List ℕ) → take (16 * suc k) (drop (1 + 16 * j) line) ≡ part_of line j ++ take (16 * k) (drop (1 + 16 * (j + 1)) line)
parts_step j k line =
    let a : 16 * suc k ≡ 16 + 16 * k = omega arith in
    let d : drop 16 (drop (1 + 16 * j) line) ≡ drop (1 + 16 * (j + 1)) line = drop-drop 16 (1 + 16 * j) line ∙ ap (λ (x : ℕ). drop x line) (omega arith) in
    ap (λ (x : ℕ). take x (drop (1 + 16 * j) line)) a
    ∙ take-add 16 (16 * k) (drop (1 + 16 * j) line)
    ∙ ap (λ (t : List ℕ). part_of line j ++ take (16 * k) t) d

-- numbers that are read are in their ranges, and the fields are their written forms
pub numbers_written : (qs : List Quantity) (j : ℕ) (line ns : List ℕ) → 1 + 16 * (j + length qs) ≤ length line → numbers_from j qs line ≡ Ok ns → Within qs ns × (take (16 * length qs) (drop (1 + 16 * j) line) ≡ flat_map (in_columns 16) ns)
numbers_written [] j line ns h e =
    let q : [] ≡ ns = cc in
    subst (λ (zs : List ℕ). Within [] zs × (◌≡◌ {A = List ℕ} [] (flat_map (in_columns 16) zs))) q (tt, refl)
numbers_written (q ∷ qs) j line ns h e =
    by_then (field_in line j q) (λ n. and_then (numbers_from (j + 1) qs line) (λ ms. Ok (n ∷ ms))) ns e (λ n en e2.
    by_then (numbers_from (j + 1) qs line) (λ ms. Ok (n ∷ ms)) ns e2 (λ ms em e3.
    let all : n ∷ ms ≡ ns = cc in
    let sp = ranging_spells q (2 + 16 * j) n (part_of line j) (part_long j line (omega arith)) en in
    let more = numbers_written qs (j + 1) line ms (omega arith) em in
    let form : take (16 * suc (length qs)) (drop (1 + 16 * j) line) ≡ in_columns 16 n ++ flat_map (in_columns 16) ms =
    parts_step j (length qs) line ∙ ap (λ (t : List ℕ). t ++ take (16 * length qs) (drop (1 + 16 * (j + 1)) line)) sp.0.form ∙ ap (λ (t : List ℕ). in_columns 16 n ++ t) more.1 in
    subst (λ (zs : List ℕ). Within (q ∷ qs) zs × (take (16 * suc (length qs)) (drop (1 + 16 * j) line) ≡ flat_map (in_columns 16) zs)) all ((sp.1, more.0), form)))

-- numbers in their ranges are read back from their written forms
pub numbers_read : (qs : List Quantity) (ns : List ℕ) (j : ℕ) (line post : List ℕ) → Within qs ns → drop (1 + 16 * j) line ≡ flat_map (in_columns 16) ns ++ post → numbers_from j qs line ≡ Ok ns
numbers_read [] [] j line post w e = refl
numbers_read [] (n ∷ ns) j line post w e = absurd w
numbers_read (q ∷ qs) [] j line post w e = absurd w
numbers_read (q ∷ qs) (n ∷ ns) j line post w e =
    let len = column_wide q n w.0 in
    let e1 : drop (1 + 16 * j) line ≡ in_columns 16 n ++ (flat_map (in_columns 16) ns ++ post) = e ∙ append_assoc (in_columns 16 n) (flat_map (in_columns 16) ns) post in
    let part : part_of line j ≡ in_columns 16 n = ap (take 16) e1 ∙ take_at (in_columns 16 n) (flat_map (in_columns 16) ns ++ post) 16 len in
    let rest : drop (1 + 16 * (j + 1)) line ≡ flat_map (in_columns 16) ns ++ post =
    ap (λ (x : ℕ). drop x line) (omega arith) ∙ sym (drop-drop 16 (1 + 16 * j) line) ∙ ap (drop 16) e1 ∙ drop_at (in_columns 16 n) (flat_map (in_columns 16) ns ++ post) 16 len in
    let first : field_in line j q ≡ Ok n = ap (λ (t : List ℕ). ranging q t (2 + 16 * j)) part ∙ ranging_written q n (2 + 16 * j) w.0 in
    let more = numbers_read qs ns (j + 1) line post w.1 rest in
    ap (λ r. and_then r (λ m. and_then (numbers_from (j + 1) qs line) (λ ms. Ok (m ∷ ms)))) first
    ∙ ap (λ r. and_then r (λ ms. Ok (n ∷ ms))) more

-- the written forms take sixteen bytes each
pub numbers_wide : (qs : List Quantity) (ns : List ℕ) → Within qs ns → length (flat_map (in_columns 16) ns) ≡ 16 * length qs
numbers_wide [] [] w = refl
numbers_wide [] (n ∷ ns) w = absurd w
numbers_wide (q ∷ qs) [] w = absurd w
numbers_wide (q ∷ qs) (n ∷ ns) w =
    let len = column_wide q n w.0 in
    let more = numbers_wide qs ns w.1 in
    length-append (in_columns 16 n) (flat_map (in_columns 16) ns) ∙ omega arith
