-- A group's turns.
use Rattle.std.proofs.Common.{◌≡◌, ℕ, suc, ◌+◌, ◌-◌, ◌*◌, ◌<◌, ◌≤◌, true, false, eqb, List, [], ◌∷◌, ◌++◌, length, get_or, drop, set, is_ok, Some, None, Ok, Err, Option, Result, sym, refl, ap, ◌∙◌, subst, ⊎_elim, append_assoc, mul-suc, add-one, arith}
use Rattle.std.proofs.lemmas.Bool.{eq-eqb, ne_eqb, cases_eq, cases_lt}
use Rattle.std.proofs.lemmas.List.{drop-drop, length-drop, drop_more, set_at}
use Rattle.fields.specs.declared.fault.LineFault.{LineFault}
use Rattle.dayfile.specs.Groups.{Kind, group, turn, Lines, rows_of, oks}
use Rattle.fields.specs.Faults.{and_then}
use Rattle.fields.specs.Layout.{width_of}

module _ {R S : Type 0} (kind : Kind R S) where
  -- a turn that ends the group
  ended : (room n count : ℕ) (last : S) (nr : ℕ) (line : List ℕ) (t : Result (Option S) LineFault) (out : Result ℕ LineFault) → n ≤ room → t ≡ turn kind (eqb n room) last nr line → and_then t (λ o. Ok count) ≡ out → ((next : S → Result ℕ LineFault) → and_then t (λ o. elim o [ None ↦ Ok count | Some k ↦ next k ]) ≡ out) → group kind (room - n) count last nr line ≡ out
  unfolding group
  ended room n count last nr line t out h e full some =
      ⊎_elim
      (λ (q : n ≡ room).
      let z : room - n ≡ 0 = omega arith in
      let u : turn kind true last nr line ≡ t = ap (λ b. turn kind b last nr line) (sym (eq-eqb n room q)) ∙ sym e in
      rw (z, u) full)
      (λ (q : n ≡ room → ⊥).
      let z : room - n ≡ suc (room - n - 1) = omega arith in
      let u : turn kind false last nr line ≡ t = ap (λ b. turn kind b last nr line) (sym (ne_eqb n room q)) ∙ sym e in
      rw (z, u) (some (λ k. group kind (room - n - 1) (count + 1) k (nr + 1) (drop (width_of kind.letter) line))))
      (cases_eq n room)

  -- the next line is refused
  pub refused : (room n count : ℕ) (last : S) (nr : ℕ) (line : List ℕ) (f : LineFault) → n ≤ room → Err f ≡ turn kind (eqb n room) last nr line → group kind (room - n) count last nr line ≡ Err f
  refused room n count last nr line f h e = ended room n count last nr line (Err f) (Err f) h e refl (λ next. refl)

  -- the group is over
  pub over : (room n count : ℕ) (last : S) (nr : ℕ) (line : List ℕ) → n ≤ room → Ok None ≡ turn kind (eqb n room) last nr line → group kind (room - n) count last nr line ≡ Ok count
  over room n count last nr line h e = ended room n count last nr line (Ok None) (Ok count) h e refl (λ next. refl)

  -- one line more, which a full table has not
  pub more : (room n count : ℕ) (last : S) (nr : ℕ) (line : List ℕ) (k : S) → n < room → Ok (Some k) ≡ turn kind (eqb n room) last nr line → group kind (room - n) count last nr line ≡ group kind (room - (n + 1)) (count + 1) k (nr + 1) (drop (width_of kind.letter) line)
  unfolding group
  more room n count last nr line k h e =
      let z : room - n ≡ suc (room - (n + 1)) = omega arith in
      let q : n ≡ room → ⊥ = λ w. omega arith in
      let t : turn kind false last nr line ≡ Ok (Some k) = ap (λ b. turn kind b last nr line) (sym (ne_eqb n room q)) ∙ sym e in
      rw (z, t) refl

  pub width_more : (n : ℕ) → width_of kind.letter * (n + 1) ≡ width_of kind.letter * n + width_of kind.letter
  width_more n = rw (add-one n) (mul-suc (width_of kind.letter) n)

  -- a line more of those that stand whole in the input
  pub lines_more : (room at : ℕ) (input : List ℕ) (n : ℕ) → Lines kind room at input n → n < room → width_of kind.letter ≤ length (drop (at + width_of kind.letter * n) input) → is_ok (kind.reads (drop (at + width_of kind.letter * n) input)) ≡ true → Lines kind room at input (n + 1)
  lines_more room at input n l h w g = record {
    few = omega arith;
    within = let m = width_more n in let d = length-drop (at + width_of kind.letter * n) input in let b = l.within in omega arith;
    good = λ i lt. ⊎_elim (λ (q : i < n). l.good i q) (λ (q : n ≤ i). let e : n ≡ i = omega arith in subst (λ (j : ℕ). is_ok (kind.reads (drop (width_of kind.letter * j) (drop at input))) ≡ true) e (subst (λ (s : List ℕ). is_ok (kind.reads s) ≡ true) (sym (drop-drop (width_of kind.letter * n) at input)) g)) (cases_lt i n);
  }

  pub by_ok : {A E : Type 0} {P : Type 0} (r : Result A E) → is_ok r ≡ true → ((x : A) → r ≡ Ok x → P) → P
  by_ok (Ok x) h f = f x refl
  by_ok (Err e) h f = cc

  pub long_if_ok : ((line : List ℕ) (x : R) → kind.reads line ≡ Ok x → width_of kind.letter ≤ length line) → (line : List ℕ) → is_ok (kind.reads line) ≡ true → width_of kind.letter ≤ length line
  long_if_ok law line h = by_ok (kind.reads line) h (λ x e. law line x e)

  pub rows_more : (n : ℕ) (line : List ℕ) (x : R) → kind.reads (drop (width_of kind.letter * n) line) ≡ Ok x → rows_of kind (n + 1) line ≡ rows_of kind n line ++ (x ∷ [])
  rows_more n line x e = ap (λ (m : ℕ). rows_of kind m line) (add-one n) ∙ ap (λ r. rows_of kind n line ++ oks r) e

-- a row more in a table whose front is written
pub put : {R : Type 0} (rows old : List R) (table : List R) (i : ℕ) (x : R) → length rows ≡ i → i < length old → table ≡ rows ++ drop i old → set table i x ≡ (rows ++ (x ∷ [])) ++ drop (i + 1) old
put rows old table i x l h e =
    ap (λ t. set t i x) (e ∙ ap (λ t. rows ++ t) (drop_more old i x h))
    ∙ set_at rows (get_or old i x) (drop (i + 1) old) x i l
    ∙ sym (append_assoc rows (x ∷ []) (drop (i + 1) old))
