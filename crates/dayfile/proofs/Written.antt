-- A group that is accepted is its rows as they are written, and rows that may follow one another are accepted so.
use Rattle.std.proofs.Common.{◌≡◌, ℕ, zero, suc, ◌+◌, ◌*◌, ◌≤◌, Bool, true, false, cond, List, [], ◌∷◌, ◌++◌, length, take, drop, Some, None, Ok, Err, Option, Result, sym, refl, ap, ◌∙◌, subst, append_assoc, append-nil, mul-zero, mul-suc, arith, take-add}
use Rattle.std.specs.List.{flat_map, AllByRecursion}
use Rattle.std.proofs.lemmas.List.{drop-drop, drop_at, length-append}
use Rattle.rules.specs.Letters.{letter_rules}
use Rattle.fields.specs.declared.fault.LineFault.{LineFault}
use Rattle.fields.specs.Faults.{beside_of, line_at}
use Rattle.fields.specs.Layout.{width_of}
use Rattle.fields.proofs.Numbers.{by_then}
use Rattle.dayfile.specs.Groups.{Kind, group, turn, following, starts, no_room, rows_of, oks}

pub beside_ok : {T E F : Type 0} (r : Result T E) (p : E → F) (x : T) → beside_of r p ≡ Ok x → r ≡ Ok x
beside_ok r p x e = grind arith

cond_not : {T E : Type 0} (b : Bool) (y x : T) (f : E) → cond b (Err f) (Ok y) ≡ Ok x → y ≡ x
cond_not b y x f e = grind arith

cond_some : {S E : Type 0} (b : Bool) (r : Result (Option S) E) (t : S) → cond b r (Ok None) ≡ Ok (Some t) → r ≡ Ok (Some t)
cond_some b r t e = grind arith

-- a kind's lines are its good rows as they are written
pub record Lined {R S : Type 0} (kind : Kind R S) (wrote : R → List ℕ) (Good : R → Type 0) : Type 0 where
  pub read : (line : List ℕ) (x : R) → kind.reads line ≡ Ok x → (take (width_of kind.letter) line ≡ wrote x) × Good x
  pub back : (x : R) (more : List ℕ) → Good x → kind.reads (wrote x ++ more) ≡ Ok x
  pub opens : (x : R) (more : List ℕ) → Good x → starts kind.letter (wrote x ++ more) ≡ true
  pub wide : (x : R) → Good x → length (wrote x) ≡ width_of kind.letter

module _ {R S : Type 0} (kind : Kind R S) where
  -- each row may follow what is known after those before it
  abbrev pub Steps : S → List R → Type 0
  Steps s [] = Unit {0}
  Steps s (x ∷ xs) = (t : S) × (kind.step s x ≡ Ok t) × Steps t xs

  -- the rows, from the first on
  pub rows_first : (n : ℕ) (line : List ℕ) → rows_of kind (suc n) line ≡ oks (kind.reads line) ++ rows_of kind n (drop (width_of kind.letter) line)
  rows_first zero line = ap (λ (x : ℕ). oks (kind.reads (drop x line))) (mul-zero (width_of kind.letter)) ∙ sym (append-nil (oks (kind.reads line)))
  rows_first (suc n) line =
      let w : width_of kind.letter * suc n ≡ width_of kind.letter + width_of kind.letter * n = omega (arith, mul-suc (width_of kind.letter) n) in
      let d : drop (width_of kind.letter * suc n) line ≡ drop (width_of kind.letter * n) (drop (width_of kind.letter) line) = ap (λ (x : ℕ). drop x line) w ∙ sym (drop-drop (width_of kind.letter * n) (width_of kind.letter) line) in
      ap (λ t. t ++ oks (kind.reads (drop (width_of kind.letter * suc n) line))) (rows_first n line)
      ∙ append_assoc (oks (kind.reads line)) (rows_of kind n (drop (width_of kind.letter) line)) (oks (kind.reads (drop (width_of kind.letter * suc n) line)))
      ∙ ap (λ (t : List ℕ). oks (kind.reads line) ++ (rows_of kind n (drop (width_of kind.letter) line) ++ oks (kind.reads t))) d

  turn_ok : (full : Bool) (s : S) (nr : ℕ) (line : List ℕ) (t : S) → turn kind full s nr line ≡ Ok (Some t) → (x : R) × (kind.reads line ≡ Ok x) × (kind.step s x ≡ Ok t)
  turn_ok full s nr line t e =
      by_then (line_at (letter_rules kind.letter).byte nr (following kind s line)) (λ u. cond full (Err (no_room kind.letter nr)) (Ok (Some u))) (Some t) (cond_some (starts kind.letter line) _ t e) (λ u eu e2.
      by_then (kind.reads line) (λ y. kind.step s y) u (beside_ok (following kind s line) (λ f. record { field = f; letter = (letter_rules kind.letter).byte; line = nr }) u eu) (λ y ey e3.
      let q : Some u ≡ Some t = cond_not full (Some u) (Some t) (no_room kind.letter nr) e2 in
      let p : u ≡ t = cc in
      (y, ey, e3 ∙ ap Ok p)))

  module _ (wrote : R → List ℕ) (Good : R → Type 0) where
    -- the lines of a group: its rows are good, each may follow the one before, and the input has them as they are written
    pub record Grouped (s : S) (line : List ℕ) (n : ℕ) : Type 0 where
      pub long : length (rows_of kind n line) ≡ n
      pub steps : Steps s (rows_of kind n line)
      pub good : AllByRecursion Good (rows_of kind n line)
      pub form : take (width_of kind.letter * n) line ≡ flat_map wrote (rows_of kind n line)

    abbrev Told : ℕ → S → List ℕ → ℕ → Type 0
    Told count s line n = (m : ℕ) × (n ≡ count + m) × Grouped s line m

    module _ (lined : Lined kind wrote Good) where
      none : (s : S) (line : List ℕ) → Grouped s line 0
      none s line = record { long = refl; steps = tt; good = tt; form = ap (λ (x : ℕ). take x line) (mul-zero (width_of kind.letter)) }

      one_more : (s : S) (line : List ℕ) (x : R) (t : S) (m : ℕ) → kind.reads line ≡ Ok x → kind.step s x ≡ Ok t → Grouped t (drop (width_of kind.letter) line) m → Grouped s line (suc m)
      one_more s line x t m e r g =
          let rest = rows_of kind m (drop (width_of kind.letter) line) in
          let f : rows_of kind (suc m) line ≡ x ∷ rest = rows_first m line ∙ ap (λ u. oks u ++ rows_of kind m (drop (width_of kind.letter) line)) e in
          let w : width_of kind.letter * suc m ≡ width_of kind.letter + width_of kind.letter * m = omega (arith, mul-suc (width_of kind.letter) m) in
          let is = lined.read line x e in
          record {
            long = ap length f ∙ ap suc g.long;
            steps = subst (Steps s) (sym f) (t, r, g.steps);
            good = subst (AllByRecursion Good) (sym f) (is.1, g.good);
            form = ap (λ (y : ℕ). take y line) w ∙ take-add (width_of kind.letter) (width_of kind.letter * m) line ∙ ap (λ (u : List ℕ). u ++ take (width_of kind.letter * m) (drop (width_of kind.letter) line)) is.0 ∙ ap (λ (u : List ℕ). wrote x ++ u) g.form ∙ ap (flat_map wrote) (sym f);
          }

      by_turn : (room count : ℕ) (s : S) (nr : ℕ) (line : List ℕ) (n : ℕ) (o : Option S) → turn kind false s nr line ≡ Ok o → ◌≡◌ {A = Result ℕ LineFault} (elim o [ None ↦ Ok count | Some t ↦ group kind room (count + 1) t (nr + 1) (drop (width_of kind.letter) line) ]) (Ok n) → ((t : S) → group kind room (count + 1) t (nr + 1) (drop (width_of kind.letter) line) ≡ Ok n → Told (count + 1) t (drop (width_of kind.letter) line) n) → Told count s line n
      by_turn room count s nr line n None eo e2 more = let q : count ≡ n = cc in (0, omega arith, none s line)
      by_turn room count s nr line n (Some t) eo e2 more =
          let x = turn_ok false s nr line t eo in
          let m = more t e2 in
          (suc m.0, omega (arith, m.1), one_more s line x.0 t m.0 x.1 x.2 m.2)

      told : (room count : ℕ) (s : S) (nr : ℕ) (line : List ℕ) (n : ℕ) → group kind room count s nr line ≡ Ok n → Told count s line n
      unfolding group
      told zero count s nr line n e =
          by_then (turn kind true s nr line) (λ o. Ok count) n e (λ o eo e2. let q : count ≡ n = cc in (0, omega arith, none s line))
      told (suc room) count s nr line n e =
          by_then (turn kind false s nr line) (λ o. elim o [ None ↦ Ok count | Some t ↦ group kind room (count + 1) t (nr + 1) (drop (width_of kind.letter) line) ]) n e
          (λ o eo e2. by_turn room count s nr line n o eo e2 (λ t et. told room (count + 1) t (nr + 1) (drop (width_of kind.letter) line) n et))

      -- a group that is accepted
      pub grouped : (room : ℕ) (s : S) (nr : ℕ) (line : List ℕ) (n : ℕ) → group kind room 0 s nr line ≡ Ok n → Grouped s line n
      grouped room s nr line n e =
          let t = told room 0 s nr line n e in
          let q : t.0 ≡ n = omega (arith, t.1) in
          subst (Grouped s line) q t.2

      turn_written : (s : S) (nr : ℕ) (x : R) (more : List ℕ) (t : S) → Good x → kind.step s x ≡ Ok t → turn kind false s nr (wrote x ++ more) ≡ Ok (Some t)
      turn_written s nr x more t g r = rw (lined.opens x more g, lined.back x more g, r) refl

      turn_over : (full : Bool) (s : S) (nr : ℕ) (rest : List ℕ) → starts kind.letter rest ≡ false → turn kind full s nr rest ≡ Ok None
      turn_over full s nr rest e = rw e refl

      accepts : (rows : List R) (room count : ℕ) (s : S) (nr : ℕ) (rest : List ℕ) → AllByRecursion Good rows → Steps s rows → length rows ≤ room → starts kind.letter rest ≡ false → group kind room count s nr (flat_map wrote rows ++ rest) ≡ Ok (count + length rows)
      unfolding group
      accepts [] zero count s nr rest a r h o = rw (turn_over true s nr rest o) (ap Ok (omega arith))
      accepts [] (suc room) count s nr rest a r h o = rw (turn_over false s nr rest o) (ap Ok (omega arith))
      accepts (x ∷ xs) zero count s nr rest a r h o = absurd (omega arith)
      accepts (x ∷ xs) (suc room) count s nr rest a r h o =
          let more = flat_map wrote xs ++ rest in
          let t = turn_written s nr x more r.0 a.0 r.1 in
          let d : drop (width_of kind.letter) (wrote x ++ more) ≡ more = drop_at (wrote x) more (width_of kind.letter) (lined.wide x a.0) in
          let next = accepts xs room (count + 1) r.0 (nr + 1) rest a.1 r.2 (omega arith) o in
          ap (group kind (suc room) count s nr) (append_assoc (wrote x) (flat_map wrote xs) rest)
          ∙ rw (t, d) (next ∙ ap Ok (omega arith))

      -- rows as they are written are accepted
      pub accepted : (rows : List R) (room : ℕ) (s : S) (nr : ℕ) (rest : List ℕ) → AllByRecursion Good rows → Steps s rows → length rows ≤ room → starts kind.letter rest ≡ false → group kind room 0 s nr (flat_map wrote rows ++ rest) ≡ Ok (length rows)
      accepted rows room s nr rest a r h o = accepts rows room 0 s nr rest a r h o ∙ ap Ok (omega arith)

      -- and are read back
      pub rows_written : (rows : List R) (rest : List ℕ) → AllByRecursion Good rows → rows_of kind (length rows) (flat_map wrote rows ++ rest) ≡ rows
      rows_written [] rest a = refl
      rows_written (x ∷ xs) rest a =
          let more = flat_map wrote xs ++ rest in
          let d : drop (width_of kind.letter) (wrote x ++ more) ≡ more = drop_at (wrote x) more (width_of kind.letter) (lined.wide x a.0) in
          ap (rows_of kind (suc (length xs))) (append_assoc (wrote x) (flat_map wrote xs) rest)
          ∙ rows_first (length xs) (wrote x ++ more)
          ∙ rw (lined.back x more a.0, d, rows_written xs rest a.1) refl

      pub joined_wide : (rows : List R) → AllByRecursion Good rows → length (flat_map wrote rows) ≡ width_of kind.letter * length rows
      joined_wide [] a = sym (mul-zero (width_of kind.letter))
      joined_wide (x ∷ xs) a = length-append (wrote x) (flat_map wrote xs) ∙ omega (arith, lined.wide x a.0, joined_wide xs a.1, mul-suc (width_of kind.letter) (length xs))
