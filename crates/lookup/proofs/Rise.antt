-- Tables that rise, and looking a key up in one by halving.
use Rattle.std.proofs.Common.{◌≡◌, ℕ, zero, suc, ◌+◌, ◌-◌, ◌<◌, ◌≤◌, true, false, List, [], ◌∷◌, ◌++◌, map, length, get_or, drop, Some, None, Option, Ordering, Less, sym, refl, ap, ◌∙◌, subst, ⊎_elim, arith}
use mathlib.Core.Bool.{and-true}
use Rattle.std.proofs.lemmas.Bool.{and_parts, and_right, cases_eq}
use Rattle.std.proofs.lemmas.List.{at_drop_more, at_drop_all, get_or-map, length-map, map_push}
use Rattle.std.specs.Ordering.{is_lt}
use Rattle.lookup.specs.Orders.{TotalOrder}
use Rattle.lookup.specs.Lookup.{seek, is_before, is_at, is_above, rise_from, rise, Rising}

less_is : (o : Ordering) → is_lt o ≡ true → o ≡ Less
less_is o e = grind arith

module _ {K : Type 0} (order : K → K → Ordering) (total : TotalOrder order) where
  -- the rows after a key are above it
  over : (l : K) (ks : List (Option K)) → rise_from order (Some l) ks ≡ true → (j : ℕ) (b : K) → get_or ks j None ≡ Some b → order l b ≡ Less
  over l [] h j b e = cc
  over l (None ∷ ks) h j b e = cc
  over l (Some k ∷ ks) h zero b e =
      let q : k ≡ b = cc in
      subst (λ (x : K). order l x ≡ Less) q (less_is (order l k) (and_parts _ _ h).0)
  over l (Some k ∷ ks) h (suc j) b e =
      total.through l k b (less_is (order l k) (and_parts _ _ h).0) (over k ks (and_parts (is_lt (order l k)) _ h).1 j b e)

  up_from : (last : Option K) (ks : List (Option K)) → rise_from order last ks ≡ true → (i j : ℕ) (a b : K) → i < j → get_or ks i None ≡ Some a → get_or ks j None ≡ Some b → order a b ≡ Less
  up_from last [] h i j a b l e f = cc
  up_from last (None ∷ ks) h i j a b l e f = cc
  up_from last (Some k ∷ ks) h i zero a b l e f = absurd (omega arith)
  up_from last (Some k ∷ ks) h zero (suc j) a b l e f =
      let q : k ≡ a = cc in
      subst (λ (x : K). order x b ≡ Less) q (over k ks (and_parts (is_above order last k) _ h).1 j b f)
  up_from last (Some k ∷ ks) h (suc i) (suc j) a b l e f = up_from (Some k) ks (and_parts (is_above order last k) _ h).1 i j a b (omega arith) e f

  present_from : (last : Option K) (ks : List (Option K)) → rise_from order last ks ≡ true → (i : ℕ) → i < length ks → (k : K) × (get_or ks i None ≡ Some k)
  present_from last [] h i l = absurd (omega arith)
  present_from last (None ∷ ks) h i l = cc
  present_from last (Some k ∷ ks) h zero l = (k, refl)
  present_from last (Some k ∷ ks) h (suc i) l = present_from (Some k) ks (and_parts (is_above order last k) _ h).1 i (omega arith)

  pub rising_means : (ks : List (Option K)) → rise_from order None ks ≡ true → Rising order ks
  rising_means ks h = record { present = present_from None ks h; up = up_from None ks h }

  tail : (o : Option K) (ks : List (Option K)) → Rising order (o ∷ ks) → Rising order ks
  tail o ks r = record { present = λ i l. r.present (suc i) (omega arith); up = λ i j a b l e f. r.up (suc i) (suc j) a b (omega arith) e f }

  abbrev Under : Option K → List (Option K) → Type 0
  Under last ks = (k : K) → get_or ks 0 None ≡ Some k → is_above order last k ≡ true

  from_words : (last : Option K) (ks : List (Option K)) → Under last ks → Rising order ks → rise_from order last ks ≡ true
  from_words last [] u r = refl
  from_words last (None ∷ ks) u r =
      let p = r.present 0 (omega arith) in
      cc p.1
  from_words last (Some k ∷ ks) u r =
      rw (u k refl) (from_words (Some k) ks (λ m e. ap is_lt (r.up 0 1 k m (omega arith) refl e)) (tail (Some k) ks r))

  pub words_mean : (ks : List (Option K)) → Rising order ks → rise_from order None ks ≡ true
  words_mean ks r = from_words None ks (λ k e. refl) r

  module _ (key : K) where
    -- where a row is before the key, so are those above it in the table
    pub all_before : (ks : List (Option K)) (m : ℕ) → rise_from order None ks ≡ true → m < length ks → is_before order key (get_or ks m None) ≡ true → (j : ℕ) → j < m + 1 → is_before order key (get_or ks j None) ≡ true
    all_before ks m h l t j i =
        let p = present_from None ks h m l in
        let q = present_from None ks h j (omega arith) in
        let less : order p.0 key ≡ Less = less_is (order p.0 key) (sym (ap (is_before order key) p.1) ∙ t) in
        ap (is_before order key) q.1 ∙ ⊎_elim
        (λ (e : j ≡ m). sym (ap (is_before order key) q.1) ∙ ap (λ n. is_before order key (get_or ks n None)) e ∙ t)
        (λ (e : j ≡ m → ⊥). ap is_lt (total.through q.0 p.0 key (up_from None ks h j m q.0 p.0 (omega (arith, e)) q.1 p.1) less))
        (cases_eq j m)

    step : (s : ℕ) (o : Option K) (ks : List (Option K)) → is_before order key o ≡ true → seek order s (o ∷ ks) key ≡ seek order (s + 1) ks key
    step s o ks b = grind arith

    skip : (s i : ℕ) (ks : List (Option K)) → i ≤ length ks → ((j : ℕ) → j < i → is_before order key (get_or ks j None) ≡ true) → seek order s ks key ≡ seek order (s + i) (drop i ks) key
    skip s zero ks l b = ap (λ n. seek order n ks key) (omega arith)
    skip s (suc i) [] l b = absurd (omega arith)
    skip s (suc i) (o ∷ ks) l b =
        step s o ks (b 0 (omega arith))
        ∙ skip (s + 1) i ks (omega arith) (λ j h. b (suc j) (omega arith))
        ∙ ap (λ n. seek order n (drop i ks) key) (omega arith)

    abbrev Cut : List (Option K) → ℕ → Type 0
    Cut ks i = (j : ℕ) → j < i → is_before order key (get_or ks j None) ≡ true

    cut : (ks : List (Option K)) (i : ℕ) → i ≤ length ks → Cut ks i → seek order 0 ks key ≡ seek order i (drop i ks) key
    cut ks i l b = skip 0 i ks l b ∙ ap (λ n. seek order n (drop i ks) key) (omega arith)

    at : (ks : List (Option K)) (i : ℕ) → i < length ks → Cut ks i → seek order 0 ks key ≡ seek order i (get_or ks i None ∷ drop (i + 1) ks) key
    at ks i l b = cut ks i (omega arith) b ∙ at_drop_more (λ r. seek order i r key) ks i None l

    hit : (o : Option K) (i : ℕ) (ks : List (Option K)) → is_at order key o ≡ true → seek order i (o ∷ ks) key ≡ Some i
    hit o i ks e = grind arith

    miss : (k : K) (i : ℕ) (ks : List (Option K)) → is_before order key (Some k) ≡ false → is_at order key (Some k) ≡ false → seek order i (Some k ∷ ks) key ≡ None
    miss k i ks b e = grind arith

    pub found_at : (ks : List (Option K)) (i : ℕ) → i < length ks → Cut ks i → is_at order key (get_or ks i None) ≡ true → seek order 0 ks key ≡ Some i
    found_at ks i l b e = at ks i l b ∙ hit (get_or ks i None) i (drop (i + 1) ks) e

    pub none_at : (ks : List (Option K)) (i : ℕ) → rise_from order None ks ≡ true → i < length ks → Cut ks i → is_before order key (get_or ks i None) ≡ false → is_at order key (get_or ks i None) ≡ false → seek order 0 ks key ≡ None
    none_at ks i h l b f e =
        let p = present_from None ks h i l in
        at ks i l b ∙ rw p.1 (miss p.0 i (drop (i + 1) ks) (rw p.1 at f) (rw p.1 at e))

    pub none_past : (ks : List (Option K)) (i : ℕ) → i ≤ length ks → length ks ≤ i → Cut ks i → seek order 0 ks key ≡ None
    none_past ks i l m b = cut ks i l b ∙ at_drop_all (λ r. seek order i r key) ks i m

-- the row read at a place has the key of that place
pub row_at : {X K : Type 0} (named : X → Option K) (rows : List X) (i : ℕ) (x : X) → i < length rows → x ≡ get_or rows i x → named x ≡ get_or (map named rows) i None
row_at named rows i x l e = ap named e ∙ sym (get_or-map named rows i x None l)

-- rows that rise have the keys that they are presumed to have
module _ {X K : Type 0} (order : K → K → Ordering) (named : X → Option K) (presumed : X → K) (right : (x : X) (k : K) → named x ≡ Some k → presumed x ≡ k) where
  abbrev bare : X → Option K
  bare x = Some (presumed x)

  same_from : (last : Option K) (o : Option K) (x : X) (xs : List X) → named x ≡ o → rise_from order last (o ∷ map named xs) ≡ true → o ∷ map named xs ≡ bare x ∷ map bare xs
  same_from last None x xs e h = cc
  same_from last (Some k) x [] e h = ap (λ y. Some y ∷ []) (sym (right x k e))
  same_from last (Some k) x (y ∷ ys) e h =
      ap (λ z. Some z ∷ map named (y ∷ ys)) (sym (right x k e))
      ∙ ap (λ os. bare x ∷ os) (same_from (Some k) (named y) y ys refl (and_parts (is_above order last k) _ h).1)

  pub presumed_keys : (xs : List X) → rise order named xs ≡ true → map named xs ≡ map bare xs
  presumed_keys [] h = refl
  presumed_keys (x ∷ xs) h = same_from None (named x) x xs refl h

  -- the row read at a place, by the key that it is presumed to have
  pub presumed_at : (rows : List X) (i : ℕ) (x : X) → rise order named rows ≡ true → i < length rows → x ≡ get_or rows i x → bare x ≡ get_or (map named rows) i None
  presumed_at rows i x up l e = row_at bare rows i x l e ∙ ap (λ ks. get_or ks i None) (sym (presumed_keys rows up))

-- one more row behind those of a table
at_last : {K : Type 0} (ks : List (Option K)) → 0 < length ks → get_or (None ∷ ks) (length ks) None ≡ get_or ks (length ks - 1) None
at_last [] l = absurd (omega arith)
at_last (o ∷ ks) l = ap (λ n. get_or (o ∷ ks) n None) (omega arith)

module _ {K : Type 0} (order : K → K → Ordering) where
  low_push : (last : Option K) (ks : List (Option K)) (o : Option K) → rise_from order last ks ≡ false → rise_from order last (ks ++ o ∷ []) ≡ false
  low_push last [] o h = cc
  low_push last (None ∷ ks) o h = refl
  low_push last (Some k ∷ ks) o h = grind (arith, low_push (Some k) ks o)

  none_push : (last : Option K) (ks : List (Option K)) → rise_from order last (ks ++ None ∷ []) ≡ false
  none_push last [] = refl
  none_push last (None ∷ ks) = refl
  none_push last (Some k ∷ ks) = and_right (is_above order last k) _ (none_push (Some k) ks)

  some_push : (last : Option K) (ks : List (Option K)) (k : K) → rise_from order last ks ≡ true → rise_from order last (ks ++ Some k ∷ []) ≡ is_above order (get_or (last ∷ ks) (length ks) None) k
  some_push last [] k h = and-true (is_above order last k)
  some_push last (None ∷ ks) k h = cc
  some_push last (Some j ∷ ks) k h =
      let p = and_parts (is_above order last j) (rise_from order (Some j) ks) h in
      rw p.0 (some_push (Some j) ks k p.1)

  module _ {X : Type 0} (named : X → Option K) (rows : List X) (x : X) where
    abbrev grown : List (Option K)
    grown = map named rows ++ named x ∷ []

    keys_push : rise order named (rows ++ x ∷ []) ≡ rise_from order None grown
    keys_push = ap (rise_from order None) (map_push named rows x)

    pub more_low : rise order named rows ≡ false → rise order named (rows ++ x ∷ []) ≡ false
    more_low h = keys_push ∙ low_push None (map named rows) (named x) h

    pub more_absent : None ≡ named x → rise order named (rows ++ x ∷ []) ≡ false
    more_absent e = keys_push ∙ ap (λ o. rise_from order None (map named rows ++ o ∷ [])) (sym e) ∙ none_push None (map named rows)

    some_more : (k : K) → rise order named rows ≡ true → Some k ≡ named x → rise order named (rows ++ x ∷ []) ≡ is_above order (get_or (None ∷ map named rows) (length (map named rows)) None) k
    some_more k h e = keys_push ∙ ap (λ o. rise_from order None (map named rows ++ o ∷ [])) (sym e) ∙ some_push None (map named rows) k h

    pub more_next : (k : K) (y : X) → rise order named rows ≡ true → 0 < length rows → y ≡ get_or rows (length rows - 1) y → Some k ≡ named x → rise order named (rows ++ x ∷ []) ≡ is_above order (named y) k
    more_next k y h l f e =
        some_more k h e
        ∙ ap (λ o. is_above order o k) (at_last (map named rows) (omega (arith, length-map rows named, l)) ∙ ap (λ n. get_or (map named rows) (n - 1) None) (length-map rows named) ∙ sym (row_at named rows (length rows - 1) y (omega arith) f))
