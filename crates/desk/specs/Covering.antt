-- A text that is written over another, line after line.
use Rattle.std.proofs.Common.{◌≡◌, ℕ, zero, suc, ◌+◌, ◌-◌, ◌^◌, ◌<◌, ◌≤◌, List, [], ◌∷◌, ◌++◌, length, take, drop, min, refl, sym, ap, ap₂, ◌∙◌, ⊎_elim, append_assoc, append-nil, arith}
use Rattle.std.proofs.lemmas.Bool.{cases_lt}
use Rattle.std.proofs.lemmas.List.{length-append}
use Rattle.desk.specs.Printed.{Paper, over}

-- nothing changes what it is written over
over_nothing : (at : ℕ) (text : List ℕ) → over at [] text ≡ text
over_nothing at [] = refl
over_nothing (suc at) (b ∷ text) = ap (λ t. b ∷ t) (over_nothing at text)
over_nothing zero (b ∷ text) = refl

-- a text stays as long as it was
pub length_over : (at : ℕ) (line text : List ℕ) → length (over at line text) ≡ length text
length_over at line [] = refl
length_over (suc at) line (b ∷ text) = ap suc (length_over at line text)
length_over zero [] (b ∷ text) = refl
length_over zero (c ∷ line) (b ∷ text) = ap suc (length_over zero line text)

-- behind its end nothing is written
pub past_end : (at : ℕ) (line text : List ℕ) → length text ≤ at → over at line text ≡ text
past_end at line [] h = refl
past_end (suc at) line (b ∷ text) h = ap (λ t. b ∷ t) (past_end at line text (omega (arith, h)))
past_end zero line (b ∷ text) h = absurd (omega (arith, h))

-- one line behind another
over_both : (at : ℕ) (a b text : List ℕ) → over (at + length a) b (over at a text) ≡ over at (a ++ b) text
over_both at a b [] = refl
over_both (suc at) a b (x ∷ text) =
    let next : suc at + length a ≡ suc (at + length a) = omega arith in
    ap (λ n. over n b (x ∷ over at a text)) next ∙ ap (λ t. x ∷ t) (over_both at a b text)
over_both zero [] b (x ∷ text) =
    let here : 0 + length {A = ℕ} [] ≡ 0 = omega arith in
    ap (λ n. over n b (x ∷ text)) here
over_both zero (c ∷ a) b (x ∷ text) =
    let next : 0 + length (c ∷ a) ≡ suc (length a) = omega arith in
    let here : 0 + length a ≡ length a = omega arith in
    ap (λ n. over n b (c ∷ over zero a text)) next ∙ ap (λ t. c ∷ t) (ap (λ n. over n b (over zero a text)) (sym here) ∙ over_both zero a b text)

-- where a line has room, it stands there whole
pub over_room : (at : ℕ) (line text : List ℕ) → at + length line ≤ length text → over at line text ≡ take at text ++ (line ++ drop (at + length line) text)
over_room zero [] [] h = refl
over_room zero (c ∷ line) [] h = absurd (omega (arith, h))
over_room (suc at) line [] h = absurd (omega (arith, h))
over_room (suc at) line (b ∷ text) h =
    let next : suc at + length line ≡ suc (at + length line) = omega arith in
    ap (λ t. b ∷ t) (over_room at line text (omega (arith, h))) ∙ ap (λ n. b ∷ (take at text ++ (line ++ drop n (b ∷ text)))) (sym next)
over_room zero [] (b ∷ text) h =
    let here : 0 ≡ 0 + length {A = ℕ} [] = omega arith in
    ap (λ n. drop n (b ∷ text)) here
over_room zero (c ∷ line) (b ∷ text) h =
    let next : 0 + length (c ∷ line) ≡ suc (0 + length line) = omega arith in
    ap (λ t. c ∷ t) (over_room zero line text (omega (arith, h))) ∙ ap (λ n. c ∷ (line ++ drop n (b ∷ text))) (sym next)

-- and else its beginning does
pub over_end : (at : ℕ) (line text : List ℕ) → at ≤ length text → length text ≤ at + length line → over at line text ≡ take at text ++ take (length text - at) line
over_end zero line [] l h =
    let none : 0 ≡ length {A = ℕ} [] - 0 = omega arith in
    ap (λ n. take n line) none
over_end (suc at) line [] l h = absurd (omega (arith, l))
over_end (suc at) line (b ∷ text) l h =
    let same : length text - at ≡ suc (length text) - suc at = omega arith in
    ap (λ t. b ∷ t) (over_end at line text (omega (arith, l)) (omega (arith, h))) ∙ ap (λ n. b ∷ (take at text ++ take n line)) same
over_end zero [] (b ∷ text) l h = absurd (omega (arith, h))
over_end zero (c ∷ line) (b ∷ text) l h =
    let more : suc (length text - 0) ≡ suc (length text) - 0 = omega arith in
    ap (λ t. c ∷ t) (over_end zero line text (omega arith) (omega (arith, h))) ∙ ap (λ n. take n (c ∷ line)) more

-- The most that a text's count of its answer's bytes can say.
abbrev pub most_size : ℕ
most_size = 2 ^ 128 - 1

-- A text of a fixed length with an answer written over it: from a place on, or no more where the place is behind its end.
abbrev pub covered : List ℕ → ℕ → ℕ → List ℕ → Paper
covered text lent at line = record { bytes = over at line text; size = min most_size (at + length line); lent = lent }

-- A text that grows.
abbrev pub bytes_of : List ℕ → Paper
bytes_of text = record { bytes = text; size = length text; lent = 0 }

-- A text that grows, with a line behind it.
abbrev pub grown : List ℕ → List ℕ → Paper
grown text line = bytes_of (text ++ line)

pub nothing_covered : (text : List ℕ) (lent at : ℕ) → at < 2 ^ 128 → record { bytes = text; size = at; lent = lent } ≡ covered text lent at []
nothing_covered text lent at h = rw (over_nothing at text) (ap (λ n. record { bytes = text; size = n; lent = lent }) (omega (arith, h)))

beyond : (m l : ℕ) (a b text : List ℕ) → length text ≤ m → over (min m (l + length a)) b (over l a text) ≡ over l (a ++ b) text
beyond m l a b text h = ⊎_elim
    (λ (s : l + length a < m). ap (λ n. over n b (over l a text)) (omega (arith, s)) ∙ over_both l a b text)
    (λ (s : m ≤ l + length a). past_end (min m (l + length a)) b (over l a text) (omega (arith, s, h, length_over l a text)) ∙ sym (past_end (l + length a) b (over l a text) (omega (arith, s, h, length_over l a text))) ∙ over_both l a b text)
    (cases_lt (l + length a) m)

pub one_covered : (text text' : List ℕ) (lent lent' at at' : ℕ) (p : Paper) (a b : List ℕ) → length text < 2 ^ 64 → record { bytes = text'; size = at'; lent = lent' } ≡ covered text lent at a → p ≡ covered text' lent' at' b → p ≡ covered text lent at (a ++ b)
one_covered text text' lent lent' at at' p a b h first then =
    let bytes : text' ≡ over at a text = ap (λ (q : Paper). q.bytes) first in
    let size : at' ≡ min most_size (at + length a) = ap (λ (q : Paper). q.size) first in
    let same : lent' ≡ lent = ap (λ (q : Paper). q.lent) first in
    then ∙ rw (bytes, size, same) (ap₂ (λ (t : List ℕ) (n : ℕ). record { bytes = t; size = n; lent = lent }) (beyond most_size at a b text (omega (arith, h))) (omega (arith, length-append a b)))

pub one_grown : (text text' : List ℕ) (p : Paper) (a b : List ℕ) → bytes_of text' ≡ grown text a → p ≡ grown text' b → p ≡ grown text (a ++ b)
one_grown text text' p a b first then =
    let bytes : text' ≡ text ++ a = ap (λ (q : Paper). q.bytes) first in
    then ∙ rw bytes (ap bytes_of (append_assoc text a b))

pub nothing_grown : (text : List ℕ) → bytes_of text ≡ grown text []
nothing_grown text = rw (append-nil text) refl
