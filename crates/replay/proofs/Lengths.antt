-- How long an answer is that is written over a text, and whether the text has it whole.
use Rattle.std.proofs.Common.{◌≡◌, ℕ, ◌+◌, ◌-◌, ◌^◌, ◌<◌, ◌≤◌, Bool, true, false, cond, leb, List, ◌++◌, length, drop, take, min, ap, sym, refl, ◌∙◌, arith}
use Rattle.std.proofs.lemmas.Bool.{le-leb, leb-false, leb-true, lt-leb}
use Rattle.desk.specs.Printed.{Paper, over}
use Rattle.desk.specs.Covering.{covered, length_over, most_size, over_end, over_room}
use Rattle.replay.specs.Replayed.{outcome_number, written_as, written_over}

-- a line over a text, where it has room and where it has none
placed : (line text : List ℕ) (b : Bool) → leb (length line) (length text) ≡ b → over 0 line text ≡ cond b (line ++ drop (length line) text) (take (length text) line)
placed line text true e =
    let here : 0 + length line ≡ length line = omega arith in
    over_room 0 line text (omega (arith, leb-true (length line) (length text) e)) ∙ ap (λ n. line ++ drop n text) here
placed line text false e =
    let all : length text - 0 ≡ length text = omega arith in
    over_end 0 line text (omega arith) (omega (arith, leb-false (length line) (length text) e)) ∙ ap (λ n. take n line) all

module _ (before text line bytes : List ℕ) (n lent lent' at : ℕ) (fits : length before < 2 ^ 64) (begins : text ≡ before) (empty : at ≡ 0) (wrote : record { bytes = bytes; size = n; lent = lent' } ≡ covered text lent at line) where
  is_over : bytes ≡ over 0 line before
  is_over = ap (λ (p : Paper). p.bytes) wrote ∙ rw (begins, empty) refl

  pub is_written : bytes ≡ written_over line before
  is_written = is_over ∙ placed line before (leb (length line) (length before)) refl

  size : n ≡ min most_size (0 + length line)
  size = ap (λ (p : Paper). p.size) wrote ∙ rw empty refl

  same_length : length bytes ≡ length before
  same_length = ap length is_over ∙ length_over 0 line before

  pub same_text : lent' ≡ lent
  same_text = ap (λ (p : Paper). p.lent) wrote

  pub told : (m : ℕ) → m ≡ min n (2 ^ 64 - 1) → m ≡ min (2 ^ 64 - 1) (length line)
  told m e = omega (arith, e, size)

  pub is_whole : true ≡ leb n (length bytes) → 0 ≡ outcome_number (written_as line before)
  is_whole e =
      let told : n ≤ length bytes = leb-true n (length bytes) (sym e) in
      let room : length line ≤ length before = omega (arith, told, size, same_length, fits) in
      rw (le-leb (length line) (length before) room) refl

  pub is_short : false ≡ leb n (length bytes) → 1 ≡ outcome_number (written_as line before)
  is_short e =
      let told : length bytes < n = leb-false n (length bytes) (sym e) in
      let longer : length before < length line = omega (arith, told, size, same_length, fits) in
      rw (lt-leb (length line) (length before) longer) refl
