-- A line that is written at its place in a text.
use Rattle.std.proofs.Common.{◌≡◌, ℕ, ◌+◌, ◌-◌, ◌^◌, ◌<◌, ◌≤◌, List, ◌++◌, length, take, replicate, sym, ap, ap₂, ◌∙◌, append-nil, arith}
use borrow.Rule.Slice.PartMut.{put_mid}
use Rattle.std.proofs.lemmas.List.{drop-drop, drop_all}
use Rattle.desk.specs.Printed.{Filled, over}
use Rattle.desk.specs.Covering.{covered, over_end, over_room}

-- a line that has room
pub whole : (text line part : List ℕ) (at k : ℕ) → at + length line ≤ length text → k ≡ length line → part ≡ line → put_mid at k text part ≡ over at line text
whole text line part at k room size same =
    rw (size, same) (ap (λ t. take at text ++ (line ++ t)) (drop-drop (length line) at text) ∙ sym (over_room at line text room))

-- the beginning of a line that has none
pub beginning : (text line part : List ℕ) (at k : ℕ) → at ≤ length text → length text ≤ at + length line → k ≡ length text - at → part ≡ take (length text - at) line → put_mid at k text part ≡ over at line text
beginning text line part at k l room size same =
    let none = drop-drop k at text ∙ drop_all (at + k) text (omega (arith, size)) in
    ap (λ t. take at text ++ (part ++ t)) none ∙ rw (append-nil part, same) (sym (over_end at line text l room))

-- a line that is printed in its place
pub printed : (text line part : List ℕ) (lent at k r : ℕ) → at + 50 ≤ length text → length text < 2 ^ 64 → k ≡ 50 → length part ≡ 50 → r ≡ 0 → Filled part r line → record { bytes = put_mid at k text part; size = at + 50; lent = lent } ≡ covered text lent at line
printed text line part lent at k r room fits size long begins filled =
    let same : part ≡ line = filled ∙ ap (λ n. replicate n 32 ++ line) begins in
    let whole_line : length line ≡ 50 = sym (ap length same) ∙ long in
    ap₂ (λ (t : List ℕ) (n : ℕ). record { bytes = t; size = n; lent = lent })
    (whole text line part at k (omega (arith, room, whole_line)) (omega (arith, size, whole_line)) same)
    (omega (arith, room, fits, whole_line))
