-- The first bytes that a reader gives, where its bytes are known, and the answer to them.
use Rattle.std.proofs.Common.{◌≡◌, ℕ, zero, suc, ◌+◌, ◌<◌, ◌≤◌, List, [], ◌∷◌, ◌++◌, length, take, Some, None, Option, IfSome, refl, ap, subst, ◌∙◌, arith}
use Rattle.std.proofs.lemmas.List.{length-take, take_all}
use Rattle.std.specs.Io.KnownBytes.{Appends}
use Rattle.std.specs.Option.{option_map}
use Rattle.desk.specs.Output.{Output, judged, most_input, program_orders, program_room, too_long}

again : (n : ℕ) (xs : List ℕ) → take n (take n xs) ≡ take n xs
again zero xs = refl
again (suc n) [] = refl
again (suc n) (x ∷ xs) = ap (λ ys. x ∷ ys) (again n xs)

-- what is kept of the bytes that a capped reader gave
pub capped : (known : Option (List ℕ)) (n : ℕ) (before given kept : List ℕ) → before ≡ [] → IfSome (option_map (take n) known) (λ xs. given ≡ before ++ xs) → kept ≡ take n given → IfSome known (λ xs. kept ≡ take n xs)
capped None n before given kept start gave keeps = tt
capped (Some xs) n before given kept start gave keeps = keeps ∙ (ap (take n) (gave ∙ ap (λ b. b ++ take n xs) start) ∙ again n xs)

still_above : (n : ℕ) (xs : List ℕ) → n < length (take (n + 1) xs) → n < length xs
still_above n xs p = let q = length-take (n + 1) xs in grind (arith, q, p)

within : (n : ℕ) (xs : List ℕ) → length (take (n + 1) xs) ≤ n → length xs ≤ n
within n xs p = let q = length-take (n + 1) xs in grind (arith, q, p)

-- one byte more than an input may have tells the whole answer
pub answer_of_first : (xs text : List ℕ) → Output (take (most_input + 1) xs) program_room program_orders text → Output xs program_room program_orders text
answer_of_first xs text (too_long long) = too_long (still_above most_input xs long)
answer_of_first xs text (judged closed answered fits answer) =
    let short = within most_input xs fits in
    subst (λ ys. Output ys program_room program_orders answered) (take_all (most_input + 1) xs (grind (arith, short))) (judged closed answered fits answer)

-- what is written is the whole answer to all that a reader gives
pub answered_whole : (known before after : Option (List ℕ)) (input text : List ℕ) → IfSome known (λ xs. input ≡ take (most_input + 1) xs) → Output input program_room program_orders text → Appends before after text → IfSome known (λ xs. (t : List ℕ) × Output xs program_room program_orders t × Appends before after t)
answered_whole None before after input text read made wrote = tt
answered_whole (Some xs) before after input text read made wrote = (text, answer_of_first xs text (subst (λ ys. Output ys program_room program_orders text) read made), wrote)
