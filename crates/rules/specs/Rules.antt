-- Rules that are checked in their order: a refusal names the first one broken.
use Rattle.std.specs.Prelude.{Bool, cond, List, [], ◌∷◌, Some, None, Ok, Err, Option, Result}
use Rattle.rules.specs.declared.refusal.Refusal.{Refusal}

-- The rule is broken where the test holds.
abbrev pub when : Bool → Refusal → Option Refusal
when b e = cond b (Some e) None

-- The rule is broken where the call is refused.
abbrev pub refusal_in : {X : Type 0} → Result X Refusal → Option Refusal
refusal_in (Ok x) = None
refusal_in (Err e) = Some e

-- One rule, and the next if that one is kept.
abbrev pub or_else : Option Refusal → Option Refusal → Option Refusal
or_else (Some e) next = Some e
or_else None next = next

-- The first rule of the list that is broken.
abbrev pub first_broken : List (Option Refusal) → Option Refusal
first_broken [] = None
first_broken (r ∷ rs) = or_else r (first_broken rs)

-- What was before, where a rule is broken, else what the accepted call leaves.
abbrev pub kept_or : {X : Type 0} → Option Refusal → X → X → X
kept_or (Some e) before after = before
kept_or None before after = after

-- What an accepted call leaves, or what was before where it answers a refusal.
abbrev pub if_ok : {X Y E : Type 0} → Result X E → Y → Y → Y
if_ok (Ok x) after before = after
if_ok (Err e) after before = before
