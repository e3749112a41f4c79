-- Looking a key up among the keys of a table's rows, where an absent row has none.
use Rattle.std.specs.Prelude.{◌≡◌, ℕ, ◌+◌, ◌<◌, ◌≤◌, Bool, true, false, ◌&&◌, List, [], ◌∷◌, map, length, Some, None, Option, ◌==◌, slice_index_or}
use Rattle.std.specs.declared.cmp.Ordering.TheVariants.{Less, Equal, Greater}
use Rattle.std.specs.declared.cmp.Ordering.{Ordering}
use Rattle.lookup.specs.declared.key.Pair.{Pair}
use Rattle.std.specs.List.{list_any}
use Rattle.std.specs.Ordering.{is_lt, is_eq}

-- The place, counted from i, of the first present key that is not before the one sought, if it is the same.
abbrev pub seek : {K : Type 0} → (K → K → Ordering) → ℕ → List (Option K) → K → Option ℕ
seek order i [] sought = None
seek order i (None ∷ ks) sought = seek order (i + 1) ks sought
seek order i (Some k ∷ ks) sought = elim (order k sought) [ Less ↦ seek order (i + 1) ks sought | Equal ↦ Some i | Greater ↦ None ]

-- The lookup passes over a row that is absent or before the key.
abbrev pub Passed : {K : Type 0} → (K → K → Ordering) → K → Option K → Type 0
Passed order sought None = Unit {0}
Passed order sought (Some k) = order k sought ≡ Less

-- A place that is found is that of the first row not passed over, and its row has the key; where none is found, each row of the key stands behind one that is after it.
abbrev pub Found : {K : Type 0} → (K → K → Ordering) → List (Option K) → K → Option ℕ → Type 0
Found order ks sought (Some i) = (i < length ks) × (slice_index_or ks i None ≡ Some sought) × ((j : ℕ) → j < i → Passed order sought (slice_index_or ks j None))
Found {K} order ks sought None = (i : ℕ) → i < length ks → slice_index_or ks i None ≡ Some sought → (j : ℕ) × (k : K) × (j < i) × (slice_index_or ks j None ≡ Some k) × (order k sought ≡ Greater)

-- A place that is found is a row's, and that row has the key.
abbrev pub Held : {K : Type 0} → List (Option K) → K → Option ℕ → Type 0
Held ks sought (Some i) = (i < length ks) × (slice_index_or ks i None ≡ Some sought)
Held ks sought None = Unit {0}

-- The row is present and before the key.
abbrev pub is_before : {K : Type 0} → (K → K → Ordering) → K → Option K → Bool
is_before order sought None = false
is_before order sought (Some k) = is_lt (order k sought)

-- The row at a place is present and before the key.
abbrev pub before_at : {K : Type 0} → (K → K → Ordering) → K → List (Option K) → ℕ → Bool
before_at order sought ks i = is_before order sought (slice_index_or ks i None)

-- The place parts the rows by the key: the rows in front of it are before the key, and the one there is not.
abbrev pub Parted : {K : Type 0} → (K → K → Ordering) → K → List (Option K) → ℕ → Type 0
Parted order sought ks i = ((j : ℕ) → j < i → before_at order sought ks j ≡ true) × (i < length ks → before_at order sought ks i ≡ false)

-- The place that parts the rows is among so many from one place on: those in front of them are before the key, and those behind
-- them are not.
abbrev pub PartedAmong : {K : Type 0} → (K → K → Ordering) → K → List (Option K) → ℕ → ℕ → Type 0
PartedAmong order sought ks from size = ((j : ℕ) → j < from → before_at order sought ks j ≡ true) × ((j : ℕ) → from + size ≤ j → j < length ks → before_at order sought ks j ≡ false)

-- The row is present and has the key.
abbrev pub is_at : {K : Type 0} → (K → K → Ordering) → K → Option K → Bool
is_at order sought None = false
is_at order sought (Some k) = is_eq (order k sought)

-- The key is above the last one, if there is a last one.
abbrev pub is_above : {K : Type 0} → (K → K → Ordering) → Option K → K → Bool
is_above order None k = true
is_above order (Some last) k = is_lt (order last k)

-- Every row is present, and each key is above the one before it.
abbrev pub rise_from : {K : Type 0} → (K → K → Ordering) → Option K → List (Option K) → Bool
rise_from order last [] = true
rise_from order last (None ∷ ks) = false
rise_from order last (Some k ∷ ks) = is_above order last k && rise_from order (Some k) ks

-- Every row of a table is present, and the keys rise.
abbrev pub rise : {R K : Type 0} → (K → K → Ordering) → (R → Option K) → List R → Bool
rise order name table = rise_from order None (map name table)

-- Every row is present, and of two rows the one that stands first has the key that is before.
pub record Rising {K : Type 0} (order : K → K → Ordering) (ks : List (Option K)) : Type 0 where
  pub present : (i : ℕ) → i < length ks → (k : K) × (slice_index_or ks i None ≡ Some k)
  pub up : (i j : ℕ) (a b : K) → i < j → slice_index_or ks i None ≡ Some a → slice_index_or ks j None ≡ Some b → order a b ≡ Less

-- The row is present, and the first number of its key is n.
abbrev pub is_of : ℕ → Option Pair → Bool
is_of n None = false
is_of n (Some p) = p.first == n

-- Some row is present whose key has n as its first number.
abbrev pub some_of : ℕ → List (Option Pair) → Bool
some_of n = list_any (is_of n)
