-- What the maker of a mount's parts promises.
use Rattle.std.specs.Prelude.{ℕ, zero, suc, ◌≡◌, ◌+◌, ◌-◌, ◌^◌, min, List, length, map, Option, Some, None, slice_get}
use Rattle.lower_model.specs.declared.kind.Kind.TheVariants as kinds
use Rattle.lower_model.specs.LowerTree.{HoldsOctets}
use Rattle.names_model.specs.StoreCalls.{IsStoreTree}
use Rattle.body_model.specs.Bodies.{HeldBodies}
use Rattle.lower_tree.specs.Held.{HeldNames, HeldParts, file_at, stores}

-- what parts hold, by what each of them does
abbrev pub held_parts : {N B : Type 0} → (N → HeldNames) → (B → HeldBodies) → N → List B → HeldParts
held_parts names_held bodies_held names bodies = record { names = names_held names; bodies = map bodies_held bodies }

abbrev pub faults_by : Option HeldBodies → ℕ
faults_by (Some held) = held.faults
faults_by None = 0

-- the faults of a part: 0 is the names, and behind it come the stores of bodies
abbrev pub faults_of : HeldParts → ℕ → ℕ
faults_of parts zero = parts.names.faults
faults_of parts (suc k) = faults_by (slice_get parts.bodies k)

-- There are eight stores of bodies, and no part has failed.
pub record AreFresh (parts : HeldParts) : Type 0 where
  pub stores : length parts.bodies ≡ stores
  pub calm : (part : ℕ) → faults_of parts part ≡ 0

-- The parts hold what an image allows: a tree of names, and files whose octets fit it.
pub record HoldSomeTree (parts : HeldParts) : Type 0 where
  pub names : IsStoreTree parts.names.entries
  pub files : (k : ℕ) → HoldsOctets kinds.File (file_at parts.bodies k).attribute (file_at parts.bodies k).body

-- the sum of two counts, which stands still at the last value of a u64
abbrev pub sum_of_counts : ℕ → ℕ → ℕ
sum_of_counts a b = min (a + b) (2 ^ 64 - 1)

-- Each tally has the faults of its part added.
abbrev pub AddsFaults : HeldParts → (ℕ → ℕ) → (ℕ → ℕ) → Type 0
AddsFaults parts old new = (part : ℕ) → new part ≡ sum_of_counts (old part) (faults_of parts part)
