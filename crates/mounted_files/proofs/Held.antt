-- What the stores of shards hold, as those of a mount's parts.
use Rattle.std.proofs.Common.{ℕ, zero, suc, ◌≡◌, ◌%◌, true, List, [], ◌∷◌, Some, refl, ap, subst}
use Rattle.std.specs.Prelude.{map, slice_get}
use Rattle.body_model.specs.Bodies.{HeldBodies}
use Rattle.lower_tree.specs.Held.{TellsFiles, file_at, file_by, stores}
use Rattle.lower_tree.specs.Making.{faults_by}
use Rattle.lower_inode.specs.Shards.{ShardOver}
use Rattle.mounted_files.specs.Files.{faults_at}

pub get_map : {X Y : Type 0} (f : X → Y) (xs : List X) (k : ℕ) (x : X) → slice_get xs k ≡ Some x → slice_get (map f xs) k ≡ Some (f x)
get_map f [] k x is = absurd cc
get_map f (y ∷ xs) zero x is = cc
get_map f (y ∷ xs) (suc k) x is = get_map f xs k x is

module _ {B F K : Type 0} (held : B → HeldBodies) where
  -- the parts of bodies over which shards stand
  abbrev pub bodies_of : List (ShardOver B F K) → List HeldBodies
  bodies_of shards = map held (map (λ (s : ShardOver B F K). s.bodies) shards)

  pub bodies_at : (shards : List (ShardOver B F K)) (store : ℕ) (shard : ShardOver B F K) → slice_get shards store ≡ Some shard → slice_get (bodies_of shards) store ≡ Some (held shard.bodies)
  bodies_at shards store shard is = get_map held (map (λ (s : ShardOver B F K). s.bodies) shards) store shard.bodies (get_map (λ (s : ShardOver B F K). s.bodies) shards store shard is)

  pub faults_in : (shards : List (ShardOver B F K)) (store : ℕ) → faults_by (slice_get (bodies_of shards) store) ≡ faults_at held (slice_get shards store)
  faults_in [] store = refl
  faults_in (s ∷ shards) zero = refl
  faults_in (s ∷ shards) (suc store) = faults_in shards store

  pub file_in : (shards : List (ShardOver B F K)) (node : ℕ) (shard : ShardOver B F K) → slice_get shards (node % stores) ≡ Some shard → file_at (bodies_of shards) node ≡ (held shard.bodies).files node
  file_in shards node shard is = ap (λ o. file_by o node) (bodies_at shards (node % stores) shard is)

  pub told_in : (shards : List (ShardOver B F K)) (store : ℕ) (shard : ShardOver B F K) → slice_get shards store ≡ Some shard → TellsFiles (slice_get (bodies_of shards) store) → (held shard.bodies).told ≡ true
  told_in shards store shard is tells = subst TellsFiles (bodies_at shards store shard is) tells
