-- Shards that are opened, one behind another.
use Rattle.std.proofs.Common.{ℕ, zero, suc, ◌≡◌, ◌+◌, List, [], ◌∷◌, ◌++◌, length, IfSome, refl, sym, ◌∙◌, ap, subst, arith}
use Rattle.std.specs.Prelude.{map, slice_get}
use Rattle.std.proofs.lemmas.List.{map-append}
use Rattle.body_model.specs.Bodies.{HeldBodies}
use Rattle.body_model.specs.Format.{Format, content}
use Rattle.file_model.specs.Shard.{Stands, state_by}
use Rattle.lower_inode.specs.Shards.{ShardOver, shard_of}
use Rattle.mounted_files.specs.Files.{AreNew, AreNumbered, IsNew}

-- one more behind those of which something holds by their places
push_from : {X : Type 0} (P : ℕ → X → Type 0) (first : ℕ) (xs : List X) (x : X) → ((k : ℕ) → IfSome (slice_get xs k) (P (first + k))) → P (first + length xs) x → (k : ℕ) → IfSome (slice_get (xs ++ x ∷ []) k) (P (first + k))
push_from P first [] x all one zero = one
push_from P first [] x all one (suc k) = tt
push_from P first (y ∷ xs) x all one zero = all zero
push_from {X} P first (y ∷ xs) x all one (suc k) =
    let on : (n : ℕ) → first + suc n ≡ suc first + n = λ n. omega arith in
    let later : (n : ℕ) → IfSome (slice_get xs n) (P (suc first + n)) = λ n. subst (λ (i : ℕ). IfSome (slice_get xs n) (P i)) (on n) (all (suc n)) in
    subst (λ (i : ℕ). IfSome (slice_get (xs ++ x ∷ []) k) (P i)) (sym (on k)) (push_from P (suc first) xs x later (subst (λ (i : ℕ). P i x) (on (length xs)) one) k)

push : {X : Type 0} (P : ℕ → X → Type 0) (xs : List X) (x : X) → ((k : ℕ) → IfSome (slice_get xs k) (P k)) → P (length xs) x → (k : ℕ) → IfSome (slice_get (xs ++ x ∷ []) k) (P k)
push P xs x all one k =
    let on : (n : ℕ) → 0 + n ≡ n = λ n. omega arith in
    subst (λ (i : ℕ). IfSome (slice_get (xs ++ x ∷ []) k) (P i)) (on k)
    (push_from P 0 xs x (λ n. subst (λ (i : ℕ). IfSome (slice_get xs n) (P i)) (sym (on n)) (all n)) (subst (λ (i : ℕ). P i x) (sym (on (length xs))) one) k)

-- The shards over the stores so far.
pub record AreOpened {B F K : Type 0} (held : B → HeldBodies) (rules : F → Format K) (format : F) (bodies : List B) (shards : List (ShardOver B F K)) : Type 0 where
  pub bodies_are : map (λ (s : ShardOver B F K). s.bodies) shards ≡ bodies
  pub new : AreNew held rules format shards
  pub numbered : AreNumbered shards

module _ {B F K : Type 0} (held : B → HeldBodies) (rules : F → Format K) (format : F) where
  pub opened_none : AreOpened held rules format [] []
  opened_none = record { bodies_are = refl; new = λ store. tt; numbered = λ store. tt }

  pub opened_more : (bodies : List B) (shards : List (ShardOver B F K)) (store : B) (shard : ShardOver B F K) → AreOpened held rules format bodies shards
      → (shard.index ≡ length shards) × (shard.bodies ≡ store) × (shard.format ≡ format) × (shard.log ≡ []) → ((node : ℕ) → (shard_of shard).slots node ≡ [])
      → ((node : ℕ) → Stands (rules format) (held store).files (held store) (shard_of shard) node (state_by (content (rules format) ((held store).files node))))
      → AreOpened held rules format (bodies ++ store ∷ []) (shards ++ shard ∷ [])
  opened_more bodies shards store shard so_far parts unused stands =
      let own : (node : ℕ) → Stands (rules format) (held shard.bodies).files (held shard.bodies) (shard_of shard) node (state_by (content (rules format) ((held shard.bodies).files node)))
      = subst (λ (b : B). (node : ℕ) → Stands (rules format) (held b).files (held b) (shard_of shard) node (state_by (content (rules format) ((held b).files node)))) (sym parts.1) stands in
      let new : IsNew held rules format shard = record { format_is = parts.2; log = parts.3; unused = unused; stands = own } in
      record {
        bodies_are = map-append (λ (s : ShardOver B F K). s.bodies) shards (shard ∷ []) ∙ ap (λ (b : List B). b ++ shard.bodies ∷ []) so_far.bodies_are ∙ ap (λ (b : B). bodies ++ b ∷ []) parts.1;
        new = push (λ k. IsNew held rules format) shards shard so_far.new new;
        numbered = push (λ k (s : ShardOver B F K). s.index ≡ k) shards shard so_far.numbered parts.0;
      }
