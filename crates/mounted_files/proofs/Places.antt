-- Lists that are seen place by place.
use Rattle.std.proofs.Common.{ℕ, zero, suc, ◌≡◌, ◌<◌, List, [], ◌∷◌, length, Option, Some, None, IfSome, refl, sym, ◌∙◌, subst, arith, inl, inr}
use Rattle.std.specs.Prelude.{slice_get, slice_set}
use Rattle.std.proofs.lemmas.Bool.Decides.{eqb_tells}
use Rattle.std.proofs.lemmas.List.{length-set}
use Rattle.session_model.proofs.Joins.{get_set_other, get_set_same}
use Rattle.lower_inode.specs.Shards.{ShardOver}
use Rattle.mounted_files.specs.Files.{AreShards, At, AtEach}

-- what is at one place and stays at the others
pub set_at : {X Y : Type 0} (P : X → Y → Type 0) (xs : List X) (ys : List Y) (place : ℕ) (old new : Y) → slice_get ys place ≡ Some old → ((x : X) → P x old → P x new) → AtEach P xs ys → AtEach P xs (slice_set ys place new)
set_at {X} P xs ys place old new is changes all store = elim (eqb_tells store place) [
  | inl same ↦ subst (λ (k : ℕ). At P (slice_get xs k) (slice_get (slice_set ys place new) k)) (sym same.1)
      (subst (At P (slice_get xs place)) (sym (get_set_same ys place old new is)) (changed (slice_get xs place) (subst (At P (slice_get xs place)) is (all place))))
  | inr apart ↦ subst (At P (slice_get xs store)) (sym (get_set_other ys place store new apart.1)) (all store)
]
  where
    changed : (x : Option X) → At P x (Some old) → At P x (Some new)
    changed (Some x) h = changes x h
    changed None h = absurd h

-- a place within a list has something
pub there : {X : Type 0} (xs : List X) (place : ℕ) → place < length xs → (x : X) × (slice_get xs place ≡ Some x)
there [] place within = absurd (omega arith)
there (x ∷ xs) zero within = (x, refl)
there (x ∷ xs) (suc place) within = there xs place (omega arith)

-- what holds of the place of something holds of that
pub here : {X : Type 0} (P : X → Type 0) (o : Option X) (x : X) → o ≡ Some x → IfSome o P → P x
here P o x is h = subst (λ (p : Option _). IfSome p P) is h

-- the number of a shard
pub index_at : {B F K : Type 0} (shards : List (ShardOver B F K)) (store : ℕ) (shard : ShardOver B F K) → AreShards shards → slice_get shards store ≡ Some shard → shard.index ≡ store
index_at shards store shard all is = here (λ (s : ShardOver _ _ _). s.index ≡ store) (slice_get shards store) shard is (all.each store)

-- A shard keeps its number.
pub shards_set : {B F K : Type 0} (shards : List (ShardOver B F K)) (place : ℕ) (old new : ShardOver B F K) → AreShards shards → slice_get shards place ≡ Some old → new.index ≡ old.index → AreShards (slice_set shards place new)
shards_set {B} {F} {K} shards place old new all is index = record {
  all = length-set shards place new ∙ all.all;
  each = λ store. elim (eqb_tells store place) [
    | inl same ↦ subst (λ (k : ℕ). IfSome (slice_get (slice_set shards place new) k) (λ (s : ShardOver B F K). s.index ≡ k)) (sym same.1)
        (subst (λ (o : Option (ShardOver B F K)). IfSome o (λ (s : ShardOver B F K). s.index ≡ place)) (sym (get_set_same shards place old new is)) (index ∙ index_at shards place old all is))
    | inr apart ↦ subst (λ (o : Option (ShardOver B F K)). IfSome o (λ (s : ShardOver B F K). s.index ≡ store)) (sym (get_set_other shards place store new apart.1)) (all.each store)
  ];
}
