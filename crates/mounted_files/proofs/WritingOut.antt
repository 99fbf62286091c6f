-- A write-out, shard after shard.
use Rattle.std.proofs.Common.{ℕ, ◌≡◌, ◌≢◌, ◌+◌, ◌<◌, ◌≤◌, List, length, Option, Some, None, refl, sym, ◌∙◌, ap, subst, arith, inl, inr}
use Rattle.std.specs.Prelude.{slice_get, slice_set}
use Rattle.std.proofs.lemmas.Bool.{cases_lt}
use Rattle.std.proofs.lemmas.Bool.Decides.{eqb_tells}
use Rattle.std.proofs.lemmas.Option.{slice_get_past}
use Rattle.session_model.proofs.Joins.{get_set_other, get_set_same}
use Rattle.answer_model.specs.Count.{Rose}
use Rattle.body_model.specs.Bodies.{HeldBodies}
use Rattle.body_model.specs.Format.{Format}
use Rattle.file_model.specs.Shard.{IsWriteOut}
use Rattle.lower_inode.specs.Shards.{ShardOver, shard_of}
use Rattle.mounted_files.specs.declared.shards.StuckStore.{StuckStore}
use Rattle.mounted_files.specs.Files.{AreOut, AreShards, At, IsOut, IsStuckAt, faults_at, log_of, logs_of}
use Rattle.mounted_files.proofs.Places.{shards_set}

-- The shards below a place are written out, and the others are as they were.
pub record AreOutBelow {B F K : Type 0} (held : B → HeldBodies) (rules : F → Format K) (old new : List (ShardOver B F K)) (place : ℕ) : Type 0 where
  pub shards : AreShards new
  pub below : (store : ℕ) → store < place → At (IsOut held rules) (slice_get old store) (slice_get new store)
  pub above : (store : ℕ) → place ≤ store → slice_get new store ≡ slice_get old store

pub out_none : {B F K : Type 0} (held : B → HeldBodies) (rules : F → Format K) (shards : List (ShardOver B F K)) → AreShards shards → AreOutBelow held rules shards shards 0
out_none held rules shards all = record { shards = all; below = λ store lt. absurd (omega arith); above = λ store le. refl }

module _ {B F K : Type 0} (held : B → HeldBodies) (rules : F → Format K) (old now : List (ShardOver B F K)) (place : ℕ) (was is : ShardOver B F K) (so_far : AreOutBelow held rules old now place)
    (here : slice_get now place ≡ Some was) (index : is.index ≡ was.index) where
  first_here : slice_get old place ≡ Some was
  first_here = sym (so_far.above place (omega arith)) ∙ here

  now_here : slice_get (slice_set now place is) place ≡ Some is
  now_here = get_set_same now place was is here

  pub still_shards : AreShards (slice_set now place is)
  still_shards = shards_set now place was is so_far.shards here index

  -- one shard more
  pub out_one : IsOut held rules was is → AreOutBelow held rules old (slice_set now place is) (place + 1)
  out_one out = record {
    shards = still_shards;
    below = λ store lt. elim (eqb_tells store place) [
      | inl same ↦ subst (λ (k : ℕ). At (IsOut held rules) (slice_get old k) (slice_get (slice_set now place is) k)) (sym same.1)
          (subst (At (IsOut held rules) (slice_get old place)) (sym now_here) (subst (λ (o : Option (ShardOver B F K)). At (IsOut held rules) o (Some is)) (sym first_here) out))
      | inr apart ↦ subst (At (IsOut held rules) (slice_get old store)) (sym (get_set_other now place store is apart.1)) (so_far.below store (let other : store ≢ place = apart.1 in omega arith))
    ];
    above = λ store le. (let apart : store ≢ place = omega arith in get_set_other now place store is apart ∙ so_far.above store (omega arith));
  }

  out_log : (a b : Option (ShardOver B F K)) → At (IsOut held rules) a b → log_of b ≡ log_of a
  out_log (Some a) (Some b) out = out.writes.log
  out_log None None out = refl
  out_log (Some a) None out = absurd out
  out_log None (Some b) out = absurd out

  out_calm : (a b : Option (ShardOver B F K)) → At (IsOut held rules) a b → faults_at held b ≡ faults_at held a
  out_calm (Some a) (Some b) out = out.whole.calm
  out_calm None None out = refl
  out_calm (Some a) None out = absurd out
  out_calm None (Some b) out = absurd out

  other_log : (store : ℕ) → store ≢ place → logs_of (slice_set now place is) store ≡ logs_of old store
  other_log store apart = ap log_of (get_set_other now place store is apart) ∙ elim (cases_lt store place) [
    | inl lt ↦ out_log (slice_get old store) (slice_get now store) (so_far.below store lt)
    | inr ge ↦ ap log_of (so_far.above store ge)
  ]

  other_faults : (store : ℕ) → store ≢ place → faults_at held (slice_get (slice_set now place is) store) ≡ faults_at held (slice_get old store)
  other_faults store apart = ap (faults_at held) (get_set_other now place store is apart) ∙ elim (cases_lt store place) [
    | inl lt ↦ out_calm (slice_get old store) (slice_get now store) (so_far.below store lt)
    | inr ge ↦ ap (faults_at held) (so_far.above store ge)
  ]

  -- one that failed
  pub stuck_at : (stuck : StuckStore) → place < 8 → stuck.part ≡ place + 1 → IsWriteOut (rules was.format) (held was.bodies) (held is.bodies) (shard_of was) (shard_of is)
      → (stuck.before ≡ (held was.bodies).faults) × (stuck.after ≡ (held is.bodies).faults) × Rose stuck.before stuck.after → IsStuckAt held old (slice_set now place is) stuck
  stuck_at stuck within part writes fault = record {
    store = place;
    is_store = within;
    part_is = part ∙ omega arith;
    first_is = fault.0 ∙ ap (faults_at held) (sym first_here);
    last_is = fault.1 ∙ ap (faults_at held) (sym now_here);
    rose = fault.2;
    logs = λ store. elim (eqb_tells store place) [
      | inl same ↦ subst (λ (k : ℕ). logs_of (slice_set now place is) k ≡ logs_of old k) (sym same.1) (ap log_of now_here ∙ writes.log ∙ sym (ap log_of first_here))
      | inr apart ↦ other_log store apart.1
    ];
    others = other_faults;
  }

-- all of them
pub all_out : {B F K : Type 0} (held : B → HeldBodies) (rules : F → Format K) (old new : List (ShardOver B F K)) (place : ℕ) → AreOutBelow held rules old new place → length old ≤ place → AreOut held rules old new
all_out {B} {F} {K} held rules old new place out all store = elim (cases_lt store place) [
  | inl lt ↦ out.below store lt
  | inr ge ↦ (
      let past : slice_get old store ≡ None = slice_get_past old store (omega arith) in
      subst (λ (o : Option (ShardOver B F K)). At (IsOut held rules) o (slice_get new store)) (sym past) (subst (At (IsOut held rules) None) (sym (out.above store ge ∙ past)) tt))
]
