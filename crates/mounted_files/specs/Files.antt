-- The files of a mount: a shard over each store of bodies, in the order of their numbers.
use Rattle.std.specs.Prelude.{ℕ, suc, ◌≡◌, ◌≢◌, ◌<◌, List, [], length, Option, Some, None, IfSome, slice_get}
use Rattle.answer_model.specs.Count.{Rose}
use Rattle.lower_tree.specs.Held.{stores}
use Rattle.session_model.specs.declared.entry.FileEntry.{FileEntry}
use Rattle.body_model.specs.Bodies.{HeldBodies}
use Rattle.body_model.specs.Format.{Format, content}
use Rattle.file_model.specs.FilesGoOn.{ShardGoesOn}
use Rattle.file_model.specs.Shard.{IsWholeWriteOut, IsWriteOut, Stands, state_by}
use Rattle.lower_inode.specs.Shards.{ShardOver, shard_of}
use Rattle.mounted_files.specs.declared.shards.StuckStore.{StuckStore}

-- ---- by the numbers of the stores

-- at one place of two lists: both have something there, of which this holds, or neither has
abbrev pub At : {X Y : Type 0} → (X → Y → Type 0) → Option X → Option Y → Type 0
At P (Some x) (Some y) = P x y
At P None None = Unit {0}
At P x y = ⊥

-- at every place of two lists
abbrev pub AtEach : {X Y : Type 0} → (X → Y → Type 0) → List X → List Y → Type 0
AtEach P xs ys = (store : ℕ) → At P (slice_get xs store) (slice_get ys store)

-- each shard has the number of its place
abbrev pub AreNumbered : {B F K : Type 0} → List (ShardOver B F K) → Type 0
AreNumbered shards = (store : ℕ) → IfSome (slice_get shards store) (λ shard. shard.index ≡ store)

-- There are eight shards, each with the number of its place.
pub record AreShards {B F K : Type 0} (shards : List (ShardOver B F K)) : Type 0 where
  pub all : length shards ≡ stores
  pub each : AreNumbered shards

abbrev pub log_of : {B F K : Type 0} → Option (ShardOver B F K) → List FileEntry
log_of (Some shard) = shard.log
log_of None = []

-- the log of each shard
abbrev pub logs_of : {B F K : Type 0} → List (ShardOver B F K) → ℕ → List FileEntry
logs_of shards store = log_of (slice_get shards store)

-- what the store of a shard holds
abbrev pub held_by : {B F K : Type 0} → (B → HeldBodies) → ShardOver B F K → HeldBodies
held_by held shard = held shard.bodies

abbrev pub faults_at : {B F K : Type 0} → (B → HeldBodies) → Option (ShardOver B F K) → ℕ
faults_at held (Some shard) = (held shard.bodies).faults
faults_at held None = 0

-- ---- from the opening on

-- A shard of this format, of which no file is open: each stands by its lower file alone.
pub record IsNew {B F K : Type 0} (held : B → HeldBodies) (rules : F → Format K) (format : F) (shard : ShardOver B F K) : Type 0 where
  pub format_is : shard.format ≡ format
  pub log : shard.log ≡ []
  pub unused : (node : ℕ) → (shard_of shard).slots node ≡ []
  pub stands : (node : ℕ) → Stands (rules format) (held shard.bodies).files (held shard.bodies) (shard_of shard) node (state_by (content (rules format) ((held shard.bodies).files node)))

abbrev pub AreNew : {B F K : Type 0} → (B → HeldBodies) → (F → Format K) → F → List (ShardOver B F K) → Type 0
AreNew held rules format shards = (store : ℕ) → IfSome (slice_get shards store) (IsNew held rules format)

-- A shard goes on from its opening.
pub record GoesOn {B F K : Type 0} (held : B → HeldBodies) (rules : F → Format K) (opening now : ShardOver B F K) : Type 0 where
  pub format : now.format ≡ opening.format
  pub files : ShardGoesOn (rules opening.format) (held opening.bodies) (held now.bodies) (shard_of opening) (shard_of now)

abbrev pub FilesGoOn : {B F K : Type 0} → (B → HeldBodies) → (F → Format K) → List (ShardOver B F K) → List (ShardOver B F K) → Type 0
FilesGoOn held rules opening now = AtEach (GoesOn held rules) opening now

-- ---- writing out

-- A shard is written out, all of it.
pub record IsOut {B F K : Type 0} (held : B → HeldBodies) (rules : F → Format K) (old new : ShardOver B F K) : Type 0 where
  pub writes : IsWriteOut (rules old.format) (held old.bodies) (held new.bodies) (shard_of old) (shard_of new)
  pub whole : IsWholeWriteOut (rules old.format) (held old.bodies) (held new.bodies) (shard_of old) (shard_of new)

abbrev pub AreOut : {B F K : Type 0} → (B → HeldBodies) → (F → Format K) → List (ShardOver B F K) → List (ShardOver B F K) → Type 0
AreOut held rules old new = AtEach (IsOut held rules) old new

-- A store couldn't be written out. All logs are as they were, and so are the counts of faults of the other stores.
pub record IsStuckAt {B F K : Type 0} (held : B → HeldBodies) (old new : List (ShardOver B F K)) (stuck : StuckStore) : Type 0 where
  pub store : ℕ
  pub is_store : store < stores
  pub part_is : stuck.part ≡ suc store
  pub first_is : stuck.before ≡ faults_at held (slice_get old store)
  pub last_is : stuck.after ≡ faults_at held (slice_get new store)
  pub rose : Rose stuck.before stuck.after
  pub logs : (other : ℕ) → logs_of new other ≡ logs_of old other
  pub others : (other : ℕ) → other ≢ store → faults_at held (slice_get new other) ≡ faults_at held (slice_get old other)
