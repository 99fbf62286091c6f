use Rattle.std.proofs.Common.{◌≡◌, ◌<◌, ℕ, length}
use Rattle.std.specs.Prelude.{slice_index_or}
use Rattle.cipher_model.specs.Aes.{round_key}
use Rattle.aes_planes.specs.declared.planes.Planes.{Planes}
use Rattle.aes_planes.specs.Planes.{block_in}
use Rattle.aes_planes.proofs.plane_keys.PlaneKeys.new.Given as goal

abbrev pub invariant-keys : goal.invariant-keys
invariant-keys l = record {
  so_far : (r : ℕ) → r < l.r → (d : Planes) → (m : ℕ) → m < 8 → block_in (slice_index_or l.rounds r d) m ≡ round_key l.keys r;
  long : length l.rounds ≡ 11;
}
