use Rattle.std.proofs.Common.{◌≡◌, ◌<◌, ◌-◌, ℕ, List, length}
use Rattle.cipher_model.specs.Aes.{decrypted, inv_shift_rows, inv_sub_bytes, key_schedule, unrounds}
use Rattle.aes_planes.specs.Planes.{AreRoundKeys, block_in}
use Rattle.aes_planes.proofs.plane_keys.inv_cipher.Given as goal

abbrev pub invariant-rounds : goal.invariant-rounds
invariant-rounds l = (k : List ℕ) → length k ≡ 16 → AreRoundKeys k l.rounds → (m : ℕ) → m < 8
    → unrounds (key_schedule 4 k) (inv_sub_bytes (inv_shift_rows (block_in l.s m))) (10 - l.r) ≡ decrypted k (block_in l.fn.q m)
