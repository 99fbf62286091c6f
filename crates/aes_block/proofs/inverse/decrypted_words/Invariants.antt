use Rattle.std.proofs.Common.{◌≡◌, ◌-◌}
use Rattle.cipher_model.specs.Aes.{bytes_at, unrounds, decrypted_with, inv_sub_bytes, inv_shift_rows}
use Rattle.aes_block.proofs.inverse.decrypted_words.Given as goal

abbrev pub invariant-rounds : goal.invariant-rounds
invariant-rounds l = unrounds l.ws (inv_sub_bytes (inv_shift_rows (bytes_at l.s 0))) (10 - l.r) ≡ decrypted_with 10 l.ws (bytes_at l.fn.block 0)
