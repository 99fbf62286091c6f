use Rattle.std.proofs.Common.{◌≡◌, List, ℕ, ap, ◌∙◌, arith}
use Rattle.cipher_model.specs.Aes.{add_round_key, inv_sub_bytes}
use Rattle.cipher_model.specs.Field.{inv_sub_byte}
use Rattle.aes_planes.specs.Planes.{block_in, byte_in, lane}
use Rattle.cipher_model.proofs.States.{each_byte_same}
use Rattle.aes_planes.proofs.plane_keys.last_unround.Goals as goal

pub returns : goal.returns
returns c m hm =
    let subbed : block_in c.inv_sub_bits.result m ≡ inv_sub_bytes (block_in c.inv_shift.result m) =
    each_byte_same (λ i. byte_in c.inv_sub_bits.result (lane i) m) (λ i. inv_sub_byte (byte_in c.inv_shift.result (lane i) m)) (λ i hi. c.inv_sub_bits.ensures (lane i) m (omega arith) hm) in
    c.add.ensures m ∙ ap (λ (s : List ℕ). add_round_key s (block_in c.args.k m)) (subbed ∙ ap inv_sub_bytes (c.inv_shift.ensures m))
