use Rattle.std.proofs.Common.{◌≡◌, ℕ, List, sym, ap, ◌∙◌}
use Rattle.cipher_model.specs.Aes.{decrypted}
use Rattle.aes_planes.specs.Planes.{block_in, by_rows, first_block, plane}
use Rattle.aes_planes.specs.declared.planes.Planes.{Planes}
use Rattle.aes_planes.proofs.Rows.{length-first_block}
use Rattle.aes_planes.proofs.States.{rows_back}
use Rattle.aes_planes.proofs.plane_keys.PlaneKeys.decrypt.Goals as goal

pub returns : goal.returns
returns c m hm =
    let key : List ℕ = first_block c.self.inside.rounds in
    let plain : plane c.all_rows_of-2.result m ≡ block_in c.inv_cipher-plain.result m =
    c.all_rows_of-2.ensures m hm ∙ ap by_rows (c.transpose_bits.ensures.from_planes m hm) in
    let cipher : block_in c.transpose_bits-planes.result m ≡ plane c.as_blocks-whole.result m =
    c.transpose_bits-planes.ensures.to_planes m hm ∙ ap by_rows (c.all_rows_of.ensures m hm)
    ∙ sym (rows_back (plane c.as_blocks-whole.result m) (c.as_blocks-whole.ensures.blocks m hm)) in
    plain ∙ c.inv_cipher-plain.ensures.value key (length-first_block c.self.inside.rounds c.inv_cipher-plain.ensures.long) c.self.invariant m hm
    ∙ ap (λ (b : List ℕ). decrypted key b) (cipher ∙ ap (λ (x : Planes). plane x m) c.as_blocks-whole.ensures.value)
    ∙ ap (λ (k : List ℕ). decrypted k (plane c.args.blocks m)) c.self.view_is
