use Rattle.std.proofs.Common.{◌+◌, [], ◌∷◌, ℕ, refl, ◌∙◌}
use Rattle.std.proofs.lemmas.Nat.{xor_comm}
use Rattle.std.specs.Prelude.{slice_index}
use Rattle.cipher_model.specs.Aes.{bytes_at}
use Rattle.aes_block.proofs.InverseRounds.{unround_bytes_at}
use Rattle.aes_block.proofs.inverse.unround_at.Goals as goal

pub returns : goal.returns
returns c ws un =
    let i = c.args.i in
    let k : ℕ → ℕ = λ j. slice_index c.args.us.now j in
    let w0 = c.unmixed_column.result in
    let w1 = c.unmixed_column-2.result in
    let w2 = c.unmixed_column-3.result in
    let w3 = c.unmixed_column-4.result in
    (λ t. bytes_at (xor_comm (k i) w0 t ∷ xor_comm (k (i + 1)) w1 t ∷ xor_comm (k (i + 2)) w2 t ∷ xor_comm (k (i + 3)) w3 t ∷ []) 0)
    ∙ unround_bytes_at c.args.s c.args.us.now ws i w0 w1 w2 w3 (k i) (k (i + 1)) (k (i + 2)) (k (i + 3))
    c.requires un c.unmixed_column.ensures c.unmixed_column-2.ensures c.unmixed_column-3.ensures c.unmixed_column-4.ensures refl refl refl refl
