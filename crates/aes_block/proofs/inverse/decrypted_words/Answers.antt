use Rattle.std.proofs.Common.{◌≡◌, ◌<◌, arith, ◌∙◌}
use Rattle.cipher_model.specs.Aes.{bytes_at, decrypted_with}
use Rattle.aes_block.proofs.InverseRounds.{unrounds_none, unrounds_more}
use Rattle.aes_block.proofs.inverse.decrypted_words.Goals as goal

pub rounds-preserved : goal.rounds-preserved
rounds-preserved c =
    let lt : c.rounds.r < 10 = omega arith in
    unrounds_more c.args.ws.now (bytes_at c.rounds.s 0) (bytes_at c.unround_at-s.result 0) (decrypted_with 10 c.args.ws.now (bytes_at c.args.block 0)) c.rounds.r lt
    c.rounds.invariant (c.unround_at-s.ensures c.args.ws.now c.requires)

pub returns : goal.returns
returns c =
    let ten : c.rounds.r ≡ 10 = omega arith in
    unrounds_none c.args.ws.now (bytes_at c.rounds.s 0) (bytes_at c.last_unround_at.result 0) c.rounds.r ten c.last_unround_at.ensures ∙ c.rounds.invariant
