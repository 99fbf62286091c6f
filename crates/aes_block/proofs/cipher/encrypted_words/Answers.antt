use Rattle.cipher_model.specs.Aes.{bytes_at}
use Rattle.aes_block.proofs.Rounds.{encrypted_is}
use Rattle.aes_block.proofs.cipher.encrypted_words.Goals as goal

pub returns : goal.returns
returns c =
    encrypted_is c.args.ws.now (bytes_at c.args.block 0) (bytes_at c.add_round_key-s0.result 0) (bytes_at c.round_at-s1.result 0) (bytes_at c.round_at-s2.result 0)
    (bytes_at c.round_at-s3.result 0) (bytes_at c.round_at-s4.result 0) (bytes_at c.round_at-s5.result 0) (bytes_at c.round_at-s6.result 0)
    (bytes_at c.round_at-s7.result 0) (bytes_at c.round_at-s8.result 0) (bytes_at c.round_at-s9.result 0) (bytes_at c.last_round_at.result 0)
    c.add_round_key-s0.ensures c.round_at-s1.ensures c.round_at-s2.ensures c.round_at-s3.ensures c.round_at-s4.ensures c.round_at-s5.ensures
    c.round_at-s6.ensures c.round_at-s7.ensures c.round_at-s8.ensures c.round_at-s9.ensures c.last_round_at.ensures
