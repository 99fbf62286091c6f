use Rattle.std.proofs.Common.{◌≡◌, ℕ, ◌<◌, get_or}
use Rattle.rand_chacha.specs.ChaCha.{key_of}
use Rattle.key_model.specs.FileKey.{stream_word}
use Rattle.secret_key.proofs.source.KeySource.words.Given as goal

abbrev pub invariant-loop-word : goal.invariant-loop-word
invariant-loop-word l =
    (l.stream ≡ record { key = key_of l.fn.self; stream = l.fn.node; word_pos = l.word-index })
    × ((i : ℕ) → i < l.word-index → get_or l.word-items i 0 ≡ stream_word l.fn.self l.fn.node i)
