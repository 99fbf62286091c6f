use Rattle.std.proofs.Common.{◌≡◌, ◌<◌, ℕ, length}
use Rattle.std.specs.Prelude.{slice_index}
use Rattle.aes_block.specs.Words.{unmixed_word}
use Rattle.aes_block.proofs.inverse.unmixed_words.Given as goal

abbrev pub invariant-words : goal.invariant-words
invariant-words l = record {
  so_far : (k : ℕ) → k < l.i → slice_index l.us k ≡ unmixed_word (slice_index l.ws k);
  long : length l.us ≡ 44;
}
