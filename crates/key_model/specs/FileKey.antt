-- The file key and the mark of a new file, drawn from the ChaCha20 stream (RFC 8439, 2.3, with a counter
-- and a nonce of 64 bits each) whose key is the mount's 32 random octets and whose nonce is the number of
-- the file's node.
use Rattle.std.specs.Prelude.{ℕ, zero, suc, List, [], ◌++◌}
use Rattle.std.specs.Int.{w32, to_le_bytes}
use Rattle.rand_chacha.specs.ChaCha.{key_of, word_at}

-- the word with this index of a node's stream; 20 rounds are 10 double rounds
abbrev pub stream_word : List ℕ → ℕ → ℕ → ℕ
stream_word random node index = word_at 10 (key_of random) node index

-- how many words an AES-128 key has (Nk of FIPS 197, 5)
abbrev pub aes128_words : ℕ
aes128_words = 4

-- a node's file key of n words: the first n of its stream, each as four octets with the lowest first
unfoldable pub file_key : List ℕ → ℕ → ℕ → List ℕ
file_key random node zero = []
file_key random node (suc n) = file_key random node n ++ to_le_bytes w32 (stream_word random node n)

-- the mark that goes with a file key of n words: the word behind it
abbrev pub file_mark : List ℕ → ℕ → ℕ → ℕ
file_mark random node n = stream_word random node n
