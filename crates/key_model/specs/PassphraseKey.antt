-- The key-encryption key of a passphrase, and its signature, as ecryptfs-utils makes them. SHA-512 is
-- that of FIPS 180-4, 6.4; a message, a salt and a key are lists of octets.
use Rattle.std.specs.Prelude.{ℕ, zero, suc, List, ◌++◌, take}
use Rattle.sha2.specs.Sha512.{sha512}

-- SHA-512 applied n times, each to the digest before
unfoldable pub iterated_sha512 : ℕ → List ℕ → List ℕ
iterated_sha512 zero m = m
iterated_sha512 (suc n) m = sha512 (iterated_sha512 n m)

-- the key-encryption key: SHA-512 applied 65,536 times, first to the salt followed by the passphrase
abbrev pub passphrase_key : List ℕ → List ℕ → List ℕ
passphrase_key salt passphrase = iterated_sha512 65536 (salt ++ passphrase)

-- a key's signature: the first 8 octets of its digest
abbrev pub key_signature : List ℕ → List ℕ
key_signature key = take 8 (sha512 key)
