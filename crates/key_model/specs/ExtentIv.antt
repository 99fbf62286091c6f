-- The IVs of a file's data extents, as Linux's eCryptfs makes them. MD5 is that of RFC 1321; a key, an IV
-- and a message are lists of octets.
use Rattle.std.specs.Prelude.{ℕ, ◌-◌, List, ◌++◌, length, replicate}
use Rattle.std.specs.Fmt.{decimal}
use Rattle.md5.specs.Md5.{md5}

-- a message with zeros behind it, up to n octets
abbrev pub zero_filled : ℕ → List ℕ → List ℕ
zero_filled n m = m ++ replicate (n - length m) 0

-- the root IV: the digest of the file key, whatever the key's length
abbrev pub root_iv : List ℕ → List ℕ
root_iv key = md5 key

-- the IV of an extent: the digest of the root IV and the extent's number in decimal digits, filled up with
-- zeros to 32 octets
abbrev pub extent_iv : List ℕ → ℕ → List ℕ
extent_iv root extent = md5 (zero_filled 32 (root ++ decimal extent))
