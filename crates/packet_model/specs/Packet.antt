-- The octets of packets (RFC 2440, 4.2): tag 3 (5.3), and eCryptfs's own tag 11.
use Rattle.std.specs.Prelude.{ℕ, ◌≡◌, ◌<◌, ◌≤◌, List, [], ◌∷◌, ◌++◌, length}
use Rattle.packet_model.specs.declared.packet.Tag3.{Tag3}
use Rattle.packet_model.specs.declared.packet.Tag11.{Tag11}
use Rattle.packet_model.specs.declared.packet.TheConstants.{MAX_WRAPPED}
use Rattle.packet_model.specs.declared.tag.TheConstants.{TAG3, TAG11}
use Rattle.packet_model.specs.Length.{length_octets}

-- a packet: its tag, the length of its body, and its body (RFC 2440, 4.2)
abbrev pub packet : ℕ → List ℕ → List ℕ
packet tag body = tag ∷ (length_octets (length body) ++ body)

-- version 4, the cipher, an iterated and salted S2K (RFC 2440, 3.6.1.3) by MD5 (9.4) with its salt and count, and the wrapped key
abbrev pub tag3_body : Tag3 → List ℕ
tag3_body p = 4 ∷ p.cipher ∷ 3 ∷ 1 ∷ (p.salt ++ p.count ∷ p.wrapped)

-- a symmetric-key encrypted session key (RFC 2440, 5.3)
abbrev pub tag3 : Tag3 → List ℕ
tag3 p = packet TAG3 (tag3_body p)

pub record IsTag3 (p : Tag3) : Type 0 where
  pub salt : length p.salt ≡ 8
  pub wrapped : length p.wrapped ≤ MAX_WRAPPED

-- The fields of a literal data packet (RFC 2440, 5.9) that are skipped.
pub record Skipped : Type 0 where
  pub format : ℕ
  pub name : List ℕ
  pub date : List ℕ

-- the fields of a literal data packet whose data is a signature
abbrev pub tag11_body : Skipped → Tag11 → List ℕ
tag11_body s p = s.format ∷ length s.name ∷ (s.name ++ (s.date ++ p.signature))

-- a literal data packet under eCryptfs's own number
abbrev pub tag11 : Skipped → Tag11 → List ℕ
tag11 s p = packet TAG11 (tag11_body s p)

pub record IsTag11 (s : Skipped) (p : Tag11) : Type 0 where
  pub name : length s.name < 256
  pub date : length s.date ≡ 4
  pub signature : length p.signature ≡ 8

-- as written: the format b, the name _CONSOLE, and no date
abbrev pub console : Skipped
console = record { format = 0x62; name = 0x5f ∷ 0x43 ∷ 0x4f ∷ 0x4e ∷ 0x53 ∷ 0x4f ∷ 0x4c ∷ 0x45 ∷ []; date = 0 ∷ 0 ∷ 0 ∷ 0 ∷ [] }
