-- The set of packets in metadata: pairs of a tag 3 packet and a tag 11 packet right behind it, up to the octet that begins no pair. The causes stand in the order of their tests; an offset is that of an octet in the metadata.
use Rattle.std.specs.Prelude.{ℕ, zero, suc, ◌≡◌, ◌+◌, Bool, false, List, [], ◌∷◌, ◌++◌, length, drop, Option, Some, None, Result, Ok, Err, ◌==◌, ◌&&◌, ◌||◌, if◌then◌else◌, IsSome}
use Rattle.std.specs.List.{find, list_any}
use Rattle.std.specs.Str.{bytes_eq}
use Rattle.answer_model.specs.Answer.{◌>>=◌}
use Rattle.packet_model.specs.declared.cause.BadCause.{BadCause}
use Rattle.packet_model.specs.declared.cause.BadCause.TheVariants.{NoPacket, Tag1, Packet, WrongKey, Cipher}
use Rattle.packet_model.specs.declared.layout.TheConstants.{AES_128, SET_OFFSET}
use Rattle.packet_model.specs.declared.packet.Pair.{Pair}
use Rattle.packet_model.specs.declared.tag.TheConstants.{TAG1, TAG3, TAG11}
use Rattle.packet_model.specs.Packet.{tag3, tag11, IsTag3, IsTag11, Skipped}
use Rattle.packet_model.specs.FrontPacket.{tag3_at, tag11_at}

-- whether a pair, or a packet in its place, begins here; else the set ends here
abbrev pub begins_pair : List ℕ → Bool
begins_pair [] = false
begins_pair (first ∷ rest) = (first == TAG3) || (first == TAG11) || (first == TAG1)

-- whether a tag 1 packet begins here (cf. RFC 2440, 5.1); its first octet is eCryptfs's own
abbrev pub begins_tag1 : List ℕ → Bool
begins_tag1 [] = false
begins_tag1 (first ∷ rest) = first == TAG1

-- the packet that stands at this offset, or it can't be read
abbrev pub at_offset : {A : Type 0} → ℕ → Option A → Result A BadCause
at_offset offset None = Err (Packet offset)
at_offset offset (Some x) = Ok x

-- the pair at this offset, and how many octets it has
unfoldable pub pair_at : ℕ → List ℕ → Result (Pair × ℕ) BadCause
pair_at offset octets = if begins_tag1 octets then Err (Tag1 offset) else do
  key ← at_offset offset (tag3_at octets)
  signature ← at_offset (offset + key.1) (tag11_at (drop key.1 octets))
  Ok (record { tag3 = key.0; tag11 = signature.0 }, key.1 + signature.1)

-- the pairs from this offset on, at most so many, or the first fault
unfoldable pub pairs_at : ℕ → ℕ → List ℕ → Result (List Pair) BadCause
pairs_at zero offset octets = Ok []
pairs_at (suc most) offset octets = if begins_pair octets then (do
  first ← pair_at offset octets
  others ← pairs_at most (offset + first.1) (drop first.1 octets)
  Ok (first.0 ∷ others))
    else Ok []

-- all pairs from this offset on, of which there are fewer than octets
abbrev pub pairs_from : ℕ → List ℕ → Result (List Pair) BadCause
pairs_from offset octets = pairs_at (length octets) offset octets

-- these octets are the pairs one behind another, and the set ends behind them
abbrev pub IsSet : List Pair → List ℕ → Type 0
IsSet [] octets = begins_pair octets ≡ false
IsSet (p ∷ pairs) octets = (skipped : Skipped) × (rest : List ℕ) × IsTag3 p.tag3 × IsTag11 skipped p.tag11
    × (octets ≡ tag3 p.tag3 ++ (tag11 skipped p.tag11 ++ rest)) × IsSet pairs rest

-- reading a set takes memory where it begins with a tag 3 packet: for the wrapped key
abbrev pub SetTakesMemory : List ℕ → Type 0
SetTakesMemory octets = IsSome (tag3_at octets)

-- ---- the key of a set, for the signatures that are ours

-- A wrapped key, and the signature of the key that wraps it.
pub record WrappedKey : Type 0 where
  pub signature : List ℕ
  pub cipher : ℕ
  pub wrapped : List ℕ

abbrev pub is_among : List ℕ → List (List ℕ) → Bool
is_among signature ours = list_any (λ s. bytes_eq s signature) ours

abbrev pub first_or_none : List (List ℕ) → List ℕ
first_or_none [] = []
first_or_none (s ∷ rest) = s

abbrev pub first_signature : List Pair → List ℕ
first_signature [] = []
first_signature (p ∷ pairs) = p.tag11.signature

-- whether a file can have this cipher and a wrapped key of so many octets: AES-128 with 16
abbrev pub is_usable : ℕ → ℕ → Bool
is_usable cipher n = (cipher == AES_128) && (n == 16)

abbrev pub usable_key : Pair → Result WrappedKey BadCause
usable_key p = if is_usable p.tag3.cipher (length p.tag3.wrapped)
    then Ok (record { signature = p.tag11.signature; cipher = p.tag3.cipher; wrapped = p.tag3.wrapped })
    else Err (Cipher p.tag3.cipher)

abbrev pub key_if_found : List ℕ → List ℕ → Option Pair → Result WrappedKey BadCause
key_if_found theirs ours None = Err (WrongKey theirs ours)
key_if_found theirs ours (Some p) = usable_key p

-- the key of the first pair with a signature of ours
abbrev pub key_among : List (List ℕ) → List Pair → Result WrappedKey BadCause
key_among ours pairs = key_if_found (first_signature pairs) (first_or_none ours) (find (λ p. is_among p.tag11.signature ours) pairs)

-- the whole set is read before a key is looked for
unfoldable pub key_at : List (List ℕ) → List ℕ → Result WrappedKey BadCause
key_at ours octets = if begins_pair octets then (pairs_from SET_OFFSET octets >>= key_among ours) else Err NoPacket
