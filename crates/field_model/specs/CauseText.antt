-- How the cause of a bad file is spelled.
use Rattle.std.specs.Prelude.{ℕ, List, [], ◌∷◌, codes}
use Rattle.std.specs.Int.{w32, to_be_bytes}
use Rattle.packet_model.specs.declared.cause.BadCause.{BadCause}
use Rattle.packet_model.specs.declared.cause.BadCause.TheVariants.{Short, Marker, Version, Hmac, NotEncrypted, HeaderSize, NoPacket, Tag1, Packet, WrongKey, Cipher, TooLarge, ShortData}
use Rattle.text_model.specs.Line.{number, hex}

-- eight digits, the high ones first
abbrev pub hex_word : ℕ → List ℕ
hex_word n = hex (to_be_bytes w32 n)

-- a word, and what the cause tells
abbrev pub cause_fields : BadCause → List (List ℕ)
cause_fields (Short have) = codes "short" ∷ number have ∷ []
cause_fields (Marker first second) = codes "marker" ∷ hex_word first ∷ hex_word second ∷ []
cause_fields (Version version) = codes "version" ∷ number version ∷ []
cause_fields Hmac = codes "hmac" ∷ []
cause_fields NotEncrypted = codes "notencrypted" ∷ []
cause_fields (HeaderSize size) = codes "headersize" ∷ number size ∷ []
cause_fields NoPacket = codes "nopacket" ∷ []
cause_fields (Tag1 offset) = codes "tag1" ∷ number offset ∷ []
cause_fields (Packet offset) = codes "packet" ∷ number offset ∷ []
cause_fields (WrongKey theirs ours) = codes "wrongkey" ∷ hex theirs ∷ hex ours ∷ []
cause_fields (Cipher code) = codes "cipher" ∷ number code ∷ []
cause_fields (TooLarge size) = codes "toolarge" ∷ number size ∷ []
cause_fields (ShortData have need) = codes "shortdata" ∷ number have ∷ number need ∷ []
