-- The values that new metadata can have, and what is read of it.
use Rattle.std.specs.Prelude.{◌≡◌, ◌<◌, ◌≤◌, ◌^◌, length, IsTrue, not}
use Rattle.packet_model.specs.declared.layout.TheConstants.{ENCRYPTED_FLAG, HMAC_FLAG, MAX_SIZE, MIN_META_SIZE}
use Rattle.packet_model.specs.PacketSet.{is_usable}
use Rattle.packet_model.specs.Metadata.{FileHeader, NewHeader, has_flag}

-- a size and flags that are no fault, a free marker, a salt and a signature of 8 octets, and a key that can be used
pub record IsNewHeader (new : NewHeader) : Type 0 where
  pub size : new.size ≤ MAX_SIZE
  pub mark : new.mark < 2 ^ 32
  pub flags : new.flags < 2 ^ 24
  pub encrypted : IsTrue (has_flag ENCRYPTED_FLAG new.flags)
  pub no_hmac : IsTrue (not (has_flag HMAC_FLAG new.flags))
  pub salt : length new.salt ≡ 8
  pub usable : IsTrue (is_usable new.key.cipher (length new.key.wrapped))
  pub signature : length new.key.signature ≡ 8

-- these values, with two header extents
abbrev pub header_of : NewHeader → FileHeader
header_of new = record { size = new.size; mark = new.mark; flags = new.flags; meta_size = MIN_META_SIZE; key = new.key }
