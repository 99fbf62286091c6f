-- eCryptfs is a format of bodies, and the content by the format is that by the relation.
use Rattle.std.proofs.Common.{◌≡◌, ◌↔◌, ℕ, zero, suc, ◌+◌, ◌-◌, ◌*◌, ◌%◌, ◌<◌, ◌≤◌, ◌^◌, Bool, true, false, ltb, leb, List, [], ◌∷◌, ◌++◌, length, take, replicate, Option, Some, None, Result, Ok, refl, sym, ap, subst, ◌∙◌, inl, inr, length-append, append-nil, arith}
use Rattle.std.specs.Prelude.{IsTrue, IfSome, bit_xor, not}
use Rattle.std.specs.Str.{bytes_eq}
use Rattle.std.specs.Int.{w16, w32, w64, to_be_bytes, to_le_bytes}
use Rattle.std.proofs.lemmas.Bool.{cases_Bool, and_parts, leb-true, lt-ltb, ltb-false}
use Rattle.std.proofs.lemmas.Slice.Eq.{bytes_eq-Decides}
use Rattle.octet_model.specs.Octets.{AreOctets}
use Rattle.octet_model.proofs.Octets.{AreOctets-append, AreOctets-be_32}
use Rattle.answer_model.specs.Answer.{◌>>=◌}
use Rattle.answer_model.proofs.Binds.{bind_ok, ok_is}
use Rattle.lower_model.specs.declared.meta_place.MetaPlace.{MetaPlace}
use Rattle.lower_model.specs.declared.meta_place.MetaPlace.TheVariants.{Header, Attribute}
use Rattle.cipher_model.specs.Aes.{IsBlock}
use Rattle.cipher_model.proofs.InverseCipher.{IsBlock-encrypted}
use Rattle.rand_chacha.specs.Block.{block_word}
use Rattle.key_model.specs.FileKey.{file_key, file_mark, stream_word, aes128_words}
use Rattle.packet_model.specs.declared.cause.BadCause.{BadCause}
use Rattle.packet_model.specs.declared.cause.BadCause.TheVariants.{Short}
use Rattle.packet_model.specs.declared.layout.TheConstants.{ENCRYPTED_FLAG, HMAC_FLAG, MARKER, MAX_SIZE}
use Rattle.packet_model.specs.declared.tag.TheConstants.{TAG3, TAG11}
use Rattle.packet_model.specs.Length.{length_octets}
use Rattle.packet_model.specs.Packet.{packet, tag11_body, console}
use Rattle.packet_model.specs.PacketSet.{is_among, key_at}
use Rattle.packet_model.specs.Metadata.{FileHeader, NewHeader, data_start, fields_fault, fixed_part, has_flag, header_at, header_with, is_meta_size, new_metadata, new_pair, packets_in}
use Rattle.packet_model.proofs.Headers.{unless_ok}
use Rattle.file_header.specs.NewMetadata.{IsNewHeader, header_of}
use Rattle.file_header.proofs.NewMetadata.{attribute_again, header_again, lengths, size_again_read}
use Rattle.xattr_meta.proofs.Bounds.{good_header}
use Rattle.xattr_meta.proofs.Head.{first_octets}
use Rattle.body_model.specs.declared.opened.Opened.{Opened}
use Rattle.body_model.specs.Format.{IsDataStart, IsExtent, IsFormat, IsNew, IsRead, content, content_by, kept_of, read_of, with_data, with_size}
use Rattle.content_model.specs.Extents.{plain_extent, wrapped_key}
use Rattle.content_model.specs.Ecryptfs.{EcryptfsMount, IsMount, ecryptfs, file_read, header_for, names_flag, new_key, new_opened, new_start, opened_of, place_flag}
use Rattle.content_model.proofs.Extents.{AreOctets-plain_extent, length-plain_extent, one_extent, unwrapped-wrapped}
use Rattle.format_laws.proofs.EightOctets.{octets_by_test}
use Rattle.content_model.proofs.FormatContent.{content_in}
use Rattle.content_model.specs.Content.{IsContent}
use Rattle.body_model.specs.declared.content.Content.{Content}
use Rattle.body_model.specs.LowerFile.{LowerFile, IsOfOctets}

-- ---- extents

extent_is : (key : List ℕ) (n : ℕ) (extent : List ℕ) → IsExtent extent → IsExtent (plain_extent key n extent)
extent_is key n extent is = record {
  long = length-plain_extent key n extent (ap (λ (k : ℕ). k % 16) is.long) ∙ is.long;
  octets = AreOctets-plain_extent key n extent is.octets;
}

one_is : (key : List ℕ) (n : ℕ) (a b : List ℕ) → IsExtent a → IsExtent b → plain_extent key n a ≡ plain_extent key n b → a ≡ b
one_is key n a b ha hb e = one_extent key n a b ha.octets hb.octets (ap (λ (k : ℕ). k % 16) ha.long) (ap (λ (k : ℕ). k % 16) hb.long) e

-- ---- metadata that is read

abbrev ok : {A : Type 0} → A → Result A BadCause
ok x = Ok x

enough : (place : MetaPlace) (ours : List (List ℕ)) (octets : List ℕ) (header : FileHeader) → header_at place ours octets ≡ Ok header → 26 ≤ length octets
unfolding header_at fields_fault
enough place ours octets header e =
    let fields = unless_ok (fields_fault place octets) (key_at ours (packets_in octets) >>= header_with octets) header e in
    elim (cases_Bool (ltb (length octets) 26)) [
      | inl t ↦ absurd (let g : Some (Short (length octets)) ≡ None = rw t at fields.0 in cc)
      | inr f ↦ ltb-false (length octets) 26 f
    ]

start_is : (place : MetaPlace) (header : FileHeader) → is_meta_size place header.meta_size ≡ true → IsDataStart place (data_start place header)
start_is Header header is =
    let parts = and_parts _ (leb header.meta_size 1048576) is in
    let bounds = and_parts _ (leb 8192 header.meta_size) parts.0 in
    let least : 8192 ≤ header.meta_size = leb-true 8192 header.meta_size bounds.1 in
    (omega arith, leb-true header.meta_size 1048576 parts.1)
start_is Attribute header is = refl

read_is : (mount : EcryptfsMount) (place : MetaPlace) (octets : List ℕ) (o : Opened (List ℕ)) → file_read mount place octets ≡ Ok o → IsRead place octets o
read_is mount place octets o e =
    let read = bind_ok (header_at place (mount.key.signature ∷ []) octets) (λ header. Ok (opened_of mount place octets header)) o e in
    let bounds = good_header place (mount.key.signature ∷ []) octets read.0 read.1 in
    subst (λ (x : Opened (List ℕ)). IsRead place octets x) (ok_is (opened_of mount place octets read.0) o read.2) (record {
      size = bounds.size;
      place_is = refl;
      start = start_is place read.0 bounds.meta_size;
      kept = refl;
      enough = enough place (mount.key.signature ∷ []) octets read.0 read.1;
    })

-- another size leaves the start of the data
sized_as : (mount : EcryptfsMount) (place : MetaPlace) (octets sized : List ℕ) (header : FileHeader) (size : ℕ)
    → opened_of mount place sized (record header { size = size }) ≡ record (opened_of mount place octets header) { size = size; metadata = kept_of place sized }
sized_as mount Header octets sized header size = refl
sized_as mount Attribute octets sized header size = refl

resized_is : (mount : EcryptfsMount) (place : MetaPlace) (octets : List ℕ) (o : Opened (List ℕ)) (size : ℕ) → file_read mount place octets ≡ Ok o → size ≤ MAX_SIZE
    → file_read mount place (with_size size octets) ≡ Ok (record o { size = size; metadata = kept_of place (with_size size octets) })
resized_is mount place octets o size e le =
    let ours : List (List ℕ) = mount.key.signature ∷ [] in
    let sized : List ℕ = with_size size octets in
    let read = bind_ok (header_at place ours octets) (λ header. Ok (opened_of mount place octets header)) o e in
    let again : header_at place ours sized ≡ Ok (record read.0 { size = size }) = size_again_read place ours octets read.0 size le read.1 in
    ap (λ (r : Result FileHeader BadCause). r >>= λ header. Ok (opened_of mount place sized header)) again
    ∙ ap (λ (x : Opened (List ℕ)). ok x) (sized_as mount place octets sized read.0 size
    ∙ ap (λ (x : Opened (List ℕ)). record x { size = size; metadata = kept_of place sized }) (ok_is (opened_of mount place octets read.0) o read.2))

-- ---- new metadata

word_octets : (n : ℕ) → AreOctets (to_le_bytes w32 n)
word_octets n = (omega arith, (omega arith, (omega arith, (omega arith, tt))))

long_octets : (n : ℕ) → AreOctets (to_be_bytes w64 n)
long_octets n = (omega arith, (omega arith, (omega arith, (omega arith, (omega arith, (omega arith, (omega arith, (omega arith, tt))))))))

IsBlock-file_key : (random : List ℕ) (node : ℕ) → IsBlock (file_key random node aes128_words)
unfolding file_key
IsBlock-file_key random node =
    let w : ℕ → List ℕ = λ i. to_le_bytes w32 (stream_word random node i) in
    let each : (i : ℕ) → AreOctets (w i) = λ i. word_octets (stream_word random node i) in
    record {
      long = refl;
      bytes = AreOctets-append ((w 0 ++ w 1) ++ w 2) (w 3) (AreOctets-append (w 0 ++ w 1) (w 2) (AreOctets-append (w 0) (w 1) (each 0) (each 1)) (each 2)) (each 3);
    }

mark_below : (random : List ℕ) (node : ℕ) → file_mark random node aes128_words < 2 ^ 32
unfolding block_word
mark_below random node = omega arith

pub record HasFlags (flags : ℕ) : Type 0 where
  pub below : flags < 2 ^ 24
  pub encrypted : IsTrue (has_flag ENCRYPTED_FLAG flags)
  pub no_hmac : IsTrue (not (has_flag HMAC_FLAG flags))

pub flags_are : (place : MetaPlace) (coded : Bool) → HasFlags (ENCRYPTED_FLAG + place_flag place + names_flag coded)
flags_are Header true = record { below = omega arith; encrypted = refl; no_hmac = refl }
flags_are Header false = record { below = omega arith; encrypted = refl; no_hmac = refl }
flags_are Attribute true = record { below = omega arith; encrypted = refl; no_hmac = refl }
flags_are Attribute false = record { below = omega arith; encrypted = refl; no_hmac = refl }

IsBlock-wrapped : (mount : EcryptfsMount) (node : ℕ) → IsBlock (wrapped_key mount.key.key (new_key mount node))
IsBlock-wrapped mount node = IsBlock-encrypted (take 16 mount.key.key) (new_key mount node) (IsBlock-file_key mount.random node)

is_new : (mount : EcryptfsMount) (node : ℕ) → IsMount mount → IsNewHeader (header_for mount node)
is_new mount node is =
    let flags = flags_are mount.meta_place mount.names_coded in
    let block = IsBlock-wrapped mount node in
    record {
      size = omega arith;
      mark = mark_below mount.random node;
      flags = flags.below;
      encrypted = flags.encrypted;
      no_hmac = flags.no_hmac;
      salt = is.salt.length_is;
      usable = rw block.long refl;
      signature = is.signature.length_is;
    }

-- ---- the octets of new metadata

packet_octets : (tag : ℕ) (body : List ℕ) → tag < 256 → length body < 192 → AreOctets body → AreOctets (packet tag body)
packet_octets tag body small short fits =
    let size : AreOctets (length_octets (length body)) = rw (lt-ltb (length body) 192 short) (omega arith, tt) in
    (small, AreOctets-append (length_octets (length body)) body size fits)

pair_octets : (mount : EcryptfsMount) (node : ℕ) → IsMount mount → AreOctets (new_pair (header_for mount node))
pair_octets mount node is =
    let block = IsBlock-wrapped mount node in
    let wrapped : List ℕ = wrapped_key mount.key.key (new_key mount node) in
    let key_body : List ℕ = 4 ∷ 7 ∷ 3 ∷ 1 ∷ (mount.salt ++ 0x60 ∷ wrapped) in
    let tag3_octets : AreOctets key_body =
    (omega arith, (omega arith, (omega arith, (omega arith, AreOctets-append mount.salt (0x60 ∷ wrapped) is.salt.octets (omega arith, block.bytes))))) in
    let signature_body : List ℕ = tag11_body console (record { signature = mount.key.signature }) in
    let skipped : List ℕ = tag11_body console (record { signature = [] }) in
    let tag11_octets : AreOctets signature_body = AreOctets-append skipped mount.key.signature (octets_by_test skipped refl) is.signature.octets in
    AreOctets-append (packet TAG3 key_body) (packet TAG11 signature_body)
    (packet_octets TAG3 key_body (omega arith) (omega (arith, length-append mount.salt (0x60 ∷ wrapped), is.salt.length_is, block.long)) tag3_octets)
    (packet_octets TAG11 signature_body (omega arith) (omega (arith, is.signature.length_is)) tag11_octets)

fixed_octets : (new : NewHeader) → AreOctets (fixed_part new)
fixed_octets new =
    let mark : List ℕ = to_be_bytes w32 (bit_xor new.mark MARKER) in
    let flags : List ℕ = to_be_bytes w32 (3 * 2 ^ 24 + new.flags) in
    let extents : List ℕ = to_be_bytes w32 4096 ++ to_be_bytes w16 2 in
    let last : AreOctets (flags ++ extents) = AreOctets-append flags extents (AreOctets-be_32 (3 * 2 ^ 24 + new.flags)) (octets_by_test extents refl) in
    let marks : AreOctets (mark ++ (flags ++ extents)) = AreOctets-append mark (flags ++ extents) (AreOctets-be_32 (bit_xor new.mark MARKER)) last in
    AreOctets-append (to_be_bytes w64 new.size) (to_be_bytes w32 new.mark ++ (mark ++ (flags ++ extents))) (long_octets new.size)
    (AreOctets-append (to_be_bytes w32 new.mark) (mark ++ (flags ++ extents)) (AreOctets-be_32 new.mark) marks)

zeros_octets : (n : ℕ) → AreOctets (replicate n 0)
zeros_octets zero = tt
zeros_octets (suc n) = (omega arith, zeros_octets n)

metadata_octets : (place : MetaPlace) (new : NewHeader) → AreOctets (new_pair new) → AreOctets (new_metadata place new)
metadata_octets Header new pair =
    let zeros : ℕ = 8192 - (26 + length (new_pair new)) in
    AreOctets-append (fixed_part new) (new_pair new ++ replicate zeros 0) (fixed_octets new) (AreOctets-append (new_pair new) (replicate zeros 0) pair (zeros_octets zeros))
metadata_octets Attribute new pair = AreOctets-append (fixed_part new) (new_pair new) (fixed_octets new) pair

-- ---- a new file

sized : (place : MetaPlace) (new : NewHeader) → new.size ≡ 0 → with_size 0 (new_metadata place new) ≡ new_metadata place new
sized Header new is = rw is refl
sized Attribute new is = rw is refl

new_start_is : (place : MetaPlace) → IsDataStart place (new_start place)
new_start_is Header = (omega arith, omega arith)
new_start_is Attribute = refl

fills : (place : MetaPlace) (new : NewHeader) → IsNewHeader new → place ≡ Header → length (new_metadata place new) ≡ new_start place
fills Header new is e = (lengths new is).0
fills Attribute new is e = absurd cc

short : (place : MetaPlace) (new : NewHeader) → IsNewHeader new → length (new_metadata place new) ≤ 65536
short Header new is = omega (arith, (lengths new is).0)
short Attribute new is = omega (arith, (lengths new is).1)

new_is : (mount : EcryptfsMount) → IsMount mount → (node : ℕ) → IsNew (new_opened mount node)
new_is mount is node =
    let new : NewHeader = header_for mount node in
    let good : IsNewHeader new = is_new mount node is in
    record {
      size = refl;
      start = new_start_is mount.meta_place;
      sized = sized mount.meta_place new refl;
      octets = metadata_octets mount.meta_place new (pair_octets mount node is);
      fills = fills mount.meta_place new good;
      short = short mount.meta_place new good;
    }

own_signature : (signature : List ℕ) → is_among signature (signature ∷ []) ≡ true
own_signature signature =
    let same : bytes_eq signature signature ≡ true = (bytes_eq-Decides signature signature).1 refl in
    rw same refl

header_again_read : (place : MetaPlace) (signature : List ℕ) (new : NewHeader) → IsNewHeader new → IsTrue (is_among new.key.signature (signature ∷ []))
    → header_at place (signature ∷ []) (read_of place (new_metadata place new)) ≡ ok (header_of new)
header_again_read Header signature new is own =
    first_octets Header (signature ∷ []) (new_metadata Header new)
    ∙ ap (header_at Header (signature ∷ [])) (sym (append-nil (new_metadata Header new))) ∙ header_again new (signature ∷ []) [] is own
header_again_read Attribute signature new is own = attribute_again new (signature ∷ []) is own

start_of_new : (place : MetaPlace) (new : NewHeader) → data_start place (header_of new) ≡ new_start place
start_of_new Header new = refl
start_of_new Attribute new = refl

kept_of_read : (place : MetaPlace) (octets : List ℕ) → kept_of place (read_of place octets) ≡ kept_of place octets
kept_of_read Header octets = refl
kept_of_read Attribute octets = refl

new_read_is : (mount : EcryptfsMount) → IsMount mount → (node : ℕ) → file_read mount mount.meta_place (read_of mount.meta_place (new_opened mount node).metadata)
    ≡ Ok (record (new_opened mount node) { metadata = kept_of mount.meta_place (new_opened mount node).metadata })
new_read_is mount is node =
    let place : MetaPlace = mount.meta_place in
    let new : NewHeader = header_for mount node in
    let octets : List ℕ = read_of place (new_metadata place new) in
    let again = header_again_read place mount.key.signature new (is_new mount node is) (own_signature mount.key.signature) in
    let key = unwrapped-wrapped mount.key.key (new_key mount node) (IsBlock-file_key mount.random node) in
    let start = start_of_new place new in
    let kept = kept_of_read place (new_metadata place new) in
    ap (λ (r : Result FileHeader BadCause). r >>= λ header. Ok (opened_of mount place octets header)) again
    ∙ (λ t. ok (record { key = key t; size = 0; data_start = start t; meta_place = place; metadata = kept t }))

-- eCryptfs keeps the laws of a format
pub ecryptfs_is_format : (mount : EcryptfsMount) → IsMount mount → IsFormat (ecryptfs mount)
ecryptfs_is_format mount is = record {
  extent = extent_is;
  one = one_is;
  read = read_is mount;
  resized = resized_is mount;
  new = new_is mount is;
  new_read = new_read_is mount is;
}

-- ---- one content

at_head : (mount : EcryptfsMount) (body : List ℕ) → file_read mount Header (take 4096 body) ≡ file_read mount Header body
at_head mount body = ap (λ (r : Result FileHeader BadCause). r >>= λ header. Ok (opened_of mount Header [] header)) (first_octets Header (mount.key.signature ∷ []) body)

content_at : (mount : EcryptfsMount) (body : List ℕ) (attribute : Option (List ℕ)) (c : Content) → AreOctets body → IfSome attribute AreOctets
    → IsContent (mount.key ∷ []) body attribute c ↔ (c ≡ content (ecryptfs mount) (record { attribute = attribute; body = body }))
content_at mount body (Some attribute) c fits written = content_in mount Attribute attribute body c written fits
content_at mount [] None c fits written = ((λ e. e), (λ e. e))
content_at mount (first ∷ rest) None c fits written =
    let body : List ℕ = first ∷ rest in
    subst (λ (r : Result (Opened (List ℕ)) BadCause). IsContent (mount.key ∷ []) body None c ↔ (c ≡ content_by (ecryptfs mount) body (r >>= with_data (length body)))) (sym (at_head mount body))
    (content_in mount Header body body c fits fits)

-- The content by the relation is that by the format.
pub content_is : (mount : EcryptfsMount) (file : LowerFile) (c : Content) → IsOfOctets file → IsContent (mount.key ∷ []) file.body file.attribute c ↔ (c ≡ content (ecryptfs mount) file)
content_is mount file c fits = content_at mount file.body file.attribute c fits.0 fits.1
