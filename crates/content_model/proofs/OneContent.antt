-- A lower file decodes to at most one content, since a cipher text has at most one plain text.
use Rattle.std.proofs.Common.{◌≡◌, ℕ, ◌+◌, ◌-◌, ◌*◌, ◌/◌, ◌%◌, ◌<◌, List, length, take, drop, get_or, Option, Some, None, Result, Ok, Err, sym, ap, subst, ◌∙◌, arith}
use Rattle.std.proofs.lemmas.List.{ext_get_or}
use Rattle.std.proofs.lemmas.List.Edits.{get_or-between}
use Rattle.octet_model.specs.Octets.{AreOctets}
use Rattle.octet_model.proofs.Octets.{AreOctets-take, AreOctets-drop}
use Rattle.cipher_model.proofs.PlainTexts.{cbc-only}
use Rattle.key_model.specs.ExtentIv.{root_iv, extent_iv}
use Rattle.key_model.specs.SignedKey.{SignedKey, signatures}
use Rattle.packet_model.specs.declared.cause.BadCause.{BadCause}
use Rattle.packet_model.specs.Metadata.{FileMetadata, metadata, data_start, extent_count}
use Rattle.packet_model.proofs.FileKeys.{one_unwrapped}
use Rattle.body_model.specs.declared.content.Content.{Content}
use Rattle.body_model.specs.declared.content.Content.TheVariants.{Empty, Good, Bad}
use Rattle.body_model.specs.Format.{extent_at}
use Rattle.content_model.specs.Content.{ArePlain, DecodesTo, IsGoodContent, IsContentBy, IsContent}
use Rattle.content_model.proofs.IvBlocks.{IsBlock-extent_iv}

-- texts of whole extents are one when their extents are
pub same_extents : (count : ℕ) (xs ys : List ℕ) → length xs ≡ 4096 * count → length ys ≡ 4096 * count → ((n : ℕ) → n < count → extent_at 0 xs n ≡ extent_at 0 ys n) → xs ≡ ys
same_extents count xs ys long_xs long_ys same = ext_get_or 0 xs ys (long_xs ∙ sym long_ys) (λ j lt.
    let n : ℕ = j / 4096 in
    let r : ℕ = j % 4096 in
    let at : 0 + 4096 * n + r ≡ j = omega arith in
    let below : n < count = omega arith in
    let inside : 0 + 4096 * n + r < 0 + 4096 * n + 4096 = omega arith in
    ap (λ (k : ℕ). get_or xs k 0) (sym at) ∙ sym (get_or-between xs (0 + 4096 * n) (0 + 4096 * n + 4096) r 0 inside)
    ∙ ap (λ (e : List ℕ). get_or e r 0) (same n below)
    ∙ get_or-between ys (0 + 4096 * n) (0 + 4096 * n + 4096) r 0 inside ∙ ap (λ (k : ℕ). get_or ys k 0) at)

-- a body has at most one plain text under a key
pub one_plain : (key : List ℕ) (start count : ℕ) (body p q : List ℕ) → AreOctets body → ArePlain key start count body p → ArePlain key start count body q → p ≡ q
one_plain key start count body p q fits a b =
    let each : (octets : List ℕ) → AreOctets octets → (from n : ℕ) → AreOctets (extent_at from octets n) =
    λ octets h from n. AreOctets-take (from + 4096 * n + 4096 - (from + 4096 * n)) (drop (from + 4096 * n) octets) (AreOctets-drop (from + 4096 * n) octets h) in
    same_extents count p q a.whole b.whole (λ n lt.
    cbc-only key (extent_iv (root_iv key) n) (extent_at start body n) (extent_at 0 p n) (extent_at 0 q n) (IsBlock-extent_iv (root_iv key) n)
    (each body fits start n) (each p a.octets 0 n) (each q b.octets 0 n) (a.extents n lt) (b.extents n lt))

pub one_decoding : (ring : List SignedKey) (found : FileMetadata) (body xs ys : List ℕ) → AreOctets body → DecodesTo ring found body xs → DecodesTo ring found body ys → xs ≡ ys
one_decoding ring found body xs ys fits a b =
    let start : ℕ = data_start found.meta_place found.header in
    let count : ℕ = extent_count found.header.size in
    let keys : b.key ≡ a.key = one_unwrapped ring found.header.key b.key a.key b.key_octets a.key_octets b.unwrapped a.unwrapped in
    let other : ArePlain a.key start count body b.plain = subst (λ (k : List ℕ). ArePlain k start count body b.plain) keys b.extents in
    let plain : a.plain ≡ b.plain = one_plain a.key start count body a.plain b.plain fits a.extents other in
    a.first ∙ ap (λ (p : List ℕ). take found.header.size p) plain ∙ sym b.first

one_good : (ring : List SignedKey) (found : FileMetadata) (body : List ℕ) (c d : Content) → AreOctets body → IsGoodContent ring found body c → IsGoodContent ring found body d → c ≡ d
one_good ring found body Empty d fits a b = absurd a
one_good ring found body (Bad cause) d fits a b = absurd a
one_good ring found body (Good xs) Empty fits a b = absurd b
one_good ring found body (Good xs) (Bad cause) fits a b = absurd b
one_good ring found body (Good xs) (Good ys) fits a b = ap (λ (z : List ℕ). Good z) (one_decoding ring found body xs ys fits a b)

one_content_by : (ring : List SignedKey) (read : Result (Option FileMetadata) BadCause) (body : List ℕ) (c d : Content) → AreOctets body → IsContentBy ring read body c → IsContentBy ring read body d → c ≡ d
one_content_by ring (Ok None) body c d fits a b = a ∙ sym b
one_content_by ring (Err cause) body c d fits a b = a ∙ sym b
one_content_by ring (Ok (Some found)) body c d fits a b = one_good ring found body c d fits a b

-- a file has one content
pub one_content : (ring : List SignedKey) (body : List ℕ) (attribute : Option (List ℕ)) (c d : Content) → AreOctets body → IsContent ring body attribute c → IsContent ring body attribute d → c ≡ d
one_content ring body attribute c d fits a b = one_content_by ring (metadata (signatures ring) body attribute) body c d fits a b
