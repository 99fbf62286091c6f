-- The content of a file by the relation is that by the format of the mount.
use Rattle.std.proofs.Common.{◌≡◌, ◌↔◌, ltb, ℕ, zero, suc, ◌+◌, ◌-◌, ◌*◌, ◌%◌, ◌<◌, ◌≤◌, List, [], ◌∷◌, ◌++◌, length, take, drop, Result, Ok, Err, refl, sym, ap, subst, ◌∙◌, inl, inr, length-append, length-take, length-drop, arith}
use Rattle.std.proofs.lemmas.Bool.{cases_Bool, cases_lt, ltb-false}
use Rattle.std.proofs.lemmas.List.{take_all, drop-append-le, take-append-le}
use Rattle.std.proofs.Math.Seq.{drop-append_seam}
use Rattle.octet_model.specs.Octets.{AreOctets}
use Rattle.octet_model.proofs.Octets.{AreOctets-append, AreOctets-take, AreOctets-drop}
use Rattle.answer_model.specs.Answer.{◌>>=◌}
use Rattle.lower_model.specs.declared.meta_place.MetaPlace.{MetaPlace}
use Rattle.cipher_model.specs.Cbc.{IsCbc}
use Rattle.cipher_model.proofs.InverseCipher.{IsBlock-decrypted}
use Rattle.key_model.specs.ExtentIv.{root_iv, extent_iv}
use Rattle.key_model.specs.SignedKey.{SignedKey}
use Rattle.packet_model.specs.declared.cause.BadCause.{BadCause}
use Rattle.packet_model.specs.FileKey.{IsFileKey, Unwraps}
use Rattle.packet_model.specs.PacketSet.{WrappedKey}
use Rattle.packet_model.specs.Metadata.{FileHeader, FileMetadata, data_start, extent_count, needed, with_body, header_at, metadata_in, if_any}
use Rattle.body_model.specs.declared.content.Content.{Content}
use Rattle.body_model.specs.declared.content.Content.TheVariants.{Empty, Good, Bad}
use Rattle.body_model.specs.Format.{joined, decoded, content_by, with_data}
use Rattle.body_model.specs.Format.{extent_at}
use Rattle.content_model.specs.Content.{ArePlain, DecodesTo, IsGoodContent, IsContentBy}
use Rattle.content_model.specs.Extents.{plain_extent, unwrapped_key}
use Rattle.content_model.specs.Ecryptfs.{EcryptfsMount, opened_of, ecryptfs}
use Rattle.content_model.proofs.OneContent.{same_extents}
use Rattle.content_model.proofs.Extents.{AreOctets-plain_extent, IsCbc-plain_extent, length-plain_extent, plain_extent_is, unwrapped_is, unwraps}
use Rattle.content_model.proofs.WrappedKeys.{IsWrappedBy, wrapped_by}

-- ---- lists of one length, one behind another

length-joined : (f : ℕ → List ℕ) (count : ℕ) → ((n : ℕ) → n < count → length (f n) ≡ 4096) → length (joined f count) ≡ 4096 * count
length-joined f zero each = refl
length-joined f (suc n) each =
    let front : length (joined f n) ≡ 4096 * n = length-joined f n (λ k lt. each k (omega arith)) in
    let last : length (f n) ≡ 4096 = each n (omega arith) in
    omega (arith, length-append (joined f n) (f n))

AreOctets-joined : (f : ℕ → List ℕ) (count : ℕ) → ((n : ℕ) → n < count → AreOctets (f n)) → AreOctets (joined f count)
AreOctets-joined f zero each = tt
AreOctets-joined f (suc n) each = AreOctets-append (joined f n) (f n) (AreOctets-joined f n (λ k lt. each k (omega arith))) (each n (omega arith))

in_front : (xs ys : List ℕ) (at k : ℕ) → at + k ≤ length xs → take k (drop at (xs ++ ys)) ≡ take k (drop at xs)
in_front xs ys at k le =
    let room : k ≤ length (drop at xs) = omega (arith, length-drop at xs) in
    ap (λ (zs : List ℕ). take k zs) (drop-append-le at xs ys (omega arith)) ∙ take-append-le k (drop at xs) ys room

at_end : (xs ys : List ℕ) (at k : ℕ) → at ≡ length xs → length ys ≡ k → take k (drop at (xs ++ ys)) ≡ ys
at_end xs ys at k is long =
    ap (λ (n : ℕ). take k (drop n (xs ++ ys))) is ∙ ap (λ (zs : List ℕ). take k zs) (drop-append_seam xs ys) ∙ take_all k ys (omega arith)

extent-joined : (f : ℕ → List ℕ) (count n : ℕ) → ((k : ℕ) → k < count → length (f k) ≡ 4096) → n < count → extent_at 0 (joined f count) n ≡ f n
extent-joined f zero n each lt = absurd (omega arith)
extent-joined f (suc m) n each lt =
    let front : length (joined f m) ≡ 4096 * m = length-joined f m (λ k below. each k (omega arith)) in
    let last : length (f m) ≡ 4096 = each m (omega arith) in
    let size : 0 + 4096 * n + 4096 - (0 + 4096 * n) ≡ 4096 = omega arith in
    elim (cases_lt n m) [
      | inl below ↦ in_front (joined f m) (f m) (0 + 4096 * n) (0 + 4096 * n + 4096 - (0 + 4096 * n)) (omega arith) ∙ extent-joined f m n (λ k lt. each k (omega arith)) below
      | inr past ↦
          let same : m ≡ n = omega arith in
          at_end (joined f m) (f m) (0 + 4096 * n) (0 + 4096 * n + 4096 - (0 + 4096 * n)) (omega arith) (omega arith) ∙ ap f same
    ]

-- ---- a file that is opened

AreOctets-extent_at : (start : ℕ) (body : List ℕ) (n : ℕ) → AreOctets body → AreOctets (extent_at start body n)
AreOctets-extent_at start body n fits = AreOctets-take (start + 4096 * n + 4096 - (start + 4096 * n)) (drop (start + 4096 * n) body) (AreOctets-drop (start + 4096 * n) body fits)

length-extent_at : (start : ℕ) (body : List ℕ) (n count : ℕ) → n < count → start + 4096 * count ≤ length body → length (extent_at start body n) ≡ 4096
length-extent_at start body n count lt le =
    omega (arith, length-take (start + 4096 * n + 4096 - (start + 4096 * n)) (drop (start + 4096 * n) body), length-drop (start + 4096 * n) body)

-- the plain text of the extents of a body
abbrev plain_of : List ℕ → ℕ → List ℕ → ℕ → List ℕ
plain_of key start body n = plain_extent key n (extent_at start body n)

length-plain_of : (key : List ℕ) (start : ℕ) (body : List ℕ) (count : ℕ) → start + 4096 * count ≤ length body → (n : ℕ) → n < count → length (plain_of key start body n) ≡ 4096
length-plain_of key start body count le n lt =
    let long : length (extent_at start body n) ≡ 4096 = length-extent_at start body n count lt le in
    length-plain_extent key n (extent_at start body n) (ap (λ (k : ℕ). k % 16) long) ∙ long

ArePlain-joined : (key : List ℕ) (start count : ℕ) (body : List ℕ) → AreOctets body → start + 4096 * count ≤ length body → ArePlain key start count body (joined (plain_of key start body) count)
ArePlain-joined key start count body fits le =
    let f : ℕ → List ℕ = plain_of key start body in
    let each : (n : ℕ) → n < count → length (f n) ≡ 4096 = length-plain_of key start body count le in
    record {
      octets = AreOctets-joined f count (λ n lt. AreOctets-plain_extent key n (extent_at start body n) (AreOctets-extent_at start body n fits));
      whole = length-joined f count each;
      extents = λ n lt.
          subst (λ (p : List ℕ). IsCbc key (extent_iv (root_iv key) n) p (extent_at start body n)) (sym (extent-joined f count n each lt))
          (IsCbc-plain_extent key n (extent_at start body n) (AreOctets-extent_at start body n fits) (ap (λ (k : ℕ). k % 16) (length-extent_at start body n count lt le)));
    }

plain_is : (key : List ℕ) (start count : ℕ) (body plain : List ℕ) → AreOctets body → start + 4096 * count ≤ length body → ArePlain key start count body plain → plain ≡ joined (plain_of key start body) count
plain_is key start count body plain fits le is =
    let f : ℕ → List ℕ = plain_of key start body in
    let each : (n : ℕ) → n < count → length (f n) ≡ 4096 = length-plain_of key start body count le in
    same_extents count plain (joined f count) is.whole (length-joined f count each) (λ n lt.
    sym (plain_extent_is key n (extent_at 0 plain n) (extent_at start body n) (AreOctets-extent_at start body n fits) (AreOctets-extent_at 0 plain n is.octets) (is.extents n lt))
    ∙ sym (extent-joined f count n each lt))

-- ---- the file key under a ring of one key

pub key_is : (own : SignedKey) (wrapped : WrappedKey) (key : List ℕ) → IsWrappedBy own.signature wrapped → AreOctets key → Unwraps (own ∷ []) wrapped key → key ≡ unwrapped_key own.key wrapped.wrapped
key_is own wrapped key by fits is =
    let file_key : IsFileKey own.key wrapped.wrapped key = rw by.ours at is in
    unwrapped_is own.key wrapped.wrapped key by.block.long fits file_key

key_unwraps : (own : SignedKey) (wrapped : WrappedKey) → IsWrappedBy own.signature wrapped → Unwraps (own ∷ []) wrapped (unwrapped_key own.key wrapped.wrapped)
key_unwraps own wrapped by = rw by.ours (unwraps own.key wrapped.wrapped by.block)

-- ---- the content of a file

abbrev metadata_of_header : MetaPlace → FileHeader → FileMetadata
metadata_of_header place header = record { meta_place = place; header = header }

good : {A : Type 0} → A → Result A BadCause
good x = Ok x

good_is : (mount : EcryptfsMount) (place : MetaPlace) (octets body : List ℕ) (header : FileHeader) (c : Content) → IsWrappedBy mount.key.signature header.key → AreOctets body → needed (data_start place header) header ≤ length body
    → IsGoodContent (mount.key ∷ []) (metadata_of_header place header) body c → c ≡ Good (decoded (ecryptfs mount) body (opened_of mount place octets header))
good_is mount place octets body header Empty by fits le is = absurd is
good_is mount place octets body header (Bad cause) by fits le is = absurd is
good_is mount place octets body header (Good xs) by fits le is =
    let key : is.key ≡ unwrapped_key mount.key.key header.key.wrapped = key_is mount.key header.key is.key by is.key_octets is.unwrapped in
    let under : ArePlain (unwrapped_key mount.key.key header.key.wrapped) (data_start place header) (extent_count header.size) body is.plain =
    subst (λ (k : List ℕ). ArePlain k (data_start place header) (extent_count header.size) body is.plain) key is.extents in
    ap (λ (zs : List ℕ). Good zs) (is.first
    ∙ ap (λ (p : List ℕ). take header.size p) (plain_is (unwrapped_key mount.key.key header.key.wrapped) (data_start place header) (extent_count header.size) body is.plain fits le under))

is_good : (mount : EcryptfsMount) (place : MetaPlace) (octets body : List ℕ) (header : FileHeader) → IsWrappedBy mount.key.signature header.key → AreOctets body → needed (data_start place header) header ≤ length body
    → DecodesTo (mount.key ∷ []) (metadata_of_header place header) body (decoded (ecryptfs mount) body (opened_of mount place octets header))
is_good mount place octets body header by fits le =
    let key : List ℕ = unwrapped_key mount.key.key header.key.wrapped in
    let count : ℕ = extent_count header.size in
    record {
      key = key;
      plain = joined (plain_of key (data_start place header) body) count;
      key_octets = (IsBlock-decrypted (take 16 mount.key.key) header.key.wrapped by.block).bytes;
      unwrapped = key_unwraps mount.key header.key by;
      extents = ArePlain-joined key (data_start place header) count body fits le;
      first = refl;
    }

-- where the metadata has no fault
opened_is : (mount : EcryptfsMount) (place : MetaPlace) (octets body : List ℕ) (header : FileHeader) (c : Content) → IsWrappedBy mount.key.signature header.key → AreOctets body
    → IsContentBy (mount.key ∷ []) (if_any (with_body place body header)) body c ↔ (c ≡ content_by (ecryptfs mount) body (with_data (length body) (opened_of mount place octets header)))
opened_is mount place octets body header c by fits =
    elim (cases_Bool (ltb (length body) (needed (data_start place header) header))) [
      | inl t ↦ rw t ((λ e. e), (λ e. e))
      | inr f ↦
          let le : needed (data_start place header) header ≤ length body = ltb-false (length body) (needed (data_start place header) header) f in
          rw f (
            good_is mount place octets body header c by fits le,
            (λ e. subst (λ (x : Content). IsGoodContent (mount.key ∷ []) (metadata_of_header place header) body x) (sym e) (is_good mount place octets body header by fits le)),
          )
    ]

read_is : (mount : EcryptfsMount) (place : MetaPlace) (octets body : List ℕ) (read : Result FileHeader BadCause) (c : Content) → ((header : FileHeader) → read ≡ Ok header → IsWrappedBy mount.key.signature header.key) → AreOctets body
    → IsContentBy (mount.key ∷ []) (if_any (read >>= with_body place body)) body c ↔ (c ≡ content_by (ecryptfs mount) body ((read >>= λ header. Ok (opened_of mount place octets header)) >>= with_data (length body)))
read_is mount place octets body (Err cause) c by fits = ((λ e. e), (λ e. e))
read_is mount place octets body (Ok header) c by fits = opened_is mount place octets body header c (by header refl) fits

-- the content of a file whose metadata stands in these octets
pub content_in : (mount : EcryptfsMount) (place : MetaPlace) (octets body : List ℕ) (c : Content) → AreOctets octets → AreOctets body
    → IsContentBy (mount.key ∷ []) (if_any (metadata_in place (mount.key.signature ∷ []) octets body)) body c
    ↔ (c ≡ content_by (ecryptfs mount) body ((ecryptfs mount).reads place octets >>= with_data (length body)))
content_in mount place octets body c written fits =
    read_is mount place octets body (header_at place (mount.key.signature ∷ []) octets) c (λ header e. wrapped_by place mount.key.signature octets header written e) fits
