-- What is read as a coded name has the form of one, and letters that code octets are the letters of those octets.
use Rattle.std.proofs.Common.{◌≡◌, inl, inr, ℕ, suc, ◌+◌, ◌-◌, ◌*◌, ◌/◌, ◌%◌, ◌<◌, ◌≤◌, Bool, true, false, not, cond, eqb, ltb, leb, ◌&&◌, nat_eq, List, [], ◌∷◌, ◌++◌, length, take, drop, get_or, replicate, slice_index, Some, None, Result, Ok, Err, IsTrue, refl, sym, ap, subst, ◌∙◌, append_assoc, take-append-drop, drop-drop, drop-cons, length-drop, arith}
use Rattle.std.specs.List.{list_all, starts_with, before_first, position_or_len, AllByRecursion}
use Rattle.std.specs.Str.{bytes_eq}
use Rattle.std.proofs.lemmas.Bool.{and_parts, eqb-true, eqb-false, ltb-true, ltb-false, leb-true}
use Rattle.std.proofs.lemmas.Bool.Decides.{Decides-eqb}
use Rattle.std.proofs.lemmas.List.{length-append, length-replicate, length-take}
use Rattle.std.proofs.lemmas.List.Sums.{passes_at_first, split_at_first}
use Rattle.std.proofs.lemmas.Slice.Eq.{bytes_eq-Decides, starts_is}
use Rattle.answer_model.specs.Answer.{◌>>=◌}
use Rattle.answer_model.proofs.Binds.{bind_ok}
use Rattle.octet_model.specs.Octets.{AreOctets}
use Rattle.octet_model.proofs.Octets.{AreOctets-front, AreOctets-back, AreOctets-drop}
use Rattle.names_model.specs.declared.fault.CodingFault.{CodingFault}
use Rattle.names_model.specs.declared.fault.NameFault.{NameFault}
use Rattle.names_model.specs.declared.fault.NameFault.TheVariants.{Coding, Size, Tag, WrongKey, Cipher, Lead}
use Rattle.key_model.specs.SignedKey.{SignedKey}
use Rattle.packet_model.specs.declared.length.LengthFault.{LengthFault}
use Rattle.packet_model.specs.declared.layout.TheConstants.{AES_128}
use Rattle.packet_model.specs.declared.length.TheConstants.{MAX_LENGTH}
use Rattle.packet_model.specs.Length.{length_octets, length_at}
use Rattle.packet_model.specs.Packet.{packet}
use Rattle.packet_model.proofs.Found.{chosen}
use Rattle.packet_model.proofs.Lengths.{length_takes}
use Rattle.coding_model.specs.declared.constants.TheConstants.{PREFIX, TAG70, LEAST_LEAD}
use Rattle.coding_model.specs.NameCoding.{letter, letter_value, missing, coded, octets_of, decoded, AreLetters}
use Rattle.coding_model.specs.CodedName.{name_cipher_key, ecb_encrypted, ecb_decrypted, tag70_body, coded_name, octets_coded, is_body_length, are_zero_bits, is_sized, body_behind, body_of, cipher_of, some_octets, behind_zero, behind_lead, packet_octets, lower_octets}
use Rattle.coding_model.specs.IsCodedName.{IsCodedName}
use Rattle.coding_model.proofs.Groups.{coded_group, octets_group}
use Rattle.coding_model.proofs.Decoding.{AreCoded, are_coded, Codes, codes_of_decoded}
use Rattle.coding_model.proofs.EcbTexts.{length-ecb_decrypted, AreOctets-ecb_decrypted, encrypted-decrypted_text}
use Rattle.coding_model.proofs.CodedNames.{letter-letter_value}

-- ---- letters

-- octets that letters code
record AreRead (letters octets : List ℕ) : Type 0 where
  whole : length octets % 3 ≡ 0
  fits : AreOctets octets
  back : coded octets ≡ letters

none_read : AreRead [] (octets_of [])
unfolding coded octets_of
none_read = record { whole = refl; fits = tt; back = refl }

group_read : (a b c d : ℕ) (rest : List ℕ) → letter_value a < 64 → letter_value b < 64 → letter_value c < 64 → letter_value d < 64 → AreRead rest (octets_of rest) → AreRead (a ∷ b ∷ c ∷ d ∷ rest) (octets_of (a ∷ b ∷ c ∷ d ∷ rest))
group_read a b c d rest ha hb hc hd h =
    let u : ℕ = letter_value a in
    let v : ℕ = letter_value b in
    let w : ℕ = letter_value c in
    let x : ℕ = letter_value d in
    let first : (u * 4 + v / 16) / 4 ≡ u = omega arith in
    let second : (u * 4 + v / 16) % 4 * 16 + (v % 16 * 16 + w / 4) / 16 ≡ v = omega arith in
    let third : (v % 16 * 16 + w / 4) % 16 * 4 + (w % 4 * 64 + x) / 64 ≡ w = omega arith in
    let fourth : (w % 4 * 64 + x) % 64 ≡ x = omega arith in
    subst (AreRead (a ∷ b ∷ c ∷ d ∷ rest)) (sym (octets_group a b c d rest ha hb hc hd)) record {
      whole = omega (arith, h.whole);
      fits = (omega arith, (omega arith, (omega arith, h.fits)));
      back =
          coded_group (u * 4 + v / 16) (v % 16 * 16 + w / 4) (w % 4 * 64 + x) (octets_of rest) (omega arith) (omega arith) (omega arith)
          ∙ (λ t. letter (first t) ∷ letter (second t) ∷ letter (third t) ∷ letter (fourth t) ∷ h.back t)
          ∙ (λ t. letter-letter_value a ha t ∷ letter-letter_value b hb t ∷ letter-letter_value c hc t ∷ letter-letter_value d hd t ∷ rest);
    }

are_read : (letters : List ℕ) → length letters % 4 ≡ 0 → AreLetters letters → AreRead letters (octets_of letters)
are_read [] whole h = none_read
are_read (a ∷ []) whole h = absurd (omega arith)
are_read (a ∷ b ∷ []) whole h = absurd (omega arith)
are_read (a ∷ b ∷ c ∷ []) whole h = absurd (omega arith)
are_read (a ∷ b ∷ c ∷ d ∷ rest) whole h = group_read a b c d rest h.0 h.1.0 h.1.1.0 h.1.1.1.0 (are_read rest (omega arith) h.1.1.1.1)

decoded_is : (letters octets : List ℕ) → decoded letters ≡ Ok octets → AreRead letters octets
decoded_is letters octets e =
    let codes : Codes letters octets = codes_of_decoded letters octets e in
    subst (AreRead letters) (sym codes.octets_are) (are_read letters codes.whole codes.letters)

-- octets that letters code are coded as those letters
pub coded-decoded : (letters octets : List ℕ) → decoded letters ≡ Ok octets → coded octets ≡ letters
coded-decoded letters octets e = (decoded_is letters octets e).back

-- and so they are without the zero octets that the coding put behind them
back_without_zeros : (octets letters pack : List ℕ) (zeros : ℕ) → AreRead letters octets → octets ≡ pack ++ replicate zeros 0 → zeros ≤ 2 → coded pack ≡ letters
back_without_zeros octets letters pack zeros read is few =
    let long : length octets ≡ length pack + zeros = ap (λ (l : List ℕ). length l) is ∙ omega (arith, length-append pack (replicate zeros 0), length-replicate {A = ℕ} zeros 0) in
    let put : zeros ≡ missing 3 (length pack) = omega (arith, read.whole) in
    let h : AreCoded pack (coded pack) = are_coded pack (AreOctets-front pack (replicate zeros 0) (subst AreOctets is read.fits)) in
    let same : octets_of (coded pack) ≡ octets = h.back ∙ ap (λ (n : ℕ). pack ++ replicate n 0) (sym put) ∙ sym is in
    sym (are_read (coded pack) h.whole h.letters_are).back ∙ ap (λ (l : List ℕ). coded l) same ∙ read.back

-- ---- the body of a packet

abbrev ok : List ℕ → Result (List ℕ) NameFault
ok x = Ok x

record IsBody (octets body : List ℕ) : Type 0 where
  zeros : ℕ
  few : zeros ≤ 2
  octets_are : octets ≡ packet TAG70 body ++ replicate zeros 0
  least : 41 ≤ length body
  whole : (length body - 9) % 16 ≡ 0
  short : length body ≤ MAX_LENGTH

all_zero : (octets : List ℕ) → list_all (λ c. eqb c 0) octets ≡ true → octets ≡ replicate (length octets) 0
all_zero [] h = refl
all_zero (c ∷ cs) h =
    let both = and_parts (eqb c 0) (list_all (λ c. eqb c 0) cs) h in
    λ t. eqb-true c 0 both.0 t ∷ all_zero cs both.1 t

body_at : (rest body : List ℕ) (n used : ℕ) → is_sized rest used n ≡ true → take n (drop used rest) ≡ body → rest ≡ length_octets n ++ drop used rest → n ≤ MAX_LENGTH → IsBody (TAG70 ∷ rest) body
body_at rest body n used sized is front short =
    let parts = and_parts (is_body_length n && leb (used + n) (length rest)) (are_zero_bits (drop (used + n) rest)) sized in
    let front_parts = and_parts (is_body_length n) (leb (used + n) (length rest)) parts.0 in
    let good = and_parts (leb 41 n) (eqb ((n - 9) % 16) 0) front_parts.0 in
    let bits = and_parts (ltb (length (drop (used + n) rest)) 3) (list_all (λ c. eqb c 0) (drop (used + n) rest)) parts.1 in
    let least : 41 ≤ n = leb-true 41 n good.0 in
    let within : used + n ≤ length rest = leb-true (used + n) (length rest) front_parts.1 in
    let long : length body ≡ n = ap (λ (l : List ℕ). length l) (sym is) ∙ omega (arith, length-take n (drop used rest), length-drop used rest) in
    let zeros : ℕ = length (drop (used + n) rest) in
    let last : drop n (drop used rest) ≡ replicate zeros 0 = drop-drop n used rest ∙ all_zero (drop (used + n) rest) bits.1 in
    let split : drop used rest ≡ body ++ replicate zeros 0 = sym (take-append-drop n (drop used rest)) ∙ (λ t. is t ++ last t) in
    record {
      zeros = zeros;
      few = omega (arith, ltb-true _ _ bits.0);
      octets_are = ap (λ (l : List ℕ). TAG70 ∷ l) (front ∙ (λ t. length_octets (sym long t) ++ split t) ∙ sym (append_assoc (length_octets (length body)) body (replicate zeros 0)));
      least = omega arith;
      whole = ap (λ (m : ℕ). (m - 9) % 16) long ∙ eqb-true _ _ good.1;
      short = omega arith;
    }

behind_is : (rest body : List ℕ) (r : Result (ℕ × ℕ) LengthFault) → length_at rest ≡ r → AreOctets rest → body_behind rest r ≡ ok body → IsBody (TAG70 ∷ rest) body
behind_is rest body (Err fault) at fits e = absurd (let g : Err Size ≡ ok body = e in cc)
behind_is rest body (Ok (n, used)) at fits e = elim (chosen (is_sized rest used n) (ok (take n (drop used rest))) (Err Size) (ok body) e) [
  | inl t ↦ (let front = length_takes rest (n, used) fits at in
      let same : take n (drop used rest) ≡ body = (let g : ok (take n (drop used rest)) ≡ ok body = t.1 in cc) in
      body_at rest body n used t.0 same front.0.parts front.1)
  | inr f ↦ absurd (let g : Err Size ≡ ok body = f.1 in cc)
]

body_is : (octets body : List ℕ) → AreOctets octets → body_of octets ≡ ok body → IsBody octets body
body_is [] body fits e = absurd (let g : Err Size ≡ ok body = e in cc)
body_is (tag ∷ rest) body fits e = elim (chosen (eqb tag TAG70) (body_behind rest (length_at rest)) (Err (Tag tag)) (ok body) e) [
  | inl t ↦ subst (λ (c : ℕ). IsBody (c ∷ rest) body) (sym (eqb-true tag TAG70 t.0)) (behind_is rest body (length_at rest) refl fits.1 t.1)
  | inr f ↦ absurd (let g : Err (Tag tag) ≡ ok body = f.1 in cc)
]

-- ---- the text of a body

record IsCipher (key : SignedKey) (body cipher : List ℕ) : Type 0 where
  body_are : body ≡ tag70_body key cipher
  cipher_are : cipher ≡ drop 9 body

cipher_is : (key : SignedKey) (body cipher : List ℕ) → 9 ≤ length body → cipher_of key.signature body ≡ ok cipher → IsCipher key body cipher
cipher_is key body cipher least e = elim (chosen (bytes_eq (take 8 body) key.signature) (cond (eqb (slice_index body 8) AES_128) (ok (drop 9 body)) (Err (Cipher (slice_index body 8)))) (Err (WrongKey (take 8 body))) (ok cipher) e) [
  | inl t ↦ elim (chosen (eqb (slice_index body 8) AES_128) (ok (drop 9 body)) (Err (Cipher (slice_index body 8))) (ok cipher) t.1) [
    | inl u ↦ (let ours : take 8 body ≡ key.signature = (bytes_eq-Decides (take 8 body) key.signature).0 t.0 in
        let code : slice_index body 8 ≡ AES_128 = eqb-true (slice_index body 8) AES_128 u.0 in
        let rest : drop 9 body ≡ cipher = (let g : ok (drop 9 body) ≡ ok cipher = u.1 in cc) in
        record { body_are = sym (take-append-drop 8 body) ∙ (λ i. ours i ++ drop-cons body 8 0 (omega arith) i) ∙ (λ i. key.signature ++ code i ∷ rest i); cipher_are = sym rest })
    | inr f ↦ absurd (let g : Err (Cipher (slice_index body 8)) ≡ ok cipher = f.1 in cc)
  ]
  | inr f ↦ absurd (let g : Err (WrongKey (take 8 body)) ≡ ok cipher = f.1 in cc)
]

-- ---- the octets behind a lead

abbrev is_zero : ℕ → Bool
is_zero c = eqb c 0

some_from : (c : ℕ) → is_zero c ≡ false → 0 < c
some_from c h = let other : c ≡ 0 → ⊥ = eqb-false c 0 h in omega arith

before_from : (c : ℕ) (cs : List ℕ) (b : Bool) → is_zero c ≡ b → AllByRecursion (λ c. 0 < c) (before_first is_zero cs) → AllByRecursion (λ c. 0 < c) (take (cond (not b) (1 + position_or_len is_zero cs) 0) (c ∷ cs))
before_from c cs true e h = tt
before_from c cs false e h =
    let on : suc (position_or_len is_zero cs) ≡ 1 + position_or_len is_zero cs = omega arith in
    subst (λ (n : ℕ). AllByRecursion (λ c. 0 < c) (take n (c ∷ cs))) on (some_from c e, h)

no_zero_before : (plain : List ℕ) → AllByRecursion (λ c. 0 < c) (before_first is_zero plain)
no_zero_before [] = tt
no_zero_before (c ∷ cs) = before_from c cs (is_zero c) refl (no_zero_before cs)

record IsBehindLead (plain octets : List ℕ) : Type 0 where
  lead : List ℕ
  long : LEAST_LEAD ≤ length lead
  no_zero : AllByRecursion (λ c. 0 < c) lead
  some : 0 < length octets
  plain_is : plain ≡ lead ++ 0 ∷ octets

some_is : (rest octets : List ℕ) → some_octets rest ≡ ok octets → (rest ≡ octets) × (0 < length octets)
some_is [] octets e = absurd cc
some_is (c ∷ cs) octets e =
    let same : c ∷ cs ≡ octets = (let g : ok (c ∷ cs) ≡ ok octets = e in cc) in
    (same, subst (λ (l : List ℕ). 0 < length l) same (omega arith))

lead_at : (plain octets : List ℕ) (i : ℕ) → i ≡ position_or_len is_zero plain → i < length plain → behind_zero plain (Some i) ≡ ok octets → IsBehindLead plain octets
lead_at plain octets i is within e = elim (chosen (ltb i LEAST_LEAD) (Err (Lead i)) (some_octets (drop (i + 1) plain)) (ok octets) e) [
  | inl t ↦ absurd (let g : Err (Lead i) ≡ ok octets = t.1 in cc)
  | inr f ↦ (let both = some_is (drop (i + 1) plain) octets f.1 in
      let first : position_or_len is_zero plain < length plain = omega arith in
      let zero_is : get_or plain (position_or_len is_zero plain) 0 ≡ 0 = eqb-true _ 0 (passes_at_first is_zero plain 0 first) in
      let rest : drop (position_or_len is_zero plain + 1) plain ≡ octets = ap (λ (n : ℕ). drop (n + 1) plain) (sym is) ∙ both.0 in
      record {
        lead = before_first is_zero plain;
        long = omega (arith, length-take (position_or_len is_zero plain) plain, ltb-false i LEAST_LEAD f.0);
        no_zero = no_zero_before plain;
        some = both.1;
        plain_is = split_at_first is_zero plain 0 first ∙ (λ t. before_first is_zero plain ++ zero_is t ∷ rest t);
      })
]

lead_from : (plain octets : List ℕ) (b : Bool) → ltb (position_or_len is_zero plain) (length plain) ≡ b → behind_zero plain (cond b (Some (position_or_len is_zero plain)) None) ≡ ok octets → IsBehindLead plain octets
lead_from plain octets true within e = lead_at plain octets (position_or_len is_zero plain) refl (ltb-true _ _ within) e
lead_from plain octets false within e = absurd cc

lead_is : (plain octets : List ℕ) → behind_lead plain ≡ ok octets → IsBehindLead plain octets
lead_is plain octets e = lead_from plain octets (ltb (position_or_len is_zero plain) (length plain)) refl e

-- ---- the whole name

octets_are_read : (r : Result (List ℕ) CodingFault) (octets : List ℕ) → octets_coded r ≡ ok octets → r ≡ Ok octets
octets_are_read (Ok x) octets e = (let g : ok x ≡ ok octets = e in cc)
octets_are_read (Err fault) octets e = absurd (let g : Err (Coding fault) ≡ ok octets = e in cc)

name_of_parts : (key : SignedKey) (letters octets body cipher name : List ℕ) → AreRead letters octets → IsBody octets body → IsCipher key body cipher → IsBehindLead (ecb_decrypted (name_cipher_key key) cipher) name → IsCodedName key (PREFIX ++ letters) name
unfolding coded_name
name_of_parts key letters octets body cipher name read packed sealed behind =
    let k : List ℕ = name_cipher_key key in
    let plain : List ℕ = ecb_decrypted k cipher in
    let pack : List ℕ = packet TAG70 body in
    let fits : AreOctets pack = AreOctets-front pack (replicate packed.zeros 0) (subst AreOctets packed.octets_are read.fits) in
    let body_fits : AreOctets body = AreOctets-back (length_octets (length body)) body fits.1 in
    let cipher_fits : AreOctets cipher = subst AreOctets (sym sealed.cipher_are) (AreOctets-drop 9 body body_fits) in
    let cipher_long : length cipher ≡ length body - 9 = ap (λ (l : List ℕ). length l) sealed.cipher_are ∙ length-drop 9 body in
    let whole : length cipher % 16 ≡ 0 = ap (λ (n : ℕ). n % 16) cipher_long ∙ packed.whole in
    let long : length plain ≡ length cipher = length-ecb_decrypted k cipher whole in
    let plain_fits : AreOctets (behind.lead ++ 0 ∷ name) = subst AreOctets behind.plain_is (AreOctets-ecb_decrypted k cipher cipher_fits) in
    let parts : length plain ≡ length behind.lead + 1 + length name = ap (λ (l : List ℕ). length l) behind.plain_is ∙ omega (arith, length-append behind.lead (0 ∷ name)) in
    let cipher_is : cipher ≡ ecb_encrypted k (behind.lead ++ 0 ∷ name) = sym (encrypted-decrypted_text k cipher cipher_fits whole) ∙ ap (λ (l : List ℕ). ecb_encrypted k l) behind.plain_is in
    record {
      lead = behind.lead;
      lead_is = record { long = behind.long; octets = AreOctets-front behind.lead (0 ∷ name) plain_fits; no_zero = behind.no_zero };
      some = behind.some;
      fits = (AreOctets-back behind.lead (0 ∷ name) plain_fits).1;
      whole = ap (λ (n : ℕ). n % 16) (sym parts ∙ long) ∙ whole;
      short = omega (arith, packed.least, packed.short);
      lower_is = ap (λ (l : List ℕ). PREFIX ++ l) (sym (back_without_zeros octets letters pack packed.zeros read packed.octets_are packed.few))
          ∙ ap (λ (b : List ℕ). PREFIX ++ coded (packet TAG70 b)) (sealed.body_are ∙ ap (λ (c : List ℕ). tag70_body key c) cipher_is);
    }

packet_is_coded : (key : SignedKey) (letters name : List ℕ) → packet_octets key letters ≡ ok name → IsCodedName key (PREFIX ++ letters) name
unfolding packet_octets
packet_is_coded key letters name e =
    let k : List ℕ = name_cipher_key key in
    let octets = bind_ok (octets_coded (decoded letters)) (λ octets. body_of octets >>= λ b. cipher_of key.signature b >>= λ c. behind_lead (ecb_decrypted k c)) name e in
    let body = bind_ok (body_of octets.0) (λ b. cipher_of key.signature b >>= λ c. behind_lead (ecb_decrypted k c)) name octets.2 in
    let cipher = bind_ok (cipher_of key.signature body.0) (λ c. behind_lead (ecb_decrypted k c)) name body.2 in
    let read : AreRead letters octets.0 = decoded_is letters octets.0 (octets_are_read (decoded letters) octets.0 octets.1) in
    let packed : IsBody octets.0 body.0 = body_is octets.0 body.0 read.fits body.1 in
    name_of_parts key letters octets.0 body.0 cipher.0 name read packed (cipher_is key body.0 cipher.0 (omega (arith, packed.least)) cipher.1) (lead_is (ecb_decrypted k cipher.0) name cipher.2)

-- a lower name with the prefix that is read as octets has the form of a coded name that holds them
pub read_is_coded : (key : SignedKey) (lower octets : List ℕ) → IsTrue (starts_with nat_eq lower PREFIX) → lower_octets key lower ≡ Ok octets → IsCodedName key lower octets
read_is_coded key lower octets prefixed e =
    let letters : List ℕ = drop (length PREFIX) lower in
    let inside : packet_octets key letters ≡ ok octets = ap (λ (b : Bool). cond b (packet_octets key letters) (ok lower)) (sym prefixed) ∙ e in
    let split : lower ≡ PREFIX ++ letters = (starts_is Decides-eqb lower PREFIX (starts_with nat_eq lower PREFIX) refl).0 prefixed in
    subst (λ (l : List ℕ). IsCodedName key l octets) (sym split) (packet_is_coded key letters octets inside)
