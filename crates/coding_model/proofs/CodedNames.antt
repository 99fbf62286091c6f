-- Coded names are read again, and are names.
use Rattle.std.proofs.Common.{◌≡◌, inl, inr, ℕ, zero, suc, ◌+◌, ◌-◌, ◌/◌, ◌%◌, ◌<◌, ◌≤◌, Bool, true, false, not, cond, eqb, ltb, ◌&&◌, List, [], ◌∷◌, ◌++◌, length, map, take, Result, Ok, Err, refl, sym, ap, subst, ◌∙◌, arith}
use Rattle.std.specs.Prelude.{IsTrue, slice_index}
use Rattle.std.specs.Int.{w32, to_le_bytes}
use Rattle.std.specs.List.{list_all, AllByRecursion}
use Rattle.std.proofs.lemmas.Bool.{eqb-true, eqb-false, lt-ltb, le-ltb}
use Rattle.std.proofs.lemmas.List.{length-append, length-take, length-map}
use Rattle.std.proofs.lemmas.List.Folds.{list_all-append}
use Rattle.std.proofs.lemmas.List.Sums.{passes_at_first}
use Rattle.md5.specs.Md5.{md5, digest_bytes}
use Rattle.md5.proofs.StandardFacts.{length-md5}
use Rattle.answer_model.specs.Answer.{◌>>=◌}
use Rattle.octet_model.specs.Octets.{AreOctets, HasOctets}
use Rattle.octet_model.proofs.Octets.{AreOctets-append, AreOctets-take}
use Rattle.lower_model.specs.Name.{is_name, is_name_octet, is_dots}
use Rattle.lower_model.proofs.NameOctets.{AreOctets-name}
use Rattle.names_model.specs.declared.fault.NameFault.{NameFault}
use Rattle.names_model.specs.declared.fault.NameFault.TheVariants.{BadName}
use Rattle.key_model.specs.SignedKey.{SignedKey}
use Rattle.packet_model.specs.declared.layout.TheConstants.{AES_128}
use Rattle.packet_model.specs.declared.length.TheConstants.{MAX_LENGTH}
use Rattle.packet_model.specs.Length.{length_octets}
use Rattle.packet_model.specs.Packet.{packet}
use Rattle.packet_model.proofs.Found.{chosen}
use Rattle.coding_model.specs.declared.constants.TheConstants.{LETTERS, PREFIX, TAG70, LONGEST_CODED_NAME, LONGEST_CODED_OCTETS}
use Rattle.coding_model.specs.NameCoding.{letter, letter_value, missing, coded, AreLetters}
use Rattle.coding_model.specs.CodedName.{name_cipher_key, ecb_encrypted, ecb_decrypted, lead_length, lead_octet, lead_octets, lead_of, tag70_body, coded_name, written_name, octets_coded, body_of, cipher_of, behind_lead, packet_octets, lower_octets, as_name, upper_name}
use Rattle.coding_model.specs.IsCodedName.{IsLead, IsCodedName}
use Rattle.coding_model.proofs.Groups.{same_below}
use Rattle.coding_model.proofs.Decoding.{AreCoded, are_coded, decoded-coded}
use Rattle.coding_model.proofs.EcbTexts.{length-ecb, AreOctets-ecb, decrypted-encrypted_text}
use Rattle.coding_model.proofs.NamePackets.{body_again, cipher_again, lead_again, AreOctets-packet}

abbrev ok : List ℕ → Result (List ℕ) NameFault
ok x = Ok x

-- ---- a name with any lead

-- a text that can be a plain text
record IsText (text : List ℕ) : Type 0 where
  fits : AreOctets text
  whole : length text % 16 ≡ 0
  least : 32 ≤ length text
  short : 9 + length text ≤ MAX_LENGTH

abbrev body_for : SignedKey → List ℕ → List ℕ
body_for key text = tag70_body key (ecb_encrypted (name_cipher_key key) text)

length-body : (key : SignedKey) (text : List ℕ) → length key.signature ≡ 8 → length text % 16 ≡ 0 → length (body_for key text) ≡ 9 + length text
length-body key text eight whole =
    let cipher : List ℕ = ecb_encrypted (name_cipher_key key) text in
    let long : length cipher ≡ length text = length-ecb (name_cipher_key key) text whole in
    omega (arith, length-append key.signature (AES_128 ∷ cipher))

packet_fits : (key : SignedKey) (text : List ℕ) → HasOctets 8 key.signature → IsText text → AreOctets (packet TAG70 (body_for key text))
packet_fits key text eight is =
    let cipher : List ℕ = ecb_encrypted (name_cipher_key key) text in
    let fits : AreOctets (AES_128 ∷ cipher) = (omega arith, AreOctets-ecb (name_cipher_key key) text is.fits) in
    AreOctets-packet (body_for key text) (AreOctets-append key.signature (AES_128 ∷ cipher) eight.octets fits)
    (omega (arith, length-body key text eight.length_is is.whole, is.short))

-- what the letters of a packet hold is what is behind the lead of its plain text
packet_again : (key : SignedKey) (text : List ℕ) → HasOctets 8 key.signature → IsText text → packet_octets key (coded (packet TAG70 (body_for key text))) ≡ behind_lead text
unfolding packet_octets
packet_again key text eight is =
    let k : List ℕ = name_cipher_key key in
    let cipher : List ℕ = ecb_encrypted k text in
    let body : List ℕ = body_for key text in
    let pack : List ℕ = packet TAG70 body in
    let zeros : ℕ = missing 3 (length pack) in
    let long : length body ≡ 9 + length text = length-body key text eight.length_is is.whole in
    let least : 32 ≤ length text = is.least in
    let short : 9 + length text ≤ MAX_LENGTH = is.short in
    let whole : length text % 16 ≡ 0 = is.whole in
    ap (λ r. octets_coded r >>= λ octets. body_of octets >>= λ b. cipher_of key.signature b >>= λ c. behind_lead (ecb_decrypted k c)) (decoded-coded pack (packet_fits key text eight is))
    ∙ ap (λ r. r >>= λ b. cipher_of key.signature b >>= λ c. behind_lead (ecb_decrypted k c)) (body_again body zeros (omega arith) (omega arith) (omega arith) (omega arith))
    ∙ ap (λ r. r >>= λ c. behind_lead (ecb_decrypted k c)) (cipher_again key cipher eight.length_is)
    ∙ ap (λ (l : List ℕ). behind_lead l) (decrypted-encrypted_text k text is.fits is.whole)

behind_prefix : (key : SignedKey) (letters : List ℕ) → lower_octets key (PREFIX ++ letters) ≡ packet_octets key letters
behind_prefix key letters = refl

text_of_lead : (lead octets : List ℕ) → IsLead lead → 0 < length octets → AreOctets octets → (length lead + 1 + length octets) % 16 ≡ 0 → 9 + (length lead + 1 + length octets) ≤ MAX_LENGTH → IsText (lead ++ 0 ∷ octets)
text_of_lead lead octets is some fits whole short =
    let long : length (lead ++ 0 ∷ octets) ≡ length lead + 1 + length octets = omega (arith, length-append lead (0 ∷ octets)) in
    let least : 16 ≤ length lead = is.long in
    record { fits = AreOctets-append lead (0 ∷ octets) is.octets (omega arith, fits); whole = ap (λ (n : ℕ). n % 16) long ∙ whole; least = omega arith; short = omega arith }

-- what has the form of a coded name is read as its octets
pub coded_name_again : (key : SignedKey) (lower octets : List ℕ) → HasOctets 8 key.signature → IsCodedName key lower octets → lower_octets key lower ≡ ok octets
unfolding coded_name
coded_name_again key lower octets eight is =
    let text : List ℕ = is.lead ++ 0 ∷ octets in
    ap (λ (l : List ℕ). lower_octets key l) is.lower_is
    ∙ behind_prefix key (coded (packet TAG70 (body_for key text)))
    ∙ packet_again key text eight (text_of_lead is.lead octets is.lead_is is.some is.fits is.whole is.short)
    ∙ lead_again is.lead octets is.lead_is.long is.lead_is.no_zero is.some

-- ---- the lead as it is written

AreOctets-digest : (h : List ℕ) (n : ℕ) → AreOctets (digest_bytes h n)
unfolding digest_bytes
AreOctets-digest h zero = tt
AreOctets-digest h (suc n) = AreOctets-append (digest_bytes h n) (to_le_bytes w32 (slice_index h n)) (AreOctets-digest h n) (omega arith, (omega arith, (omega arith, (omega arith, tt))))

AreOctets-md5 : (m : List ℕ) → AreOctets (md5 m)
unfolding md5
AreOctets-md5 m = AreOctets-digest _ 4

chosen_octet : (c : ℕ) (b : Bool) → eqb c 0 ≡ b → c < 256 → (cond b 66 c < 256) × (0 < cond b 66 c)
chosen_octet c true e h = (omega arith, omega arith)
chosen_octet c false e h = (h, (let other : c ≡ 0 → ⊥ = eqb-false c 0 e in omega arith))

lead_octet_is : (c : ℕ) → c < 256 → (lead_octet c < 256) × (0 < lead_octet c)
lead_octet_is c h = chosen_octet c (eqb c 0) refl h

lead_octets_fit : (cs : List ℕ) → AreOctets cs → AreOctets (map lead_octet cs)
lead_octets_fit [] fits = tt
lead_octets_fit (c ∷ cs) fits = ((lead_octet_is c fits.0).0, lead_octets_fit cs fits.1)

lead_no_zero : (cs : List ℕ) → AreOctets cs → AllByRecursion (λ c. 0 < c) (map lead_octet cs)
lead_no_zero [] fits = tt
lead_no_zero (c ∷ cs) fits = ((lead_octet_is c fits.0).1, lead_no_zero cs fits.1)

take_no_zero : (n : ℕ) (cs : List ℕ) → AllByRecursion (λ c. 0 < c) cs → AllByRecursion (λ c. 0 < c) (take n cs)
take_no_zero zero cs h = tt
take_no_zero (suc n) [] h = tt
take_no_zero (suc n) (c ∷ cs) h = (h.0, take_no_zero n cs h.1)

digests_fit : (key : List ℕ) → AreOctets (md5 key ++ md5 (md5 key))
digests_fit key = AreOctets-append (md5 key) (md5 (md5 key)) (AreOctets-md5 key) (AreOctets-md5 (md5 key))

length-lead_octets : (key : List ℕ) → length (lead_octets key) ≡ 32
length-lead_octets key =
    length-map (md5 key ++ md5 (md5 key)) lead_octet ∙ omega (arith, length-append (md5 key) (md5 (md5 key)), length-md5 key, length-md5 (md5 key))

pub length-lead_of : (key : SignedKey) (name : List ℕ) → length (lead_of key name) ≡ lead_length name
length-lead_of key name = omega (arith, length-take (lead_length name) (lead_octets key.key), length-lead_octets key.key)

written_lead : (key : SignedKey) (name : List ℕ) → IsLead (lead_of key name)
written_lead key name = record {
  long = omega (arith, length-lead_of key name);
  octets = AreOctets-take (lead_length name) (lead_octets key.key) (lead_octets_fit _ (digests_fit key.key));
  no_zero = take_no_zero (lead_length name) (lead_octets key.key) (lead_no_zero _ (digests_fit key.key));
}

-- what is written has the form of a coded name
pub written_is_coded : (key : SignedKey) (octets : List ℕ) → AreOctets octets → 0 < length octets → length octets ≤ LONGEST_CODED_OCTETS → IsCodedName key (written_name key octets) octets
written_is_coded key octets fits some short = record {
  lead = lead_of key octets;
  lead_is = written_lead key octets;
  some = some;
  fits = fits;
  whole = omega (arith, length-lead_of key octets);
  short = omega (arith, length-lead_of key octets);
  lower_is = refl;
}

pub written_again : (key : SignedKey) (octets : List ℕ) → HasOctets 8 key.signature → AreOctets octets → 0 < length octets → length octets ≤ LONGEST_CODED_OCTETS → lower_octets key (written_name key octets) ≡ ok octets
written_again key octets eight fits some short = coded_name_again key (written_name key octets) octets eight (written_is_coded key octets fits some short)

-- ---- names

name_some : (name : List ℕ) → is_name name ≡ true → 0 < length name
name_some [] h = absurd (let e : false ≡ true = h in cc)
name_some (c ∷ cs) h = omega arith

pub reads_written : (key : SignedKey) (name : List ℕ) → HasOctets 8 key.signature → IsTrue (is_name name) → length name ≤ LONGEST_CODED_NAME → upper_name key (written_name key name) ≡ ok name
reads_written key name eight is fits =
    ap (λ r. r >>= as_name) (written_again key name eight (AreOctets-name name is) (name_some name is) (omega arith))
    ∙ ap (λ (b : Bool). cond b (ok name) (Err BadName)) is

as_name_is : (octets name : List ℕ) → as_name octets ≡ ok name → IsTrue (is_name name)
as_name_is octets name e = elim (chosen (is_name octets) (ok octets) (Err BadName) (ok name) e) [
  | inl t ↦ (let same : octets ≡ name = (let g : ok octets ≡ ok name = t.1 in cc) in subst (λ (l : List ℕ). is_name l ≡ true) same t.0)
  | inr f ↦ absurd (let g : Err BadName ≡ ok name = f.1 in cc)
]

from_octets : (r : Result (List ℕ) NameFault) (name : List ℕ) → (r >>= as_name) ≡ ok name → IsTrue (is_name name)
from_octets (Ok octets) name e = as_name_is octets name e
from_octets (Err fault) name e = absurd (let g : Err fault ≡ ok name = e in cc)

pub reads_names : (key : SignedKey) (lower name : List ℕ) → upper_name key lower ≡ ok name → IsTrue (is_name name)
reads_names key lower name e = from_octets (lower_octets key lower) name e

-- ---- a written name is a name

abbrev one_if : Bool → ℕ
one_if true = 1
one_if false = 0

is_true : (b : Bool) → one_if b ≡ 1 → b ≡ true
is_true true e = refl
is_true false e = absurd (omega arith)

letter-name_octet : (n : ℕ) → n < 64 → is_name_octet (letter n) ≡ true
unfolding letter
letter-name_octet n h = is_true (is_name_octet (letter n)) (same_below 64 (λ n. one_if (is_name_octet (letter n))) (λ n. 1) refl n h)

-- an octet that stands for a number is its letter
pub letter-letter_value : (c : ℕ) → letter_value c < 64 → letter (letter_value c) ≡ c
unfolding letter letter_value
letter-letter_value c h = eqb-true _ c (passes_at_first (λ (l : ℕ). eqb l c) LETTERS 0 h)

letters_name_octets : (cs : List ℕ) → AreLetters cs → list_all is_name_octet cs ≡ true
letters_name_octets [] h = refl
letters_name_octets (c ∷ cs) h =
    let first : is_name_octet c ≡ true = ap (λ (l : ℕ). is_name_octet l) (sym (letter-letter_value c h.0)) ∙ letter-name_octet (letter_value c) h.0 in
    ap (λ (b : Bool). b && list_all is_name_octet cs) first ∙ letters_name_octets cs h.1

prefixed : (letters : List ℕ) → AreLetters letters → length letters ≤ 231 → is_name (PREFIX ++ letters) ≡ true
prefixed letters h short =
    let lower : List ℕ = PREFIX ++ letters in
    let long : length lower ≡ 24 + length letters = length-append PREFIX letters in
    let fits : ltb (length lower) 256 ≡ true = lt-ltb (length lower) 256 (omega arith) in
    let all : list_all is_name_octet lower ≡ true = list_all-append is_name_octet PREFIX letters ∙ letters_name_octets letters h in
    let no_dots : ltb (length lower) 3 ≡ false = le-ltb (length lower) 3 (omega arith) in
    ap (λ (b : Bool). b && list_all is_name_octet lower && not (is_dots lower)) fits
    ∙ ap (λ (b : Bool). b && not (is_dots lower)) all
    ∙ ap (λ (b : Bool). not (b && list_all (λ c. eqb c 46) lower)) no_dots

pub length-packet : (key : SignedKey) (name : List ℕ) → length key.signature ≡ 8 → length name ≤ LONGEST_CODED_NAME
    → length (packet TAG70 (body_for key (lead_of key name ++ 0 ∷ name))) ≤ 171
length-packet key name eight short =
    let text : List ℕ = lead_of key name ++ 0 ∷ name in
    let body : List ℕ = body_for key text in
    let lead : length (lead_of key name) ≡ lead_length name = length-lead_of key name in
    let whole : length text ≡ lead_length name + 1 + length name = omega (arith, length-append (lead_of key name) (0 ∷ name)) in
    let long : length body ≡ 9 + length text = length-body key text eight (omega arith) in
    let one : ltb (length body) 192 ≡ true = lt-ltb (length body) 192 (omega arith) in
    let octet : length (length_octets (length body)) ≡ 1 = ap (λ (b : Bool). length (cond b (length body ∷ []) ((192 + (length body - 192) / 256) ∷ (length body - 192) % 256 ∷ []))) one in
    omega (arith, length-append (length_octets (length body)) body)

pub writes_names : (key : SignedKey) (name : List ℕ) → HasOctets 8 key.signature → IsTrue (is_name name) → length name ≤ LONGEST_CODED_NAME → IsTrue (is_name (written_name key name))
unfolding coded_name written_is_coded
writes_names key name eight is short =
    let text : List ℕ = lead_of key name ++ 0 ∷ name in
    let form : IsCodedName key (written_name key name) name = written_is_coded key name (AreOctets-name name is) (name_some name is) (omega arith) in
    let pack : List ℕ = packet TAG70 (body_for key text) in
    let h : AreCoded pack (coded pack) = are_coded pack (packet_fits key text eight (text_of_lead form.lead name form.lead_is form.some form.fits form.whole form.short)) in
    prefixed (coded pack) h.letters_are (omega (arith, h.long, length-packet key name eight.length_is short))
