-- The fields of a script's lines are read as they are spelled.
use Rattle.std.proofs.Common.{◌≡◌, ℕ, ◌<◌, ◌^◌, Bool, true, leb, ltb, List, [], ◌∷◌, length, Option, Some, None, refl, sym, ap, subst, ◌∙◌, arith}
use Rattle.std.specs.Prelude.{◌&&◌, ◌==◌}
use Rattle.std.specs.Char.{is_ascii_digit}
use Rattle.std.specs.Fmt.{decimal}
use Rattle.std.specs.List.{list_all, flat_map, AllByRecursion}
use Rattle.std.proofs.lemmas.Bool.{and_parts, leb-true, le-leb, ltb-true, lt-ltb}
use Rattle.std.proofs.lemmas.Bool.Decides.{nat_tests}
use Rattle.std.proofs.lemmas.Fmt.{digits_decimal}
use Rattle.std.proofs.lemmas.List.Splits.{length-slice_split}
use Rattle.std.proofs.lemmas.Option.{none-some, same_Some}
use Rattle.lower_model.proofs.NameOctets.{AreOctets-name}
use Rattle.text_model.specs.Line.{number, hex, name, slash_name, path}
use Rattle.tree_model.specs.Path.{IsPath}
use Rattle.script_model.specs.declared.limits.TheConstants.{SLOTS, OFFSET_LIMIT, LONGEST_TRANSFER}
use Rattle.script_model.specs.Script.{IsSlot, IsOffset, IsTransfer, AreWritten}
use Rattle.reading_model.specs.Fields.{number_in, hex_in, path_in}
use Rattle.reading_model.proofs.Readers.{IsReader, bind_some, guard_some}
use Rattle.reading_model.proofs.Words.{is_word, is_other, both, weaker}
use Rattle.reading_model.proofs.NumberReader.{own, number_reader}
use Rattle.reading_model.proofs.HexReader.{hex_reader, hex_digits}
use Rattle.reading_model.proofs.NameReader.{name_words}
use Rattle.reading_model.proofs.PathReader.{path_reader}
use Rattle.reading_model.specs.OpReading.{number_where, slot_in, offset_in, is_transfer, transfer_in, written_in, fields_in, fields_behind, only_field, alone, before, path_alone, path_pair, slot_alone, slot_path, slot_size, offset_length, slot_offset_length, offset_octets, slot_offset_octets}

-- ---- what stands in a field

-- neither a blank nor a line end
abbrev pub is_inside : ℕ → Bool
is_inside c = is_other 32 c && is_other 10 c

word_inside : (c : ℕ) → is_word c ≡ true → is_inside c ≡ true
word_inside c e = grind (arith, nat_tests)

digit_inside : (c : ℕ) → is_ascii_digit c ≡ true → is_inside c ≡ true
digit_inside c e = grind (arith, nat_tests)

number_inside : (n : ℕ) → n < 2 ^ 64 → list_all is_inside (number n) ≡ true
number_inside n fits = weaker is_ascii_digit is_inside digit_inside (decimal n) (digits_decimal own n fits)

names_inside : (names : List (List ℕ)) → IsPath names → list_all is_inside (flat_map slash_name names) ≡ true
names_inside [] h = refl
names_inside (first ∷ names) h =
    both is_inside (slash_name first) (flat_map slash_name names) (weaker is_word is_inside word_inside (name first) (name_words first (AreOctets-name first h.0))) (names_inside names h.1)

path_inside : (names : List (List ℕ)) → IsPath names → list_all is_inside (path names) ≡ true
path_inside [] h = refl
path_inside (first ∷ names) h = names_inside (first ∷ names) h

-- ---- a field

-- A field is read as it is spelled, without a blank or a line end.
pub record IsField {A : Type 0} (read : List ℕ → Option A) (spell : A → List ℕ) (Fits : A → Type 0) : Type 0 where
  pub reader : IsReader read spell Fits
  pub inside : (value : A) → Fits value → list_all is_inside (spell value) ≡ true

number_field : (test : ℕ → Bool) (Fits : ℕ → Type 0) → ((n : ℕ) → test n ≡ true → Fits n) → ((n : ℕ) → Fits n → test n ≡ true) → ((n : ℕ) → Fits n → n < 2 ^ 64) → IsField (number_where test) number Fits
number_field test Fits to from small = record { reader = record { found = found; again = again }; inside = λ n h. number_inside n (small n h) }
  where
    found : (text : List ℕ) (n : ℕ) → number_where test text ≡ Some n → (text ≡ number n) × Fits n
    found text n e =
        let b = bind_some (number_in text) _ n e in
        let g = guard_some (test b.0) (Some b.0) n b.2 in
        let f = number_reader.found text b.0 b.1 in
        subst (λ (k : ℕ). (text ≡ number k) × Fits k) (same_Some b.0 n g.1) (f.0, to b.0 g.0)

    again : (n : ℕ) → Fits n → number_where test (decimal n) ≡ Some n
    again n h = rw (number_reader.again n (small n h), from n h) refl

slot_field : IsField slot_in number IsSlot
slot_field = number_field (λ n. ltb n SLOTS) IsSlot (λ n e. ltb-true n SLOTS e) (λ n h. lt-ltb n SLOTS h) (λ n h. omega (arith, h))

offset_field : IsField offset_in number IsOffset
offset_field = number_field (λ n. ltb n OFFSET_LIMIT) IsOffset (λ n e. ltb-true n OFFSET_LIMIT e) (λ n h. lt-ltb n OFFSET_LIMIT h) (λ n h. omega (arith, h))

transfer_is : (len : ℕ) → is_transfer len ≡ true → IsTransfer len
transfer_is len e = let parts = and_parts (leb 1 len) (leb len LONGEST_TRANSFER) e in (leb-true 1 len parts.0, leb-true len LONGEST_TRANSFER parts.1)

is_transfer_of : (len : ℕ) → IsTransfer len → is_transfer len ≡ true
is_transfer_of len h = rw (le-leb 1 len h.0, le-leb len LONGEST_TRANSFER h.1) refl

transfer_field : IsField transfer_in number IsTransfer
transfer_field = number_field is_transfer IsTransfer transfer_is is_transfer_of (λ n h. omega (arith, h.1))

written_field : IsField written_in hex AreWritten
written_field = record { reader = record { found = found; again = again }; inside = λ octets h. weaker is_word is_inside word_inside (hex octets) (hex_digits octets h.1).1 }
  where
    found : (text octets : List ℕ) → written_in text ≡ Some octets → (text ≡ hex octets) × AreWritten octets
    found text octets e =
        let b = bind_some (hex_in text) _ octets e in
        let g = guard_some (is_transfer (length b.0)) (Some b.0) octets b.2 in
        let f = hex_reader.found text b.0 b.1 in
        subst (λ (os : List ℕ). (text ≡ hex os) × AreWritten os) (same_Some b.0 octets g.1) (f.0, (transfer_is (length b.0) g.0, f.1))

    again : (octets : List ℕ) → AreWritten octets → written_in (hex octets) ≡ Some octets
    again octets h = rw (hex_reader.again octets h.1, is_transfer_of (length octets) h.0) refl

path_field : IsField path_in path IsPath
path_field = record { reader = path_reader; inside = path_inside }

-- ---- fields in a row

abbrev pub AreInside : List (List ℕ) → Type 0
AreInside fields = AllByRecursion (λ text. list_all is_inside text ≡ true) fields

-- Fields are read as they are spelled, without a blank or a line end in one of them.
pub record IsRow {A : Type 0} (read : List (List ℕ) → Option A) (spell : A → List (List ℕ)) (Fits : A → Type 0) : Type 0 where
  pub found : (fields : List (List ℕ)) (value : A) → read fields ≡ Some value → (fields ≡ spell value) × Fits value
  pub again : (value : A) → Fits value → read (spell value) ≡ Some value
  pub inside : (value : A) → Fits value → AreInside (spell value)

only_is : (fields : List (List ℕ)) (field : List ℕ) → only_field fields ≡ Some field → fields ≡ field ∷ []
only_is [] field e = absurd (none-some field e)
only_is (first ∷ []) field e = ap (λ (t : List ℕ). t ∷ []) (same_Some first field e)
only_is (first ∷ next ∷ fields) field e = absurd (none-some field e)

alone_row : {A : Type 0} {read : List ℕ → Option A} {spell : A → List ℕ} {Fits : A → Type 0} → IsField read spell Fits → IsRow (alone read) (λ value. spell value ∷ []) Fits
alone_row {A} {read} {spell} {Fits} f = record { found = found; again = λ value h. f.reader.again value h; inside = λ value h. (f.inside value h, tt) }
  where
    found : (fields : List (List ℕ)) (value : A) → alone read fields ≡ Some value → (fields ≡ spell value ∷ []) × Fits value
    found fields value e =
        let b = bind_some (only_field fields) read value e in
        let g = f.reader.found b.0 value b.2 in
        (only_is fields b.0 b.1 ∙ ap (λ (t : List ℕ). t ∷ []) g.0, g.1)

abbrev BothFit : {A B : Type 0} → (A → Type 0) → (B → Type 0) → A × B → Type 0
BothFit Fits Others x = Fits x.0 × Others x.1

before_row : {A B : Type 0} {read : List ℕ → Option A} {spell : A → List ℕ} {Fits : A → Type 0} {others : List (List ℕ) → Option B} {spell_others : B → List (List ℕ)} {Others : B → Type 0} → IsField read spell Fits → IsRow others spell_others Others
    → IsRow (before read others) (λ x. spell x.0 ∷ spell_others x.1) (BothFit Fits Others)
before_row {A} {B} {read} {spell} {Fits} {others} {spell_others} {Others} f r = record { found = found; again = again; inside = λ x h. (f.inside x.0 h.0, r.inside x.1 h.1) }
  where
    found : (fields : List (List ℕ)) (x : A × B) → before read others fields ≡ Some x → (fields ≡ spell x.0 ∷ spell_others x.1) × BothFit Fits Others x
    found [] x e = absurd (none-some x e)
    found (field ∷ fields) x e =
        let b = bind_some (read field) _ x e in
        let c = bind_some (others fields) _ x b.2 in
        let g = f.reader.found field b.0 b.1 in
        let h = r.found fields c.0 c.1 in
        subst (λ (y : A × B). (field ∷ fields ≡ spell y.0 ∷ spell_others y.1) × BothFit Fits Others y) (same_Some (b.0, c.0) x c.2)
        (ap (λ (t : List ℕ). t ∷ fields) g.0 ∙ ap (λ (ts : List (List ℕ)). spell b.0 ∷ ts) h.0, (g.1, h.1))

    again : (x : A × B) → BothFit Fits Others x → before read others (spell x.0 ∷ spell_others x.1) ≡ Some x
    again x h = rw (f.reader.again x.0 h.0, r.again x.1 h.1) refl

pub path_row : IsRow path_alone (λ p. path p ∷ []) IsPath
path_row = alone_row path_field

pub pair_row : IsRow path_pair (λ x. path x.0 ∷ path x.1 ∷ []) (λ x. IsPath x.0 × IsPath x.1)
pair_row = before_row path_field path_row

pub slot_row : IsRow slot_alone (λ slot. number slot ∷ []) IsSlot
slot_row = alone_row slot_field

pub slot_path_row : IsRow slot_path (λ x. number x.0 ∷ path x.1 ∷ []) (λ x. IsSlot x.0 × IsPath x.1)
slot_path_row = before_row slot_field path_row

pub slot_size_row : IsRow slot_size (λ x. number x.0 ∷ number x.1 ∷ []) (λ x. IsSlot x.0 × IsOffset x.1)
slot_size_row = before_row slot_field (alone_row offset_field)

offset_length_row : IsRow offset_length (λ x. number x.0 ∷ number x.1 ∷ []) (λ x. IsOffset x.0 × IsTransfer x.1)
offset_length_row = before_row offset_field (alone_row transfer_field)

pub slot_offset_length_row : IsRow slot_offset_length (λ x. number x.0 ∷ number x.1.0 ∷ number x.1.1 ∷ []) (λ x. IsSlot x.0 × (IsOffset x.1.0 × IsTransfer x.1.1))
slot_offset_length_row = before_row slot_field offset_length_row

offset_octets_row : IsRow offset_octets (λ x. number x.0 ∷ hex x.1 ∷ []) (λ x. IsOffset x.0 × AreWritten x.1)
offset_octets_row = before_row offset_field (alone_row written_field)

pub slot_offset_octets_row : IsRow slot_offset_octets (λ x. number x.0 ∷ number x.1.0 ∷ hex x.1.1 ∷ []) (λ x. IsSlot x.0 × (IsOffset x.1.0 × AreWritten x.1.1))
slot_offset_octets_row = before_row slot_field offset_octets_row

-- ---- a field alone

none_alone : (first : List ℕ) (fields : List (List ℕ)) → 0 < length fields → only_field (first ∷ fields) ≡ None
none_alone first [] some = absurd (omega (arith, some))
none_alone first (next ∷ fields) some = refl

-- where a blank follows the first field, it isn't alone
pub not_alone : (text first : List ℕ) (behind : Option (List ℕ)) (rest : List ℕ) → behind ≡ Some rest → first ∷ fields_behind behind ≡ fields_in text → only_field (fields_in text) ≡ None
not_alone text first behind rest is e =
    let cut : first ∷ fields_in rest ≡ fields_in text = subst (λ (o : Option (List ℕ)). first ∷ fields_behind o ≡ fields_in text) is e in
    sym (ap only_field cut) ∙ none_alone first (fields_in rest) (omega (arith, length-slice_split (λ c. c == 32) rest))
