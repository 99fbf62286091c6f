-- The fields of a job are read as they are spelled.
use Rattle.std.proofs.Common.{◌≡◌, ℕ, ◌<◌, ◌≤◌, ◌^◌, true, cond, leb, ltb, List, [], ◌∷◌, length, map, codes, Option, Some, None, refl, ap, subst, ◌∙◌, arith, inl, inr}
use Rattle.std.specs.Prelude.{◌&&◌, ◌==◌}
use Rattle.std.specs.List.{list_all, slice_split, join_with_byte, AllByRecursion}
use Rattle.std.specs.Str.{bytes_eq}
use Rattle.std.specs.Fmt.{decimal}
use Rattle.std.proofs.lemmas.Bool.{and_parts, eqb-true, leb-true, le-leb, ltb-true, lt-ltb}
use Rattle.std.proofs.lemmas.Bool.Decides.{nat_tests}
use Rattle.std.proofs.lemmas.Fmt.{digits_decimal}
use Rattle.std.proofs.lemmas.Option.{none-some, same_Some}
use Rattle.std.proofs.lemmas.Slice.Eq.{bytes_eq-Decides}
use Rattle.octet_model.specs.Octets.{AreOctets}
use Rattle.text_model.specs.Line.{number, hex}
use Rattle.job_model.specs.declared.limits.TheConstants.{LONGEST_PASSPHRASE, MOST_SESSIONS, MOST_ITEMS}
use Rattle.job_model.specs.declared.job.NameCoding.{NameCoding}
use Rattle.job_model.specs.declared.job.NameCoding.TheVariants.{Plain, Tag70}
use Rattle.lower_model.specs.declared.meta_place.MetaPlace.{MetaPlace}
use Rattle.lower_model.specs.declared.meta_place.MetaPlace.TheVariants.{Header, Attribute}
use Rattle.job_model.specs.Job.{IsPassphrase, IsSchedule}
use Rattle.job_model.specs.JobText.{IsAny, IsWithin, coding_word, meta_place_word}
use Rattle.reading_model.specs.Fields.{number_in, hex_in, each_in}
use Rattle.reading_model.proofs.Readers.{IsReader, guard_some}
use Rattle.reading_model.proofs.Words.{is_word, is_other, both, weaker}
use Rattle.reading_model.proofs.NumberReader.{own, number_reader}
use Rattle.reading_model.proofs.HexReader.{hex_reader, hex_digits}
use Rattle.reading_model.proofs.NameReader.{chosen}
use Rattle.reading_model.proofs.PathReader.{AreSome, fields_reader}
use Rattle.std.specs.Char.{is_ascii_digit}
use Rattle.job_text.specs.JobReading.{passphrase_if, passphrase_in, coding_in, meta_place_in, number_if, count_in, item_if, item_in, items_if, items_in}
use Rattle.job_text.proofs.LineParts.{HasNoEnd}

-- ---- none of them holds a line end

word_no_end : (c : ℕ) → is_word c ≡ true → is_other 10 c ≡ true
word_no_end c e = grind (arith, nat_tests)

pub digit_is_not : (octet c : ℕ) → octet < 48 → is_ascii_digit c ≡ true → is_other octet c ≡ true
digit_is_not octet c lt e = grind (arith, nat_tests)

pub number_without : (octet n : ℕ) → octet < 48 → n < 2 ^ 64 → list_all (is_other octet) (number n) ≡ true
number_without octet n lt fits = weaker is_ascii_digit (is_other octet) (λ c e. digit_is_not octet c lt e) (decimal n) (digits_decimal own n fits)

pub hex_no_end : (octets : List ℕ) → AreOctets octets → HasNoEnd (hex octets)
hex_no_end octets fits = weaker is_word (is_other 10) word_no_end (hex octets) (hex_digits octets fits).1

-- ---- readers

pub passphrase_reader : IsReader passphrase_in hex IsPassphrase
passphrase_reader = record { found = found; again = again }
  where
    of : (text octets : List ℕ) (o : Option (List ℕ)) → hex_in text ≡ o → passphrase_if o ≡ Some octets → (text ≡ hex octets) × IsPassphrase octets
    of text octets None e made = absurd (none-some octets made)
    of text octets (Some read) e made =
        let g = guard_some (leb 1 (length read) && leb (length read) LONGEST_PASSPHRASE) (Some read) octets made in
        let parts = and_parts (leb 1 (length read)) (leb (length read) LONGEST_PASSPHRASE) g.0 in
        let f = hex_reader.found text read e in
        subst (λ (os : List ℕ). (text ≡ hex os) × IsPassphrase os) (same_Some read octets g.1)
        (f.0, record { some = leb-true 1 (length read) parts.0; few = leb-true (length read) LONGEST_PASSPHRASE parts.1; octets = f.1 })

    found : (text octets : List ℕ) → passphrase_in text ≡ Some octets → (text ≡ hex octets) × IsPassphrase octets
    found text octets e = of text octets (hex_in text) refl e

    again : (octets : List ℕ) → IsPassphrase octets → passphrase_in (hex octets) ≡ Some octets
    again octets h = rw (hex_reader.again octets h.octets, le-leb 1 (length octets) h.some, le-leb (length octets) LONGEST_PASSPHRASE h.few) refl

word_is : (text word : List ℕ) → bytes_eq text word ≡ true → text ≡ word
word_is text word e = (bytes_eq-Decides text word).0 e

pub coding_reader : IsReader coding_in coding_word IsAny
coding_reader = record { found = found; again = again }
  where
    found : (text : List ℕ) (coding : NameCoding) → coding_in text ≡ Some coding → (text ≡ coding_word coding) × Unit {0}
    found text coding e =
        elim (chosen (bytes_eq text (codes "plain")) (Some Plain) (cond (bytes_eq text (codes "tag70")) (Some Tag70) None) (Some coding) e) [
          | inl p ↦ (word_is text (codes "plain") p.0 ∙ ap coding_word (same_Some Plain coding p.1), tt)
          | inr q ↦ let g = guard_some (bytes_eq text (codes "tag70")) (Some Tag70) coding q.1 in (word_is text (codes "tag70") g.0 ∙ ap coding_word (same_Some Tag70 coding g.1), tt)
        ]

    again : (coding : NameCoding) → Unit {0} → coding_in (coding_word coding) ≡ Some coding
    again Plain h = refl
    again Tag70 h = refl

pub meta_place_reader : IsReader meta_place_in meta_place_word IsAny
meta_place_reader = record { found = found; again = again }
  where
    found : (text : List ℕ) (place : MetaPlace) → meta_place_in text ≡ Some place → (text ≡ meta_place_word place) × Unit {0}
    found text place e =
        elim (chosen (bytes_eq text (codes "header")) (Some Header) (cond (bytes_eq text (codes "attribute")) (Some Attribute) None) (Some place) e) [
          | inl p ↦ (word_is text (codes "header") p.0 ∙ ap meta_place_word (same_Some Header place p.1), tt)
          | inr q ↦ let g = guard_some (bytes_eq text (codes "attribute")) (Some Attribute) place q.1 in (word_is text (codes "attribute") g.0 ∙ ap meta_place_word (same_Some Attribute place g.1), tt)
        ]

    again : (place : MetaPlace) → Unit {0} → meta_place_in (meta_place_word place) ≡ Some place
    again Header h = refl
    again Attribute h = refl

pub count_reader : (least most : ℕ) → most < 2 ^ 64 → IsReader (count_in least most) number (IsWithin least most)
count_reader least most small = record { found = found; again = again }
  where
    of : (text : List ℕ) (n : ℕ) (o : Option ℕ) → number_in text ≡ o → number_if least most o ≡ Some n → (text ≡ number n) × IsWithin least most n
    of text n None e made = absurd (none-some n made)
    of text n (Some read) e made =
        let g = guard_some (leb least read && leb read most) (Some read) n made in
        let parts = and_parts (leb least read) (leb read most) g.0 in
        let f = number_reader.found text read e in
        subst (λ (k : ℕ). (text ≡ number k) × IsWithin least most k) (same_Some read n g.1) (f.0, record { least_is = leb-true least read parts.0; most_is = leb-true read most parts.1 })

    found : (text : List ℕ) (n : ℕ) → count_in least most text ≡ Some n → (text ≡ number n) × IsWithin least most n
    found text n e = of text n (number_in text) refl e

    again : (n : ℕ) → IsWithin least most n → count_in least most (decimal n) ≡ Some n
    again n h = let fits : n < 2 ^ 64 = omega (arith, h.most_is) in rw (number_reader.again n fits, le-leb least n h.least_is, le-leb n most h.most_is) refl

-- ---- the schedule

pub item_reader : (sessions : ℕ) → sessions ≤ MOST_SESSIONS → IsReader (item_in sessions) number (λ s. s < sessions)
item_reader sessions few = record { found = found; again = again }
  where
    of : (text : List ℕ) (n : ℕ) (o : Option ℕ) → number_in text ≡ o → item_if sessions o ≡ Some n → (text ≡ number n) × (n < sessions)
    of text n None e made = absurd (none-some n made)
    of text n (Some read) e made =
        let g = guard_some (ltb read sessions) (Some read) n made in
        let f = number_reader.found text read e in
        subst (λ (k : ℕ). (text ≡ number k) × (k < sessions)) (same_Some read n g.1) (f.0, ltb-true read sessions g.0)

    found : (text : List ℕ) (n : ℕ) → item_in sessions text ≡ Some n → (text ≡ number n) × (n < sessions)
    found text n e = of text n (number_in text) refl e

    again : (n : ℕ) → n < sessions → item_in sessions (decimal n) ≡ Some n
    again n h = rw (number_reader.again n (omega (arith, h, few)), lt-ltb n sessions h) refl

abbrev pub items_text : List ℕ → List ℕ
items_text [] = []
items_text (item ∷ items) = 32 ∷ join_with_byte 32 (map number (item ∷ items))

pub items_reader : (sessions : ℕ) → sessions ≤ MOST_SESSIONS → IsReader (items_in sessions) items_text (IsSchedule sessions)
items_reader sessions few = record { found = found; again = again }
  where
    row : IsReader (λ text. each_in (item_in sessions) (slice_split (λ c. c == 32) text)) (λ items. join_with_byte 32 (map number items)) (AreSome (λ s. s < sessions))
    row = fields_reader 32 (item_in sessions) number (λ s. s < sessions) (item_reader sessions few) (λ n h. number_without 32 n (omega arith) (omega (arith, h, few)))

    text_of : (items : List ℕ) → 0 < length items → 32 ∷ join_with_byte 32 (map number items) ≡ items_text items
    text_of [] some = absurd (omega (arith, some))
    text_of (item ∷ items) some = refl

    of : (text items : List ℕ) (o : Option (List ℕ)) → each_in (item_in sessions) (slice_split (λ c. c == 32) text) ≡ o → items_if o ≡ Some items → (32 ∷ text ≡ items_text items) × IsSchedule sessions items
    of text items None e made = absurd (none-some items made)
    of text items (Some read) e made =
        let g = guard_some (leb (length read) MOST_ITEMS) (Some read) items made in
        let f = row.found text read e in
        subst (λ (is : List ℕ). (32 ∷ text ≡ items_text is) × IsSchedule sessions is) (same_Some read items g.1)
        (ap (λ (t : List ℕ). 32 ∷ t) f.0 ∙ text_of read f.1.some, record { few = leb-true (length read) MOST_ITEMS g.0; items = f.1.each })

    found : (text items : List ℕ) → items_in sessions text ≡ Some items → (text ≡ items_text items) × IsSchedule sessions items
    found [] items e = subst (λ (is : List ℕ). ([] ≡ items_text is) × IsSchedule sessions is) (same_Some [] items e) (refl, record { few = omega arith; items = tt })
    found (c ∷ text) items e =
        let g = guard_some (c == 32) (items_if (each_in (item_in sessions) (slice_split (λ c. c == 32) text))) items e in
        let f = of text items (each_in (item_in sessions) (slice_split (λ c. c == 32) text)) refl g.1 in
        (ap (λ (k : ℕ). k ∷ text) (eqb-true c 32 g.0) ∙ f.0, f.1)

    again : (items : List ℕ) → IsSchedule sessions items → items_in sessions (items_text items) ≡ Some items
    again [] h = refl
    again (item ∷ items) h = rw (row.again (item ∷ items) (record { some = omega arith; each = h.items }), le-leb (length (item ∷ items)) MOST_ITEMS h.few) refl

numbers_no_end : (sessions item : ℕ) (items : List ℕ) → sessions ≤ MOST_SESSIONS → AllByRecursion (λ s. s < sessions) (item ∷ items) → HasNoEnd (join_with_byte 32 (map number (item ∷ items)))
numbers_no_end sessions item [] few h = number_without 10 item (omega arith) (omega (arith, h.0, few))
numbers_no_end sessions item (next ∷ items) few h =
    both (is_other 10) (number item) (32 ∷ join_with_byte 32 (map number (next ∷ items))) (number_without 10 item (omega arith) (omega (arith, h.0, few))) (numbers_no_end sessions next items few h.1)

pub items_no_end : (sessions : ℕ) (items : List ℕ) → sessions ≤ MOST_SESSIONS → AllByRecursion (λ s. s < sessions) items → HasNoEnd (items_text items)
items_no_end sessions [] few h = refl
items_no_end sessions (item ∷ items) few h = numbers_no_end sessions item items few h
