-- A file that is left fits an image, as it did at first.
use Rattle.std.proofs.Common.{ℕ, ◌≡◌, ◌<◌, ◌≤◌, ◌^◌, Bool, true, false, List, [], ◌∷◌, length, Option, Some, None, Result, Ok, Err, cond, IfSome, refl, sym, ◌∙◌, ap, subst, arith, inl, inr}
use Rattle.std.specs.Prelude.{nat_lt, drop}
use Rattle.std.specs.Int.{to_be_bytes, w64}
use Rattle.std.proofs.lemmas.List.{length-append, length-drop}
use Rattle.lower_model.specs.declared.kind.Kind.TheVariants as kinds
use Rattle.lower_model.specs.declared.limits.TheConstants.{LONGEST_ATTRIBUTE}
use Rattle.lower_model.specs.declared.meta_place.MetaPlace.{MetaPlace}
use Rattle.lower_model.specs.declared.meta_place.MetaPlace.TheVariants.{Header, Attribute}
use Rattle.lower_model.specs.LowerTree.{HoldsOctets}
use Rattle.octet_model.specs.Octets.{AreOctets}
use Rattle.answer_model.specs.Answer.{◌>>=◌}
use Rattle.packet_model.specs.declared.cause.BadCause.{BadCause}
use Rattle.packet_model.specs.declared.cause.BadCause.TheVariants.{ShortData}
use Rattle.packet_model.specs.declared.layout.TheConstants.{MAX_META_SIZE, MAX_SIZE}
use Rattle.body_model.specs.declared.opened.Opened.{Opened}
use Rattle.body_model.specs.LowerFile.{LowerFile, IsOfOctets}
use Rattle.body_model.specs.Format.{Format, IsFormat, IsNew, kept_of, meta_place_of, metadata_of, needed, opening, with_data, with_size}
use Rattle.file_model.specs.declared.mark.MetadataMark.TheVariants.{Clean}
use Rattle.file_model.specs.LaidOut.{IsExactLength, IsReadAs, IsWrittenOut, KeepsMetadata, Origin, metadata_found}
use Rattle.file_model.specs.Shard.{IsLeft, origin_by, origin_in, origin_with}

abbrev Fits : LowerFile → Type 0
Fits file = HoldsOctets kinds.File file.attribute file.body

-- ---- the file as its first opening found it

-- Its body and, where its metadata is an attribute, that too are within the limits.
record OriginFits (origin : Origin) : Type 0 where
  body : length origin.body < 2 ^ 32
  attribute : origin.meta_place ≡ Attribute → length origin.metadata ≤ LONGEST_ATTRIBUTE

abbrev answer : {K : Type 0} → Bool → ℕ → Opened K → Result (Opened K) BadCause
answer true len o = Err (ShortData len (needed o.data_start o.size))
answer false len o = Ok o

answer_ok : {K : Type 0} (short : Bool) (len : ℕ) (p o : Opened K) → answer short len p ≡ Ok o → p ≡ o
answer_ok true len p o e = absurd cc
answer_ok false len p o e = cc

answers : {K : Type 0} (short : Bool) (len : ℕ) (p : Opened K) → answer short len p ≡ cond short (Err (ShortData len (needed p.data_start p.size))) (Ok p)
answers true len p = refl
answers false len p = refl

read_of : {K : Type 0} (len : ℕ) (read : Result (Opened K) BadCause) (o : Opened K) → read >>= with_data len ≡ Ok o → read ≡ Ok o
read_of len (Err cause) o e = absurd cc
read_of len (Ok p) o e =
    let short : Bool = nat_lt len (needed p.data_start p.size) in
    ap (λ (q : Opened _). Ok q) (answer_ok short len p o (answers short len p ∙ e))

attribute_fits : (attribute : Option (List ℕ)) (body : List ℕ) → IfSome attribute (λ (a : List ℕ). AreOctets a × (length a ≤ LONGEST_ATTRIBUTE)) → meta_place_of attribute ≡ Attribute
    → length (metadata_of body attribute) ≤ LONGEST_ATTRIBUTE
attribute_fits (Some a) body fits is = fits.1
attribute_fits None body fits is = absurd cc

some_is : {A : Type 0} (a b : A) → Some a ≡ Some b → a ≡ b
some_is a b e = cc

module _ {K : Type 0} (format : Format K) (file : LowerFile) (lawful : IsFormat format) (fits : Fits file) where
  found_fits : (o : Opened K) → opening format file ≡ Ok o → (place : MetaPlace) → o.meta_place ≡ place → place ≡ Attribute → length (metadata_found place Clean o file) ≤ LONGEST_ATTRIBUTE
  found_fits o is Header place apart = absurd cc
  found_fits o is Attribute place same =
      let reads = read_of (length file.body) (format.reads (meta_place_of file.attribute) (metadata_of file.body file.attribute)) o is in
      let read = lawful.read _ _ o reads in
      let here : meta_place_of file.attribute ≡ Attribute = sym read.place_is ∙ place in
      let kept : o.metadata ≡ metadata_of file.body file.attribute = read.kept ∙ ap (λ (p : MetaPlace). kept_of p (metadata_of file.body file.attribute)) here in
      omega (arith, ap length kept, attribute_fits file.attribute file.body fits.0 here)

  origin_by_fits : (new : Opened K) (origin : Origin) (read : Result (Opened K) BadCause) → opening format file ≡ read → origin_by new file read ≡ Some origin → OriginFits origin
  origin_by_fits new origin (Err cause) is e = absurd cc
  origin_by_fits new origin (Ok o) is e = subst OriginFits (some_is _ origin e) (record { body = fits.2; attribute = λ at_attribute. found_fits o is o.meta_place refl at_attribute })

  origin_with_fits : (new : Opened K) (origin : Origin) (read : Result (Opened K) BadCause) → IsNew new → (origin_by new file read ≡ Some origin → OriginFits origin)
      → (body : List ℕ) (attribute : Option (List ℕ)) → origin_with new file body attribute read ≡ Some origin → OriginFits origin
  origin_with_fits new origin read is_new by [] None e = subst OriginFits (some_is _ origin e) (record { body = omega arith; attribute = λ at_attribute. is_new.short })
  origin_with_fits new origin read is_new by (x ∷ rest) None e = by e
  origin_with_fits new origin read is_new by [] (Some a) e = by e
  origin_with_fits new origin read is_new by (x ∷ rest) (Some a) e = by e

  origin_fits : (node : ℕ) (origin : Origin) → origin_in format node file ≡ Some origin → OriginFits origin
  origin_fits node origin e =
      origin_with_fits (format.new_file node) origin (opening format file) (lawful.new node) (λ by. origin_by_fits (format.new_file node) origin (opening format file) refl by) file.body file.attribute e

-- ---- a file that is written out

module _ {K : Type 0} (format : Format K) (origin : Origin) (file : LowerFile) (o : Opened K) (lawful : IsFormat format) (fits : OriginFits origin) (octets : IsOfOctets file) where
  -- its size, and where its data starts
  record IsWithin : Type 0 where
    size : o.size ≤ MAX_SIZE
    start : o.data_start ≤ MAX_META_SIZE

  within : (place : MetaPlace) → IsReadAs format file place Clean o → IsWithin
  within Header is = (let read = lawful.read Header _ _ is.2 in record { size = read.size; start = read.start.1 })
  within Attribute is = (let read = lawful.read Attribute _ _ is.1 in record { size = read.size; start = omega (arith, read.start) })

  body_fits : IsWithin → IsExactLength origin file.body o → length file.body < 2 ^ 32
  body_fits within (inl exact) = omega (arith, within.size, within.start, exact)
  body_fits within (inr found) = omega (arith, found.1, fits.body)

  sized_fits : (metadata : List ℕ) → length metadata ≤ LONGEST_ATTRIBUTE → length (with_size o.size metadata) ≤ LONGEST_ATTRIBUTE
  sized_fits metadata few = (let eight : length (to_be_bytes w64 o.size) ≡ 8 = refl in omega (arith, length-append (to_be_bytes w64 o.size) (drop 8 metadata), length-drop 8 metadata, eight))

  kept_fits : length origin.metadata ≤ LONGEST_ATTRIBUTE → KeepsMetadata origin file Attribute Clean o → length o.metadata ≤ LONGEST_ATTRIBUTE
  kept_fits few (inl sized) = omega (arith, ap length sized, sized_fits origin.metadata few)
  kept_fits few (inr found) = omega (arith, ap length found.1)

  metadata_fits : (place : MetaPlace) → o.meta_place ≡ place → o.meta_place ≡ origin.meta_place → IsReadAs format file place Clean o → KeepsMetadata origin file place Clean o
      → IfSome file.attribute (λ (a : List ℕ). AreOctets a × (length a ≤ LONGEST_ATTRIBUTE))
  metadata_fits Header is same read kept = rw (read.0) tt
  metadata_fits Attribute is same read kept =
      let there : IfSome (Some o.metadata) AreOctets = subst (λ (a : Option (List ℕ)). IfSome a AreOctets) read.0 octets.1 in
      subst (λ (a : Option (List ℕ)). IfSome a (λ (x : List ℕ). AreOctets x × (length x ≤ LONGEST_ATTRIBUTE))) (sym read.0) (there, kept_fits (fits.attribute (sym same ∙ is)) kept)

  written_fits : IsWrittenOut format origin file o → Fits file
  written_fits out = (metadata_fits o.meta_place refl out.place out.metadata out.kept, octets.0, body_fits (within o.meta_place out.metadata) out.exact)

-- A file that is left fits an image, where the first one did.
pub left_fits : {K : Type 0} (format : Format K) (node : ℕ) (first : LowerFile) (opened : Bool) (file : LowerFile) → IsFormat format → HoldsOctets kinds.File first.attribute first.body → IsOfOctets file
    → IsLeft format node first opened file → HoldsOctets kinds.File file.attribute file.body
left_fits format node first false file lawful fits octets left = subst Fits (sym left) fits
left_fits format node first true file lawful fits octets left = written_fits format left.0 file left.1 lawful (origin_fits format first lawful fits node left.0 left.2) octets left.3

octets_of : (attribute : Option (List ℕ)) → IfSome attribute (λ (a : List ℕ). AreOctets a × (length a ≤ LONGEST_ATTRIBUTE)) → IfSome attribute AreOctets
octets_of (Some a) fits = fits.0
octets_of None fits = tt

-- What fits is octets.
pub of_octets : (file : LowerFile) → HoldsOctets kinds.File file.attribute file.body → IsOfOctets file
of_octets file fits = (fits.1, octets_of file.attribute fits.0)
