-- What stays of a file where its body changes elsewhere.
use Rattle.std.proofs.Common.{ℕ, ◌≡◌, ◌≢◌, ◌≤◌, inl, inr, List, length, take, drop, refl, sym, ◌∙◌, ap, arith}
use Rattle.std.proofs.lemmas.List.{take-take}
use Rattle.lower_model.specs.declared.meta_place.MetaPlace.{MetaPlace}
use Rattle.lower_model.specs.declared.meta_place.MetaPlace.TheVariants.{Header, Attribute}
use Rattle.body_model.specs.declared.opened.Opened.{Opened}
use Rattle.body_model.specs.LowerFile.{LowerFile}
use Rattle.body_model.specs.Format.{Format, IsDataStart, IsFormat, extent_at, with_size}
use Rattle.file_model.specs.declared.mark.MetadataMark.{MetadataMark}
use Rattle.file_model.specs.declared.mark.MetadataMark.TheVariants.{Clean, Size, Whole}
use Rattle.file_model.specs.LaidOut.{IsExact, IsExactLength, IsReadAs, KeepsMetadata, Origin}
use Rattle.file_model.proofs.Extents.{Stays}

-- kept metadata whose place stays
pub kept_stays : {K : Type 0} (origin : Origin) (old new : LowerFile) (place : MetaPlace) (mark : MetadataMark) (o : Opened K) → (mark ≢ Whole → take o.data_start new.body ≡ take o.data_start old.body)
    → KeepsMetadata origin old place mark o → KeepsMetadata origin new place mark o
kept_stays origin old new Header Clean o same (inl e) = inl (same (λ x. absurd cc) ∙ e)
kept_stays origin old new Header Clean o same (inr e) = inr (e.0, same (λ x. absurd cc) ∙ e.1)
kept_stays origin old new Header Size o same k = ap (drop 8) (same (λ e. absurd cc)) ∙ k
kept_stays origin old new Header Whole o same k = k
kept_stays origin old new Attribute Clean o same k = k
kept_stays origin old new Attribute Size o same k = k
kept_stays origin old new Attribute Whole o same k = k

-- the length, where the body kept its own
pub exact_stays : {K : Type 0} (origin : Origin) (old new : List ℕ) (o : Opened K) → length new ≡ length old → IsExactLength origin old o → IsExactLength origin new o
exact_stays origin old new o same (inl e) = inl (same ∙ e)
exact_stays origin old new o same (inr e) = inr (e.0, same ∙ e.1)

-- an extent, where it kept its octets
pub extent_stays : {K : Type 0} (format : Format K) (origin : Origin) (old new : List ℕ) (o : Opened K) (n : ℕ) (page : List ℕ) → extent_at o.data_start new n ≡ extent_at o.data_start old n
    → IsExact format origin old o n page → IsExact format origin new o n page
extent_stays format origin old new o n page same (inl e) = inl (ap (format.plain o.key n) same ∙ e)
extent_stays format origin old new o n page same (inr e) = inr (e.0, same ∙ e.1)

-- where the data of metadata that is read starts
pub start_of : {K : Type 0} (format : Format K) (file : LowerFile) (place : MetaPlace) (mark : MetadataMark) (o : Opened K) → IsFormat format → IsReadAs format file place mark o → IsDataStart place o.data_start
start_of format file Header Clean o lawful m = (lawful.read Header _ _ m.2).start
start_of format file Header Size o lawful m = (lawful.read Header _ _ m.2).start
start_of format file Header Whole o lawful m = (lawful.read Header _ _ m.2).start
start_of format file Attribute Clean o lawful m = (lawful.read Attribute _ _ m.1).start
start_of format file Attribute Size o lawful m = absurd m
start_of format file Attribute Whole o lawful m = (lawful.read Attribute _ _ m).start

pub there_of : {K : Type 0} (format : Format K) (file : LowerFile) (place : MetaPlace) (mark : MetadataMark) (o : Opened K) → IsDataStart place o.data_start → IsReadAs format file place mark o → mark ≢ Whole → o.data_start ≤ length file.body
there_of format file Header Clean o start m n = m.1
there_of format file Header Size o start m n = m.1
there_of format file Header Whole o start m n = absurd (n refl)
there_of format file Attribute mark o start m n = omega (arith, start)

head_same : (start : ℕ) (old new : List ℕ) → 4096 ≤ start → take start new ≡ take start old → take 4096 new ≡ take 4096 old
head_same start old new h same = sym (take-take 4096 start new h) ∙ ap (take 4096) same ∙ take-take 4096 start old h

-- metadata whose place stays goes on fitting
pub meta_stays : {K : Type 0} (format : Format K) (old new : LowerFile) (place : MetaPlace) (mark : MetadataMark) (o : Opened K) → IsDataStart place o.data_start
    → Stays 0 o.data_start old.body new.body → new.attribute ≡ old.attribute → IsReadAs format old place mark o → IsReadAs format new place mark o
meta_stays format old new Header Clean o start stays same m =
    let s = stays (omega (arith, m.1)) in
    (same ∙ m.0, omega (arith, s.0), ap (format.reads Header) (head_same o.data_start old.body new.body start.0 s.1) ∙ m.2)
meta_stays format old new Header Size o start stays same m =
    let s = stays (omega (arith, m.1)) in
    (same ∙ m.0, omega (arith, s.0), ap (λ xs. format.reads Header (with_size o.size xs)) (head_same o.data_start old.body new.body start.0 s.1) ∙ m.2)
meta_stays format old new Header Whole o start stays same m = (same ∙ m.0, m.1, m.2)
meta_stays format old new Attribute Clean o start stays same m = (same ∙ m.0, m.1)
meta_stays format old new Attribute Size o start stays same m = m
meta_stays format old new Attribute Whole o start stays same m = m
