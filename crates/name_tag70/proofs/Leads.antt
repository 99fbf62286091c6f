-- The octets of leads.
use Rattle.std.proofs.Common.{◌≡◌, ℕ, ◌<◌, List, [], ◌∷◌, ◌++◌, length, map, take, drop, get_or, replicate, append-nil, refl, sym, ap, ◌∙◌, arith}
use Rattle.std.proofs.lemmas.List.{ext_get_or, take_at, drop_at, length-map, get_or-map}
use borrow.Rule.Slice.PartMut.{put_mid}
use Rattle.coding_model.specs.CodedName.{lead_octet}

pub halves : (first second zeros : List ℕ) → length first ≡ 16 → length zeros ≡ 16 → drop 16 zeros ≡ [] → put_mid 16 16 (first ++ zeros) second ≡ first ++ second
halves first second zeros h z none =
    let past : drop 16 (drop 16 (first ++ zeros)) ≡ [] = ap (λ (l : List ℕ). drop 16 l) (drop_at first zeros 16 h) ∙ none in
    (λ t. take_at first zeros 16 h t ++ (second ++ past t)) ∙ ap (λ (l : List ℕ). first ++ l) (append-nil second)

pub each_mapped : (octets digests : List ℕ) → length octets ≡ length digests → ((k : ℕ) → k < length digests → get_or octets k 0 ≡ lead_octet (get_or digests k 0)) → octets ≡ map lead_octet digests
each_mapped octets digests long each =
    ext_get_or 0 octets (map lead_octet digests) (long ∙ sym (length-map digests lead_octet))
    (λ k h. let within : k < length digests = omega arith in each k within ∙ sym (get_or-map lead_octet digests k 0 0 within))
