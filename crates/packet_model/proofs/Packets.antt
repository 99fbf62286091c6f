-- A packet that is read is the one that was written, and what was written is read again.
use Rattle.std.proofs.Common.{◌≡◌, ℕ, suc, ◌+◌, ◌-◌, ◌<◌, ◌≤◌, Bool, true, false, cond, eqb, leb, List, [], ◌∷◌, ◌++◌, length, take, drop, get_or, Option, Some, None, Result, Ok, Err, refl, sym, ap, subst, ◌∙◌, append_assoc, drop-cons, arith}
use Rattle.std.specs.Prelude.{slice_index}
use Rattle.std.proofs.lemmas.Bool.{eqb-true, eq-eqb, leb-true, le-leb, and_parts}
use Rattle.std.proofs.lemmas.List.{take_at, drop_at, get_or_at, append_cancel_left, take-append-drop, drop-drop, length-append, length-take, length-drop}
use Rattle.octet_model.specs.Octets.{AreOctets}
use Rattle.octet_model.proofs.Octets.{AreOctets-front, AreOctets-back}
use Rattle.packet_model.specs.declared.length.LengthFault.{LengthFault}
use Rattle.packet_model.specs.declared.packet.Tag3.{Tag3}
use Rattle.packet_model.specs.declared.packet.Tag11.{Tag11}
use Rattle.packet_model.specs.declared.packet.TheConstants.{MAX_WRAPPED}
use Rattle.packet_model.specs.declared.length.TheConstants.{MAX_LENGTH}
use Rattle.packet_model.specs.declared.tag.TheConstants.{TAG3, TAG11}
use Rattle.packet_model.specs.Length.{length_octets, length_at}
use Rattle.packet_model.specs.Packet.{packet, tag3_body, tag3, IsTag3, Skipped, tag11_body, tag11, IsTag11}
use Rattle.packet_model.specs.FrontPacket.{body_behind, body_at, is_tag3_body, tag3_fields, is_tag11_body, tag11_fields, fields_if, tag3_at, tag11_at}
use Rattle.packet_model.proofs.Found.{Found, some, some_if}
use Rattle.packet_model.proofs.Lengths.{length_again, IsFront, length_takes}

-- ---- bodys

behind_again : (front body rest : List ℕ) (n : ℕ) → n ≡ length body → length_at (front ++ (body ++ rest)) ≡ Ok (n, length front)
    → body_behind (front ++ (body ++ rest)) (length_at (front ++ (body ++ rest))) ≡ some (body, 1 + length front + n)
behind_again front body rest n is h =
    let fits : leb (length front + n) (length (front ++ (body ++ rest))) ≡ true = le-leb _ _ (omega (arith, length-append front (body ++ rest), length-append body rest)) in
    rw (h, fits, drop_at front (body ++ rest) (length front) refl, take_at body rest n (sym is)) refl

pub body_again : (tag : ℕ) (body rest : List ℕ) → length body ≤ MAX_LENGTH → body_at tag (packet tag body ++ rest) ≡ some (body, length (packet tag body))
unfolding body_at
body_again tag body rest h =
    let front = length_octets (length body) in
    let e : (front ++ body) ++ rest ≡ front ++ (body ++ rest) = append_assoc front body rest in
    let behind = behind_again front body rest (length body) refl (length_again (length body) (body ++ rest) h) in
    let whole : body_behind ((front ++ body) ++ rest) (length_at ((front ++ body) ++ rest)) ≡ some (body, 1 + length front + length body) =
    ap (λ (r : List ℕ). body_behind r (length_at r)) e ∙ behind in
    let long : 1 + length front + length body ≡ suc (length (front ++ body)) = omega (arith, length-append front body) in
    rw (eq-eqb tag tag refl) (whole ∙ ap (λ (k : ℕ). some (body, k)) long)

abbrev pub HasBody : ℕ → List ℕ → List ℕ × ℕ → Type 0
HasBody tag octets x = Found (packet tag x.0) octets x.1 × (length x.0 ≤ MAX_LENGTH)

body_here : (tag : ℕ) (rest : List ℕ) (n used : ℕ) → IsFront rest n used → used + n ≤ length rest → HasBody tag (tag ∷ rest) (take n (drop used rest), 1 + used + n)
body_here tag rest n used front fits =
    let len : length (take n (drop used rest)) ≡ n = omega (arith, length-take n (drop used rest), length-drop used rest) in
    let front_is : length_octets n ≡ length_octets (length (take n (drop used rest))) = ap length_octets (sym len) in
    let behind : drop n (drop used rest) ≡ drop (used + n) rest = drop-drop n used rest in
    let k : 1 + used + n ≡ suc (used + n) = omega arith in
    let parts : rest ≡ (length_octets n ++ take n (drop used rest)) ++ drop (used + n) rest =
    front.0.parts ∙ ap (λ (r : List ℕ). length_octets n ++ r) (sym (take-append-drop n (drop used rest))) ∙ sym (append_assoc (length_octets n) (take n (drop used rest)) (drop n (drop used rest)))
    ∙ ap (λ (r : List ℕ). (length_octets n ++ take n (drop used rest)) ++ r) behind in
    let whole : tag ∷ rest ≡ packet tag (take n (drop used rest)) ++ drop (1 + used + n) (tag ∷ rest) =
    rw (k, len) (ap (λ (r : List ℕ). tag ∷ r) parts) in
    let long : 1 + used + n ≡ length (packet tag (take n (drop used rest))) =
    rw len (omega (arith, len, front.0.long, length-append (length_octets n) (take n (drop used rest)))) in
    (record { parts = whole; long = long }, omega (arith, front.1))

behind_takes : (tag : ℕ) (rest : List ℕ) (r : Result (ℕ × ℕ) LengthFault) (x : List ℕ × ℕ) → AreOctets rest → length_at rest ≡ r → body_behind rest r ≡ some x → HasBody tag (tag ∷ rest) x
behind_takes tag rest (Err fault) x fits is e = absurd cc
behind_takes tag rest (Ok m) x fits is e =
    let g = some_if (leb (m.1 + m.0) (length rest)) (take m.0 (drop m.1 rest), 1 + m.1 + m.0) x e in
    subst (HasBody tag (tag ∷ rest)) g.1 (body_here tag rest m.0 m.1 (length_takes rest m fits is) (leb-true _ _ g.0))

pub body_takes : (tag : ℕ) (octets : List ℕ) (x : List ℕ × ℕ) → AreOctets octets → body_at tag octets ≡ some x → HasBody tag octets x
unfolding body_at
body_takes tag [] x fits e = absurd cc
body_takes tag (first ∷ rest) x fits e =
    elim (eqb first tag) as (λ b. eqb first tag ≡ b → cond b (body_behind rest (length_at rest)) None ≡ some x → HasBody tag (first ∷ rest) x) [
      | true ↦ λ is h. subst (λ (t : ℕ). HasBody tag (t ∷ rest) x) (sym (eqb-true first tag is)) (behind_takes tag rest (length_at rest) x fits.1 refl h)
      | false ↦ λ is h. absurd (let g : None ≡ some x = h in cc)
    ] refl e

-- the fields of a body of which the test holds
fields_take : {A : Type 0} (test : List ℕ → Bool) (fields : List ℕ → A) (o : Option (List ℕ × ℕ)) (x : A × ℕ) → fields_if test fields o ≡ some x
    → (c : List ℕ) × (o ≡ some (c, x.1)) × (test c ≡ true) × (fields c ≡ x.0)
fields_take test fields None x e = absurd cc
fields_take {A = A} test fields (Some y) x e =
    let g = some_if (test y.0) (fields y.0, y.1) x e in
    (y.0, ap (λ (k : ℕ). some (y.0, k)) (ap (λ (p : A × ℕ). p.1) g.1), g.0, ap (λ (p : A × ℕ). p.0) g.1)

-- ---- tag 3

pub record IsTag3Body (c : List ℕ) : Type 0 where
  pub least : 13 ≤ length c
  pub most : length c ≤ 13 + MAX_WRAPPED
  pub version : slice_index c 0 ≡ 4
  pub s2k : slice_index c 2 ≡ 3
  pub hash : slice_index c 3 ≡ 1

tag3_test : (c : List ℕ) → IsTag3Body c → is_tag3_body c ≡ true
tag3_test c h = rw (le-leb 13 (length c) h.least, le-leb (length c) (13 + MAX_WRAPPED) h.most, eq-eqb (slice_index c 0) 4 h.version, eq-eqb (slice_index c 2) 3 h.s2k, eq-eqb (slice_index c 3) 1 h.hash) refl

tag3_tested : (c : List ℕ) → is_tag3_body c ≡ true → IsTag3Body c
tag3_tested c e =
    let a = and_parts _ _ e in
    let b = and_parts _ _ a.0 in
    let d = and_parts _ _ b.0 in
    let f = and_parts _ _ d.0 in
    record { least = leb-true 13 (length c) f.0; most = leb-true (length c) (13 + MAX_WRAPPED) f.1; version = eqb-true (slice_index c 0) 4 d.1; s2k = eqb-true (slice_index c 2) 3 b.1; hash = eqb-true (slice_index c 3) 1 a.1 }

tag3_body_is : (p : Tag3) → IsTag3 p → IsTag3Body (tag3_body p)
tag3_body_is p h =
    let len : length (tag3_body p) ≡ 13 + length p.wrapped = omega (arith, length-append p.salt (p.count ∷ p.wrapped), h.salt) in
    record { least = omega (arith, len); most = omega (arith, len, h.wrapped); version = refl; s2k = refl; hash = refl }

tag3_fields_again : (p : Tag3) → IsTag3 p → tag3_fields (tag3_body p) ≡ p
tag3_fields_again p h =
    let salt : take 8 (p.salt ++ p.count ∷ p.wrapped) ≡ p.salt = take_at p.salt (p.count ∷ p.wrapped) 8 h.salt in
    let count : get_or (p.salt ++ p.count ∷ p.wrapped) 8 0 ≡ p.count = get_or_at p.salt p.count p.wrapped 0 8 h.salt in
    let behind : drop 8 (p.salt ++ p.count ∷ p.wrapped) ≡ p.count ∷ p.wrapped = drop_at p.salt (p.count ∷ p.wrapped) 8 h.salt in
    let wrapped : drop 9 (p.salt ++ p.count ∷ p.wrapped) ≡ p.wrapped = sym (drop-drop 1 8 (p.salt ++ p.count ∷ p.wrapped)) ∙ ap (drop 1) behind in
    λ i. record { cipher = p.cipher; salt = salt i; count = count i; wrapped = wrapped i }

-- what was written is read again, whatever follows
pub tag3_again : (p : Tag3) (rest : List ℕ) → IsTag3 p → tag3_at (tag3 p ++ rest) ≡ some (p, length (tag3 p))
unfolding tag3_at
tag3_again p rest h =
    let is = tag3_body_is p h in
    let most : length (tag3_body p) ≤ MAX_LENGTH = omega (arith, is.most) in
    ap (fields_if is_tag3_body tag3_fields) (body_again TAG3 (tag3_body p) rest most)
    ∙ rw (tag3_test (tag3_body p) is) (ap (λ (q : Tag3). some (q, length (tag3 p))) (tag3_fields_again p h))

tag3_body_of : (c : List ℕ) → IsTag3Body c → (tag3_body (tag3_fields c) ≡ c) × IsTag3 (tag3_fields c)
tag3_body_of c h =
    let five : drop 4 c ≡ take 8 (drop 4 c) ++ drop 12 c = sym (take-append-drop 8 (drop 4 c)) ∙ ap (λ (r : List ℕ). take 8 (drop 4 c) ++ r) (drop-drop 8 4 c) in
    let l0 : 0 < length c = omega (arith, h.least) in
    let l1 : 1 < length c = omega (arith, h.least) in
    let l2 : 2 < length c = omega (arith, h.least) in
    let l3 : 3 < length c = omega (arith, h.least) in
    let l12 : 12 < length c = omega (arith, h.least) in
    let d0 : c ≡ get_or c 0 0 ∷ drop 1 c = drop-cons c 0 0 l0 in
    let d1 : drop 1 c ≡ get_or c 1 0 ∷ drop 2 c = drop-cons c 1 0 l1 in
    let d2 : drop 2 c ≡ get_or c 2 0 ∷ drop 3 c = drop-cons c 2 0 l2 in
    let d3 : drop 3 c ≡ get_or c 3 0 ∷ drop 4 c = drop-cons c 3 0 l3 in
    let d12 : drop 12 c ≡ get_or c 12 0 ∷ drop 13 c = drop-cons c 12 0 l12 in
    let whole : c ≡ get_or c 0 0 ∷ get_or c 1 0 ∷ get_or c 2 0 ∷ get_or c 3 0 ∷ (take 8 (drop 4 c) ++ get_or c 12 0 ∷ drop 13 c) = cc in
    let fixed : get_or c 0 0 ∷ get_or c 1 0 ∷ get_or c 2 0 ∷ get_or c 3 0 ∷ (take 8 (drop 4 c) ++ get_or c 12 0 ∷ drop 13 c) ≡ tag3_body (tag3_fields c) = rw (h.version, h.s2k, h.hash) refl in
    (sym (whole ∙ fixed), record { salt = omega (arith, length-take 8 (drop 4 c), length-drop 4 c, h.least); wrapped = omega (arith, length-drop 13 c, h.most) })

abbrev pub HasTag3 : List ℕ → Tag3 × ℕ → Type 0
HasTag3 octets x = Found (tag3 x.0) octets x.1 × IsTag3 x.0

-- what is read is what was written
pub tag3_takes : (octets : List ℕ) (x : Tag3 × ℕ) → AreOctets octets → tag3_at octets ≡ some x → HasTag3 octets x
unfolding tag3_at
tag3_takes octets x fits e =
    let f = fields_take is_tag3_body tag3_fields (body_at TAG3 octets) x e in
    let has = body_takes TAG3 octets (f.0, x.1) fits f.1 in
    let is = tag3_body_of f.0 (tag3_tested f.0 f.2) in
    let there : HasTag3 octets (tag3_fields f.0, x.1) = (subst (λ (c : List ℕ). Found (packet TAG3 c) octets x.1) (sym is.0) has.0, is.1) in
    subst (λ (p : Tag3). HasTag3 octets (p, x.1)) f.3 there

-- ---- tag 11

pub record IsTag11Body (c : List ℕ) : Type 0 where
  pub least : 14 ≤ length c
  pub long : length c ≡ 14 + slice_index c 1

tag11_test : (c : List ℕ) → IsTag11Body c → is_tag11_body c ≡ true
tag11_test c h = rw (le-leb 14 (length c) h.least, eq-eqb (length c) (14 + slice_index c 1) h.long) refl

tag11_tested : (c : List ℕ) → is_tag11_body c ≡ true → IsTag11Body c
tag11_tested c e =
    let a = and_parts _ _ e in
    record { least = leb-true 14 (length c) a.0; long = eqb-true (length c) (14 + slice_index c 1) a.1 }

tag11_long : (s : Skipped) (p : Tag11) → IsTag11 s p → length (tag11_body s p) ≡ 14 + length s.name
tag11_long s p h = omega (arith, length-append s.name (s.date ++ p.signature), length-append s.date p.signature, h.date, h.signature)

tag11_fields_again : (s : Skipped) (p : Tag11) → IsTag11 s p → tag11_fields (tag11_body s p) ≡ p
tag11_fields_again s p h =
    let k : length (tag11_body s p) - 8 ≡ suc (suc (length s.name + 4)) = omega (arith, tag11_long s p h) in
    let name : drop (length s.name) (s.name ++ (s.date ++ p.signature)) ≡ s.date ++ p.signature = drop_at s.name (s.date ++ p.signature) (length s.name) refl in
    let date : drop 4 (s.date ++ p.signature) ≡ p.signature = drop_at s.date p.signature 4 h.date in
    let behind : drop (length s.name + 4) (s.name ++ (s.date ++ p.signature)) ≡ p.signature = sym (drop-drop 4 (length s.name) (s.name ++ (s.date ++ p.signature))) ∙ ap (drop 4) name ∙ date in
    let signature : drop (length (tag11_body s p) - 8) (tag11_body s p) ≡ p.signature = ap (λ (n : ℕ). drop n (tag11_body s p)) k ∙ behind in
    λ i. record { signature = signature i }

-- a tag 11 packet that was written is read, whatever follows
pub tag11_again : (s : Skipped) (p : Tag11) (rest : List ℕ) → IsTag11 s p → tag11_at (tag11 s p ++ rest) ≡ some (p, length (tag11 s p))
unfolding tag11_at
tag11_again s p rest h =
    let long = tag11_long s p h in
    let most : length (tag11_body s p) ≤ MAX_LENGTH = omega (arith, long, h.name) in
    let is : IsTag11Body (tag11_body s p) = record { least = omega (arith, long); long = long } in
    ap (fields_if is_tag11_body tag11_fields) (body_again TAG11 (tag11_body s p) rest most)
    ∙ rw (tag11_test (tag11_body s p) is) (ap (λ (q : Tag11). some (q, length (tag11 s p))) (tag11_fields_again s p h))

-- the skipped fields of a body
abbrev pub skipped_in : List ℕ → Skipped
skipped_in c = record { format = slice_index c 0; name = take (slice_index c 1) (drop 2 c); date = take 4 (drop (slice_index c 1) (drop 2 c)) }

parts_of : (n : ℕ) (d : List ℕ) → length d ≡ n + 12 → d ≡ take n d ++ (take 4 (drop n d) ++ drop (n + 4) d)
parts_of n d h =
    sym (take-append-drop n d) ∙ ap (λ (r : List ℕ). take n d ++ r) (sym (take-append-drop 4 (drop n d)) ∙ ap (λ (r : List ℕ). take 4 (drop n d) ++ r) (drop-drop 4 n d))

tag11_body_of : (c : List ℕ) → AreOctets c → IsTag11Body c → (tag11_body (skipped_in c) (tag11_fields c) ≡ c) × IsTag11 (skipped_in c) (tag11_fields c)
tag11_body_of [] fits h = absurd (omega (arith, h.least))
tag11_body_of (f ∷ []) fits h = absurd (omega (arith, h.least))
tag11_body_of (f ∷ n ∷ d) fits h =
    let len : length d ≡ n + 12 = omega (arith, h.long) in
    let k : length (f ∷ n ∷ d) - 8 ≡ suc (suc (n + 4)) = omega (arith, len) in
    let name : length (take n d) ≡ n = omega (arith, length-take n d) in
    let signature : drop (length (f ∷ n ∷ d) - 8) (f ∷ n ∷ d) ≡ drop (n + 4) d = ap (λ (m : ℕ). drop m (f ∷ n ∷ d)) k in
    let whole : f ∷ n ∷ d ≡ f ∷ n ∷ (take n d ++ (take 4 (drop n d) ++ drop (n + 4) d)) = ap (λ (r : List ℕ). f ∷ n ∷ r) (parts_of n d len) in (
      sym (whole ∙ rw (signature, name) refl),
      record { name = omega (arith, name, fits.1.0); date = omega (arith, length-take 4 (drop n d), length-drop n d); signature = rw signature (omega (arith, length-drop (n + 4) d)) },
    )

abbrev pub HasTag11 : List ℕ → Tag11 × ℕ → Type 0
HasTag11 octets x = (s : Skipped) × Found (tag11 s x.0) octets x.1 × IsTag11 s x.0

octets_of_body : (tag : ℕ) (octets body : List ℕ) (used : ℕ) → AreOctets octets → Found (packet tag body) octets used → AreOctets body
octets_of_body tag octets body used fits found =
    let all : AreOctets (packet tag body ++ drop used octets) = subst AreOctets found.parts fits in
    AreOctets-back (length_octets (length body)) body (AreOctets-front (length_octets (length body) ++ body) (drop used octets) all.1)

-- what is read as a tag 11 packet is one, with some skipped fields
pub tag11_takes : (octets : List ℕ) (x : Tag11 × ℕ) → AreOctets octets → tag11_at octets ≡ some x → HasTag11 octets x
unfolding tag11_at
tag11_takes octets x fits e =
    let f = fields_take is_tag11_body tag11_fields (body_at TAG11 octets) x e in
    let has = body_takes TAG11 octets (f.0, x.1) fits f.1 in
    let is = tag11_body_of f.0 (octets_of_body TAG11 octets f.0 x.1 fits has.0) (tag11_tested f.0 f.2) in
    let there : HasTag11 octets (tag11_fields f.0, x.1) = (skipped_in f.0, subst (λ (c : List ℕ). Found (packet TAG11 c) octets x.1) (sym is.0) has.0, is.1) in
    subst (λ (p : Tag11). HasTag11 octets (p, x.1)) f.3 there

-- ---- no packet begins another

found_one : (x y : List ℕ × ℕ) → some x ≡ some y → x ≡ y
found_one x y e = cc

-- two packets at the front of the same octets are the same
pub one_packet : (t u : ℕ) (a b x y : List ℕ) → length a ≤ MAX_LENGTH → length b ≤ MAX_LENGTH → packet t a ++ x ≡ packet u b ++ y → (t ≡ u) × (a ≡ b) × (x ≡ y)
one_packet t u a b x y short small e =
    let tags : t ≡ u = cc in
    let same : packet t a ++ x ≡ packet t b ++ y = e ∙ ap (λ (v : ℕ). packet v b ++ y) (sym tags) in
    let both = found_one (a, length (packet t a)) (b, length (packet t b)) (sym (body_again t a x short) ∙ ap (body_at t) same ∙ body_again t b y small) in
    let bodys : a ≡ b = ap (λ (p : List ℕ × ℕ). p.0) both in
    let aligned : packet t a ++ x ≡ packet t a ++ y = same ∙ ap (λ (c : List ℕ). packet t c ++ y) (sym bodys) in
    (tags, bodys, append_cancel_left (packet t a) x y aligned)
