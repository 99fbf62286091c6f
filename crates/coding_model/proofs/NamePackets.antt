-- The packet of a name is read as it was written.
use Rattle.std.proofs.Common.{◌≡◌, inl, inr, ℕ, zero, suc, ◌+◌, ◌-◌, ◌/◌, ◌%◌, ◌<◌, ◌≤◌, Bool, true, false, not, cond, eqb, ltb, leb, ◌&&◌, List, [], ◌∷◌, ◌++◌, length, take, drop, replicate, slice_index, Some, None, Result, Ok, Err, refl, sym, ap, subst, ◌∙◌, append_assoc, arith}
use Rattle.std.specs.List.{list_all, position_or_len, position, AllByRecursion}
use Rattle.std.specs.Str.{bytes_eq}
use Rattle.std.proofs.lemmas.Bool.{cases_Bool, eq-eqb, eqb-true, lt-ltb, le-ltb, le-leb, ltb-true}
use Rattle.std.proofs.lemmas.List.{take_at, drop_at, get_or_at, drop-drop, length-append, length-replicate}
use Rattle.octet_model.specs.Octets.{AreOctets}
use Rattle.octet_model.proofs.Octets.{AreOctets-append}
use Rattle.names_model.specs.declared.fault.NameFault.{NameFault}
use Rattle.names_model.specs.declared.fault.NameFault.TheVariants.{Size, WrongKey, Cipher, Lead}
use Rattle.key_model.specs.SignedKey.{SignedKey}
use Rattle.packet_model.specs.declared.layout.TheConstants.{AES_128}
use Rattle.packet_model.specs.declared.length.TheConstants.{MAX_LENGTH}
use Rattle.packet_model.specs.Length.{length_octets, length_at}
use Rattle.packet_model.specs.Packet.{packet}
use Rattle.packet_model.proofs.Lengths.{length_again}
use Rattle.coding_model.specs.declared.constants.TheConstants.{TAG70, LEAST_LEAD}
use Rattle.coding_model.specs.CodedName.{tag70_body, is_body_length, are_zero_bits, is_sized, body_behind, body_of, cipher_of, some_octets, behind_zero, behind_lead}

abbrev ok : List ℕ → Result (List ℕ) NameFault
ok x = Ok x

all_true : (a b c : Bool) → a ≡ true → b ≡ true → c ≡ true → (a && b && c) ≡ true
all_true a b c ha hb hc = rw (ha, hb, hc) refl

both_true : (a b : Bool) → a ≡ true → b ≡ true → (a && b) ≡ true
both_true a b ha hb = rw (ha, hb) refl

-- ---- the body behind a tag and a length

zeros_pass : (n : ℕ) → list_all (λ c. eqb c 0) (replicate n 0) ≡ true
zeros_pass zero = refl
zeros_pass (suc n) = zeros_pass n

zeros_are_bits : (n : ℕ) → n ≤ 2 → are_zero_bits (replicate n 0) ≡ true
zeros_are_bits n h = both_true _ _ (lt-ltb (length (replicate n 0)) 3 (omega (arith, length-replicate {A = ℕ} n 0))) (zeros_pass n)

good_length : (n : ℕ) → 41 ≤ n → (n - 9) % 16 ≡ 0 → is_body_length n ≡ true
good_length n least whole = both_true _ _ (le-leb 41 n least) (eq-eqb ((n - 9) % 16) 0 whole)

sized : (front body : List ℕ) (n zeros : ℕ) → n ≡ length body → 41 ≤ n → (n - 9) % 16 ≡ 0 → zeros ≤ 2
    → is_sized (front ++ (body ++ replicate zeros 0)) (length front) n ≡ true
sized front body n zeros is least whole few =
    let rest : List ℕ = body ++ replicate zeros 0 in
    let fits : leb (length front + n) (length (front ++ rest)) ≡ true = le-leb _ _ (omega (arith, length-append front rest, length-append body (replicate zeros 0))) in
    let behind : drop (length front + n) (front ++ rest) ≡ replicate zeros 0 =
    sym (drop-drop n (length front) (front ++ rest)) ∙ ap (λ (l : List ℕ). drop n l) (drop_at front rest (length front) refl) ∙ drop_at body (replicate zeros 0) n (sym is) in
    all_true _ _ _ (good_length n least whole) fits (ap (λ (l : List ℕ). are_zero_bits l) behind ∙ zeros_are_bits zeros few)

behind_again : (front body : List ℕ) (n zeros : ℕ) → n ≡ length body → 41 ≤ n → (n - 9) % 16 ≡ 0 → zeros ≤ 2
    → body_behind (front ++ (body ++ replicate zeros 0)) (Ok (n, length front)) ≡ ok body
behind_again front body n zeros is least whole few =
    let rest : List ℕ = body ++ replicate zeros 0 in
    ap (λ (b : Bool). cond b (ok (take n (drop (length front) (front ++ rest)))) (Err Size)) (sized front body n zeros is least whole few)
    ∙ ap (λ (l : List ℕ). ok (take n l)) (drop_at front rest (length front) refl) ∙ ap ok (take_at body (replicate zeros 0) n (sym is))

pub body_again : (body : List ℕ) (zeros : ℕ) → 41 ≤ length body → (length body - 9) % 16 ≡ 0 → length body ≤ MAX_LENGTH → zeros ≤ 2
    → body_of (packet TAG70 body ++ replicate zeros 0) ≡ ok body
body_again body zeros least whole short few =
    let front : List ℕ = length_octets (length body) in
    let e : (front ++ body) ++ replicate zeros 0 ≡ front ++ (body ++ replicate zeros 0) = append_assoc front body (replicate zeros 0) in
    ap (λ (l : List ℕ). body_behind l (length_at l)) e
    ∙ ap (λ r. body_behind (front ++ (body ++ replicate zeros 0)) r) (length_again (length body) (body ++ replicate zeros 0) short)
    ∙ behind_again front body (length body) zeros refl least whole few

-- ---- what the body holds

same_octets : (xs : List ℕ) → bytes_eq xs xs ≡ true
same_octets [] = refl
same_octets (x ∷ xs) = both_true _ _ (eq-eqb x x refl) (same_octets xs)

pub cipher_again : (key : SignedKey) (cipher : List ℕ) → length key.signature ≡ 8 → cipher_of key.signature (tag70_body key cipher) ≡ ok cipher
cipher_again key cipher long =
    let sig : List ℕ = key.signature in
    let body : List ℕ = tag70_body key cipher in
    let first : take 8 body ≡ sig = take_at sig (AES_128 ∷ cipher) 8 long in
    let code : slice_index body 8 ≡ 7 = get_or_at sig 7 cipher 0 8 long in
    let rest : drop 9 body ≡ cipher = sym (drop-drop 1 8 body) ∙ ap (λ (l : List ℕ). drop 1 l) (drop_at sig (AES_128 ∷ cipher) 8 long) in
    let ours : bytes_eq (take 8 body) sig ≡ true = ap (λ (l : List ℕ). bytes_eq l sig) first ∙ same_octets sig in
    ap (λ (b : Bool). cond b (cond (eqb (slice_index body 8) 7) (ok (drop 9 body)) (Err (Cipher (slice_index body 8)))) (Err (WrongKey (take 8 body)))) ours
    ∙ ap (λ (b : Bool). cond b (ok (drop 9 body)) (Err (Cipher (slice_index body 8)))) (eq-eqb (slice_index body 8) 7 code)
    ∙ ap ok rest

-- ---- the octets behind a lead

abbrev is_zero : ℕ → Bool
is_zero c = eqb c 0

no_zero_is : (c : ℕ) → 0 < c → is_zero c ≡ false
no_zero_is c h = elim (cases_Bool (is_zero c)) [ inl t ↦ absurd (omega (arith, eqb-true c 0 t)) | inr f ↦ f ]

first_zero : (lead rest : List ℕ) → AllByRecursion (λ c. 0 < c) lead → position_or_len is_zero (lead ++ 0 ∷ rest) ≡ length lead
first_zero [] rest h = refl
first_zero (c ∷ cs) rest h =
    ap (λ (b : Bool). cond (not b) (1 + position_or_len is_zero (cs ++ 0 ∷ rest)) 0) (no_zero_is c h.0)
    ∙ (let e : position_or_len is_zero (cs ++ 0 ∷ rest) ≡ length cs = first_zero cs rest h.1 in omega arith)

zero_position : (lead rest : List ℕ) → AllByRecursion (λ c. 0 < c) lead → position is_zero (lead ++ 0 ∷ rest) ≡ Some (length lead)
zero_position lead rest h =
    let text : List ℕ = lead ++ 0 ∷ rest in
    let e : position_or_len is_zero text ≡ length lead = first_zero lead rest h in
    let within : ltb (position_or_len is_zero text) (length text) ≡ true = lt-ltb _ _ (omega (arith, length-append lead (0 ∷ rest))) in
    ap (λ (b : Bool). cond b (Some (position_or_len is_zero text)) None) within ∙ ap (λ (n : ℕ). Some n) e

some_octets_are : (octets : List ℕ) → 0 < length octets → some_octets octets ≡ ok octets
some_octets_are [] h = absurd (omega arith)
some_octets_are (c ∷ cs) h = refl

pub lead_again : (lead octets : List ℕ) → LEAST_LEAD ≤ length lead → AllByRecursion (λ c. 0 < c) lead → 0 < length octets → behind_lead (lead ++ 0 ∷ octets) ≡ ok octets
lead_again lead octets long no_zero some =
    let text : List ℕ = lead ++ 0 ∷ octets in
    let rest : drop (length lead + 1) text ≡ octets = sym (drop-drop 1 (length lead) text) ∙ ap (λ (l : List ℕ). drop 1 l) (drop_at lead (0 ∷ octets) (length lead) refl) in
    ap (λ o. behind_zero text o) (zero_position lead octets no_zero)
    ∙ ap (λ (b : Bool). cond b (Err (Lead (length lead))) (some_octets (drop (length lead + 1) text))) (le-ltb (length lead) 16 long)
    ∙ ap (λ (l : List ℕ). some_octets l) rest ∙ some_octets_are octets some

-- ---- its octets

small : (n : ℕ) → ltb n 192 ≡ true → n < 256
small n h = omega (arith, ltb-true n 192 h)

length_fits : (n : ℕ) → n ≤ MAX_LENGTH → AreOctets (length_octets n)
length_fits n h = elim (cases_Bool (ltb n 192)) [
  | inl t ↦ subst (λ (b : Bool). AreOctets (cond b (n ∷ []) ((192 + (n - 192) / 256) ∷ (n - 192) % 256 ∷ []))) (sym t) (omega (arith, small n t), tt)
  | inr f ↦ subst (λ (b : Bool). AreOctets (cond b (n ∷ []) ((192 + (n - 192) / 256) ∷ (n - 192) % 256 ∷ []))) (sym f) (omega arith, (omega arith, tt))
]

pub AreOctets-packet : (body : List ℕ) → AreOctets body → length body ≤ MAX_LENGTH → AreOctets (packet TAG70 body)
AreOctets-packet body fits short = (omega arith, AreOctets-append (length_octets (length body)) body (length_fits (length body) short) fits)
