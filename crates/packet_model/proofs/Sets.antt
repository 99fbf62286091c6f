-- A set of pairs that is read is the one that was written, and what was written is read again.
use Rattle.std.proofs.Common.{◌≡◌, inl, inr, ℕ, zero, suc, ◌+◌, ◌≤◌, ◌<◌, Bool, true, false, cond, List, [], ◌∷◌, ◌++◌, length, drop, Option, Some, None, Result, Ok, Err, refl, sym, ap, subst, ◌∙◌, append_assoc, arith}
use Rattle.std.proofs.lemmas.List.{drop_at, drop-drop, length-append, length-drop}
use Rattle.octet_model.specs.Octets.{AreOctets}
use Rattle.octet_model.proofs.Octets.{AreOctets-drop}
use Rattle.answer_model.specs.Answer.{◌>>=◌}
use Rattle.answer_model.proofs.Binds.{bind_ok, ok_is}
use Rattle.packet_model.specs.declared.cause.BadCause.{BadCause}
use Rattle.packet_model.specs.declared.cause.BadCause.TheVariants.{Tag1}
use Rattle.packet_model.specs.declared.packet.Tag3.{Tag3}
use Rattle.packet_model.specs.declared.packet.Tag11.{Tag11}
use Rattle.packet_model.specs.Packet.{Skipped, tag3, tag11, IsTag3, IsTag11}
use Rattle.packet_model.specs.FrontPacket.{tag3_at, tag11_at}
use Rattle.packet_model.specs.declared.packet.Pair.{Pair}
use Rattle.packet_model.specs.PacketSet.{begins_pair, begins_tag1, at_offset, pair_at, pairs_at, IsSet}
use Rattle.packet_model.proofs.Found.{Found, some, chosen}
use Rattle.packet_model.proofs.Packets.{tag3_again, tag3_takes, tag11_again, tag11_takes}

-- a value, with the type of a cause
abbrev pub ok : {A : Type 0} → A → Result A BadCause
ok x = Ok x

at_offset_ok : {A : Type 0} (offset : ℕ) (o : Option A) (x : A) → at_offset offset o ≡ ok x → o ≡ some x
at_offset_ok offset None x e = absurd cc
at_offset_ok offset (Some y) x e = cc

-- a test that did not lead to a fault
passed : {A : Type 0} (b : Bool) (d : BadCause) (r : Result A BadCause) (y : A) → cond b (Err d) r ≡ ok y → r ≡ ok y
passed true d r y e = absurd cc
passed false d r y e = e

-- this pair stands at the front, and has so many octets
pub record HasPair (octets : List ℕ) (x : Pair × ℕ) : Type 0 where
  pub skipped : Skipped
  pub is_tag3 : IsTag3 x.0.tag3
  pub is_tag11 : IsTag11 skipped x.0.tag11
  pub parts : octets ≡ tag3 x.0.tag3 ++ (tag11 skipped x.0.tag11 ++ drop x.1 octets)
  pub some_octets : 0 < x.1

has_pair : (octets : List ℕ) (p : Tag3) (q : Tag11) (m n : ℕ) (s : Skipped) → Found (tag3 p) octets m → IsTag3 p → Found (tag11 s q) (drop m octets) n → IsTag11 s q
    → HasPair octets (record { tag3 = p; tag11 = q }, m + n)
has_pair octets p q m n s first is next are =
    let rest : drop n (drop m octets) ≡ drop (m + n) octets = drop-drop n m octets in
    record {
      skipped = s;
      is_tag3 = is;
      is_tag11 = are;
      parts = first.parts ∙ ap (λ (r : List ℕ). tag3 p ++ r) next.parts ∙ ap (λ (r : List ℕ). tag3 p ++ (tag11 s q ++ r)) rest;
      some_octets = omega (arith, first.long);
    }

-- a pair that is read begins with a tag 3 packet
pub pair_begins : (offset : ℕ) (octets : List ℕ) (x : Pair × ℕ) → pair_at offset octets ≡ ok x → (p : Tag3 × ℕ) × (tag3_at octets ≡ some p)
unfolding pair_at
pair_begins offset octets x e =
    let then_signature : Tag3 × ℕ → Tag11 × ℕ → Result (Pair × ℕ) BadCause = λ key signature. Ok (record { tag3 = key.0; tag11 = signature.0 }, key.1 + signature.1) in
    let then_key : Tag3 × ℕ → Result (Pair × ℕ) BadCause = λ key. at_offset (offset + key.1) (tag11_at (drop key.1 octets)) >>= then_signature key in
    let key = bind_ok (at_offset offset (tag3_at octets)) then_key x (passed (begins_tag1 octets) (Tag1 offset) (at_offset offset (tag3_at octets) >>= then_key) x e) in
    (key.0, at_offset_ok offset (tag3_at octets) key.0 key.1)

pub pair_takes : (offset : ℕ) (octets : List ℕ) (x : Pair × ℕ) → AreOctets octets → pair_at offset octets ≡ ok x → HasPair octets x
unfolding pair_at
pair_takes offset octets x fits e =
    let then_signature : Tag3 × ℕ → Tag11 × ℕ → Result (Pair × ℕ) BadCause = λ key signature. Ok (record { tag3 = key.0; tag11 = signature.0 }, key.1 + signature.1) in
    let then_key : Tag3 × ℕ → Result (Pair × ℕ) BadCause = λ key. at_offset (offset + key.1) (tag11_at (drop key.1 octets)) >>= then_signature key in
    let whole = passed (begins_tag1 octets) (Tag1 offset) (at_offset offset (tag3_at octets) >>= then_key) x e in
    let k = bind_ok (at_offset offset (tag3_at octets)) then_key x whole in
    let s = bind_ok (at_offset (offset + k.0.1) (tag11_at (drop k.0.1 octets))) (then_signature k.0) x k.2 in
    let first = tag3_takes octets k.0 fits (at_offset_ok offset (tag3_at octets) k.0 k.1) in
    let next = tag11_takes (drop k.0.1 octets) s.0 (AreOctets-drop k.0.1 octets fits) (at_offset_ok (offset + k.0.1) (tag11_at (drop k.0.1 octets)) s.0 s.1) in
    subst (HasPair octets) {x = (record { tag3 = k.0.0; tag11 = s.0.0 }, k.0.1 + s.0.1)} (ok_is (record { tag3 = k.0.0; tag11 = s.0.0 }, k.0.1 + s.0.1) x s.2)
    (has_pair octets k.0.0 s.0.0 k.0.1 s.0.1 next.0 first.0 first.1 next.1 next.2)

pub none_begins : (octets : List ℕ) → length octets ≤ 0 → begins_pair octets ≡ false
none_begins [] h = refl
none_begins (x ∷ xs) h = absurd (omega arith)

-- what is read is what was written
pub pairs_take : (most offset : ℕ) (octets : List ℕ) (pairs : List Pair) → AreOctets octets → length octets ≤ most → pairs_at most offset octets ≡ ok pairs → IsSet pairs octets
unfolding pairs_at
pairs_take zero offset octets pairs fits le e = subst (λ (ps : List Pair). IsSet ps octets) (ok_is [] pairs e) (none_begins octets le)
pairs_take (suc most) offset octets pairs fits le e =
    let others : Pair × ℕ → Result (List Pair) BadCause = λ f. pairs_at most (offset + f.1) (drop f.1 octets) >>= λ ps. Ok (f.0 ∷ ps) in
    elim (chosen (begins_pair octets) (pair_at offset octets >>= others) (Ok []) (ok pairs) e) [
      | inl t ↦
          let f = bind_ok (pair_at offset octets) others pairs t.1 in
          let o = bind_ok (pairs_at most (offset + f.0.1) (drop f.0.1 octets)) (λ ps. Ok (f.0.0 ∷ ps)) pairs f.2 in
          let has = pair_takes offset octets f.0 fits f.1 in
          let rest : IsSet o.0 (drop f.0.1 octets) = pairs_take most (offset + f.0.1) (drop f.0.1 octets) o.0 (AreOctets-drop f.0.1 octets fits) (omega (arith, length-drop f.0.1 octets, has.some_octets)) o.1 in
          subst (λ (ps : List Pair). IsSet ps octets) (ok_is (f.0.0 ∷ o.0) pairs o.2) (has.skipped, drop f.0.1 octets, has.is_tag3, has.is_tag11, has.parts, rest)
      | inr f ↦ subst (λ (ps : List Pair). IsSet ps octets) (ok_is [] pairs f.1) f.0
    ]

-- ---- what was written is read again

pair_again : (offset : ℕ) (p : Tag3) (q : Tag11) (s : Skipped) (rest : List ℕ) → IsTag3 p → IsTag11 s q
    → pair_at offset (tag3 p ++ (tag11 s q ++ rest)) ≡ ok (record { tag3 = p; tag11 = q }, length (tag3 p) + length (tag11 s q))
unfolding pair_at
pair_again offset p q s rest is are =
    let key = tag3_again p (tag11 s q ++ rest) is in
    let signature = tag11_again s q rest are in
    let behind : drop (length (tag3 p)) (tag3 p ++ (tag11 s q ++ rest)) ≡ tag11 s q ++ rest = drop_at (tag3 p) (tag11 s q ++ rest) (length (tag3 p)) refl in
    let then_signature : Tag3 × ℕ → Tag11 × ℕ → Result (Pair × ℕ) BadCause = λ key signature. Ok (record { tag3 = key.0; tag11 = signature.0 }, key.1 + signature.1) in
    let then_key : Tag3 × ℕ → Result (Pair × ℕ) BadCause = λ key. at_offset (offset + key.1) (tag11_at (drop key.1 (tag3 p ++ (tag11 s q ++ rest)))) >>= then_signature key in
    ap (λ (o : Option (Tag3 × ℕ)). at_offset offset o >>= then_key) key
    ∙ ap (λ (r : List ℕ). at_offset (offset + length (tag3 p)) (tag11_at r) >>= then_signature (p, length (tag3 p))) behind
    ∙ ap (λ (o : Option (Tag11 × ℕ)). at_offset (offset + length (tag3 p)) o >>= then_signature (p, length (tag3 p))) signature

again_here : (most offset : ℕ) (p : Pair) (s : Skipped) (pairs : List Pair) (rest : List ℕ) → IsTag3 p.tag3 → IsTag11 s p.tag11
    → pairs_at most (offset + (length (tag3 p.tag3) + length (tag11 s p.tag11))) rest ≡ ok pairs
    → pairs_at (suc most) offset (tag3 p.tag3 ++ (tag11 s p.tag11 ++ rest)) ≡ ok (p ∷ pairs)
unfolding pairs_at
again_here most offset p s pairs rest is are h =
    let text = tag3 p.tag3 ++ (tag11 s p.tag11 ++ rest) in
    let n = length (tag3 p.tag3) + length (tag11 s p.tag11) in
    let others : Pair × ℕ → Result (List Pair) BadCause = λ f. pairs_at most (offset + f.1) (drop f.1 text) >>= λ ps. Ok (f.0 ∷ ps) in
    let joined : text ≡ (tag3 p.tag3 ++ tag11 s p.tag11) ++ rest = sym (append_assoc (tag3 p.tag3) (tag11 s p.tag11) rest) in
    let behind : drop n text ≡ rest = ap (drop n) joined ∙ drop_at (tag3 p.tag3 ++ tag11 s p.tag11) rest n (length-append (tag3 p.tag3) (tag11 s p.tag11)) in
    ap (λ (r : Result (Pair × ℕ) BadCause). r >>= others) (pair_again offset p.tag3 p.tag11 s rest is are)
    ∙ ap (λ (r : List ℕ). pairs_at most (offset + n) r >>= λ ps. Ok (p ∷ ps)) behind
    ∙ ap (λ (r : Result (List Pair) BadCause). r >>= λ ps. Ok (p ∷ ps)) h

pub ends_here : (most offset : ℕ) (octets : List ℕ) → begins_pair octets ≡ false → pairs_at most offset octets ≡ ok []
unfolding pairs_at
ends_here zero offset octets e = refl
ends_here (suc most) offset octets e = rw e refl

-- pairs that were written are read
pub pairs_again : (pairs : List Pair) (most offset : ℕ) (octets : List ℕ) → IsSet pairs octets → length octets ≤ most → pairs_at most offset octets ≡ ok pairs
pairs_again [] most offset octets is le = ends_here most offset octets is
pairs_again (p ∷ pairs) zero offset octets is le =
    let long = ap length is.4 in
    absurd (omega (arith, long))
pairs_again (p ∷ pairs) (suc most) offset octets is le =
    let long : length octets ≡ length (tag3 p.tag3) + (length (tag11 is.0 p.tag11) + length is.1) =
    ap length is.4 ∙ length-append (tag3 p.tag3) (tag11 is.0 p.tag11 ++ is.1) ∙ ap (λ (k : ℕ). length (tag3 p.tag3) + k) (length-append (tag11 is.0 p.tag11) is.1) in
    let rest = pairs_again pairs most (offset + (length (tag3 p.tag3) + length (tag11 is.0 p.tag11))) is.1 is.5 (omega (arith, long)) in
    ap (pairs_at (suc most) offset) is.4 ∙ again_here most offset p is.0 pairs is.1 is.2 is.3 rest
