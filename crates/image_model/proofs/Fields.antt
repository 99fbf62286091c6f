-- A field that is read is the field that was written, and what was written is read again.
use Rattle.std.proofs.Common.{◌≡◌, ℕ, zero, suc, ◌+◌, ◌-◌, ◌^◌, ◌<◌, ◌≤◌, Bool, true, false, cond, ltb, leb, List, [], ◌∷◌, ◌++◌, length, take, drop, Option, Some, None, Result, Ok, Err, refl, sym, ap, subst, ◌∙◌, append_assoc, arith}
use Rattle.std.specs.Prelude.{IfSome, ◌&&◌}
use Rattle.std.specs.Int.{Width, w16, w32, byte_len, from_be_bytes, to_be_bytes}
use Rattle.std.proofs.lemmas.Bool.{and_parts, ltb-false, le-ltb, ltb-true, lt-ltb, leb-true, le-leb}
use Rattle.std.proofs.lemmas.List.{take_at, drop_at, take-append-drop, length-append, length-take}
use Rattle.std.proofs.lemmas.Nat.{be_bytes_2, be_bytes_4, from_be_bytes-to_be_bytes_2, from_be_bytes-to_be_bytes_4}
use Rattle.lower_model.specs.declared.kind.Kind.{Kind}
use Rattle.lower_model.specs.declared.kind.Kind.TheVariants.{Dir, File}
use Rattle.octet_model.specs.Octets.{AreOctets}
use Rattle.lower_model.specs.Name.{is_name}
use Rattle.lower_model.specs.LowerTree.{comes_before, HoldsOctets}
use Rattle.image_model.specs.declared.fault.ImageKind.TheVariants as kinds
use Rattle.image_model.specs.ImageText.{kind_code, attribute, sized, file_octets}
use Rattle.image_model.specs.ImageReading.{FieldFault, wrong, number_at, octets_at, level_at, kind_at, name_at, attribute_at, body_at, file_octets_at, FileOctets}
use Rattle.octet_model.proofs.Octets.{octet_at, AreOctets-take, AreOctets-drop}
use Rattle.answer_model.specs.Answer.{◌>>=◌}
use Rattle.answer_model.proofs.Binds.{bind_ok, ok_is}

-- a test that did not fail: one that leads to a fault, and one that leads on
pub guard_not : {A : Type 0} (b : Bool) (d : FieldFault) (r : Result A FieldFault) (y : A) → cond b (Err d) r ≡ Ok y → (b ≡ false) × (r ≡ Ok y)
guard_not true d r y e = absurd cc
guard_not false d r y e = (refl, e)

pub guard : {A : Type 0} (b : Bool) (d : FieldFault) (r : Result A FieldFault) (y : A) → cond b r (Err d) ≡ Ok y → (b ≡ true) × (r ≡ Ok y)
guard true d r y e = (refl, e)
guard false d r y e = absurd cc

abbrev done : {A : Type 0} → A → Result A FieldFault
done x = Ok x

-- what holds of the one value holds of the other
pub moved : {A : Type 0} (P : A → Type 0) (x y : A) → done x ≡ done y → P x → P y
moved P x y e p = subst P (ok_is x y e) p

-- what a reader took from the front
pub record Takes (octets text rest : List ℕ) : Type 0 where
  pub parts : octets ≡ text ++ rest
  pub rest_fits : AreOctets rest

pub Takes-then : (a x b y c : List ℕ) → Takes a x b → Takes b y c → Takes a (x ++ y) c
Takes-then a x b y c p q = record { parts = p.parts ∙ ap (λ (t : List ℕ). x ++ t) q.parts ∙ sym (append_assoc x y c); rest_fits = q.rest_fits }

Takes-behind : (b : ℕ) (octets text rest : List ℕ) → Takes octets text rest → Takes (b ∷ octets) (b ∷ text) rest
Takes-behind b octets text rest t = record { parts = ap (λ (x : List ℕ). b ∷ x) t.parts; rest_fits = t.rest_fits }

-- ---- numbers

pub record IsWide (w : Width) (limit : ℕ) : Type 0 where
  pub len : (n : ℕ) → length (to_be_bytes w n) ≡ byte_len w
  pub back : (octets : List ℕ) → length octets ≡ byte_len w → AreOctets octets → to_be_bytes w (from_be_bytes w octets) ≡ octets
  pub again : (n : ℕ) → n < limit → from_be_bytes w (to_be_bytes w n) ≡ n
  pub below : (octets : List ℕ) → AreOctets octets → from_be_bytes w octets < limit

pub wide16 : IsWide w16 (2 ^ 16)
wide16 = record {
  len = λ n. refl;
  back = λ octets len fits. be_bytes_2 octets _ len (λ i. octet_at octets i fits) refl;
  again = λ n lt. from_be_bytes-to_be_bytes_2 n lt;
  below = λ octets fits. omega (arith, octet_at octets 0 fits, octet_at octets 1 fits);
}

pub wide32 : IsWide w32 (2 ^ 32)
wide32 = record {
  len = λ n. refl;
  back = λ octets len fits. be_bytes_4 octets _ len (λ i. octet_at octets i fits) refl;
  again = λ n lt. from_be_bytes-to_be_bytes_4 n lt;
  below = λ octets fits. omega (arith, octet_at octets 0 fits, octet_at octets 1 fits, octet_at octets 2 fits, octet_at octets 3 fits);
}

pub number_takes : (w : Width) (limit : ℕ) (wide : IsWide w limit) (octets : List ℕ) (n : ℕ) (rest : List ℕ) → AreOctets octets → number_at w octets ≡ Ok (n, rest) → Takes octets (to_be_bytes w n) rest × (n < limit)
number_takes w limit wide octets n rest fits e =
    let g = guard_not (ltb (length octets) (byte_len w)) (record { left = length octets; kind = kinds.Cut }) (Ok (from_be_bytes w (take (byte_len w) octets), drop (byte_len w) octets)) (n, rest) e in
    let h = ok_is (from_be_bytes w (take (byte_len w) octets), drop (byte_len w) octets) (n, rest) g.1 in
    let long : byte_len w ≤ length octets = ltb-false _ _ g.0 in
    let n-is : from_be_bytes w (take (byte_len w) octets) ≡ n = ap (λ (p : ℕ × List ℕ). p.0) h in
    let rest-is : drop (byte_len w) octets ≡ rest = ap (λ (p : ℕ × List ℕ). p.1) h in
    let front : to_be_bytes w n ≡ take (byte_len w) octets = rw (← n-is) (wide.back (take (byte_len w) octets) (omega (arith, length-take (byte_len w) octets)) (AreOctets-take (byte_len w) octets fits)) in
    (record { parts = rw (front, ← rest-is) (sym (take-append-drop (byte_len w) octets)); rest_fits = rw (← rest-is) (AreOctets-drop (byte_len w) octets fits) }, rw (← n-is) (wide.below (take (byte_len w) octets) (AreOctets-take (byte_len w) octets fits)))

pub number_again : (w : Width) (limit : ℕ) (wide : IsWide w limit) (n : ℕ) (rest : List ℕ) → n < limit → number_at w (to_be_bytes w n ++ rest) ≡ Ok (n, rest)
number_again w limit wide n rest lt =
    let len = wide.len n in
    let long : ltb (length (to_be_bytes w n ++ rest)) (byte_len w) ≡ false = le-ltb _ _ (omega (arith, length-append (to_be_bytes w n) rest)) in
    rw (long, take_at (to_be_bytes w n) rest (byte_len w) len, drop_at (to_be_bytes w n) rest (byte_len w) len, wide.again n lt) refl

-- ---- octets of a known length

pub octets_take : (n : ℕ) (octets x rest : List ℕ) → AreOctets octets → octets_at n octets ≡ Ok (x, rest) → Takes octets x rest × (length x ≡ n) × AreOctets x
octets_take n octets x rest fits e =
    let g = guard_not (ltb (length octets) n) (record { left = length octets; kind = kinds.Cut }) (Ok (take n octets, drop n octets)) (x, rest) e in
    let long : n ≤ length octets = ltb-false _ _ g.0 in
    moved (λ (p : List ℕ × List ℕ). Takes octets p.0 p.1 × (length p.0 ≡ n) × AreOctets p.0) (take n octets, drop n octets) (x, rest) g.1
    (record { parts = sym (take-append-drop n octets); rest_fits = AreOctets-drop n octets fits }, omega (arith, length-take n octets), AreOctets-take n octets fits)

pub octets_again : (n : ℕ) (x rest : List ℕ) → length x ≡ n → octets_at n (x ++ rest) ≡ Ok (x, rest)
octets_again n x rest len =
    let long : ltb (length (x ++ rest)) n ≡ false = le-ltb _ _ (omega (arith, length-append x rest)) in
    rw (long, take_at x rest n len, drop_at x rest n len) refl

-- ---- levels and kinds

level_from : (depth n : ℕ) (octets m : List ℕ) → Takes octets (to_be_bytes w16 n) m → (ltb 0 n && leb n depth) ≡ true → Takes octets (to_be_bytes w16 (n - 1 + 1)) m × (n - 1 < depth)
level_from depth n octets m t test =
    let both = and_parts (ltb 0 n) (leb n depth) test in
    let low : 0 < n = ltb-true 0 n both.0 in
    let high : n ≤ depth = leb-true n depth both.1 in
    let e : n - 1 + 1 ≡ n = omega arith in
    (subst (λ k. Takes octets (to_be_bytes w16 k) m) (sym e) t, omega arith)

pub level_takes : (depth : ℕ) (octets : List ℕ) (level : ℕ) (rest : List ℕ) → AreOctets octets → level_at depth octets ≡ Ok (level, rest) → Takes octets (to_be_bytes w16 (level + 1)) rest × (level < depth)
unfolding level_at
level_takes depth octets level rest fits e =
    let b = bind_ok (number_at w16 octets) (λ n. cond (ltb 0 n.0 && leb n.0 depth) (Ok (n.0 - 1, n.1)) (wrong kinds.Level octets)) (level, rest) e in
    let t = number_takes w16 (2 ^ 16) wide16 octets b.0.0 b.0.1 fits b.1 in
    let g = guard (ltb 0 b.0.0 && leb b.0.0 depth) (record { left = length octets; kind = kinds.Level }) (Ok (b.0.0 - 1, b.0.1)) (level, rest) b.2 in
    moved (λ (p : ℕ × List ℕ). Takes octets (to_be_bytes w16 (p.0 + 1)) p.1 × (p.0 < depth)) (b.0.0 - 1, b.0.1) (level, rest) g.1 (level_from depth b.0.0 octets b.0.1 t.0 g.0)

pub level_again : (depth level : ℕ) (rest : List ℕ) → level < depth → depth ≤ 65535 → level_at depth (to_be_bytes w16 (level + 1) ++ rest) ≡ Ok (level, rest)
unfolding level_at
level_again depth level rest lt most =
    let low : ltb 0 (level + 1) ≡ true = lt-ltb 0 (level + 1) (omega arith) in
    let high : leb (level + 1) depth ≡ true = le-leb (level + 1) depth (omega arith) in
    let back : level + 1 - 1 ≡ level = omega arith in
    rw (number_again w16 (2 ^ 16) wide16 (level + 1) rest (omega arith), low, high, back) refl

pub kind_takes : (octets : List ℕ) (kind : Kind) (rest : List ℕ) → AreOctets octets → kind_at octets ≡ Ok (kind, rest) → Takes octets (kind_code kind ∷ []) rest
unfolding kind_at
kind_takes [] kind rest fits e = absurd cc
kind_takes (zero ∷ octets) kind rest fits e =
    moved (λ (p : Kind × List ℕ). Takes (0 ∷ octets) (kind_code p.0 ∷ []) p.1) (Dir, octets) (kind, rest) e (record { parts = refl; rest_fits = fits.1 })
kind_takes (suc zero ∷ octets) kind rest fits e =
    moved (λ (p : Kind × List ℕ). Takes (1 ∷ octets) (kind_code p.0 ∷ []) p.1) (File, octets) (kind, rest) e (record { parts = refl; rest_fits = fits.1 })
kind_takes (suc (suc b) ∷ octets) kind rest fits e = absurd cc

pub kind_again : (kind : Kind) (rest : List ℕ) → kind_at (kind_code kind ∷ rest) ≡ Ok (kind, rest)
unfolding kind_at
kind_again Dir rest = refl
kind_again File rest = refl

-- ---- names

pub name_takes : (last octets name rest : List ℕ) → AreOctets octets → name_at last octets ≡ Ok (name, rest) → Takes octets (length name ∷ name) rest × (is_name name ≡ true) × (comes_before last name ≡ true)
unfolding name_at
name_takes last [] name rest fits e = absurd cc
name_takes last (zero ∷ octets) name rest fits e = absurd cc
name_takes last (suc n ∷ octets) name rest fits e =
    let b = bind_ok (octets_at (suc n) octets) (λ x. cond (is_name x.0) (cond (comes_before last x.0) (Ok x) (wrong kinds.Order octets)) (wrong kinds.Name octets)) (name, rest) e in
    let g = guard (is_name b.0.0) (record { left = length octets; kind = kinds.Name }) (cond (comes_before last b.0.0) (Ok b.0) (wrong kinds.Order octets)) (name, rest) b.2 in
    let h = guard (comes_before last b.0.0) (record { left = length octets; kind = kinds.Order }) (Ok b.0) (name, rest) g.1 in
    let t = octets_take (suc n) octets b.0.0 b.0.1 fits.1 b.1 in
    let parts : suc n ∷ octets ≡ (length b.0.0 ∷ b.0.0) ++ b.0.1 = rw t.1 (ap (λ (x : List ℕ). suc n ∷ x) t.0.parts) in
    moved (λ (p : List ℕ × List ℕ). Takes (suc n ∷ octets) (length p.0 ∷ p.0) p.1 × (is_name p.0 ≡ true) × (comes_before last p.0 ≡ true)) b.0 (name, rest) h.1
    (record { parts = parts; rest_fits = t.0.rest_fits }, g.0, h.0)

name_again_from : (n : ℕ) (last name rest : List ℕ) → length name ≡ suc n → is_name name ≡ true → comes_before last name ≡ true → name_at last (suc n ∷ (name ++ rest)) ≡ Ok (name, rest)
unfolding name_at
name_again_from n last name rest len named after = rw (octets_again (suc n) name rest len, named, after) refl

pub name_again : (last name rest : List ℕ) → is_name name ≡ true → comes_before last name ≡ true → name_at last ((length name ∷ name) ++ rest) ≡ Ok (name, rest)
name_again last [] rest named after = absurd cc
name_again last (x ∷ xs) rest named after = name_again_from (length xs) last (x ∷ xs) rest refl named after

-- ---- attributes and bodies

sized_takes : (octets m x rest : List ℕ) (n : ℕ) → Takes octets (to_be_bytes w32 n) m → Takes m x rest → length x ≡ n → Takes octets (sized x) rest
sized_takes octets m x rest n t u len = subst (λ (k : ℕ). Takes octets (to_be_bytes w32 k ++ x) rest) (sym len) (Takes-then octets (to_be_bytes w32 n) m x rest t u)

pub attribute_takes : (octets : List ℕ) (a : Option (List ℕ)) (rest : List ℕ) → AreOctets octets → attribute_at octets ≡ Ok (a, rest) → Takes octets (attribute a) rest × IfSome a (λ x. AreOctets x × (length x ≤ 65536))
unfolding attribute_at
attribute_takes [] a rest fits e = absurd cc
attribute_takes (zero ∷ octets) a rest fits e =
    moved (λ (p : Option (List ℕ) × List ℕ). Takes (0 ∷ octets) (attribute p.0) p.1 × IfSome p.0 (λ x. AreOctets x × (length x ≤ 65536))) (None, octets) (a, rest) e (record { parts = refl; rest_fits = fits.1 }, tt)
attribute_takes (suc zero ∷ octets) a rest fits e =
    let b = bind_ok (number_at w32 octets) (λ n. cond (leb n.0 65536) (octets_at n.0 n.1 >>= λ x. Ok (Some x.0, x.1)) (wrong kinds.AttributeLength octets)) (a, rest) e in
    let g = guard (leb b.0.0 65536) (record { left = length octets; kind = kinds.AttributeLength }) (octets_at b.0.0 b.0.1 >>= λ x. Ok (Some x.0, x.1)) (a, rest) b.2 in
    let d = bind_ok (octets_at b.0.0 b.0.1) (λ x. Ok (Some x.0, x.1)) (a, rest) g.1 in
    let t = number_takes w32 (2 ^ 32) wide32 octets b.0.0 b.0.1 fits.1 b.1 in
    let u = octets_take b.0.0 b.0.1 d.0.0 d.0.1 t.0.rest_fits d.1 in
    let whole = sized_takes octets b.0.1 d.0.0 d.0.1 b.0.0 t.0 u.0 u.1 in
    let short : length d.0.0 ≤ 65536 = rw u.1 (leb-true b.0.0 65536 g.0) in
    moved (λ (p : Option (List ℕ) × List ℕ). Takes (1 ∷ octets) (attribute p.0) p.1 × IfSome p.0 (λ x. AreOctets x × (length x ≤ 65536))) (Some d.0.0, d.0.1) (a, rest) d.2
    (Takes-behind 1 octets (sized d.0.0) d.0.1 whole, (u.2, short))
attribute_takes (suc (suc b) ∷ octets) a rest fits e = absurd cc

pub attribute_again : (a : Option (List ℕ)) (rest : List ℕ) → IfSome a (λ x. AreOctets x × (length x ≤ 65536)) → attribute_at (attribute a ++ rest) ≡ Ok (a, rest)
unfolding attribute_at
attribute_again None rest h = refl
attribute_again (Some x) rest h =
    rw (number_again w32 (2 ^ 32) wide32 (length x) (x ++ rest) (omega arith), le-leb (length x) 65536 h.1, octets_again (length x) x rest refl) refl

pub body_takes : (octets b rest : List ℕ) → AreOctets octets → body_at octets ≡ Ok (b, rest) → Takes octets (sized b) rest × AreOctets b × (length b < 2 ^ 32)
unfolding body_at
body_takes octets b rest fits e =
    let n = bind_ok (number_at w32 octets) (λ n. octets_at n.0 n.1) (b, rest) e in
    let t = number_takes w32 (2 ^ 32) wide32 octets n.0.0 n.0.1 fits n.1 in
    let u = octets_take n.0.0 n.0.1 b rest t.0.rest_fits n.2 in
    (sized_takes octets n.0.1 b rest n.0.0 t.0 u.0 u.1, u.2, rw u.1 t.1)

pub body_again : (b rest : List ℕ) → length b < 2 ^ 32 → body_at (sized b ++ rest) ≡ Ok (b, rest)
unfolding body_at
body_again b rest h = rw (number_again w32 (2 ^ 32) wide32 (length b) (b ++ rest) h, octets_again (length b) b rest refl) refl

pub file_octets_take : (kind : Kind) (octets : List ℕ) (c : FileOctets) (rest : List ℕ) → AreOctets octets → file_octets_at kind octets ≡ Ok (c, rest) → Takes octets (file_octets kind c.attribute c.body) rest × HoldsOctets kind c.attribute c.body
unfolding file_octets_at
file_octets_take Dir octets c rest fits e =
    moved (λ (p : FileOctets × List ℕ). Takes octets [] p.1 × ((p.0.attribute ≡ None) × (p.0.body ≡ []))) (record { attribute = None; body = [] }, octets) (c, rest) e (record { parts = refl; rest_fits = fits }, (refl, refl))
file_octets_take File octets c rest fits e =
    let a = bind_ok (attribute_at octets) (λ a. body_at a.1 >>= λ b. Ok (record { attribute = a.0; body = b.0 }, b.1)) (c, rest) e in
    let b = bind_ok (body_at a.0.1) (λ b. Ok (record { attribute = a.0.0; body = b.0 }, b.1)) (c, rest) a.2 in
    let t = attribute_takes octets a.0.0 a.0.1 fits a.1 in
    let u = body_takes a.0.1 b.0.0 b.0.1 t.0.rest_fits b.1 in
    moved (λ (p : FileOctets × List ℕ). Takes octets (attribute p.0.attribute ++ sized p.0.body) p.1 × HoldsOctets File p.0.attribute p.0.body) (record { attribute = a.0.0; body = b.0.0 }, b.0.1) (c, rest) b.2
    (Takes-then octets (attribute a.0.0) a.0.1 (sized b.0.0) b.0.1 t.0 u.0, (t.1, u.1, u.2))

pub file_octets_again : (kind : Kind) (a : Option (List ℕ)) (b rest : List ℕ) → HoldsOctets kind a b → file_octets_at kind (file_octets kind a b ++ rest) ≡ Ok (record { attribute = a; body = b }, rest)
unfolding file_octets_at
file_octets_again Dir a b rest h = rw (h.0, h.1) refl
file_octets_again File a b rest h =
    let e : (attribute a ++ sized b) ++ rest ≡ attribute a ++ (sized b ++ rest) = append_assoc (attribute a) (sized b) rest in
    rw (e, attribute_again a (sized b ++ rest) h.0, body_again b rest h.2) refl
