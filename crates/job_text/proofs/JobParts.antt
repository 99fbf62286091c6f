-- The parts of a job: what is read is spelled so, and what is spelled so is read.
use Rattle.std.proofs.Common.{◌≡◌, ℕ, ◌<◌, ◌≤◌, ◌^◌, Bool, true, false, cond, ltb, List, [], ◌∷◌, ◌++◌, length, take, drop, map, codes, Option, Result, Ok, Err, refl, sym, ap, subst, ◌∙◌, append_assoc, arith}
use Rattle.std.specs.Prelude.{◌==◌}
use Rattle.std.specs.List.{flat_map, AllByRecursion}
use Rattle.std.proofs.lemmas.Bool.{eqb-true, ltb-false, le-ltb}
use Rattle.std.proofs.lemmas.List.{take-append-drop, take_at, drop_at, length-append, length-take}
use Rattle.octet_model.specs.Octets.{HasOctets}
use Rattle.answer_model.specs.Answer.{◌>>=◌}
use Rattle.answer_model.proofs.Binds.{bind_ok, ok_is}
use Rattle.job_model.specs.declared.limits.TheConstants.{MOST_SESSIONS}
use Rattle.lower_model.specs.LowerTree.{IsLowerTree}
use Rattle.lower_model.specs.declared.node.LowerNode.{LowerNode}
use Rattle.image_model.specs.declared.fault.ImageFault.{ImageFault}
use Rattle.image_model.specs.ImageText.{image}
use Rattle.image_model.specs.ImageReading.{reading}
use Rattle.octet_model.proofs.Octets.{AreOctets-take}
use Rattle.image_model.proofs.Image.{reading_takes, reading_again}
use Rattle.text_model.specs.Line.{line, number, hex}
use Rattle.script_model.specs.declared.op.Op.{Op}
use Rattle.script_model.specs.declared.limits.TheConstants.{MOST_OPERATIONS}
use Rattle.script_model.specs.Script.{IsOp, IsScript}
use Rattle.script_model.specs.ScriptText.{op_line}
use Rattle.reading_model.proofs.OpReader.{op_reader, op_no_end}
use Rattle.job_model.specs.declared.job.NameCoding.{NameCoding}
use Rattle.job_model.specs.declared.job.NameCoding.TheVariants.{Plain, Tag70}
use Rattle.lower_model.specs.declared.meta_place.MetaPlace.{MetaPlace}
use Rattle.lower_model.specs.declared.meta_place.MetaPlace.TheVariants.{Header, Attribute}
use Rattle.job_model.specs.Job.{IsPassphrase, IsSchedule}
use Rattle.job_model.specs.JobText.{IsAny, IsWithin, coding_word, meta_place_word, image_text, session_text}
use Rattle.reading_model.specs.Fields.{IsU64, any_number_in, number_in, sized_hex_in}
use Rattle.reading_model.proofs.NumberReader.{number_reader, any_from_number, number_from_any}
use Rattle.reading_model.proofs.HexReader.{sized_hex_reader}
use Rattle.job_text.specs.declared.settings.Keys.{Keys}
use Rattle.job_text.specs.declared.settings.Making.{Making}
use Rattle.job_text.specs.JobReading.{Part, or_wrong, word_at, field_at, times_at, passphrase_in, coding_in, meta_place_in, keys_of, keys_at, making_at, behind_end, image_or_fault, sized_image_at, image_at, count_in, op_at, script_at, scripts_at, schedule_at}
use Rattle.job_text.proofs.LineParts.{ended, HasNoEnd, IsSlice, IsPart, IsSlice-rest, word_found, field_by, field_part, line_part, times_part}
use Rattle.job_text.proofs.FieldReaders.{hex_no_end, number_without, passphrase_reader, coding_reader, meta_place_reader, count_reader, items_text, items_reader, items_no_end}

-- ---- scripts

pub op_part : IsPart op_at op_line IsOp
unfolding op_at
op_part = line_part op_reader op_no_end

pub record AreCounted {A : Type 0} (least most : ℕ) (Fits : A → Type 0) (values : List A) : Type 0 where
  pub least_is : least ≤ length values
  pub most_is : length values ≤ most
  pub each : AllByRecursion Fits values

-- a line that tells how many parts follow it
abbrev pub counted_at : {A : Type 0} → List ℕ → ℕ → ℕ → (List ℕ → Part A) → List ℕ → Part (List A)
counted_at word least most at octets = field_at word (count_in least most) octets >>= λ count. times_at at count.0 count.1

abbrev pub counted_text : {A : Type 0} → List ℕ → (A → List ℕ) → List A → List ℕ
counted_text word spell values = ((word ++ number (length values)) ++ 10 ∷ []) ++ flat_map spell values

pub counted_part : {A : Type 0} {at : List ℕ → Part A} {spell : A → List ℕ} {Fits : A → Type 0} (word : List ℕ) (least most : ℕ) → HasNoEnd word → most < 2 ^ 64 → IsPart at spell Fits
    → IsPart (counted_at word least most at) (counted_text word spell) (AreCounted least most Fits)
counted_part {A} {at} {spell} {Fits} word least most clean small p = record { found = found; again = again }
  where
    l : IsPart (field_at word (count_in least most)) (λ n. (word ++ number n) ++ 10 ∷ []) (IsWithin least most)
    l = field_part word clean (count_reader least most small) (λ n h. number_without 10 n (omega arith) (omega (arith, h.most_is, small)))

    found : (octets : List ℕ) → IsSlice octets → (x : List A × List ℕ) → counted_at word least most at octets ≡ Ok x → (octets ≡ counted_text word spell x.0 ++ x.1) × AreCounted least most Fits x.0
    found octets fits x e =
        let c = bind_ok (field_at word (count_in least most) octets) _ x e in
        let f = l.found octets fits c.0 c.1 in
        let m = (times_part p c.0.0).found c.0.1 (IsSlice-rest octets ((word ++ number c.0.0) ++ 10 ∷ []) c.0.1 f.0 fits) x c.2 in
        let head : (word ++ number c.0.0) ++ 10 ∷ [] ≡ (word ++ number (length x.0)) ++ 10 ∷ [] = ap (λ (n : ℕ). (word ++ number n) ++ 10 ∷ []) (sym m.1.count_is) in (
          f.0 ∙ ap (λ (t : List ℕ). ((word ++ number c.0.0) ++ 10 ∷ []) ++ t) m.0 ∙ ap (λ (t : List ℕ). t ++ (flat_map spell x.0 ++ x.1)) head ∙ sym (append_assoc ((word ++ number (length x.0)) ++ 10 ∷ []) (flat_map spell x.0) x.1),
          record { least_is = omega (arith, f.1.least_is, m.1.count_is); most_is = omega (arith, f.1.most_is, m.1.count_is); each = m.1.each },
        )

    again : (values : List A) (rest : List ℕ) → AreCounted least most Fits values → counted_at word least most at (counted_text word spell values ++ rest) ≡ Ok (values, rest)
    again values rest h =
        ap (counted_at word least most at) (append_assoc ((word ++ number (length values)) ++ 10 ∷ []) (flat_map spell values) rest)
        ∙ rw (l.again (length values) (flat_map spell values ++ rest) (record { least_is = h.least_is; most_is = h.most_is })) ((times_part p (length values)).again values rest (record { count_is = refl; each = h.each }))

pub script_part : IsPart script_at session_text IsScript
unfolding script_at
script_part = record { found = found; again = again }
  where
    p : IsPart (counted_at (codes "script ") 0 MOST_OPERATIONS op_at) (counted_text (codes "script ") op_line) (AreCounted 0 MOST_OPERATIONS IsOp)
    p = counted_part (codes "script ") 0 MOST_OPERATIONS refl (omega arith) op_part

    found : (octets : List ℕ) → IsSlice octets → (x : List Op × List ℕ) → script_at octets ≡ Ok x → (octets ≡ session_text x.0 ++ x.1) × IsScript x.0
    found octets fits x e =
        let f = p.found octets fits x e in
        (f.0, record { few = f.1.most_is; ops = f.1.each })

    again : (ops : List Op) (rest : List ℕ) → IsScript ops → script_at (session_text ops ++ rest) ≡ Ok (ops, rest)
    again ops rest h = p.again ops rest (record { least_is = omega arith; most_is = h.few; each = h.ops })

pub scripts_part : IsPart scripts_at (counted_text (codes "sessions ") session_text) (AreCounted 1 MOST_SESSIONS IsScript)
unfolding scripts_at
scripts_part = counted_part (codes "sessions ") 1 MOST_SESSIONS refl (omega arith) script_part

pub schedule_part : (sessions : ℕ) → sessions ≤ MOST_SESSIONS → IsPart (schedule_at sessions) (λ items. line (codes "schedule" ∷ map number items)) (IsSchedule sessions)
schedule_part sessions few = record { found = found; again = again }
  where
    p : IsPart (schedule_at sessions) (λ items. (codes "schedule" ++ items_text items) ++ 10 ∷ []) (IsSchedule sessions)
    p = field_part (codes "schedule") refl (items_reader sessions few) (λ items h. items_no_end sessions items few h.items)

    same : (items : List ℕ) → (codes "schedule" ++ items_text items) ++ 10 ∷ [] ≡ line (codes "schedule" ∷ map number items)
    same [] = refl
    same (item ∷ items) = refl

    found : (octets : List ℕ) → IsSlice octets → (x : List ℕ × List ℕ) → schedule_at sessions octets ≡ Ok x → (octets ≡ line (codes "schedule" ∷ map number x.0) ++ x.1) × IsSchedule sessions x.0
    found octets fits x e = let f = p.found octets fits x e in (f.0 ∙ ap (λ (t : List ℕ). t ++ x.1) (same x.0), f.1)

    again : (items rest : List ℕ) → IsSchedule sessions items → schedule_at sessions (line (codes "schedule" ∷ map number items) ++ rest) ≡ Ok (items, rest)
    again items rest h = ap (schedule_at sessions) (ap (λ (t : List ℕ). t ++ rest) (sym (same items))) ∙ p.again items rest h

-- ---- the image

image_ok : (read : Result (List LowerNode) ImageFault) (octets : List ℕ) (nodes : List LowerNode) → image_or_fault read octets ≡ Ok nodes → read ≡ Ok nodes
image_ok (Ok x) octets nodes e = let same : x ≡ nodes = cc in ap Ok same
image_ok (Err fault) octets nodes e = absurd cc

end_is : (octets rest : List ℕ) → behind_end octets ≡ Ok rest → octets ≡ 10 ∷ rest
end_is [] rest e = absurd cc
end_is (c ∷ more) rest e =
    let g = ended (c == 10) more (length (c ∷ more)) rest e in
    ap (λ (k : ℕ). k ∷ more) (eqb-true c 10 g.0) ∙ ap (λ (t : List ℕ). 10 ∷ t) g.1

-- a test that passed
long_ok : {A : Type 0} (test : Bool) (left : ℕ) (r : Result A ℕ) (x : A) → cond test (Err left) r ≡ Ok x → (test ≡ false) × (r ≡ Ok x)
long_ok true left r x e = absurd cc
long_ok false left r x e = (refl, e)

pub record IsImage (nodes : List LowerNode) : Type 0 where
  pub tree : IsLowerTree nodes
  pub small : length (image nodes) < 2 ^ 64

abbrev sized_text : List ℕ → List ℕ
sized_text octets = ((codes "image " ++ number (length octets)) ++ 10 ∷ []) ++ octets

sized_found : (count : ℕ) (octets : List ℕ) → IsSlice octets → (x : List LowerNode × List ℕ) → sized_image_at count octets ≡ Ok x → (octets ≡ image x.0 ++ 10 ∷ x.1) × (length (image x.0) ≡ count) × IsLowerTree x.0
sized_found count octets fits x e =
    let g = long_ok (ltb (length octets) count) (length octets) (image_or_fault (reading (take count octets)) octets >>= λ nodes. behind_end (drop count octets) >>= λ rest. Ok (nodes, rest)) x e in
    let a = bind_ok (image_or_fault (reading (take count octets)) octets) _ x g.1 in
    let b = bind_ok (behind_end (drop count octets)) _ x a.2 in
    let t = reading_takes (take count octets) a.0 (AreOctets-take count octets fits.octets) (image_ok (reading (take count octets)) octets a.0 a.1) in
    let le : count ≤ length octets = ltb-false (length octets) count g.0 in
    let len : length (image a.0) ≡ count = ap length (sym t.1) ∙ omega (arith, length-take count octets) in
    let made : List LowerNode × List ℕ = (a.0, b.0) in
    subst (λ (y : List LowerNode × List ℕ). (octets ≡ image y.0 ++ 10 ∷ y.1) × (length (image y.0) ≡ count) × IsLowerTree y.0) {x = made} (ok_is made x b.2)
    (sym (take-append-drop count octets) ∙ ap (λ (s : List ℕ). s ++ drop count octets) t.1 ∙ ap (λ (s : List ℕ). image a.0 ++ s) (end_is (drop count octets) b.0 b.1), len, t.0)

sized_again : (nodes : List LowerNode) (rest : List ℕ) → IsLowerTree nodes → sized_image_at (length (image nodes)) (image nodes ++ 10 ∷ rest) ≡ Ok (nodes, rest)
sized_again nodes rest tree =
    let long : ltb (length (image nodes ++ 10 ∷ rest)) (length (image nodes)) ≡ false = le-ltb _ _ (omega (arith, length-append (image nodes) (10 ∷ rest))) in
    rw (long, take_at (image nodes) (10 ∷ rest) (length (image nodes)) refl, drop_at (image nodes) (10 ∷ rest) (length (image nodes)) refl, reading_again nodes tree) refl

-- what stands behind a line is shorter than the whole
line_shorter : {A : Type 0} (read : List ℕ → Option A) (word octets : List ℕ) (x : A × List ℕ) → field_at word read octets ≡ Ok x → length x.1 ≤ length octets
line_shorter {A} read word octets x e =
    let t = bind_ok (word_at word octets) _ x e in
    let v = bind_ok (or_wrong (read t.0.0) octets) _ x t.2 in
    let text = ap length (word_found word octets t.0 t.1) in
    let rest = ap (λ (y : A × List ℕ). length y.1) (ok_is {E = ℕ} (v.0, t.0.1) x v.2) in
    omega (arith, text, rest, length-append (word ++ t.0.0) (10 ∷ t.0.1))

-- an image that is there has a length that a slice can have
sized_small : (octets : List ℕ) (count : ℕ × List ℕ) (x : List LowerNode × List ℕ) → IsSlice octets → field_at (codes "image ") any_number_in octets ≡ Ok count → sized_image_at count.0 count.1 ≡ Ok x → count.0 < 2 ^ 64
sized_small octets count x fits e s =
    let g = long_ok (ltb (length count.1) count.0) (length count.1) (image_or_fault (reading (take count.0 count.1)) count.1 >>= λ nodes. behind_end (drop count.0 count.1) >>= λ rest. Ok (nodes, rest)) x s in
    omega (arith, ltb-false (length count.1) count.0 g.0, line_shorter any_number_in (codes "image ") octets count e, fits.short)

parted : (a b c : List ℕ) → ((a ++ b) ++ 10 ∷ []) ++ c ≡ a ++ (b ++ 10 ∷ c)
parted a b c = simp append_assoc

pub image_part : IsPart image_at (λ nodes. image_text (image nodes)) IsImage
unfolding image_at
image_part = record { found = found; again = again }
  where
    l : IsPart (field_at (codes "image ") number_in) (λ n. (codes "image " ++ number n) ++ 10 ∷ []) IsU64
    l = field_part (codes "image ") refl number_reader (λ n h. number_without 10 n (omega arith) h)

    found : (octets : List ℕ) → IsSlice octets → (x : List LowerNode × List ℕ) → image_at octets ≡ Ok x → (octets ≡ image_text (image x.0) ++ x.1) × IsImage x.0
    found octets fits x e =
        let c = bind_ok (field_at (codes "image ") any_number_in octets) _ x e in
        let small = sized_small octets c.0 x fits c.1 c.2 in
        let f = l.found octets fits c.0 (field_by any_number_in number_in (codes "image ") octets c.0 (λ text h. number_from_any text c.0.0 small h) c.1) in
        let m = sized_found c.0.0 c.0.1 (IsSlice-rest octets ((codes "image " ++ number c.0.0) ++ 10 ∷ []) c.0.1 f.0 fits) x c.2 in (
          f.0 ∙ ap (λ (t : List ℕ). ((codes "image " ++ number c.0.0) ++ 10 ∷ []) ++ t) m.0 ∙ ap (λ (n : ℕ). ((codes "image " ++ number n) ++ 10 ∷ []) ++ (image x.0 ++ 10 ∷ x.1)) (sym m.1)
              ∙ sym (parted ((codes "image " ++ number (length (image x.0))) ++ 10 ∷ []) (image x.0) x.1),
          record { tree = m.2; small = rw m.1 f.1 },
        )

    again : (nodes : List LowerNode) (rest : List ℕ) → IsImage nodes → image_at (image_text (image nodes) ++ rest) ≡ Ok (nodes, rest)
    again nodes rest h =
        let len = length (image nodes) in
        let spelled = ((codes "image " ++ number len) ++ 10 ∷ []) ++ (image nodes ++ 10 ∷ rest) in
        let line = field_by number_in any_number_in (codes "image ") spelled (len, image nodes ++ 10 ∷ rest) (λ text e. any_from_number text len e) (l.again len (image nodes ++ 10 ∷ rest) h.small) in
        ap image_at (parted ((codes "image " ++ number len) ++ 10 ∷ []) (image nodes) rest) ∙ rw line (sized_again nodes rest h.tree)

-- ---- the settings

pub record AreKeys (keys : Keys) : Type 0 where
  pub passphrase : IsPassphrase keys.passphrase
  pub salt : HasOctets 8 keys.salt
  pub namesalt : HasOctets 8 keys.namesalt

abbrev pub keys_text : Keys → List ℕ
keys_text keys = (line (codes "passphrase" ∷ hex keys.passphrase ∷ []) ++ line (codes "salt" ∷ hex keys.salt ∷ [])) ++ line (codes "namesalt" ∷ hex keys.namesalt ∷ [])

pub passphrase_part : IsPart (field_at (codes "passphrase ") passphrase_in) (λ octets. line (codes "passphrase" ∷ hex octets ∷ [])) IsPassphrase
passphrase_part = field_part (codes "passphrase ") refl passphrase_reader (λ octets h. hex_no_end octets h.octets)

pub salt_part : IsPart (field_at (codes "salt ") (sized_hex_in 8)) (λ octets. line (codes "salt" ∷ hex octets ∷ [])) (HasOctets 8)
salt_part = field_part (codes "salt ") refl (sized_hex_reader 8) (λ octets h. hex_no_end octets h.octets)

pub namesalt_part : IsPart (field_at (codes "namesalt ") (sized_hex_in 8)) (λ octets. line (codes "namesalt" ∷ hex octets ∷ [])) (HasOctets 8)
namesalt_part = field_part (codes "namesalt ") refl (sized_hex_reader 8) (λ octets h. hex_no_end octets h.octets)

pub random_part : IsPart (field_at (codes "random ") (sized_hex_in 32)) (λ octets. line (codes "random" ∷ hex octets ∷ [])) (HasOctets 32)
random_part = field_part (codes "random ") refl (sized_hex_reader 32) (λ octets h. hex_no_end octets h.octets)

pub names_part : IsPart (field_at (codes "names ") coding_in) (λ coding. line (codes "names" ∷ coding_word coding ∷ [])) IsAny
names_part = field_part (codes "names ") refl coding_reader clean
  where
    clean : (coding : NameCoding) → IsAny coding → HasNoEnd (coding_word coding)
    clean Plain h = refl
    clean Tag70 h = refl

pub meta_place_part : IsPart (field_at (codes "meta ") meta_place_in) (λ place. line (codes "meta" ∷ meta_place_word place ∷ [])) IsAny
meta_place_part = field_part (codes "meta ") refl meta_place_reader clean
  where
    clean : (place : MetaPlace) → IsAny place → HasNoEnd (meta_place_word place)
    clean Header h = refl
    clean Attribute h = refl

-- three parts, one behind the other
pub apart : (a b c t : List ℕ) → ((a ++ b) ++ c) ++ t ≡ a ++ (b ++ (c ++ t))
apart a b c t = simp append_assoc

pub joined : (octets a b c r s t : List ℕ) → octets ≡ a ++ r → r ≡ b ++ s → s ≡ c ++ t → octets ≡ ((a ++ b) ++ c) ++ t
joined octets a b c r s t e f g = e ∙ ap (λ (x : List ℕ). a ++ x) (f ∙ ap (λ (x : List ℕ). b ++ x) g) ∙ sym (apart a b c t)

pub keys_part : IsPart keys_at keys_text AreKeys
unfolding keys_at
keys_part = record { found = found; again = again }
  where
    found : (octets : List ℕ) → IsSlice octets → (x : Keys × List ℕ) → keys_at octets ≡ Ok x → (octets ≡ keys_text x.0 ++ x.1) × AreKeys x.0
    found octets fits x e =
        let a = bind_ok (field_at (codes "passphrase ") passphrase_in octets) _ x e in
        let b = bind_ok (field_at (codes "salt ") (sized_hex_in 8) a.0.1) _ x a.2 in
        let c = bind_ok (field_at (codes "namesalt ") (sized_hex_in 8) b.0.1) _ x b.2 in
        let f = passphrase_part.found octets fits a.0 a.1 in
        let fits1 = IsSlice-rest octets (line (codes "passphrase" ∷ hex a.0.0 ∷ [])) a.0.1 f.0 fits in
        let g = salt_part.found a.0.1 fits1 b.0 b.1 in
        let h = namesalt_part.found b.0.1 (IsSlice-rest a.0.1 (line (codes "salt" ∷ hex b.0.0 ∷ [])) b.0.1 g.0 fits1) c.0 c.1 in
        let made : Keys × List ℕ = (keys_of a.0.0 b.0.0 c.0.0, c.0.1) in
        subst (λ (y : Keys × List ℕ). (octets ≡ keys_text y.0 ++ y.1) × AreKeys y.0) {x = made} (ok_is made x c.2)
        (joined octets (line (codes "passphrase" ∷ hex a.0.0 ∷ [])) (line (codes "salt" ∷ hex b.0.0 ∷ [])) (line (codes "namesalt" ∷ hex c.0.0 ∷ [])) a.0.1 b.0.1 c.0.1 f.0 g.0 h.0, record { passphrase = f.1; salt = g.1; namesalt = h.1 })

    again : (keys : Keys) (rest : List ℕ) → AreKeys keys → keys_at (keys_text keys ++ rest) ≡ Ok (keys, rest)
    again keys rest k =
        let a = line (codes "passphrase" ∷ hex keys.passphrase ∷ []) in
        let b = line (codes "salt" ∷ hex keys.salt ∷ []) in
        let c = line (codes "namesalt" ∷ hex keys.namesalt ∷ []) in
        ap keys_at (apart a b c rest) ∙ rw (passphrase_part.again keys.passphrase (b ++ (c ++ rest)) k.passphrase, salt_part.again keys.salt (c ++ rest) k.salt, namesalt_part.again keys.namesalt rest k.namesalt) refl

abbrev pub IsMaking : Making → Type 0
IsMaking making = HasOctets 32 making.random

abbrev pub making_text : Making → List ℕ
making_text making = (line (codes "names" ∷ coding_word making.names ∷ []) ++ line (codes "meta" ∷ meta_place_word making.meta_place ∷ [])) ++ line (codes "random" ∷ hex making.random ∷ [])

pub making_part : IsPart making_at making_text IsMaking
unfolding making_at
making_part = record { found = found; again = again }
  where
    found : (octets : List ℕ) → IsSlice octets → (x : Making × List ℕ) → making_at octets ≡ Ok x → (octets ≡ making_text x.0 ++ x.1) × IsMaking x.0
    found octets fits x e =
        let a = bind_ok (field_at (codes "names ") coding_in octets) _ x e in
        let b = bind_ok (field_at (codes "meta ") meta_place_in a.0.1) _ x a.2 in
        let c = bind_ok (field_at (codes "random ") (sized_hex_in 32) b.0.1) _ x b.2 in
        let f = names_part.found octets fits a.0 a.1 in
        let fits1 = IsSlice-rest octets (line (codes "names" ∷ coding_word a.0.0 ∷ [])) a.0.1 f.0 fits in
        let g = meta_place_part.found a.0.1 fits1 b.0 b.1 in
        let h = random_part.found b.0.1 (IsSlice-rest a.0.1 (line (codes "meta" ∷ meta_place_word b.0.0 ∷ [])) b.0.1 g.0 fits1) c.0 c.1 in
        let made : Making × List ℕ = (record { names = a.0.0; meta_place = b.0.0; random = c.0.0 }, c.0.1) in
        subst (λ (y : Making × List ℕ). (octets ≡ making_text y.0 ++ y.1) × IsMaking y.0) {x = made} (ok_is made x c.2)
        (joined octets (line (codes "names" ∷ coding_word a.0.0 ∷ [])) (line (codes "meta" ∷ meta_place_word b.0.0 ∷ [])) (line (codes "random" ∷ hex c.0.0 ∷ [])) a.0.1 b.0.1 c.0.1 f.0 g.0 h.0, h.1)

    again : (making : Making) (rest : List ℕ) → IsMaking making → making_at (making_text making ++ rest) ≡ Ok (making, rest)
    again making rest k =
        let a = line (codes "names" ∷ coding_word making.names ∷ []) in
        let b = line (codes "meta" ∷ meta_place_word making.meta_place ∷ []) in
        let c = line (codes "random" ∷ hex making.random ∷ []) in
        ap making_at (apart a b c rest) ∙ rw (names_part.again making.names (b ++ (c ++ rest)) tt, meta_place_part.again making.meta_place (c ++ rest) tt, random_part.again making.random rest k) refl
