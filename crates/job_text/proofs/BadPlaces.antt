-- The reading of a job stops where the job is bad, and only there.
use Rattle.std.proofs.Common.{◌≡◌, ℕ, ◌+◌, ◌-◌, ◌<◌, ◌≤◌, ◌^◌, Bool, true, false, cond, ltb, List, [], ◌∷◌, ◌++◌, length, get_or, take, drop, codes, Option, Some, None, Result, Ok, Err, refl, sym, ap, subst, ◌∙◌, arith, suc, inl, inr}
use Rattle.std.specs.Prelude.{◌==◌, ◌||◌, not, ◌⊎◌}
use Rattle.std.specs.Char.{is_ascii_digit}
use Rattle.std.specs.Str.Parse.{digits_value}
use Rattle.std.proofs.lemmas.Bool.{ltb-true, ltb-false, lt-ltb, le-ltb, eqb-true, ne_eqb}
use Rattle.std.proofs.lemmas.Option.{same_Some}
use Rattle.std.proofs.lemmas.List.{take-append-drop, take_at, drop_at, length-append, length-take}
use Rattle.octet_model.proofs.Octets.{AreOctets-take, AreOctets-from_each}
use Rattle.text_model.specs.Line.{number}
use Rattle.answer_model.specs.Answer.{◌>>=◌}
use Rattle.answer_model.proofs.Binds.{bind_ok, ok_is}
use Rattle.lower_model.specs.declared.node.LowerNode.{LowerNode}
use Rattle.image_model.specs.declared.fault.ImageFault.{ImageFault}
use Rattle.image_model.specs.ImageText.{image}
use Rattle.image_model.specs.ImageReading.{FieldFault, nodes_at, with_offset, reading}
use Rattle.image_model.proofs.Image.{reading_takes, reading_again}
use Rattle.script_model.specs.declared.op.Op.{Op}
use Rattle.reading_model.specs.OpReading.{op_in}
use Rattle.reading_model.specs.Fields.{value_behind, is_number, any_number_in, sized_hex_in}
use Rattle.reading_model.proofs.Readers.{IsReader, guard_some}
use Rattle.reading_model.proofs.Words.{is_other, weaker}
use Rattle.reading_model.proofs.NumberReader.{own, numeral_from}
use Rattle.job_model.specs.declared.limits.TheConstants.{MOST_SESSIONS, MOST_OCTETS}
use Rattle.job_model.specs.declared.job.Job.{Job}
use Rattle.job_model.specs.declared.job.NameCoding.{NameCoding}
use Rattle.lower_model.specs.declared.meta_place.MetaPlace.{MetaPlace}
use Rattle.job_text.specs.declared.settings.Making.{Making}
use Rattle.job_text.specs.declared.fault.JobError.{JobError}
use Rattle.job_text.specs.declared.fault.JobError.TheVariants as errors
use Rattle.job_model.specs.JobText.{LineKind, IsAny, IsWithin, IsDecimal, first_line, passphrase_line, salt_line, namesalt_line, names_line, meta_line, random_line, image_line, image_end, sessions_line, script_line, operation_line, schedule_line, end_line, IsJobText}
use Rattle.job_model.specs.BadPlace.{LineThen, ImageThen, CutImage, BadImage, GoodImage, InARow, OperationThen, SessionThen, Follows, IsBadImagePart, IsBadPlace, IsBadJob}
use Rattle.script_model.specs.Script.{IsOp}
use Rattle.script_model.specs.declared.limits.TheConstants.{MOST_OPERATIONS}
use Rattle.job_text.specs.JobReading.{Part, or_wrong, word_at, whole_at, field_at, times_at, passphrase_in, coding_in, meta_place_in, keys_of, keys_at, making_at, behind_end, image_or_fault, sized_image_at, image_at, count_in, op_at, script_at, scripts_at, schedule_at, end_at, work_at, job_of, job_at}
use Rattle.job_text.proofs.LineParts.{HasNoEnd, IsSlice, IsSlice-rest, IsPart, field_part, whole_found, whole_again}
use Rattle.job_text.proofs.FieldReaders.{digit_is_not, number_without, count_reader}
use Rattle.job_text.proofs.JobParts.{op_part, schedule_part, passphrase_part, salt_part, namesalt_part, names_part, meta_place_part, random_part}
use Rattle.job_text.proofs.WholeJob.{is_job_text, text_read}
use Rattle.job_text.proofs.Stops.{then, StopsAs, StopsAs-same, bound, alike, failed, left_is, not_both, IsLine, line_stops, field_whole, line_whole, whole_whole, PartStops, row_stops}

-- ---- lines of a word and a field

field_line : {A : Type 0} {kind : LineKind A} (read : List ℕ → Option A) (word : List ℕ) → IsPart (field_at word read) kind.spelled kind.Tells → IsLine (field_at word read) kind
field_line read word p = record { part = p; whole = λ octets left e. field_whole read word octets left e }

count_part : (word : List ℕ) (least most : ℕ) → HasNoEnd word → most < 2 ^ 64 → IsPart (field_at word (count_in least most)) (λ n. (word ++ number n) ++ 10 ∷ []) (IsWithin least most)
count_part word least most clean small = field_part word clean (count_reader least most small) (λ n h. number_without 10 n (omega arith) (omega (arith, h.most_is, small)))

-- ---- lines that are the same in each job

abbrev fixed_at : List ℕ → List ℕ → Part (Unit {0})
fixed_at word octets = whole_at word octets >>= λ rest. Ok (tt, rest)

fixed_part : (word : List ℕ) → HasNoEnd word → IsPart (fixed_at word) (λ nothing. word ++ 10 ∷ []) IsAny
fixed_part word clean = record { found = found; again = again }
  where
    found : (octets : List ℕ) → IsSlice octets → (x : Unit {0} × List ℕ) → fixed_at word octets ≡ Ok x → (octets ≡ (word ++ 10 ∷ []) ++ x.1) × Unit {0}
    found octets fits x e =
        let r = bind_ok (whole_at word octets) _ x e in
        (whole_found word octets r.0 r.1 ∙ ap (λ (y : Unit {0} × List ℕ). (word ++ 10 ∷ []) ++ y.1) (ok_is {E = ℕ} (tt, r.0) x r.2), tt)

    again : (nothing : Unit {0}) (rest : List ℕ) → Unit {0} → fixed_at word ((word ++ 10 ∷ []) ++ rest) ≡ Ok (nothing, rest)
    again nothing rest h = rw (whole_again word rest clean) refl

fixed_whole : (word octets : List ℕ) (left : ℕ) → fixed_at word octets ≡ Err left → left ≡ length octets
fixed_whole word octets left e = by (whole_at word octets) refl e
  where
    by : (r : Result (List ℕ) ℕ) → whole_at word octets ≡ r → (r >>= λ rest. Ok (tt, rest)) ≡ failed {X = Unit {0} × List ℕ} left → left ≡ length octets
    by (Ok rest) is e = absurd (not_both {X = Unit {0} × List ℕ} left (tt, rest) (sym e))
    by (Err all) is e = sym (left_is {X = Unit {0} × List ℕ} all left e) ∙ whole_whole word octets all is

-- what follows such a line
fixed_stops : {X : Type 0} {kind : LineKind (Unit {0})} {Behind : List ℕ → ℕ → Type 0} (word : List ℕ) (next : List ℕ → Result X ℕ) → IsLine (fixed_at word) kind → StopsAs Behind next → StopsAs (LineThen kind (λ nothing. Behind)) (λ octets. whole_at word octets >>= next)
fixed_stops {X} {kind} {Behind} word next l later =
    StopsAs-same (λ octets. then (fixed_at word octets) (λ nothing rest. next rest)) _ (λ octets. sym (bound (whole_at word octets) (λ rest. Ok (tt, rest)) (λ x. next x.1)))
    (line_stops kind (λ nothing. Behind) (λ nothing rest. next rest) l (λ nothing tells. later))

first_is : IsLine (fixed_at (codes "ecryptfs-job 1")) first_line
first_is = record { part = fixed_part (codes "ecryptfs-job 1") refl; whole = λ octets left e. fixed_whole (codes "ecryptfs-job 1") octets left e }

end_is : IsLine (fixed_at (codes "end")) end_line
end_is = record { part = fixed_part (codes "end") refl; whole = λ octets left e. fixed_whole (codes "end") octets left e }

-- ---- the settings

abbrev KeysThen : (List ℕ → ℕ → Type 0) → List ℕ → ℕ → Type 0
KeysThen Behind = LineThen passphrase_line (λ passphrase. LineThen salt_line (λ salt. LineThen namesalt_line (λ namesalt. Behind)))

keys_stop : PartStops KeysThen keys_at IsAny
unfolding keys_at
keys_stop X Behind next later =
    StopsAs-same (λ octets. then (field_at (codes "passphrase ") passphrase_in octets) (λ p r. then (field_at (codes "salt ") (sized_hex_in 8) r) (λ s q. then (field_at (codes "namesalt ") (sized_hex_in 8) q) (λ n. next (keys_of p s n)))))
    _ same (
    line_stops passphrase_line _ _ (field_line passphrase_in (codes "passphrase ") passphrase_part) (λ p tells.
    line_stops salt_line _ _ (field_line (sized_hex_in 8) (codes "salt ") salt_part) (λ s tells.
    line_stops namesalt_line _ _ (field_line (sized_hex_in 8) (codes "namesalt ") namesalt_part) (λ n tells. later (keys_of p s n) tt))))
  where
    same : (octets : List ℕ) → then (field_at (codes "passphrase ") passphrase_in octets) (λ p r. then (field_at (codes "salt ") (sized_hex_in 8) r) (λ s q. then (field_at (codes "namesalt ") (sized_hex_in 8) q) (λ n. next (keys_of p s n)))) ≡ then (keys_at octets) next
    same octets = go (field_at (codes "passphrase ") passphrase_in octets)
      where
        go2 : (p : List ℕ) (r : Part (List ℕ)) → then r (λ s q. then (field_at (codes "namesalt ") (sized_hex_in 8) q) (λ n. next (keys_of p s n))) ≡ then (r >>= λ s. field_at (codes "namesalt ") (sized_hex_in 8) s.1 >>= λ n. Ok (keys_of p s.0 n.0, n.1)) next
        go2 p (Ok s) = bound (field_at (codes "namesalt ") (sized_hex_in 8) s.1) (λ n. Ok (keys_of p s.0 n.0, n.1)) (λ x. next x.0 x.1)
        go2 p (Err l) = refl

        go : (r : Part (List ℕ)) → then r (λ p r. then (field_at (codes "salt ") (sized_hex_in 8) r) (λ s q. then (field_at (codes "namesalt ") (sized_hex_in 8) q) (λ n. next (keys_of p s n)))) ≡ then (r >>= λ p. field_at (codes "salt ") (sized_hex_in 8) p.1 >>= λ s. field_at (codes "namesalt ") (sized_hex_in 8) s.1 >>= λ n. Ok (keys_of p.0 s.0 n.0, n.1)) next
        go (Ok p) = go2 p.0 (field_at (codes "salt ") (sized_hex_in 8) p.1)
        go (Err l) = refl

abbrev making_of : NameCoding → MetaPlace → List ℕ → Making
making_of names place random = record { names = names; meta_place = place; random = random }

abbrev making_and : NameCoding → MetaPlace → List ℕ → List ℕ → Part Making
making_and names place random rest = Ok (record { names = names; meta_place = place; random = random }, rest)

abbrev MakingThen : (List ℕ → ℕ → Type 0) → List ℕ → ℕ → Type 0
MakingThen Behind = LineThen names_line (λ names. LineThen meta_line (λ place. LineThen random_line (λ random. Behind)))

making_stop : PartStops MakingThen making_at IsAny
unfolding making_at
making_stop X Behind next later =
    StopsAs-same (λ octets. then (field_at (codes "names ") coding_in octets) (λ p r. then (field_at (codes "meta ") meta_place_in r) (λ s q. then (field_at (codes "random ") (sized_hex_in 32) q) (λ n. next (making_of p s n)))))
    _ (λ octets. go (field_at (codes "names ") coding_in octets)) (
    line_stops names_line _ _ (field_line coding_in (codes "names ") names_part) (λ p tells.
    line_stops meta_line _ _ (field_line meta_place_in (codes "meta ") meta_place_part) (λ s tells.
    line_stops random_line _ _ (field_line (sized_hex_in 32) (codes "random ") random_part) (λ n tells. later (making_of p s n) tt))))
  where
    go2 : (p : NameCoding) (r : Part MetaPlace) → then r (λ s q. then (field_at (codes "random ") (sized_hex_in 32) q) (λ n. next (making_of p s n)))
        ≡ then (r >>= λ s. field_at (codes "random ") (sized_hex_in 32) s.1 >>= λ n. making_and p s.0 n.0 n.1) next
    go2 p (Ok s) = bound (field_at (codes "random ") (sized_hex_in 32) s.1) (λ n. making_and p s.0 n.0 n.1) (λ x. next x.0 x.1)
    go2 p (Err l) = refl

    go : (r : Part NameCoding) → then r (λ p r. then (field_at (codes "meta ") meta_place_in r) (λ s q. then (field_at (codes "random ") (sized_hex_in 32) q) (λ n. next (making_of p s n))))
        ≡ then (r >>= λ p. field_at (codes "meta ") meta_place_in p.1 >>= λ s. field_at (codes "random ") (sized_hex_in 32) s.1 >>= λ n. making_and p.0 s.0 n.0 n.1) next
    go (Ok p) = go2 p.0 (field_at (codes "meta ") meta_place_in p.1)
    go (Err l) = refl

-- ---- the scripts

op_line_is : IsLine op_at operation_line
unfolding op_at
op_line_is = record { part = op_part; whole = λ octets left e. line_whole op_in octets left e }

op_stops : PartStops OperationThen op_at IsOp
op_stops X Behind next later = line_stops operation_line (λ op. Behind) next op_line_is later

script_is : IsLine (field_at (codes "script ") (count_in 0 MOST_OPERATIONS)) script_line
script_is = field_line (count_in 0 MOST_OPERATIONS) (codes "script ") (count_part (codes "script ") 0 MOST_OPERATIONS refl (omega arith))

sessions_is : IsLine (field_at (codes "sessions ") (count_in 1 MOST_SESSIONS)) sessions_line
sessions_is = field_line (count_in 1 MOST_SESSIONS) (codes "sessions ") (count_part (codes "sessions ") 1 MOST_SESSIONS refl (omega arith))

session_stops : PartStops SessionThen script_at IsAny
unfolding script_at
session_stops X Behind next later =
    StopsAs-same (λ octets. then (field_at (codes "script ") (count_in 0 MOST_OPERATIONS) octets) (λ count rest. then (times_at op_at count rest) next)) _
    (λ octets. bound (field_at (codes "script ") (count_in 0 MOST_OPERATIONS) octets) (λ count. times_at op_at count.0 count.1) (λ x. next x.0 x.1))
    (line_stops script_line (λ count. InARow count OperationThen Behind) (λ count rest. then (times_at op_at count rest) next) script_is
    (λ count tells. row_stops OperationThen op_at IsOp op_stops count Behind next (λ ops e. later ops tt)))

scripts_stop : {X : Type 0} (Behind : ℕ → List ℕ → ℕ → Type 0) (next : List (List Op) → List ℕ → Result X ℕ) → ((scripts : List (List Op)) → length scripts ≤ MOST_SESSIONS → StopsAs (Behind (length scripts)) (next scripts))
    → StopsAs (LineThen sessions_line (λ sessions. InARow sessions SessionThen (Behind sessions))) (λ octets. then (scripts_at octets) next)
unfolding scripts_at
scripts_stop {X} Behind next later =
    StopsAs-same (λ octets. then (field_at (codes "sessions ") (count_in 1 MOST_SESSIONS) octets) (λ count rest. then (times_at script_at count rest) next)) _
    (λ octets. bound (field_at (codes "sessions ") (count_in 1 MOST_SESSIONS) octets) (λ count. times_at script_at count.0 count.1) (λ x. next x.0 x.1))
    (line_stops sessions_line (λ sessions. InARow sessions SessionThen (Behind sessions)) (λ count rest. then (times_at script_at count rest) next) sessions_is
    (λ count tells. row_stops SessionThen script_at IsAny session_stops count (Behind count) next (λ scripts e. subst (λ (n : ℕ). StopsAs (Behind n) (next scripts)) e (later scripts (omega (arith, e, tells.most_is))))))

-- ---- the schedule and the end

schedule_is : (sessions : ℕ) → sessions ≤ MOST_SESSIONS → IsLine (schedule_at sessions) (schedule_line sessions)
schedule_is sessions few = record { part = schedule_part sessions few; whole = λ octets left e. field_whole _ (codes "schedule") octets left e }

abbrev nothing_at : List ℕ → Result (Unit {0}) ℕ
nothing_at octets = cond (length octets == 0) (Ok tt) (Err (length octets))

follows_stop : StopsAs Follows nothing_at
follows_stop = record { stops = stops; again = again }
  where
    some : (c : ℕ) (rest : List ℕ) → nothing_at (c ∷ rest) ≡ Err (length (c ∷ rest))
    some c rest = rw (ne_eqb (length (c ∷ rest)) 0 (λ e. omega (arith, e))) refl

    stops : (octets : List ℕ) → IsSlice octets → (left : ℕ) → nothing_at octets ≡ Err left → (place : ℕ) × (place + left ≡ length octets) × Follows octets place
    stops [] fits left e = absurd (not_both {X = Unit {0}} left tt (sym e))
    stops (c ∷ rest) fits left e = let all = left_is {X = Unit {0}} (length (c ∷ rest)) left (sym (some c rest) ∙ e) in (0, omega (arith, all), record { some = omega arith; first = refl })

    again : (octets : List ℕ) → IsSlice octets → (place : ℕ) → Follows octets place → (left : ℕ) × (place + left ≡ length octets) × (nothing_at octets ≡ Err left)
    again [] fits place f = absurd (omega (arith, f.some))
    again (c ∷ rest) fits place f = (length (c ∷ rest), omega (arith, f.first), some c rest)

end_stops : StopsAs (LineThen end_line (λ nothing. Follows)) end_at
unfolding end_at
end_stops = fixed_stops (codes "end") nothing_at end_is follows_stop

-- a reading whose value is turned into another stops where it does
turned : {X Y : Type 0} {Bad : List ℕ → ℕ → Type 0} (read : List ℕ → Result X ℕ) (f : X → Y) → StopsAs Bad read → StopsAs Bad (λ octets. read octets >>= λ x. Ok (f x))
turned {X} {Y} {Bad} read f s = record { stops = stops; again = again }
  where
    by : (r : Result X ℕ) (left : ℕ) → (r >>= λ x. Ok (f x)) ≡ failed {X = Y} left → r ≡ Err left
    by (Ok x) left e = absurd (not_both {X = Y} left (f x) (sym e))
    by (Err all) left e = ap (failed {X = X}) (left_is {X = Y} all left e)

    stops : (octets : List ℕ) → IsSlice octets → (left : ℕ) → (read octets >>= λ x. Ok (f x)) ≡ failed {X = Y} left → (place : ℕ) × (place + left ≡ length octets) × Bad octets place
    stops octets fits left e = s.stops octets fits left (by (read octets) left e)

    again : (octets : List ℕ) → IsSlice octets → (place : ℕ) → Bad octets place → (left : ℕ) × (place + left ≡ length octets) × ((read octets >>= λ x. Ok (f x)) ≡ failed {X = Y} left)
    again octets fits place bad = let a = s.again octets fits place bad in (a.0, a.1, rw a.2 refl)

-- ---- the image

-- a numeral and its value
abbrev digits_in : List ℕ → Option (List ℕ)
digits_in text = cond (is_number text) (Some text) None

lead_of : (c n : ℕ) → (c ≡ 48 → suc n ≡ 1) → (not (c == 48) || n == 0) ≡ true
lead_of c n h = by (c == 48) refl
  where
    by : (b : Bool) → (c == 48) ≡ b → (not (c == 48) || n == 0) ≡ true
    by false e = rw e refl
    by true e = let one : n ≡ 0 = let all = h (eqb-true c 48 e) in omega (arith, all) in rw (e, one) refl

is_numeral : (text : List ℕ) → IsDecimal text → is_number text ≡ true
is_numeral [] h = absurd (omega (arith, h.numeral.0))
is_numeral (c ∷ cs) h = let digits = own.from (c ∷ cs) h.numeral.1 in rw (digits, lead_of c (length cs) h.lead) refl

digits_reader : IsReader digits_in (λ digits. digits) IsDecimal
digits_reader = record { found = found; again = again }
  where
    found : (text digits : List ℕ) → digits_in text ≡ Some digits → (text ≡ digits) × IsDecimal digits
    found text digits e =
        let g = guard_some (is_number text) (Some text) digits e in
        let same : text ≡ digits = same_Some text digits g.1 in
        let n = numeral_from text g.0 in
        (same, subst IsDecimal same (record { numeral = (n.some, own.to text n.digits); lead = n.lead }))

    again : (digits : List ℕ) → IsDecimal digits → digits_in digits ≡ Some digits
    again digits h = rw (is_numeral digits h) refl

decimal_no_end : (digits : List ℕ) → IsDecimal digits → HasNoEnd digits
decimal_no_end digits h = weaker is_ascii_digit (is_other 10) (λ c e. digit_is_not 10 c (omega arith) e) digits (own.from digits h.numeral.1)

image_is : IsLine (field_at (codes "image ") digits_in) image_line
image_is = field_line digits_in (codes "image ") (field_part (codes "image ") refl digits_reader decimal_no_end)

sized_by_digits : (text rest octets : List ℕ) (test : Bool) → is_number text ≡ test → (or_wrong (digits_in text) octets >>= λ digits. sized_image_at (digits_value 10 digits) rest) ≡ (or_wrong (any_number_in text) octets >>= λ count. sized_image_at count rest)
unfolding any_number_in
sized_by_digits text rest octets true e =
    let n = numeral_from text e in
    let same : digits_value 10 text ≡ value_behind 0 text = sym (own.same text (own.to text n.digits)) in
    rw (e, same) refl
sized_by_digits text rest octets false e = rw e refl

image_by_digits : (octets : List ℕ) → then (field_at (codes "image ") digits_in octets) (λ digits rest. sized_image_at (digits_value 10 digits) rest) ≡ image_at octets
unfolding image_at
image_by_digits octets =
    sym (bound (word_at (codes "image ") octets) (λ text. or_wrong (digits_in text.0) octets >>= λ digits. Ok (digits, text.1)) (λ x. sized_image_at (digits_value 10 x.0) x.1))
    ∙ alike (word_at (codes "image ") octets) _ _ (λ text.
    sym (bound (or_wrong (digits_in text.0) octets) (λ digits. Ok (digits, text.1)) (λ x. sized_image_at (digits_value 10 x.0) x.1))
    ∙ sized_by_digits text.0 text.1 octets (is_number text.0) refl
    ∙ bound (or_wrong (any_number_in text.0) octets) (λ count. Ok (count, text.1)) (λ x. sized_image_at x.0 x.1))
    ∙ bound (word_at (codes "image ") octets) (λ text. or_wrong (any_number_in text.0) octets >>= λ count. Ok (count, text.1)) (λ x. sized_image_at x.0 x.1)

-- the line end behind it
abbrev with_nothing : Result (List ℕ) ℕ → Part (Unit {0})
with_nothing r = r >>= λ rest. Ok (tt, rest)

abbrev line_end_at : List ℕ → Part (Unit {0})
line_end_at octets = with_nothing (behind_end octets)

line_end_is : IsLine line_end_at image_end
line_end_is = record { part = record { found = found; again = λ nothing rest h. refl }; whole = whole }
  where
    by : (c : ℕ) (rest : List ℕ) (x : Unit {0} × List ℕ) (test : Bool) → (c == 10) ≡ test → with_nothing (cond test (Ok rest) (failed {X = List ℕ} (length (c ∷ rest)))) ≡ Ok x → (c ∷ rest ≡ 10 ∷ x.1) × Unit {0}
    by c rest x true is e = (rw (eqb-true c 10 is) (ap (λ (y : Unit {0} × List ℕ). 10 ∷ y.1) (ok_is {E = ℕ} (tt, rest) x e)), tt)
    by c rest x false is e = absurd (not_both {X = Unit {0} × List ℕ} (length (c ∷ rest)) x e)

    found : (octets : List ℕ) → IsSlice octets → (x : Unit {0} × List ℕ) → line_end_at octets ≡ Ok x → (octets ≡ 10 ∷ x.1) × Unit {0}
    found [] fits x e = absurd (not_both {X = Unit {0} × List ℕ} 0 x e)
    found (c ∷ rest) fits x e = by c rest x (c == 10) refl e

    wrong_by : (c : ℕ) (rest : List ℕ) (left : ℕ) (test : Bool) → with_nothing (cond test (Ok rest) (failed {X = List ℕ} (length (c ∷ rest)))) ≡ failed {X = Unit {0} × List ℕ} left → left ≡ length (c ∷ rest)
    wrong_by c rest left true e = absurd (not_both {X = Unit {0} × List ℕ} left (tt, rest) (sym e))
    wrong_by c rest left false e = sym (left_is {X = Unit {0} × List ℕ} (length (c ∷ rest)) left e)

    whole : (octets : List ℕ) (left : ℕ) → line_end_at octets ≡ Err left → left ≡ length octets
    whole [] left e = sym (left_is {X = Unit {0} × List ℕ} 0 left e)
    whole (c ∷ rest) left e = wrong_by c rest left (c == 10) e

-- the image alone, without the line end behind it
abbrev tree_at : ℕ → List ℕ → Part (List LowerNode)
tree_at count octets = cond (ltb (length octets) count) (Err (length octets)) (image_or_fault (reading (take count octets)) octets >>= λ tree. Ok (tree, drop count octets))

offset_within : (octets : List ℕ) (r : Result (List LowerNode) FieldFault) (fault : ImageFault) → with_offset (length octets) r ≡ Err fault → fault.offset ≤ length octets
offset_within octets (Ok x) fault e = absurd cc
offset_within octets (Err f) fault e =
    let same : length octets - f.left ≡ fault.offset = cc in
    omega (arith, same)

tree_stops : {X : Type 0} (count : ℕ) (Behind : List ℕ → ℕ → Type 0) (next : List LowerNode → List ℕ → Result X ℕ) → ((tree : List LowerNode) → StopsAs Behind (next tree)) → StopsAs (ImageThen count Behind) (λ octets. then (tree_at count octets) next)
tree_stops {X} count Behind next later = record { stops = λ octets fits left e. stops octets fits left (ltb (length octets) count) refl e; again = again }
  where
    read_stops : (octets : List ℕ) → IsSlice octets → count ≤ length octets → (left : ℕ) (r : Result (List LowerNode) ImageFault) → reading (take count octets) ≡ r → then (image_or_fault r octets >>= λ tree. Ok (tree, drop count octets)) next ≡ Err left
        → (place : ℕ) × (place + left ≡ length octets) × ImageThen count Behind octets place
    read_stops octets fits all left (Ok tree) is e =
        let t = reading_takes (take count octets) tree (AreOctets-take count octets fits.octets) is in
        let front : octets ≡ image tree ++ drop count octets = sym (take-append-drop count octets) ∙ ap (λ (s : List ℕ). s ++ drop count octets) t.1 in
        let len : length (image tree) ≡ count = ap length (sym t.1) ∙ omega (arith, length-take count octets, all) in
        let s = (later tree).stops (drop count octets) (IsSlice-rest octets (image tree) (drop count octets) front fits) left e in
        let long : length octets ≡ length (image tree) + length (drop count octets) = ap length front ∙ length-append (image tree) (drop count octets) in
        (count + s.0, omega (arith, s.1, long, len), GoodImage tree (drop count octets) s.0 t.0 front len s.2 refl)
    read_stops octets fits all left (Err fault) is e =
        let same : length octets - fault.offset ≡ left = left_is {X = X} (length octets - fault.offset) left e in
        let len : length (take count octets) ≡ count = omega (arith, length-take count octets, all) in
        let within : fault.offset ≤ length (take count octets) = offset_within (take count octets) (nodes_at (take count octets)) fault is in
        (fault.offset, omega (arith, same, len, within, all), BadImage (take count octets) (drop count octets) fault (sym (take-append-drop count octets)) len is refl)

    stops : (octets : List ℕ) → IsSlice octets → (left : ℕ) (test : Bool) → ltb (length octets) count ≡ test → then (tree_at count octets) next ≡ Err left → (place : ℕ) × (place + left ≡ length octets) × ImageThen count Behind octets place
    stops octets fits left true few e =
        let read : then (tree_at count octets) next ≡ Err (length octets) = rw few refl in
        let same : length octets ≡ left = left_is {X = X} (length octets) left (sym read ∙ e) in
        (0, omega (arith, same), CutImage (ltb-true (length octets) count few) refl)
    stops octets fits left false all e =
        let read : then (tree_at count octets) next ≡ then (image_or_fault (reading (take count octets)) octets >>= λ tree. Ok (tree, drop count octets)) next = rw all refl in
        read_stops octets fits (ltb-false (length octets) count all) left (reading (take count octets)) refl (sym read ∙ e)

    again : (octets : List ℕ) → IsSlice octets → (place : ℕ) → ImageThen count Behind octets place → (left : ℕ) × (place + left ≡ length octets) × (then (tree_at count octets) next ≡ Err left)
    again octets fits place (CutImage few first) = (length octets, omega (arith, first), rw (lt-ltb (length octets) count few) refl)
    again octets fits place (BadImage found rest fault text len bad is) =
        let long : length octets ≡ length found + length rest = ap length text ∙ length-append found rest in
        let enough : ltb (length octets) count ≡ false = le-ltb (length octets) count (omega (arith, long, len)) in
        let front : take count octets ≡ found = ap (take count) text ∙ take_at found rest count len in
        let read : reading (take count octets) ≡ Err fault = ap reading front ∙ bad in
        let within : fault.offset ≤ length found = offset_within found (nodes_at found) fault bad in
        (length octets - fault.offset, omega (arith, is, within, long), rw (enough, read) refl)
    again octets fits place (GoodImage tree rest behind lawful text len bad is) =
        let a = (later tree).again rest (IsSlice-rest octets (image tree) rest text fits) behind bad in
        let long : length octets ≡ length (image tree) + length rest = ap length text ∙ length-append (image tree) rest in
        let enough : ltb (length octets) count ≡ false = le-ltb (length octets) count (omega (arith, long, len)) in
        let front : take count octets ≡ image tree = ap (take count) text ∙ take_at (image tree) rest count len in
        let back : drop count octets ≡ rest = ap (drop count) text ∙ drop_at (image tree) rest count len in
        let read : reading (take count octets) ≡ Ok tree = ap reading front ∙ reading_again tree lawful in
        (a.0, omega (arith, a.1, is, long, len), rw (enough, read, back) a.2)

-- the image and its line end
sized_by_parts : {X : Type 0} (count : ℕ) (next : List LowerNode → List ℕ → Result X ℕ) (octets : List ℕ) → then (tree_at count octets) (λ tree rest. then (line_end_at rest) (λ nothing more. next tree more)) ≡ then (sized_image_at count octets) next
sized_by_parts {X} count next octets = by (ltb (length octets) count)
  where
    ended_by : (tree : List LowerNode) (r : Result (List ℕ) ℕ) → then (with_nothing r) (λ nothing more. next tree more) ≡ then (r >>= λ rest. Ok (tree, rest)) next
    ended_by tree (Ok rest) = refl
    ended_by tree (Err l) = refl

    read_by : (r : Result (List LowerNode) ℕ) → then (r >>= λ tree. Ok (tree, drop count octets)) (λ tree rest. then (line_end_at rest) (λ nothing more. next tree more)) ≡ then (r >>= λ tree. behind_end (drop count octets) >>= λ rest. Ok (tree, rest)) next
    read_by (Ok tree) = ended_by tree (behind_end (drop count octets))
    read_by (Err l) = refl

    by : (test : Bool)
        → then (cond test (Err (length octets)) (image_or_fault (reading (take count octets)) octets >>= λ tree. Ok (tree, drop count octets))) (λ tree rest. then (line_end_at rest) (λ nothing more. next tree more))
        ≡ then (cond test (Err (length octets)) (image_or_fault (reading (take count octets)) octets >>= λ tree. behind_end (drop count octets) >>= λ rest. Ok (tree, rest))) next
    by true = refl
    by false = read_by (image_or_fault (reading (take count octets)) octets)

image_stops : {X : Type 0} (Behind : List ℕ → ℕ → Type 0) (next : List LowerNode → List ℕ → Result X ℕ) → ((tree : List LowerNode) → StopsAs Behind (next tree))
    → StopsAs (LineThen image_line (λ digits. ImageThen (digits_value 10 digits) (LineThen image_end (λ nothing. Behind)))) (λ octets. then (image_at octets) next)
image_stops {X} Behind next later =
    StopsAs-same (λ octets. then (field_at (codes "image ") digits_in octets) (λ digits rest. then (sized_image_at (digits_value 10 digits) rest) next)) _
    (λ octets. bound (field_at (codes "image ") digits_in octets) (λ d. sized_image_at (digits_value 10 d.0) d.1) (λ x. next x.0 x.1) ∙ ap (λ (r : Part (List LowerNode)). then r next) (image_by_digits octets))
    (line_stops image_line (λ digits. ImageThen (digits_value 10 digits) (LineThen image_end (λ nothing. Behind))) (λ digits rest. then (sized_image_at (digits_value 10 digits) rest) next) image_is (λ digits tells.
    StopsAs-same _ (λ rest. then (sized_image_at (digits_value 10 digits) rest) next) (sized_by_parts (digits_value 10 digits) next)
    (tree_stops (digits_value 10 digits) (LineThen image_end (λ nothing. Behind)) (λ tree rest. then (line_end_at rest) (λ nothing more. next tree more))
    (λ tree. line_stops image_end (λ nothing. Behind) (λ nothing more. next tree more) line_end_is (λ nothing tells. later tree)))))

-- ---- the job

work_stops : StopsAs IsBadImagePart work_at
unfolding work_at
work_stops =
    image_stops _ (λ tree rest. then (scripts_at rest) (λ scripts behind. then (schedule_at (length scripts) behind) (λ schedule last. end_at last >>= λ nothing. Ok (tree, scripts, schedule)))) (λ tree.
    scripts_stop (λ sessions. LineThen (schedule_line sessions) (λ items. LineThen end_line (λ nothing. Follows))) (λ scripts behind. then (schedule_at (length scripts) behind) (λ schedule last. end_at last >>= λ nothing. Ok (tree, scripts, schedule))) (λ scripts few.
    line_stops (schedule_line (length scripts)) (λ items. LineThen end_line (λ nothing. Follows)) (λ schedule last. end_at last >>= λ nothing. Ok (tree, scripts, schedule)) (schedule_is (length scripts) few) (λ schedule tells.
    turned end_at (λ nothing. (tree, scripts, schedule)) end_stops)))

pub job_stops : StopsAs IsBadPlace job_at
unfolding job_at
job_stops =
    fixed_stops (codes "ecryptfs-job 1") (λ head. then (keys_at head) (λ keys rest. then (making_at rest) (λ making behind. work_at behind >>= λ work. Ok (job_of keys making work.0 work.1 work.2)))) first_is
    (keys_stop Job (MakingThen IsBadImagePart) (λ keys rest. then (making_at rest) (λ making behind. work_at behind >>= λ work. Ok (job_of keys making work.0 work.1 work.2))) (λ keys tells.
    making_stop Job IsBadImagePart (λ making behind. work_at behind >>= λ work. Ok (job_of keys making work.0 work.1 work.2)) (λ making tells.
    turned work_at (λ work. job_of keys making work.0 work.1 work.2) work_stops)))

-- ---- a job's text, or bad at one place

-- octets that are bad are no job's text
pub no_both : (octets : List ℕ) (job : Job) (place : ℕ) → IsSlice octets → IsJobText job octets → IsBadPlace octets place → ⊥
no_both octets job place fits text bad = let a = job_stops.again octets fits place bad in not_both {X = Job} a.0 job (sym a.2 ∙ text_read octets job text)

-- they are bad at one place alone
pub one_place : (octets : List ℕ) (place other : ℕ) → IsSlice octets → IsBadPlace octets place → IsBadPlace octets other → place ≡ other
one_place octets place other fits bad worse =
    let a = job_stops.again octets fits place bad in
    let b = job_stops.again octets fits other worse in
    let same : a.0 ≡ b.0 = left_is {X = Job} a.0 b.0 (sym a.2 ∙ b.2) in
    omega (arith, a.1, b.1, same)

abbrev IsJobOrBad : List ℕ → Type 0
IsJobOrBad octets = ((job : Job) × IsJobText job octets) ⊎ ((place : ℕ) × IsBadPlace octets place)

-- octets that are few enough are a job's text, or bad
pub job_or_bad : (octets : List ℕ) → IsSlice octets → length octets ≤ MOST_OCTETS → IsJobOrBad octets
job_or_bad octets fits short = by (job_at octets) refl
  where
    by : (r : Result Job ℕ) → job_at octets ≡ r → IsJobOrBad octets
    by (Ok job) e = inl (job, is_job_text octets job fits short e)
    by (Err left) e = let s = job_stops.stops octets fits left e in inr (s.0, s.2)

-- ---- what is answered

pub as_slice : (octets : List ℕ) → ((i : ℕ) → get_or octets i 0 < 256) → length octets < 2 ^ 64 → IsSlice octets
as_slice octets each short = record { octets = AreOctets-from_each octets each; short = short }

-- what is left from the wrong line on is no more than all
pub left_within : (octets : List ℕ) (left : ℕ) → IsSlice octets → job_at octets ≡ Err left → left ≤ length octets
left_within octets left fits e = let s = job_stops.stops octets fits left e in omega (arith, s.1)

pub bad_job : (octets : List ℕ) (left place : ℕ) → IsSlice octets → length octets ≤ MOST_OCTETS → job_at octets ≡ Err left → length octets - left ≡ place → IsBadJob octets place
bad_job octets left place fits short e is =
    let s = job_stops.stops octets fits left e in
    let same : s.0 ≡ place = omega (arith, s.1, is) in
    record { short = short; place_is = subst (IsBadPlace octets) same s.2 }

-- the place that is told is the one
pub bad_at : (octets : List ℕ) (left place : ℕ) → IsSlice octets → IsBadJob octets place → job_at octets ≡ Err left → length octets - left ≡ place
bad_at octets left place fits bad e =
    let a = job_stops.again octets fits place bad.place_is in
    let same : left ≡ a.0 = left_is {X = Job} left a.0 (sym e ∙ a.2) in
    omega (arith, a.1, same)

pub no_job : (octets : List ℕ) (left : ℕ) (job : Job) → job_at octets ≡ Err left → IsJobText job octets → ⊥
no_job octets left job e text = not_both {X = Job} left job (sym e ∙ text_read octets job text)

pub no_bad : (octets : List ℕ) (job : Job) (place : ℕ) → IsSlice octets → job_at octets ≡ Ok job → IsBadJob octets place → ⊥
no_bad octets job place fits e bad = let a = job_stops.again octets fits place bad.place_is in not_both {X = Job} a.0 job (sym a.2 ∙ e)

abbrev refused : ℕ → Result Job JobError
refused place = Err (errors.Bad place)

pub told : {place other : ℕ} → place ≡ other → refused place ≡ refused other
told e = ap refused e
