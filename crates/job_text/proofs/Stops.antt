-- A reading stops where its octets are bad, and only there.
use Rattle.std.proofs.Common.{◌≡◌, ℕ, zero, suc, ◌+◌, Bool, true, false, cond, List, [], ◌∷◌, length, Option, Some, None, Result, Ok, Err, refl, sym, ap, ◌∙◌, arith}
use Rattle.std.specs.Prelude.{◌==◌}
use Rattle.std.proofs.lemmas.List.{length-append}
use Rattle.answer_model.specs.Answer.{◌>>=◌}
use Rattle.job_model.specs.JobText.{LineKind}
use Rattle.job_model.specs.BadPlace.{BeginsWithNo, LineThen, BadLine, GoodLine, InARow}
use Rattle.reading_model.specs.Lines.{line_in}
use Rattle.job_text.specs.JobReading.{Part, or_wrong, behind, word_at, whole_at, field_at, times_at}
use Rattle.job_text.proofs.LineParts.{IsSlice, IsSlice-rest, IsPart, read_line}

-- a part is read, and then what stands behind it
abbrev pub then : {A X : Type 0} → Part A → (A → List ℕ → Result X ℕ) → Result X ℕ
then part next = part >>= λ x. next x.0 x.1

pub record StopsAs {X : Type 0} (Bad : List ℕ → ℕ → Type 0) (read : List ℕ → Result X ℕ) : Type 0 where
  pub stops : (octets : List ℕ) → IsSlice octets → (left : ℕ) → read octets ≡ Err left → (place : ℕ) × (place + left ≡ length octets) × Bad octets place
  pub again : (octets : List ℕ) → IsSlice octets → (place : ℕ) → Bad octets place → (left : ℕ) × (place + left ≡ length octets) × (read octets ≡ Err left)

-- readings that answer the same
pub StopsAs-same : {X : Type 0} {Bad : List ℕ → ℕ → Type 0} (read other : List ℕ → Result X ℕ) → ((octets : List ℕ) → read octets ≡ other octets) → StopsAs Bad read → StopsAs Bad other
StopsAs-same {X} {Bad} read other same s = record { stops = stops; again = again }
  where
    stops : (octets : List ℕ) → IsSlice octets → (left : ℕ) → other octets ≡ Err left → (place : ℕ) × (place + left ≡ length octets) × Bad octets place
    stops octets fits left e = s.stops octets fits left (same octets ∙ e)

    again : (octets : List ℕ) → IsSlice octets → (place : ℕ) → Bad octets place → (left : ℕ) × (place + left ≡ length octets) × (other octets ≡ Err left)
    again octets fits place bad = let a = s.again octets fits place bad in (a.0, a.1, sym (same octets) ∙ a.2)

-- two steps, taken as one
pub bound : {A B C E : Type 0} (r : Result A E) (f : A → Result B E) (g : B → Result C E) → (r >>= λ x. f x >>= g) ≡ ((r >>= f) >>= g)
bound (Ok x) f g = refl
bound (Err e) f g = refl

-- steps that go on alike
pub alike : {A B E : Type 0} (r : Result A E) (f g : A → Result B E) → ((x : A) → f x ≡ g x) → (r >>= f) ≡ (r >>= g)
alike (Ok x) f g same = same x
alike (Err e) f g same = refl

abbrev pub failed : {X : Type 0} → ℕ → Result X ℕ
failed left = Err left

pub left_is : {X : Type 0} (left other : ℕ) → failed {X = X} left ≡ failed {X = X} other → left ≡ other
left_is left other e = cc

pub not_both : {X : Type 0} (left : ℕ) (x : X) → failed {X = X} left ≡ Ok x → ⊥
not_both left x e = cc

-- ---- lines

-- A line of this kind is read where one stands; where none does, all octets are left.
pub record IsLine {A : Type 0} (at : List ℕ → Part A) (kind : LineKind A) : Type 0 where
  pub part : IsPart at kind.spelled kind.Tells
  pub whole : (octets : List ℕ) (left : ℕ) → at octets ≡ Err left → left ≡ length octets

pub line_stops : {A X : Type 0} {at : List ℕ → Part A} (kind : LineKind A) (Behind : A → List ℕ → ℕ → Type 0) (next : A → List ℕ → Result X ℕ) → IsLine at kind → ((value : A) → kind.Tells value → StopsAs (Behind value) (next value))
    → StopsAs (LineThen kind Behind) (λ octets. then (at octets) next)
line_stops {A} {X} {at} kind Behind next l later = record { stops = λ octets fits left e. stops octets fits left (at octets) refl e; again = again }
  where
    stops : (octets : List ℕ) → IsSlice octets → (left : ℕ) (r : Part A) → at octets ≡ r → then r next ≡ Err left → (place : ℕ) × (place + left ≡ length octets) × LineThen kind Behind octets place
    stops octets fits left (Err all) is e =
        let same : all ≡ left = left_is {X = X} all left e in
        let whole : all ≡ length octets = l.whole octets all is in
        let none : BeginsWithNo kind octets = λ value rest tells text. not_both {X = A × List ℕ} all (value, rest) (sym is ∙ ap at text ∙ l.part.again value rest tells) in
        (0, omega (arith, same, whole), BadLine none refl)
    stops octets fits left (Ok x) is e =
        let f = l.part.found octets fits x is in
        let s = (later x.0 f.1).stops x.1 (IsSlice-rest octets (kind.spelled x.0) x.1 f.0 fits) left e in
        let long : length octets ≡ length (kind.spelled x.0) + length x.1 = ap length f.0 ∙ length-append (kind.spelled x.0) x.1 in
        (length (kind.spelled x.0) + s.0, omega (arith, s.1, long), GoodLine x.0 x.1 s.0 f.1 f.0 s.2 refl)

    no_line : (octets : List ℕ) (r : Part A) → IsSlice octets → at octets ≡ r → BeginsWithNo kind octets → (left : ℕ) × (left ≡ length octets) × (then r next ≡ Err left)
    no_line octets (Err all) fits is none = (all, l.whole octets all is, refl)
    no_line octets (Ok x) fits is none = let f = l.part.found octets fits x is in absurd (none x.0 x.1 f.1 f.0)

    again : (octets : List ℕ) → IsSlice octets → (place : ℕ) → LineThen kind Behind octets place → (left : ℕ) × (place + left ≡ length octets) × (then (at octets) next ≡ Err left)
    again octets fits place (BadLine none first) = let n = no_line octets (at octets) fits refl none in (n.0, omega (arith, n.1, first), n.2)
    again octets fits place (GoodLine value rest behind tells text bad is) =
        let a = (later value tells).again rest (IsSlice-rest octets (kind.spelled value) rest text fits) behind bad in
        let long : length octets ≡ length (kind.spelled value) + length rest = ap length text ∙ length-append (kind.spelled value) rest in
        let read : at octets ≡ Ok (value, rest) = ap at text ∙ l.part.again value rest tells in
        (a.0, omega (arith, a.1, is, long), rw read a.2)

-- ---- a line that isn't there

or_whole : {A B : Type 0} (o : Option A) (octets : List ℕ) (f : A → Result B ℕ) (left : ℕ) → ((x : A) → f x ≡ Err left → left ≡ length octets) → (or_wrong o octets >>= f) ≡ Err left → left ≡ length octets
or_whole (Some x) octets f left next e = next x e
or_whole {A} {B} None octets f left next e = sym (left_is {X = B} (length octets) left e)

bind_whole : {A B : Type 0} (r : Result A ℕ) (octets : List ℕ) (f : A → Result B ℕ) (left : ℕ) → ((all : ℕ) → r ≡ Err all → all ≡ length octets) → ((x : A) → f x ≡ Err left → left ≡ length octets) → (r >>= f) ≡ Err left → left ≡ length octets
bind_whole (Ok x) octets f left first next e = next x e
bind_whole {A} {B} (Err all) octets f left first next e = sym (left_is {X = B} all left e) ∙ first all refl

value_whole : {A : Type 0} (x : A) (octets : List ℕ) (left : ℕ) → Ok x ≡ failed {X = A} left → left ≡ length octets
value_whole x octets left e = absurd (not_both left x (sym e))

pub word_whole : (word octets : List ℕ) (left : ℕ) → word_at word octets ≡ Err left → left ≡ length octets
unfolding word_at
word_whole word octets left e =
    or_whole (line_in octets) octets _ left (λ line h. or_whole (behind word line.0) octets _ left (λ text g. value_whole {A = List ℕ × List ℕ} (text, line.1) octets left g) h) e

pub field_whole : {A : Type 0} (read : List ℕ → Option A) (word octets : List ℕ) (left : ℕ) → field_at word read octets ≡ Err left → left ≡ length octets
field_whole {A} read word octets left e =
    bind_whole (word_at word octets) octets _ left (λ all h. word_whole word octets all h) (λ text h. or_whole (read text.0) octets _ left (λ value g. value_whole {A = A × List ℕ} (value, text.1) octets left g) h) e

pub line_whole : {A : Type 0} (read : List ℕ → Option A) (octets : List ℕ) (left : ℕ) → read_line read octets ≡ Err left → left ≡ length octets
line_whole {A} read octets left e =
    or_whole (line_in octets) octets _ left (λ line h. or_whole (read line.0) octets _ left (λ value g. value_whole {A = A × List ℕ} (value, line.1) octets left g) h) e

test_whole : (test : Bool) (rest octets : List ℕ) (left : ℕ) → cond test (Ok rest) (failed {X = List ℕ} (length octets)) ≡ Err left → left ≡ length octets
test_whole true rest octets left e = value_whole rest octets left e
test_whole false rest octets left e = sym (left_is {X = List ℕ} (length octets) left e)

pub whole_whole : (word octets : List ℕ) (left : ℕ) → whole_at word octets ≡ Err left → left ≡ length octets
unfolding whole_at
whole_whole word octets left e =
    bind_whole (word_at word octets) octets _ left (λ all h. word_whole word octets all h) (λ text h. test_whole (length text.0 == 0) text.1 octets left h) e

-- ---- parts in a row

-- Part Behind tells where octets are bad that begin with a part and have Behind behind it.
abbrev pub PartStops : {A : Type 0} → ((List ℕ → ℕ → Type 0) → List ℕ → ℕ → Type 0) → (List ℕ → Part A) → (A → Type 0) → Type 1
PartStops {A} Then at Fits = (X : Type 0) (Behind : List ℕ → ℕ → Type 0) (next : A → List ℕ → Result X ℕ) → ((value : A) → Fits value → StopsAs Behind (next value)) → StopsAs (Then Behind) (λ octets. then (at octets) next)

one_more : {A X : Type 0} (at : List ℕ → Part A) (count : ℕ) (next : List A → List ℕ → Result X ℕ) (octets : List ℕ)
    → then (at octets) (λ first rest. then (times_at at count rest) (λ others. next (first ∷ others))) ≡ then (times_at at (suc count) octets) next
unfolding times_at
one_more {A} {X} at count next octets =
    alike (at octets) _ _ (λ x. bound (times_at at count x.1) (λ others. Ok (x.0 ∷ others.0, others.1)) (λ y. next y.0 y.1))
    ∙ bound (at octets) (λ x. times_at at count x.1 >>= λ others. Ok (x.0 ∷ others.0, others.1)) (λ y. next y.0 y.1)

none_more : {A X : Type 0} (at : List ℕ → Part A) (next : List A → List ℕ → Result X ℕ) (octets : List ℕ) → next [] octets ≡ then (times_at at zero octets) next
unfolding times_at
none_more at next octets = refl

pub row_stops : {A X : Type 0} (Then : (List ℕ → ℕ → Type 0) → List ℕ → ℕ → Type 0) (at : List ℕ → Part A) (Fits : A → Type 0) → PartStops Then at Fits → (count : ℕ) (Behind : List ℕ → ℕ → Type 0) (next : List A → List ℕ → Result X ℕ)
    → ((values : List A) → length values ≡ count → StopsAs Behind (next values)) → StopsAs (InARow count Then Behind) (λ octets. then (times_at at count octets) next)
row_stops {A} {X} Then at Fits p zero Behind next later = StopsAs-same (next []) _ (λ octets. none_more at next octets) (later [] refl)
row_stops {A} {X} Then at Fits p (suc count) Behind next later =
    StopsAs-same (λ octets. then (at octets) (λ first rest. then (times_at at count rest) (λ others. next (first ∷ others)))) _ (λ octets. one_more at count next octets)
    (p X (InARow count Then Behind) (λ first rest. then (times_at at count rest) (λ others. next (first ∷ others)))
    (λ first fits. row_stops Then at Fits p count Behind (λ others. next (first ∷ others)) (λ others e. later (first ∷ others) (ap suc e))))
