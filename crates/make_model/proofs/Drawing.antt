-- What one more number adds to what is made for each, and what is made for all of them.
use Rattle.std.proofs.Common.{◌≡◌, ℕ, zero, suc, ◌+◌, ◌*◌, ◌%◌, ◌≤◌, ◌<◌, List, [], ◌∷◌, ◌++◌, length, refl, sym, ap, ◌∙◌, append_assoc, arith}
use Rattle.std.specs.List.{AllByRecursion}
use Rattle.std.proofs.lemmas.List.{append-nil, length-append}
use Rattle.make_model.specs.Draws.{Making, draw, draw_mod, give, one, behind, for_each_from, for_each, ◌>>=◌}

for_each_from-suc : {A : Type 0} (make : ℕ → Making (List A)) (first count x : ℕ) →
    for_each_from first (suc count) make x ≡ (for_each_from first count make >>= λ front. make (first + count) >>= λ last. give (front ++ last)) x
unfolding for_each_from
for_each_from-suc {A} make first zero x =
    let number : first + 0 ≡ first = omega arith in
    rw number (ap (λ (made : List A). (made, (make first x).1)) (append-nil (make first x).0))
for_each_from-suc {A} make first (suc count) x =
    let number : first + 1 + count ≡ first + suc count = omega arith in
    let later = for_each_from-suc make (first + 1) count (make first x).1 in
    let rest : List A × ℕ = for_each_from (first + 1) count make (make first x).1 in
    ap (behind (make first x).0) later
    ∙ ap (λ (k : ℕ). ((make first x).0 ++ (rest.0 ++ (make k rest.1).0), (make k rest.1).1)) number
    ∙ ap (λ (made : List A). (made, (make (first + suc count) rest.1).1)) (sym (append_assoc (make first x).0 rest.0 (make (first + suc count) rest.1).0))

-- ---- a loop that makes something for each number

-- before it
pub for_each_none : {A : Type 0} (make : ℕ → Making (List A)) (x : ℕ) → for_each 0 make x ≡ ([], x)
unfolding for_each_from
for_each_none make x = refl

pub behind_none : {A : Type 0} (make : ℕ → Making (List A)) (before : List A) (x : ℕ) → behind before (for_each 0 make x) ≡ (before, x)
unfolding for_each_from
behind_none {A} make before x = ap (λ (list : List A). (list, x)) (append-nil before)

-- one more, behind what was there at first
pub behind_more : {A : Type 0} (make : ℕ → Making (List A)) (before : List A) (count x : ℕ) (front : List A) (y : ℕ) (all : List A × ℕ) →
    behind before (for_each count make x) ≡ (front, y) → behind front (make count y) ≡ all → behind before (for_each (count + 1) make x) ≡ all
behind_more {A} make before count x front y all so_far more =
    let made : List A × ℕ = for_each count make x in
    let number : 0 + count ≡ count = omega arith in
    let next : count + 1 ≡ suc count = omega arith in
    let step = for_each_from-suc make 0 count x in
    ap (λ (n : ℕ). behind before (for_each n make x)) next
    ∙ ap (behind before) step
    ∙ ap (λ (n : ℕ). (before ++ (made.0 ++ (make n made.1).0), (make n made.1).1)) number
    ∙ ap (λ (list : List A). (list, (make count made.1).1)) (sym (append_assoc before made.0 (make count made.1).0))
    ∙ ap (λ (so_far : List A × ℕ). behind so_far.0 (make count so_far.1)) so_far
    ∙ more

-- one more item
pub item_more : {A : Type 0} (item : Making A) (count x : ℕ) (front : List A) (y : ℕ) (a : A) (z : ℕ) →
    for_each count (λ i. one item) x ≡ (front, y) → item y ≡ (a, z) → for_each (count + 1) (λ i. one item) x ≡ (front ++ a ∷ [], z)
item_more {A} item count x front y a z so_far more =
    behind_more (λ i. one item) [] count x front y (front ++ a ∷ [], z) so_far (ap (λ (made : A × ℕ). (front ++ made.0 ∷ [], made.1)) more)

pub draw_mod_is : (n y d z : ℕ) → draw y ≡ (d, z) → draw_mod n y ≡ (d % n, z)
draw_mod_is n y d z drawn = ap (λ (made : ℕ × ℕ). (made.0 % n, made.1)) drawn

-- ---- what holds of all that is made

pub all-append : {A : Type 0} (P : A → Type 0) (xs ys : List A) → AllByRecursion P xs → AllByRecursion P ys → AllByRecursion P (xs ++ ys)
all-append P [] ys all all' = all'
all-append P (x ∷ xs) ys all all' = (all.0, all-append P xs ys all.1 all')

all_from : {A : Type 0} (P : A → Type 0) (make : ℕ → Making (List A)) (first count x : ℕ) → ((i y : ℕ) → i < first + count → AllByRecursion P (make i y).0) →
    AllByRecursion P (for_each_from first count make x).0
unfolding for_each_from
all_from P make first zero x each = tt
all_from P make first (suc count) x each =
    all-append P (make first x).0 (for_each_from (first + 1) count make (make first x).1).0 (each first x (omega arith))
    (all_from P make (first + 1) count (make first x).1 (λ i y lt. each i y (omega arith)))

pub for_each-all : {A : Type 0} (P : A → Type 0) (make : ℕ → Making (List A)) (count x : ℕ) → ((i y : ℕ) → i < count → AllByRecursion P (make i y).0) →
    AllByRecursion P (for_each count make x).0
for_each-all P make count x each = all_from P make 0 count x (λ i y lt. each i y (omega arith))

few_from : {A : Type 0} (most : ℕ) (make : ℕ → Making (List A)) (first count x : ℕ) → ((i y : ℕ) → length (make i y).0 ≤ most) →
    length (for_each_from first count make x).0 ≤ count * most
unfolding for_each_from
few_from most make first zero x each = omega arith
few_from most make first (suc count) x each =
    let rest = few_from most make (first + 1) count (make first x).1 each in
    let front = each first x in
    omega (arith, length-append (make first x).0 (for_each_from (first + 1) count make (make first x).1).0, rest, front)

pub for_each-few : {A : Type 0} (most : ℕ) (make : ℕ → Making (List A)) (count x : ℕ) → ((i y : ℕ) → length (make i y).0 ≤ most) → length (for_each count make x).0 ≤ count * most
for_each-few most make count x each = few_from most make 0 count x each

length_from : {A : Type 0} (each : ℕ) (make : ℕ → Making (List A)) (first count x : ℕ) → ((i y : ℕ) → length (make i y).0 ≡ each) →
    length (for_each_from first count make x).0 ≡ count * each
unfolding for_each_from
length_from each make first zero x same = omega arith
length_from each make first (suc count) x same =
    let rest = length_from each make (first + 1) count (make first x).1 same in
    let front = same first x in
    omega (arith, length-append (make first x).0 (for_each_from (first + 1) count make (make first x).1).0, rest, front)

pub length-for_each : {A : Type 0} (each : ℕ) (make : ℕ → Making (List A)) (count x : ℕ) → ((i y : ℕ) → length (make i y).0 ≡ each) → length (for_each count make x).0 ≡ count * each
length-for_each each make count x same = length_from each make 0 count x same
