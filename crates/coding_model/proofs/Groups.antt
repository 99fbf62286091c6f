-- The coding of octets as letters, a group of three octets and four letters at a time.
use Rattle.std.proofs.Common.{◌≡◌, ℕ, zero, suc, ◌+◌, ◌-◌, ◌*◌, ◌/◌, ◌%◌, ◌<◌, List, [], ◌∷◌, ◌++◌, length, map, take, drop, replicate, refl, sym, ap, ◌∙◌, append_assoc, arith}
use Rattle.std.specs.List.{range_with_len, slice_range}
use Rattle.std.proofs.lemmas.List.{take_at, drop_at, drop-drop, length-append}
use Rattle.cipher_model.proofs.Tables.{table_at}
use Rattle.coding_model.specs.NameCoding.{bits, number, all_bits, numbers, filled, missing, letter, letter_value, coded, octets_of}

-- two functions with one table are one on its numbers
pub same_below : (n : ℕ) (f g : ℕ → ℕ) → map f (range_with_len 0 n) ≡ map g (range_with_len 0 n) → (x : ℕ) → x < n → f x ≡ g x
same_below n f g e x h = sym (table_at f (map g (range_with_len 0 n)) n e x h) ∙ table_at g (map g (range_with_len 0 n)) n refl x h

-- ---- the first number of a list of bits, and the others

one_later : (f : ℕ → ℕ) (a n : ℕ) → map f (range_with_len (a + 1) n) ≡ map (λ i. f (i + 1)) (range_with_len a n)
one_later f a zero = refl
one_later f a (suc n) = ap (λ (ns : List ℕ). f (a + 1) ∷ ns) (one_later f (a + 1) n)

abbrev number_at : ℕ → List ℕ → ℕ → ℕ
number_at width bs i = number (slice_range bs (width * i) (width * i + width))

six_later : (xs ys : List ℕ) (i : ℕ) → length xs ≡ 6 → number_at 6 (xs ++ ys) (i + 1) ≡ number_at 6 ys i
six_later xs ys i h =
    let next : 6 * (i + 1) ≡ 6 + 6 * i = omega arith in
    let long : 6 * (i + 1) + 6 - 6 * (i + 1) ≡ 6 = omega arith in
    let same : 6 ≡ 6 * i + 6 - 6 * i = omega arith in
    let behind : drop (6 + 6 * i) (xs ++ ys) ≡ drop (6 * i) ys = sym (drop-drop (6 * i) 6 (xs ++ ys)) ∙ ap (λ (l : List ℕ). drop (6 * i) l) (drop_at xs ys 6 h) in
    (λ t. number (take (long t) (drop (next t) (xs ++ ys)))) ∙ (λ t. number (take (same t) (behind t)))

pub numbers_six : (xs ys : List ℕ) → length xs ≡ 6 → numbers 6 (xs ++ ys) ≡ number xs ∷ numbers 6 ys
numbers_six xs ys h =
    let count : length (xs ++ ys) / 6 ≡ suc (length ys / 6) = omega (arith, length-append xs ys) in
    let first : number_at 6 (xs ++ ys) 0 ≡ number xs = ap (λ (l : List ℕ). number l) (take_at xs ys 6 h) in
    ap (λ (k : ℕ). map (number_at 6 (xs ++ ys)) (range_with_len 0 k)) count
    ∙ ap (λ (n : ℕ). n ∷ map (number_at 6 (xs ++ ys)) (range_with_len 1 (length ys / 6))) first
    ∙ ap (λ (ns : List ℕ). number xs ∷ ns) (one_later (number_at 6 (xs ++ ys)) 0 (length ys / 6) ∙ (λ t. map (λ (i : ℕ). six_later xs ys i h t) (range_with_len 0 (length ys / 6))))

eight_later : (xs ys : List ℕ) (i : ℕ) → length xs ≡ 8 → number_at 8 (xs ++ ys) (i + 1) ≡ number_at 8 ys i
eight_later xs ys i h =
    let next : 8 * (i + 1) ≡ 8 + 8 * i = omega arith in
    let long : 8 * (i + 1) + 8 - 8 * (i + 1) ≡ 8 = omega arith in
    let same : 8 ≡ 8 * i + 8 - 8 * i = omega arith in
    let behind : drop (8 + 8 * i) (xs ++ ys) ≡ drop (8 * i) ys = sym (drop-drop (8 * i) 8 (xs ++ ys)) ∙ ap (λ (l : List ℕ). drop (8 * i) l) (drop_at xs ys 8 h) in
    (λ t. number (take (long t) (drop (next t) (xs ++ ys)))) ∙ (λ t. number (take (same t) (behind t)))

pub numbers_eight : (xs ys : List ℕ) → length xs ≡ 8 → numbers 8 (xs ++ ys) ≡ number xs ∷ numbers 8 ys
numbers_eight xs ys h =
    let count : length (xs ++ ys) / 8 ≡ suc (length ys / 8) = omega (arith, length-append xs ys) in
    let first : number_at 8 (xs ++ ys) 0 ≡ number xs = ap (λ (l : List ℕ). number l) (take_at xs ys 8 h) in
    ap (λ (k : ℕ). map (number_at 8 (xs ++ ys)) (range_with_len 0 k)) count
    ∙ ap (λ (n : ℕ). n ∷ map (number_at 8 (xs ++ ys)) (range_with_len 1 (length ys / 8))) first
    ∙ ap (λ (ns : List ℕ). number xs ∷ ns) (one_later (number_at 8 (xs ++ ys)) 0 (length ys / 8) ∙ (λ t. map (λ (i : ℕ). eight_later xs ys i h t) (range_with_len 0 (length ys / 8))))

-- ---- three octets as four letters

filled_behind : (xs ys : List ℕ) → length xs ≡ 24 → filled 24 (xs ++ ys) ≡ xs ++ filled 24 ys
filled_behind xs ys h =
    let same : missing 24 (length (xs ++ ys)) ≡ missing 24 (length ys) = omega (arith, length-append xs ys) in
    ap (λ (n : ℕ). (xs ++ ys) ++ replicate n 0) same ∙ append_assoc xs ys (replicate (missing 24 (length ys)) 0)

first_six : (a : ℕ) → a < 256 → number (take 6 (bits 8 a)) ≡ a / 4
first_six = same_below 256 (λ a. number (take 6 (bits 8 a))) (λ a. a / 4) refl

last_two : (a : ℕ) → a < 256 → number (drop 6 (bits 8 a)) ≡ a % 4
last_two = same_below 256 (λ a. number (drop 6 (bits 8 a))) (λ a. a % 4) refl

first_four : (b : ℕ) → b < 256 → number (take 4 (bits 8 b)) ≡ b / 16
first_four = same_below 256 (λ b. number (take 4 (bits 8 b))) (λ b. b / 16) refl

last_four : (b : ℕ) → b < 256 → number (drop 4 (bits 8 b)) ≡ b % 16
last_four = same_below 256 (λ b. number (drop 4 (bits 8 b))) (λ b. b % 16) refl

first_two : (c : ℕ) → c < 256 → number (take 2 (bits 8 c)) ≡ c / 64
first_two = same_below 256 (λ c. number (take 2 (bits 8 c))) (λ c. c / 64) refl

last_six : (c : ℕ) → c < 256 → number (drop 2 (bits 8 c)) ≡ c % 64
last_six = same_below 256 (λ c. number (drop 2 (bits 8 c))) (λ c. c % 64) refl

two_and_four : (p q r s t u : ℕ) → number (p ∷ q ∷ r ∷ s ∷ t ∷ u ∷ []) ≡ number (p ∷ q ∷ []) * 16 + number (r ∷ s ∷ t ∷ u ∷ [])
two_and_four p q r s t u = omega arith

four_and_two : (p q r s t u : ℕ) → number (p ∷ q ∷ r ∷ s ∷ t ∷ u ∷ []) ≡ number (p ∷ q ∷ r ∷ s ∷ []) * 4 + number (t ∷ u ∷ [])
four_and_two p q r s t u = omega arith

second_six : (a b : ℕ) → a < 256 → b < 256 → number (drop 6 (bits 8 a) ++ take 4 (bits 8 b)) ≡ a % 4 * 16 + b / 16
second_six a b ha hb =
    two_and_four (a / 2 % 2) (a / 1 % 2) (b / 128 % 2) (b / 64 % 2) (b / 32 % 2) (b / 16 % 2) ∙ (λ t. last_two a ha t * 16 + first_four b hb t)

third_six : (b c : ℕ) → b < 256 → c < 256 → number (drop 4 (bits 8 b) ++ take 2 (bits 8 c)) ≡ b % 16 * 4 + c / 64
third_six b c hb hc =
    four_and_two (b / 8 % 2) (b / 4 % 2) (b / 2 % 2) (b / 1 % 2) (c / 128 % 2) (c / 64 % 2) ∙ (λ t. last_four b hb t * 4 + first_two c hc t)

abbrev bits_of_three : ℕ → ℕ → ℕ → List ℕ
bits_of_three a b c = bits 8 a ++ (bits 8 b ++ bits 8 c)

six_by_six : (a b c : ℕ) (rest : List ℕ) → numbers 6 (bits_of_three a b c ++ rest)
    ≡ number (take 6 (bits 8 a)) ∷ number (drop 6 (bits 8 a) ++ take 4 (bits 8 b)) ∷ number (drop 4 (bits 8 b) ++ take 2 (bits 8 c)) ∷ number (drop 2 (bits 8 c)) ∷ numbers 6 rest
six_by_six a b c rest =
    let p : List ℕ = take 6 (bits 8 a) in
    let q : List ℕ = drop 6 (bits 8 a) ++ take 4 (bits 8 b) in
    let r : List ℕ = drop 4 (bits 8 b) ++ take 2 (bits 8 c) in
    let s : List ℕ = drop 2 (bits 8 c) in
    numbers_six p (q ++ (r ++ (s ++ rest))) refl
    ∙ ap (λ (l : List ℕ). number p ∷ l) (numbers_six q (r ++ (s ++ rest)) refl
    ∙ ap (λ (l : List ℕ). number q ∷ l) (numbers_six r (s ++ rest) refl
    ∙ ap (λ (l : List ℕ). number r ∷ l) (numbers_six s rest refl)))

pub coded_group : (a b c : ℕ) (rest : List ℕ) → a < 256 → b < 256 → c < 256
    → coded (a ∷ b ∷ c ∷ rest) ≡ letter (a / 4) ∷ letter (a % 4 * 16 + b / 16) ∷ letter (b % 16 * 4 + c / 64) ∷ letter (c % 64) ∷ coded rest
unfolding coded
coded_group a b c rest ha hb hc =
    ap (λ (l : List ℕ). map letter (numbers 6 l)) (filled_behind (bits_of_three a b c) (all_bits 8 rest) refl)
    ∙ ap (λ (l : List ℕ). map letter l) (six_by_six a b c (filled 24 (all_bits 8 rest)))
    ∙ (λ t. letter (first_six a ha t) ∷ letter (second_six a b ha hb t) ∷ letter (third_six b c hb hc t) ∷ letter (last_six c hc t) ∷ coded rest)

-- the last octets alone are coded as with zeros behind them
pub coded_one : (a : ℕ) → coded (a ∷ []) ≡ coded (a ∷ 0 ∷ 0 ∷ [])
unfolding coded
coded_one a = refl

pub coded_two : (a b : ℕ) → coded (a ∷ b ∷ []) ≡ coded (a ∷ b ∷ 0 ∷ [])
unfolding coded
coded_two a b = refl

-- ---- four letters as three octets

whole_six : (u : ℕ) → u < 64 → number (bits 6 u) ≡ u
whole_six = same_below 64 (λ u. number (bits 6 u)) (λ u. u) refl

front_two : (v : ℕ) → v < 64 → number (take 2 (bits 6 v)) ≡ v / 16
front_two = same_below 64 (λ v. number (take 2 (bits 6 v))) (λ v. v / 16) refl

back_four : (v : ℕ) → v < 64 → number (drop 2 (bits 6 v)) ≡ v % 16
back_four = same_below 64 (λ v. number (drop 2 (bits 6 v))) (λ v. v % 16) refl

front_four : (w : ℕ) → w < 64 → number (take 4 (bits 6 w)) ≡ w / 4
front_four = same_below 64 (λ w. number (take 4 (bits 6 w))) (λ w. w / 4) refl

back_two : (w : ℕ) → w < 64 → number (drop 4 (bits 6 w)) ≡ w % 4
back_two = same_below 64 (λ w. number (drop 4 (bits 6 w))) (λ w. w % 4) refl

six_and_two : (p q r s t u x y : ℕ) → number (p ∷ q ∷ r ∷ s ∷ t ∷ u ∷ x ∷ y ∷ []) ≡ number (p ∷ q ∷ r ∷ s ∷ t ∷ u ∷ []) * 4 + number (x ∷ y ∷ [])
six_and_two p q r s t u x y = omega arith

four_and_four : (p q r s t u x y : ℕ) → number (p ∷ q ∷ r ∷ s ∷ t ∷ u ∷ x ∷ y ∷ []) ≡ number (p ∷ q ∷ r ∷ s ∷ []) * 16 + number (t ∷ u ∷ x ∷ y ∷ [])
four_and_four p q r s t u x y = omega arith

two_and_six : (p q r s t u x y : ℕ) → number (p ∷ q ∷ r ∷ s ∷ t ∷ u ∷ x ∷ y ∷ []) ≡ number (p ∷ q ∷ []) * 64 + number (r ∷ s ∷ t ∷ u ∷ x ∷ y ∷ [])
two_and_six p q r s t u x y = omega arith

first_eight : (u v : ℕ) → u < 64 → v < 64 → number (bits 6 u ++ take 2 (bits 6 v)) ≡ u * 4 + v / 16
first_eight u v hu hv =
    six_and_two (u / 32 % 2) (u / 16 % 2) (u / 8 % 2) (u / 4 % 2) (u / 2 % 2) (u / 1 % 2) (v / 32 % 2) (v / 16 % 2) ∙ (λ t. whole_six u hu t * 4 + front_two v hv t)

second_eight : (v w : ℕ) → v < 64 → w < 64 → number (drop 2 (bits 6 v) ++ take 4 (bits 6 w)) ≡ v % 16 * 16 + w / 4
second_eight v w hv hw =
    four_and_four (v / 8 % 2) (v / 4 % 2) (v / 2 % 2) (v / 1 % 2) (w / 32 % 2) (w / 16 % 2) (w / 8 % 2) (w / 4 % 2) ∙ (λ t. back_four v hv t * 16 + front_four w hw t)

third_eight : (w x : ℕ) → w < 64 → x < 64 → number (drop 4 (bits 6 w) ++ bits 6 x) ≡ w % 4 * 64 + x
third_eight w x hw hx =
    two_and_six (w / 2 % 2) (w / 1 % 2) (x / 32 % 2) (x / 16 % 2) (x / 8 % 2) (x / 4 % 2) (x / 2 % 2) (x / 1 % 2) ∙ (λ t. back_two w hw t * 64 + whole_six x hx t)

eight_by_eight : (u v w x : ℕ) (rest : List ℕ) → numbers 8 (bits 6 u ++ (bits 6 v ++ (bits 6 w ++ (bits 6 x ++ rest))))
    ≡ number (bits 6 u ++ take 2 (bits 6 v)) ∷ number (drop 2 (bits 6 v) ++ take 4 (bits 6 w)) ∷ number (drop 4 (bits 6 w) ++ bits 6 x) ∷ numbers 8 rest
eight_by_eight u v w x rest =
    let p : List ℕ = bits 6 u ++ take 2 (bits 6 v) in
    let q : List ℕ = drop 2 (bits 6 v) ++ take 4 (bits 6 w) in
    let r : List ℕ = drop 4 (bits 6 w) ++ bits 6 x in
    numbers_eight p (q ++ (r ++ rest)) refl
    ∙ ap (λ (l : List ℕ). number p ∷ l) (numbers_eight q (r ++ rest) refl
    ∙ ap (λ (l : List ℕ). number q ∷ l) (numbers_eight r rest refl))

-- the octets of four values
three_octets : (u v w x : ℕ) (rest : List ℕ) → u < 64 → v < 64 → w < 64 → x < 64
    → numbers 8 (bits 6 u ++ (bits 6 v ++ (bits 6 w ++ (bits 6 x ++ rest)))) ≡ (u * 4 + v / 16) ∷ (v % 16 * 16 + w / 4) ∷ (w % 4 * 64 + x) ∷ numbers 8 rest
three_octets u v w x rest hu hv hw hx =
    eight_by_eight u v w x rest ∙ (λ t. first_eight u v hu hv t ∷ second_eight v w hv hw t ∷ third_eight w x hw hx t ∷ numbers 8 rest)

pub octets_group : (a b c d : ℕ) (rest : List ℕ) → letter_value a < 64 → letter_value b < 64 → letter_value c < 64 → letter_value d < 64
    → octets_of (a ∷ b ∷ c ∷ d ∷ rest) ≡ (letter_value a * 4 + letter_value b / 16) ∷ (letter_value b % 16 * 16 + letter_value c / 4) ∷ (letter_value c % 4 * 64 + letter_value d) ∷ octets_of rest
unfolding octets_of
octets_group a b c d rest ha hb hc hd = three_octets (letter_value a) (letter_value b) (letter_value c) (letter_value d) (all_bits 6 (map letter_value rest)) ha hb hc hd
