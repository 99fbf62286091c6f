-- States in planes, a step at a time.
use Rattle.std.proofs.Common.{◌≡◌, ℕ, ◌<◌, ◌+◌, ◌*◌, ◌/◌, ◌%◌, List, map, length, bit_xor, refl, sym, ap, ◌∙◌, inl, inr, subst, zero-add, arith}
use Rattle.std.specs.List.{range_with_len}
use Rattle.std.specs.Prelude.{slice_index}
use Rattle.std.proofs.lemmas.Bool.{cases_lt}
use Rattle.std.proofs.lemmas.List.{get_or_past}
use Rattle.std.proofs.lemmas.List.FromFn.{get_or-map-range_with_len}
use Rattle.std.proofs.lemmas.Nat.{xor_lt}
use lib.Bits.{xor_assoc, xor_zero_r}
use Rattle.cipher_model.specs.Field.{product_of_bits, product, times_x}
use Rattle.cipher_model.specs.Aes.{IsBlock, each_byte, below, add_round_key, mixed_byte, mix_columns, inv_mixed_byte, inv_mix_columns}
use Rattle.cipher_model.proofs.FieldLaws.{xor_exchange, times_x-xor, times_x-lt, product_of_bits-xor}
use Rattle.cipher_model.proofs.Tables.{same_at}
use Rattle.cipher_model.proofs.MixLaws.{sum4, turned}
use Rattle.cipher_model.proofs.States.{block_byte, each_byte_same, each_byte_whole}
use native.Mathlib.Nat.{div-one}
use Rattle.std.specs.Int.{bit_at}
use Rattle.aes_planes.specs.declared.planes.Planes.{Planes}
use Rattle.aes_planes.specs.Planes.{from_bits, bit_of, lane, by_rows, byte_in, block_in, plane}
use Rattle.std.proofs.lemmas.Simd.{length-zip2}
use lib.Lanes.{zip2}
use Rattle.aes_planes.proofs.Lanes.{bit_of-lt, lane-zip2}
use Rattle.aes_planes.proofs.Bits.{from_bits-lt}

-- block m of eight planes
abbrev pub block_of : List ℕ → List ℕ → List ℕ → List ℕ → List ℕ → List ℕ → List ℕ → List ℕ → ℕ → List ℕ
block_of a b c d e f g h m =
    each_byte (λ i. from_bits (bit_of a (lane i) m) (bit_of b (lane i) m) (bit_of c (lane i) m) (bit_of d (lane i) m)
    (bit_of e (lane i) m) (bit_of f (lane i) m) (bit_of g (lane i) m) (bit_of h (lane i) m))

each_byte-lt : (f : ℕ → ℕ) → ((i : ℕ) → f i < 256) → (j : ℕ) → slice_index (each_byte f) j < 256
each_byte-lt f h j = elim (cases_lt j 16) [
  | inl lt ↦ subst (λ (x : ℕ). x < 256) (sym (get_or-map-range_with_len f 0 16 j j 0 lt (zero-add j))) (h j)
  | inr past ↦ let z : 0 < 256 = omega arith in subst (λ (x : ℕ). x < 256) (sym (get_or_past (each_byte f) j 0 past)) z
]

pub byte_in-lt : (q : Planes) (i m : ℕ) → byte_in q i m < 256
byte_in-lt q i m = from_bits-lt _ _ _ _ _ _ _ _ (bit_of-lt q.p0 i m) (bit_of-lt q.p1 i m) (bit_of-lt q.p2 i m) (bit_of-lt q.p3 i m)
    (bit_of-lt q.p4 i m) (bit_of-lt q.p5 i m) (bit_of-lt q.p6 i m) (bit_of-lt q.p7 i m)

pub block_in-lt : (q : Planes) (m j : ℕ) → slice_index (block_in q m) j < 256
block_in-lt q m j = each_byte-lt (λ i. byte_in q (lane i) m) (λ i. byte_in-lt q (lane i) m) j

-- ---- MixColumns on bytes

one_is : map (λ (x : ℕ). product x 1) (range_with_len 0 256) ≡ range_with_len 0 256
unfolding product_of_bits
one_is = refl

two_is : map (λ (x : ℕ). product x 2) (range_with_len 0 256) ≡ map times_x (range_with_len 0 256)
unfolding product_of_bits
two_is = refl

three_is : map (λ (x : ℕ). product x 3) (range_with_len 0 256) ≡ map (λ (x : ℕ). bit_xor (times_x x) x) (range_with_len 0 256)
unfolding product_of_bits
three_is = refl

pub mixed_is : (a b c d : ℕ) → a < 256 → b < 256 → c < 256 → d < 256
    → bit_xor (bit_xor (times_x (bit_xor a b)) b) (bit_xor c d) ≡ mixed_byte a b c d
mixed_is a b c d ha hb hc hd =
    ap (λ (x : ℕ). bit_xor (bit_xor x b) (bit_xor c d)) (times_x-xor a b ha hb)
    ∙ ap (λ (x : ℕ). bit_xor x (bit_xor c d)) (xor_assoc (times_x a) (times_x b) b)
    ∙ sym (λ i. bit_xor (bit_xor (same_at (λ x. product x 2) times_x two_is a ha i) (same_at (λ x. product x 3) (λ x. bit_xor (times_x x) x) three_is b hb i))
    (bit_xor (same_at (λ x. product x 1) (λ x. x) one_is c hc i) (same_at (λ x. product x 1) (λ x. x) one_is d hd i)))

-- the steps of `mix`
pub mix_steps : (q r a x y d z : List ℕ) → ((i : ℕ) → slice_index q i < 256)
    → r ≡ each_byte (λ i. below q i 1) → a ≡ add_round_key q r → x ≡ each_byte (λ i. times_x (slice_index a i)) → y ≡ add_round_key x r
    → d ≡ each_byte (λ i. below a i 2) → z ≡ add_round_key y d → z ≡ mix_columns q
mix_steps q r a x y d z lt er ea ex ey ed ez =
    let ra : a ≡ add_round_key q (each_byte (λ i. below q i 1)) = ea ∙ ap (add_round_key q) er in
    ez ∙ (λ t. add_round_key (ey t) (ed t))
    ∙ (λ t. add_round_key (add_round_key (ex t) (er t)) (each_byte (λ i. below (ra t) i 2)))
    ∙ (λ t. add_round_key (add_round_key (each_byte (λ i. times_x (slice_index (ra t) i))) (each_byte (λ i. below q i 1)))
    (each_byte (λ i. below (add_round_key q (each_byte (λ i. below q i 1))) i 2)))
    ∙ each_byte_same
    (λ i. bit_xor (bit_xor (times_x (bit_xor (below q i 0) (below q i 1))) (below q i 1)) (bit_xor (below q i 2) (below q i 3)))
    (λ i. mixed_byte (below q i 0) (below q i 1) (below q i 2) (below q i 3))
    (λ i h. mixed_is (below q i 0) (below q i 1) (below q i 2) (below q i 3) (lt _) (lt _) (lt _) (lt _))

-- ---- InvMixColumns on bytes, by MixColumns

abbrev Additive : (ℕ → ℕ → ℕ → ℕ → ℕ) → Type 0
Additive f = (a b c d p q r s : ℕ) → a < 256 → b < 256 → c < 256 → d < 256 → p < 256 → q < 256 → r < 256 → s < 256
    → f (bit_xor a p) (bit_xor b q) (bit_xor c r) (bit_xor d s) ≡ bit_xor (f a b c d) (f p q r s)

-- such a map is the sum of what it makes of each byte alone
additive_parts : (f : ℕ → ℕ → ℕ → ℕ → ℕ) → Additive f → (a b c d : ℕ) → a < 256 → b < 256 → c < 256 → d < 256
    → f a b c d ≡ bit_xor (f a 0 0 0) (bit_xor (f 0 b 0 0) (bit_xor (f 0 0 c 0) (f 0 0 0 d)))
additive_parts f h a b c d ha hb hc hd =
    let z : 0 < 256 = omega arith in
    ap (λ (x : ℕ). f x b c d) (sym (xor_zero_r a)) ∙ h a 0 0 0 0 b c d ha z z z z hb hc hd
    ∙ ap (bit_xor (f a 0 0 0)) (ap (λ (x : ℕ). f 0 x c d) (sym (xor_zero_r b)) ∙ h 0 b 0 0 0 0 c d z hb z z z z hc hd
    ∙ ap (bit_xor (f 0 b 0 0)) (ap (λ (x : ℕ). f 0 0 x d) (sym (xor_zero_r c)) ∙ h 0 0 c 0 0 0 0 d z z hc z z z z hd))

-- two such maps are one when they agree on each byte alone
additive_same : (f g : ℕ → ℕ → ℕ → ℕ → ℕ) → Additive f → Additive g
    → map (λ x. f x 0 0 0) (range_with_len 0 256) ≡ map (λ x. g x 0 0 0) (range_with_len 0 256)
    → map (λ x. f 0 x 0 0) (range_with_len 0 256) ≡ map (λ x. g 0 x 0 0) (range_with_len 0 256)
    → map (λ x. f 0 0 x 0) (range_with_len 0 256) ≡ map (λ x. g 0 0 x 0) (range_with_len 0 256)
    → map (λ x. f 0 0 0 x) (range_with_len 0 256) ≡ map (λ x. g 0 0 0 x) (range_with_len 0 256)
    → (a b c d : ℕ) → a < 256 → b < 256 → c < 256 → d < 256 → f a b c d ≡ g a b c d
additive_same f g hf hg e0 e1 e2 e3 a b c d ha hb hc hd =
    additive_parts f hf a b c d ha hb hc hd
    ∙ (λ i. bit_xor (same_at (λ x. f x 0 0 0) (λ x. g x 0 0 0) e0 a ha i) (bit_xor (same_at (λ x. f 0 x 0 0) (λ x. g 0 x 0 0) e1 b hb i)
    (bit_xor (same_at (λ x. f 0 0 x 0) (λ x. g 0 0 x 0) e2 c hc i) (same_at (λ x. f 0 0 0 x) (λ x. g 0 0 0 x) e3 d hd i))))
    ∙ sym (additive_parts g hg a b c d ha hb hc hd)

turned-additive : (j k m n : ℕ) → Additive (turned j k m n)
turned-additive j k m n a b c d p q r s ha hb hc hd hp hq hr hs =
    (λ i. sum4 (product_of_bits-xor 8 a p j ha hp i) (product_of_bits-xor 8 b q k hb hq i) (product_of_bits-xor 8 c r m hc hr i) (product_of_bits-xor 8 d s n hd hs i))
    ∙ (λ i. bit_xor (xor_exchange (product a j) (product p j) (product b k) (product q k) i) (xor_exchange (product c m) (product r m) (product d n) (product s n) i))
    ∙ xor_exchange (bit_xor (product a j) (product b k)) (bit_xor (product p j) (product q k)) (bit_xor (product c m) (product d n)) (bit_xor (product r m) (product s n))

-- a byte plus four times its sum with the byte two below
abbrev spread : ℕ → ℕ → ℕ
spread x y = bit_xor x (times_x (times_x (bit_xor x y)))

spread-lt : (x y : ℕ) → x < 256 → y < 256 → spread x y < 256
spread-lt x y hx hy = xor_lt 8 x (times_x (times_x (bit_xor x y))) hx (times_x-lt (times_x (bit_xor x y)) (times_x-lt (bit_xor x y) (xor_lt 8 x y hx hy)))

spread-xor : (x y p q : ℕ) → x < 256 → y < 256 → p < 256 → q < 256 → spread (bit_xor x p) (bit_xor y q) ≡ bit_xor (spread x y) (spread p q)
spread-xor x y p q hx hy hp hq =
    let u : bit_xor x y < 256 = xor_lt 8 x y hx hy in
    let v : bit_xor p q < 256 = xor_lt 8 p q hp hq in
    ap (λ (z : ℕ). bit_xor (bit_xor x p) (times_x (times_x z))) (xor_exchange x p y q)
    ∙ ap (λ (z : ℕ). bit_xor (bit_xor x p) (times_x z)) (times_x-xor (bit_xor x y) (bit_xor p q) u v)
    ∙ ap (bit_xor (bit_xor x p)) (times_x-xor (times_x (bit_xor x y)) (times_x (bit_xor p q)) (times_x-lt (bit_xor x y) u) (times_x-lt (bit_xor p q) v))
    ∙ xor_exchange x p (times_x (times_x (bit_xor x y))) (times_x (times_x (bit_xor p q)))

abbrev by_mix : ℕ → ℕ → ℕ → ℕ → ℕ
by_mix a b c d = turned 2 3 1 1 (spread a c) (spread b d) (spread c a) (spread d b)

by_mix-additive : Additive by_mix
by_mix-additive a b c d p q r s ha hb hc hd hp hq hr hs =
    (λ i. turned 2 3 1 1 (spread-xor a c p r ha hc hp hr i) (spread-xor b d q s hb hd hq hs i) (spread-xor c a r p hc ha hr hp i) (spread-xor d b s q hd hb hs hq i))
    ∙ turned-additive 2 3 1 1 (spread a c) (spread b d) (spread c a) (spread d b) (spread p r) (spread q s) (spread r p) (spread s q)
    (spread-lt a c ha hc) (spread-lt b d hb hd) (spread-lt c a hc ha) (spread-lt d b hd hb) (spread-lt p r hp hr) (spread-lt q s hq hs) (spread-lt r p hr hp) (spread-lt s q hs hq)

by_mix0 : map (λ x. by_mix x 0 0 0) (range_with_len 0 256) ≡ map (λ x. turned 14 11 13 9 x 0 0 0) (range_with_len 0 256)
unfolding product_of_bits
by_mix0 = refl

by_mix1 : map (λ x. by_mix 0 x 0 0) (range_with_len 0 256) ≡ map (λ x. turned 14 11 13 9 0 x 0 0) (range_with_len 0 256)
unfolding product_of_bits
by_mix1 = refl

by_mix2 : map (λ x. by_mix 0 0 x 0) (range_with_len 0 256) ≡ map (λ x. turned 14 11 13 9 0 0 x 0) (range_with_len 0 256)
unfolding product_of_bits
by_mix2 = refl

by_mix3 : map (λ x. by_mix 0 0 0 x) (range_with_len 0 256) ≡ map (λ x. turned 14 11 13 9 0 0 0 x) (range_with_len 0 256)
unfolding product_of_bits
by_mix3 = refl

by_mix_is : (a b c d : ℕ) → a < 256 → b < 256 → c < 256 → d < 256
    → mixed_byte (spread a c) (spread b d) (spread c a) (spread d b) ≡ inv_mixed_byte a b c d
by_mix_is a b c d ha hb hc hd =
    additive_same by_mix (turned 14 11 13 9) by_mix-additive (turned-additive 14 11 13 9) by_mix0 by_mix1 by_mix2 by_mix3 a b c d ha hb hc hd

-- the steps of `inv_mix`
pub inv_mix_steps : (q e d t u s z : List ℕ) → ((i : ℕ) → slice_index q i < 256)
    → e ≡ each_byte (λ i. below q i 2) → d ≡ add_round_key q e → t ≡ each_byte (λ i. times_x (slice_index d i)) → u ≡ each_byte (λ i. times_x (slice_index t i))
    → s ≡ add_round_key q u → z ≡ mix_columns s → z ≡ inv_mix_columns q
inv_mix_steps q e d t u s z lt ee ed et eu es ez =
    let rd : d ≡ add_round_key q (each_byte (λ i. below q i 2)) = ed ∙ ap (add_round_key q) ee in
    let rt : t ≡ each_byte (λ i. times_x (bit_xor (slice_index q i) (below q i 2))) = et ∙ ap (λ (l : List ℕ). each_byte (λ i. times_x (slice_index l i))) rd in
    let ru : u ≡ each_byte (λ i. times_x (times_x (bit_xor (slice_index q i) (below q i 2)))) = eu ∙ ap (λ (l : List ℕ). each_byte (λ i. times_x (slice_index l i))) rt in
    let rs : s ≡ each_byte (λ i. spread (slice_index q i) (below q i 2)) = es ∙ ap (add_round_key q) ru in
    ez ∙ ap mix_columns rs
    ∙ each_byte_same
    (λ i. mixed_byte (spread (below q i 0) (below q i 2)) (spread (below q i 1) (below q i 3)) (spread (below q i 2) (below q i 0)) (spread (below q i 3) (below q i 1)))
    (λ i. inv_mixed_byte (below q i 0) (below q i 1) (below q i 2) (below q i 3))
    (λ i h. by_mix_is (below q i 0) (below q i 1) (below q i 2) (below q i 3) (lt _) (lt _) (lt _) (lt _))

-- ---- from blocks to planes, and back

byte_whole : (x : ℕ) → x < 256 → from_bits (bit_at x 0) (bit_at x 1) (bit_at x 2) (bit_at x 3) (bit_at x 4) (bit_at x 5) (bit_at x 6) (bit_at x 7) ≡ x
byte_whole x h =
    let e : x % 2 + 2 * (x / 2 % 2 + 2 * (x / 4 % 2 + 2 * (x / 8 % 2 + 2 * (x / 16 % 2 + 2 * (x / 32 % 2 + 2 * (x / 64 % 2 + 2 * (x / 128 % 2))))))) ≡ x = omega arith in
    ap (λ (y : ℕ). y % 2 + 2 * (x / 2 % 2 + 2 * (x / 4 % 2 + 2 * (x / 8 % 2 + 2 * (x / 16 % 2 + 2 * (x / 32 % 2 + 2 * (x / 64 % 2 + 2 * (x / 128 % 2)))))))) (div-one x) ∙ e

-- a block row by row, and column by column again
pub rows_back : (b : List ℕ) → IsBlock b → b ≡ by_rows (by_rows b)
rows_back b block = sym (each_byte_whole b block.long)

-- the bits of one plane, taken from the eight of q, make block m
pub from_lane : (q : Planes) (p : List ℕ) (m : ℕ) → IsBlock p → ((b : ℕ) → b < 8 → (i : ℕ) → i < 16 → bit_of p i b ≡ bit_of (plane q b) i m)
    → by_rows p ≡ block_in q m
from_lane q p m block e =
    let t : (b : ℕ) → b < 8 → (i : ℕ) → i < 16 → bit_of p i b ≡ bit_of (plane q b) i m = e in
    each_byte_same (λ i. slice_index p (lane i)) (λ i. byte_in q (lane i) m) (λ i hi.
    let l : ℕ = lane i in
    let hl : l < 16 = omega arith in
    sym (byte_whole (slice_index p l) (block_byte p l block))
    ∙ (λ j. from_bits (t 0 (omega arith) l hl j) (t 1 (omega arith) l hl j) (t 2 (omega arith) l hl j) (t 3 (omega arith) l hl j)
    (t 4 (omega arith) l hl j) (t 5 (omega arith) l hl j) (t 6 (omega arith) l hl j) (t 7 (omega arith) l hl j)))

pub to_planes : (q k r : Planes) → k ≡ q → ((m : ℕ) → m < 8 → IsBlock (plane k m))
    → ((b : ℕ) → b < 8 → (m : ℕ) → m < 8 → (i : ℕ) → i < 16 → bit_of (plane r b) i m ≡ bit_of (plane k m) i b)
    → (m : ℕ) → m < 8 → block_in r m ≡ by_rows (plane q m)
to_planes q k r same blocks e m hm =
    sym (from_lane r (plane k m) m (blocks m hm) (λ b hb i hi. sym (e b hb m hm i hi))) ∙ ap (λ (x : Planes). by_rows (plane x m)) same

pub from_planes : (q k r : Planes) → k ≡ q → ((m : ℕ) → m < 8 → IsBlock (plane r m))
    → ((b : ℕ) → b < 8 → (m : ℕ) → m < 8 → (i : ℕ) → i < 16 → bit_of (plane r b) i m ≡ bit_of (plane k m) i b)
    → (m : ℕ) → m < 8 → plane r m ≡ by_rows (block_in q m)
from_planes q k r same blocks e m hm =
    rows_back (plane r m) (blocks m hm) ∙ ap by_rows (from_lane k (plane r m) m (blocks m hm) (λ b hb i hi. e m hm b hb i hi)) ∙ ap (λ (x : Planes). by_rows (block_in x m)) same

-- the sum of two vectors is the sum of their blocks
pub sum_of_lanes : (a b : List ℕ) → length a ≡ 16 → length b ≡ 16 → zip2 bit_xor a b ≡ add_round_key a b
sum_of_lanes a b ha hb =
    sym (each_byte_whole (zip2 bit_xor a b) (length-zip2 bit_xor a b (ha ∙ sym hb) ∙ ha))
    ∙ each_byte_same (λ i. slice_index (zip2 bit_xor a b) i) (λ i. bit_xor (slice_index a i) (slice_index b i)) (λ i h. lane-zip2 bit_xor refl a b i (ha ∙ sym hb))
