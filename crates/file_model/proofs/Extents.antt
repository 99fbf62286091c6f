-- Windows of lists, and whole pages.
use Rattle.std.proofs.Common.{ℕ, zero, suc, ◌≡◌, ◌+◌, ◌-◌, ◌*◌, ◌/◌, ◌%◌, ◌<◌, ◌≤◌, inl, inr, min, max, List, ◌++◌, length, get_or, take, drop, replicate, refl, sym, ◌∙◌, ap, arith}
use Rattle.std.proofs.lemmas.Bool.{cases_lt}
use Rattle.std.proofs.lemmas.List.{take-take, drop-drop, drop-take, ext_get_or, length-take, length-drop, length-append, length-replicate, get_or-take, get_or-drop, get_or_append_left, get_or-append_right, get_or-replicate, get_or_past, append-nil, append_assoc, take_at, drop_at}
use Rattle.packet_model.specs.Metadata.{extent_count}
use Rattle.body_model.specs.BodyCalls.{Resizes, Tears, Writes}
use Rattle.body_model.specs.Format.{extent_at, joined}
use Rattle.file_model.specs.ByteFile.{written}
use Rattle.file_model.specs.LaidOut.{page_of}

-- ---- windows

-- a window below a place up to which two lists agree
pub window_before : (m at a n : ℕ) (old new : List ℕ) → take m new ≡ take at old → a + n ≤ m → m ≤ at → take n (drop a new) ≡ take n (drop a old)
window_before m at a n old new same within below =
    sym (drop-take a n new)
    ∙ ap (drop a) (sym (take-take (a + n) m new within) ∙ ap (take (a + n)) same ∙ take-take (a + n) at old (omega arith))
    ∙ drop-take a n old

-- a window behind a place from which two lists agree
pub window_after : (e a n : ℕ) (old new : List ℕ) → drop e new ≡ drop e old → e ≤ a → take n (drop a new) ≡ take n (drop a old)
window_after e a n old new same behind =
    let split : e + (a - e) ≡ a = omega arith in
    ap (take n) (ap (λ b. drop b new) (sym split) ∙ sym (drop-drop (a - e) e new) ∙ ap (drop (a - e)) same ∙ drop-drop (a - e) e old ∙ ap (λ b. drop b old) split)

-- A window stays, where it was there.
abbrev pub Stays : ℕ → ℕ → List ℕ → List ℕ → Type 0
Stays a n old new = a + n ≤ length old → (a + n ≤ length new) × (take n (drop a new) ≡ take n (drop a old))

-- What a write, whole or torn, leaves: all below it and all behind it.
pub record Leaves (at n : ℕ) (old new : List ℕ) : Type 0 where
  pub no_shorter : length old ≤ length new
  pub no_longer : length new ≤ max (length old) (at + n)
  pub before : take (min at (length old)) new ≡ take at old
  pub after : drop (at + n) new ≡ drop (at + n) old

pub leaves_written : (at : ℕ) (octets old new : List ℕ) → Writes at octets old new → Leaves at (length octets) old new
leaves_written at octets old new w = record { no_shorter = omega (arith, w.length_is); no_longer = omega (arith, w.length_is); before = w.before; after = w.behind }

pub leaves_torn : (at n : ℕ) (old new : List ℕ) → Tears at n old new → Leaves at n old new
leaves_torn at n old new t = record { no_shorter = t.no_shorter; no_longer = t.no_longer; before = t.before; after = t.behind }

pub stays_below : (at n a m : ℕ) (old new : List ℕ) → Leaves at n old new → a + m ≤ at → Stays a m old new
stays_below at n a m old new l below there =
    (omega (arith, l.no_shorter), window_before (min at (length old)) at a m old new l.before (omega arith) (omega arith))

pub stays_behind : (at n a m : ℕ) (old new : List ℕ) → Leaves at n old new → at + n ≤ a → Stays a m old new
stays_behind at n a m old new l behind there = (omega (arith, l.no_shorter), window_after (at + n) a m old new l.after behind)

pub stays_resized : (len a m : ℕ) (old new : List ℕ) → Resizes len old new → a + m ≤ len → Stays a m old new
stays_resized len a m old new r below there =
    (omega (arith, r.length_is), window_before (min len (length old)) len a m old new r.front (omega arith) (omega arith))

-- ---- extents of a body

-- how a slice of one page is written
pub one_page : (at : ℕ) (xs : List ℕ) → take (at + 4096 - at) (drop at xs) ≡ take 4096 (drop at xs)
one_page at xs = let n : at + 4096 - at ≡ 4096 = omega arith in ap (λ m. take m (drop at xs)) n

-- the octets of an extent
pub extent_is : (start n : ℕ) (body : List ℕ) → extent_at start body n ≡ take 4096 (drop (start + 4096 * n) body)
extent_is start n body = one_page (start + 4096 * n) body

-- an extent below the size ends within what is needed
pub extent_within : (size k : ℕ) → k < extent_count size → 4096 * k + 4096 ≤ 4096 * extent_count size
extent_within size k h = omega arith

-- what stands at a page that was written
pub extent_written : (at : ℕ) (octets old new : List ℕ) → length octets ≡ 4096 → Writes at octets old new → take 4096 (drop at new) ≡ octets
extent_written at octets old new len w = ap (λ n. take n (drop at new)) (sym len) ∙ w.here

-- ---- pages one after another

last_or_before : (f : ℕ → List ℕ) (n i : ℕ) → length (joined f n) ≡ 4096 * n → i < 4096 * suc n → (i < 4096 * n → get_or (joined f n) i 0 ≡ get_or (f (i / 4096)) (i % 4096) 0)
    → get_or (joined f n ++ f n) i 0 ≡ get_or (f (i / 4096)) (i % 4096) 0
last_or_before f n i len h before = elim (cases_lt i (4096 * n)) [
  | inl low ↦ get_or_append_left (joined f n) (f n) 0 i (omega arith) ∙ before low
  | inr high ↦ get_or-append_right (joined f n) (f n) (4096 * n) i 0 len high ∙ same_place high
]
  where
    same_place : 4096 * n ≤ i → get_or (f n) (i - 4096 * n) 0 ≡ get_or (f (i / 4096)) (i % 4096) 0
    same_place high =
        let q : i / 4096 ≡ n = omega arith in
        let r : i % 4096 ≡ i - 4096 * n = omega arith in
        rw (q, r) refl

-- the first pages one after another, by place
pub length-joined : (f : ℕ → List ℕ) (n : ℕ) → ((k : ℕ) → k < n → length (f k) ≡ 4096) → length (joined f n) ≡ 4096 * n
length-joined f zero pages = refl
length-joined f (suc n) pages = omega (arith, length-append (joined f n) (f n), length-joined f n (λ k h. pages k (omega arith)), pages n (omega arith))

pub get_or-joined : (f : ℕ → List ℕ) (n i : ℕ) → ((k : ℕ) → k < n → length (f k) ≡ 4096) → i < 4096 * n → get_or (joined f n) i 0 ≡ get_or (f (i / 4096)) (i % 4096) 0
get_or-joined f zero i pages h = absurd (omega arith)
get_or-joined f (suc n) i pages h = last_or_before f n i (length-joined f n (λ k b. pages k (omega arith))) h (get_or-joined f n i (λ k b. pages k (omega arith)))

-- ---- pages of octets

pub length_zeros : (n : ℕ) → length {A = ℕ} (replicate n 0) ≡ n
length_zeros n = length-replicate {A = ℕ} n 0

-- a front and zeros behind it, by place
pub padded : (xs : List ℕ) (n i : ℕ) → get_or (xs ++ replicate n 0) i 0 ≡ get_or xs i 0
padded xs n i = elim (cases_lt i (length xs)) [
  | inl low ↦ get_or_append_left xs (replicate n 0) 0 i low
  | inr high ↦ get_or-append_right xs (replicate n 0) (length xs) i 0 refl high ∙ zero_at (i - length xs) n ∙ sym (get_or_past xs i 0 high)
]
  where
    zero_at : (j n : ℕ) → get_or {A = ℕ} (replicate n 0) j 0 ≡ 0
    zero_at j n = elim (cases_lt j n) [
      | inl h ↦ get_or-replicate n j 0 0 h
      | inr h ↦ get_or_past (replicate n 0) j 0 (omega (arith, length_zeros n))
    ]

pub length-page_of : (octets : List ℕ) (k : ℕ) → length (page_of octets k) ≡ 4096
length-page_of octets k =
    omega (
      arith,
      length-append (take 4096 (drop (4096 * k) octets)) (replicate (4096 - (length octets - 4096 * k)) 0),
      length_zeros (4096 - (length octets - 4096 * k)),
      length-take 4096 (drop (4096 * k) octets),
      length-drop (4096 * k) octets,
    )

pub get_or-page_of : (octets : List ℕ) (k i : ℕ) → i < 4096 → get_or (page_of octets k) i 0 ≡ get_or octets (4096 * k + i) 0
get_or-page_of octets k i h =
    padded (take 4096 (drop (4096 * k) octets)) (4096 - (length octets - 4096 * k)) i ∙ get_or-take 4096 (drop (4096 * k) octets) i 0 h ∙ get_or-drop (4096 * k) octets i 0

-- zeros past the end
pub page_of_past : (octets : List ℕ) (k i : ℕ) → length octets ≤ 4096 * k + i → get_or (page_of octets k) i 0 ≡ 0
page_of_past octets k i past = elim (cases_lt i 4096) [
  | inl low ↦ get_or-page_of octets k i low ∙ get_or_past octets (4096 * k + i) 0 past
  | inr high ↦ get_or_past (page_of octets k) i 0 (omega (arith, length-page_of octets k))
]

-- a page by its places
pub page_by : (octets : List ℕ) (k : ℕ) (page : List ℕ) → length page ≡ 4096 → ((i : ℕ) → i < 4096 → get_or octets (4096 * k + i) 0 ≡ get_or page i 0) → page_of octets k ≡ page
page_by octets k page len same = ext_get_or 0 (page_of octets k) page (length-page_of octets k ∙ sym len) (λ i h.
    let low : i < 4096 = omega (arith, length-page_of octets k) in get_or-page_of octets k i low ∙ same i low)

-- ---- octets written within a list

pub written_is : (at : ℕ) (octets old : List ℕ) → at ≤ length old → written at octets old ≡ take at old ++ (octets ++ drop (at + length octets) old)
written_is at octets old within =
    let none : at - length old ≡ 0 = omega arith in
    ap (λ n. take at old ++ replicate n 0 ++ octets ++ drop (at + length octets) old) none
    ∙ ap (λ xs. xs ++ octets ++ drop (at + length octets) old) (append-nil (take at old)) ∙ append_assoc (take at old) octets (drop (at + length octets) old)

pub take-written : (at : ℕ) (octets old : List ℕ) → at ≤ length old → take at (written at octets old) ≡ take at old
take-written at octets old within =
    ap (take at) (written_is at octets old within) ∙ take_at (take at old) (octets ++ drop (at + length octets) old) at (omega (arith, length-take at old))

pub drop-written : (at : ℕ) (octets old : List ℕ) → at ≤ length old → drop (at + length octets) (written at octets old) ≡ drop (at + length octets) old
drop-written at octets old within =
    ap (drop (at + length octets)) (written_is at octets old within ∙ sym (append_assoc (take at old) octets (drop (at + length octets) old)))
    ∙ drop_at (take at old ++ octets) (drop (at + length octets) old) (at + length octets) (omega (arith, length-append (take at old) octets, length-take at old))

-- by place
pub written_before : (at : ℕ) (octets old : List ℕ) (j : ℕ) → at ≤ length old → j < at → get_or (written at octets old) j 0 ≡ get_or old j 0
written_before at octets old j within h =
    ap (λ xs. get_or xs j 0) (written_is at octets old within) ∙ get_or_append_left (take at old) (octets ++ drop (at + length octets) old) 0 j (omega (arith, length-take at old)) ∙ get_or-take at old j 0 h

written_from : (at : ℕ) (octets old : List ℕ) (j : ℕ) → at ≤ length old → at ≤ j → get_or (written at octets old) j 0 ≡ get_or (octets ++ drop (at + length octets) old) (j - at) 0
written_from at octets old j within h =
    ap (λ xs. get_or xs j 0) (written_is at octets old within) ∙ get_or-append_right (take at old) (octets ++ drop (at + length octets) old) at j 0 (omega (arith, length-take at old)) h

pub written_here : (at : ℕ) (octets old : List ℕ) (j : ℕ) → at ≤ length old → at ≤ j → j < at + length octets → get_or (written at octets old) j 0 ≡ get_or octets (j - at) 0
written_here at octets old j within from h = written_from at octets old j within from ∙ get_or_append_left octets (drop (at + length octets) old) 0 (j - at) (omega arith)

pub written_behind : (at : ℕ) (octets old : List ℕ) (j : ℕ) → at ≤ length old → at + length octets ≤ j → get_or (written at octets old) j 0 ≡ get_or old j 0
written_behind at octets old j within h =
    let back : at + length octets + (j - at - length octets) ≡ j = omega arith in
    written_from at octets old j within (omega arith) ∙ get_or-append_right octets (drop (at + length octets) old) (length octets) (j - at) 0 refl (omega arith)
    ∙ get_or-drop (at + length octets) old (j - at - length octets) 0 ∙ ap (λ m. get_or old m 0) back

pub length-written : (at : ℕ) (octets old : List ℕ) → at + length octets ≤ length old → length (written at octets old) ≡ length old
length-written at octets old within =
    ap length (written_is at octets old (omega arith))
    ∙ omega (arith, length-append (take at old) (octets ++ drop (at + length octets) old), length-take at old, length-append octets (drop (at + length octets) old), length-drop (at + length octets) old)
