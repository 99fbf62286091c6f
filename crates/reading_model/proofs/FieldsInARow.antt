-- Values that are read one behind another.
use Rattle.std.proofs.Common.{◌≡◌, ℕ, List, [], ◌∷◌, ◌++◌, length, Option, Some, None, refl, sym, ap, ◌∙◌, append_assoc}
use Rattle.std.specs.Option.{option_map}
use Rattle.std.specs.List.{slice_split}
use Rattle.std.proofs.lemmas.List.{append-nil, nil_from_length}
use Rattle.reading_model.specs.Lines.{cut_in}
use Rattle.reading_model.specs.Fields.{put, octets_in, each_in, ◌>>=◌}
use Rattle.reading_model.proofs.Cutting.{is_at, split_more, split_last}

-- what was read before, and what is still read
abbrev pub with_front : {A : Type 0} → List A → Option (List A) → Option (List A)
with_front front read = option_map (λ items. front ++ items) read

front_more : {A : Type 0} (front : List A) (x : A) (read : Option (List A)) → with_front front (option_map (λ items. x ∷ items) read) ≡ with_front (front ++ x ∷ []) read
front_more front x None = refl
front_more front x (Some items) = ap Some (sym (append_assoc front (x ∷ []) items))

front_all : {A : Type 0} (front : List A) → with_front front (Some []) ≡ Some front
front_all front = ap Some (append-nil front)

-- ---- octets of a name

pub octet_goes_on : (front text : List ℕ) (c : ℕ) (rest : List ℕ) (total : Option (List ℕ)) → octets_in text ≡ put c (octets_in rest) → with_front front (octets_in text) ≡ total → with_front (front ++ c ∷ []) (octets_in rest) ≡ total
octet_goes_on front text c rest total e so_far = sym (front_more front c (octets_in rest)) ∙ ap (with_front front) (sym e) ∙ so_far

pub octet_stops : (front text : List ℕ) (total : Option (List ℕ)) → octets_in text ≡ None → with_front front (octets_in text) ≡ total → total ≡ None
octet_stops front text total e so_far = sym so_far ∙ ap (with_front front) e

pub octets_done : (front text : List ℕ) (total : Option (List ℕ)) → length text ≡ 0 → with_front front (octets_in text) ≡ total → total ≡ Some front
unfolding octets_in
octets_done front text total none so_far = sym so_far ∙ ap (λ (t : List ℕ). with_front front (octets_in t)) (nil_from_length text none) ∙ front_all front

-- ---- fields, one after each such octet

each_more : {A : Type 0} (read : List ℕ → Option A) (text : List ℕ) (value : A) (texts : List (List ℕ)) → read text ≡ Some value → each_in read (text ∷ texts) ≡ option_map (λ values. value ∷ values) (each_in read texts)
unfolding each_in
each_more {A} read text value texts e = rw e (by (each_in read texts))
  where
    by : (o : Option (List A)) → (o >>= λ values. Some (value ∷ values)) ≡ option_map (λ values. value ∷ values) o
    by None = refl
    by (Some values) = refl

each_stop : {A : Type 0} (read : List ℕ → Option A) (text : List ℕ) (texts : List (List ℕ)) → read text ≡ None → each_in read (text ∷ texts) ≡ None
unfolding each_in
each_stop read text texts e = rw e refl

each_none : {A : Type 0} (read : List ℕ → Option A) → each_in read [] ≡ Some []
unfolding each_in
each_none read = refl

-- behind the fields so far, one more has a value
pub field_goes_on : {A : Type 0} (octet : ℕ) (read : List ℕ → Option A) (front : List A) (text part rest : List ℕ) (value : A) (total : Option (List A)) → cut_in octet text ≡ Some (part, rest) → read part ≡ Some value
    → with_front front (each_in read (slice_split (is_at octet) text)) ≡ total → with_front (front ++ value ∷ []) (each_in read (slice_split (is_at octet) rest)) ≡ total
field_goes_on octet read front text part rest value total e r so_far =
    let others = slice_split (is_at octet) rest in
    sym (front_more front value (each_in read others)) ∙ ap (with_front front) (sym (ap (each_in read) (split_more octet text part rest e) ∙ each_more read part value others r)) ∙ so_far

-- behind the fields so far, one has none
pub field_stops : {A : Type 0} (octet : ℕ) (read : List ℕ → Option A) (front : List A) (text part rest : List ℕ) (total : Option (List A)) → cut_in octet text ≡ Some (part, rest) → read part ≡ None
    → with_front front (each_in read (slice_split (is_at octet) text)) ≡ total → total ≡ None
field_stops octet read front text part rest total e r so_far =
    sym so_far ∙ ap (with_front front) (ap (each_in read) (split_more octet text part rest e) ∙ each_stop read part (slice_split (is_at octet) rest) r)

-- behind the fields so far, the last one has a value
pub field_ends : {A : Type 0} (octet : ℕ) (read : List ℕ → Option A) (front : List A) (text : List ℕ) (value : A) (total : Option (List A)) → cut_in octet text ≡ None → read text ≡ Some value
    → with_front front (each_in read (slice_split (is_at octet) text)) ≡ total → total ≡ Some (front ++ value ∷ [])
field_ends octet read front text value total e r so_far =
    sym so_far ∙ ap (with_front front) (ap (each_in read) (split_last octet text e) ∙ each_more read text value [] r ∙ ap (option_map (λ values. value ∷ values)) (each_none read))

-- behind the fields so far, the last one has none
pub last_stops : {A : Type 0} (octet : ℕ) (read : List ℕ → Option A) (front : List A) (text : List ℕ) (total : Option (List A)) → cut_in octet text ≡ None → read text ≡ None
    → with_front front (each_in read (slice_split (is_at octet) text)) ≡ total → total ≡ None
last_stops octet read front text total e r so_far =
    sym so_far ∙ ap (with_front front) (ap (each_in read) (split_last octet text e) ∙ each_stop read text [] r)
