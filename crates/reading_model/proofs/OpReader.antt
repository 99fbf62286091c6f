-- The lines of a script are read as they are spelled.
use Rattle.std.proofs.Common.{◌≡◌, ℕ, true, List, [], ◌∷◌, codes, Option, Some, None, refl, sym, ap, subst, ◌∙◌, inl, inr}
use Rattle.std.specs.List.{list_all, join_with_byte, AllByRecursion}
use Rattle.std.specs.Option.{option_map}
use Rattle.std.specs.Str.{bytes_eq}
use Rattle.std.proofs.lemmas.Bool.{and_parts}
use Rattle.std.proofs.lemmas.List.Splits.{join_with_byte-slice_split}
use Rattle.std.proofs.lemmas.Option.{none-some, same_Some}
use Rattle.std.proofs.lemmas.Slice.Eq.{bytes_eq-Decides}
use Rattle.script_model.specs.declared.op.Op.{Op}
use Rattle.script_model.specs.declared.op.Op.TheVariants as ops
use Rattle.script_model.specs.Script.{IsOp}
use Rattle.script_model.specs.ScriptText.{op_fields, op_text}
use Rattle.reading_model.proofs.Readers.{IsReader}
use Rattle.reading_model.proofs.Words.{is_other, both, weaker}
use Rattle.reading_model.proofs.NameReader.{chosen}
use Rattle.reading_model.proofs.PathReader.{AreWithout, split_join}
use Rattle.reading_model.specs.OpReading.{IsOpText, fields_in, OpWord, op_word, renames, number_words, file_words, op_words, op_behind, op_of, op_in}
use Rattle.reading_model.proofs.FieldReaders.{is_inside, AreInside, IsRow, path_row, pair_row, slot_row, slot_path_row, slot_size_row, slot_offset_length_row, slot_offset_octets_row}

-- ---- what is read is spelled so

map_some : {A : Type 0} (f : A → Op) (o : Option A) (op : Op) → option_map f o ≡ Some op → (x : A) × (o ≡ Some x) × (f x ≡ op)
map_some f None op e = absurd (none-some op e)
map_some f (Some x) op e = (x, refl, same_Some (f x) op e)

-- these fields spell a lawful operation
abbrev Spell : List (List ℕ) → Op → Type 0
Spell fields op = (fields ≡ op_fields op) × IsOp op

-- What is read behind a word is spelled so.
record IsOpWord (row : OpWord) : Type 0 where
  found : (fields : List (List ℕ)) (op : Op) → row.read fields ≡ Some op → Spell (row.word ∷ fields) op

word_by : {A : Type 0} {read : List (List ℕ) → Option A} {spell : A → List (List ℕ)} {Fits : A → Type 0} (word : List ℕ) → IsRow read spell Fits → (make : A → Op) → ((x : A) → word ∷ spell x ≡ op_fields (make x)) → ((x : A) → Fits x → IsOp (make x))
    → IsOpWord (op_word word read make)
word_by {A} {read} {spell} {Fits} word row make spelled lawful = record { found = found }
  where
    found : (fields : List (List ℕ)) (op : Op) → option_map make (read fields) ≡ Some op → Spell (word ∷ fields) op
    found fields op e =
        let m = map_some make (read fields) op e in
        let f = row.found fields m.0 m.1 in
        subst (λ (o : Op). Spell (word ∷ fields) o) m.2 (ap (λ (ts : List (List ℕ)). word ∷ ts) f.0 ∙ spelled m.0, lawful m.0 f.1)

each_number_word : AllByRecursion IsOpWord number_words
each_number_word = (
  word_by (codes "read") slot_offset_length_row (λ x. ops.Read x.0 x.1.0 x.1.1) (λ x. refl) (λ x h. (h.0, h.1.0, h.1.1)),
  (
    word_by (codes "truncate") slot_size_row (λ x. ops.Truncate x.0 x.1) (λ x. refl) (λ x h. h),
    (
      word_by (codes "size") slot_row ops.Size (λ x. refl) (λ x h. h),
      (word_by (codes "sync") slot_row ops.Sync (λ x. refl) (λ x h. h), (word_by (codes "close") slot_row ops.Close (λ x. refl) (λ x h. h), tt)),
    ),
  ),
)

each_file_word : AllByRecursion IsOpWord file_words
each_file_word = (
  word_by (codes "open") slot_path_row (λ x. ops.Open x.0 x.1) (λ x. refl) (λ x h. h),
  (
    word_by (codes "create") slot_path_row (λ x. ops.Create x.0 x.1) (λ x. refl) (λ x h. h),
    (word_by (codes "write") slot_offset_octets_row (λ x. ops.Write x.0 x.1.0 x.1.1) (λ x. refl) (λ x h. (h.0, h.1.0, h.1.1)), each_number_word),
  ),
)

each_word : AllByRecursion IsOpWord op_words
each_word = (
  word_by (codes "mkdir") path_row ops.Mkdir (λ x. refl) (λ x h. h),
  (
    word_by (codes "rmdir") path_row ops.Rmdir (λ x. refl) (λ x h. h),
    (
      word_by (codes "unlink") path_row ops.Unlink (λ x. refl) (λ x h. h),
      (
        word_by (codes "rename") pair_row renames (λ x. refl) (λ x h. h),
        (
          word_by (codes "list") path_row ops.List (λ x. refl) (λ x h. h),
          (word_by (codes "stat") path_row ops.Stat (λ x. refl) (λ x h. h), each_file_word),
        ),
      ),
    ),
  ),
)

word_is : (text word : List ℕ) → bytes_eq text word ≡ true → text ≡ word
word_is text word e = (bytes_eq-Decides text word).0 e

behind_found : (rows : List OpWord) → AllByRecursion IsOpWord rows → (word : List ℕ) (fields : List (List ℕ)) (op : Op) → op_behind rows word fields ≡ Some op → Spell (word ∷ fields) op
behind_found [] each word fields op e = absurd (none-some op e)
behind_found (row ∷ rows) each word fields op e =
    elim (chosen (bytes_eq word row.word) (row.read fields) (op_behind rows word fields) (Some op) e) [
      | inl p ↦ subst (λ (w : List ℕ). Spell (w ∷ fields) op) (sym (word_is word row.word p.0)) (each.0.found fields op p.1)
      | inr q ↦ behind_found rows each.1 word fields op q.1
    ]

fields_found : (fields : List (List ℕ)) (op : Op) → op_of fields ≡ Some op → Spell fields op
fields_found [] op e = absurd (none-some op e)
fields_found (word ∷ fields) op e = behind_found op_words each_word word fields op e

-- ---- what is spelled so is read

-- An operation's word and fields hold neither a blank nor a line end, and are read as the operation.
record IsRead (op : Op) : Type 0 where
  word : List ℕ
  fields : List (List ℕ)
  are : op_fields op ≡ word ∷ fields
  inside : AreInside (word ∷ fields)
  again : op_of (word ∷ fields) ≡ Some op

read_by : {A : Type 0} {read : List (List ℕ) → Option A} {spell : A → List (List ℕ)} {Fits : A → Type 0} (word : List ℕ) → IsRow read spell Fits → (make : A → Op) (x : A) → Fits x → list_all is_inside word ≡ true → op_fields (make x) ≡ word ∷ spell x
    → op_of (word ∷ spell x) ≡ option_map make (read (spell x)) → IsRead (make x)
read_by {A} {read} {spell} {Fits} word row make x h clean are behind = record {
  word = word;
  fields = spell x;
  are = are;
  inside = (clean, row.inside x h);
  again = behind ∙ ap (option_map make) (row.again x h);
}

each_read : (op : Op) → IsOp op → IsRead op
each_read (ops.Mkdir p) h = read_by (codes "mkdir") path_row ops.Mkdir p h refl refl refl
each_read (ops.Rmdir p) h = read_by (codes "rmdir") path_row ops.Rmdir p h refl refl refl
each_read (ops.Unlink p) h = read_by (codes "unlink") path_row ops.Unlink p h refl refl refl
each_read (ops.Rename paths) h = read_by (codes "rename") pair_row renames (paths.old, paths.new) h refl refl refl
each_read (ops.List p) h = read_by (codes "list") path_row ops.List p h refl refl refl
each_read (ops.Stat p) h = read_by (codes "stat") path_row ops.Stat p h refl refl refl
each_read (ops.Open slot p) h = read_by (codes "open") slot_path_row (λ x. ops.Open x.0 x.1) (slot, p) h refl refl refl
each_read (ops.Create slot p) h = read_by (codes "create") slot_path_row (λ x. ops.Create x.0 x.1) (slot, p) h refl refl refl
each_read (ops.Read slot offset len) h = read_by (codes "read") slot_offset_length_row (λ x. ops.Read x.0 x.1.0 x.1.1) (slot, (offset, len)) (h.0, (h.1, h.2)) refl refl refl
each_read (ops.Write slot offset octets) h = read_by (codes "write") slot_offset_octets_row (λ x. ops.Write x.0 x.1.0 x.1.1) (slot, (offset, octets)) (h.0, (h.1, h.2)) refl refl refl
each_read (ops.Truncate slot size) h = read_by (codes "truncate") slot_size_row (λ x. ops.Truncate x.0 x.1) (slot, size) h refl refl refl
each_read (ops.Size slot) h = read_by (codes "size") slot_row ops.Size slot h refl refl refl
each_read (ops.Sync slot) h = read_by (codes "sync") slot_row ops.Sync slot h refl refl refl
each_read (ops.Close slot) h = read_by (codes "close") slot_row ops.Close slot h refl refl refl

inside_other : (c : ℕ) → is_inside c ≡ true → (is_other 32 c ≡ true) × (is_other 10 c ≡ true)
inside_other c e = and_parts (is_other 32 c) (is_other 10 c) e

no_blanks : (fields : List (List ℕ)) → AreInside fields → AreWithout 32 fields
no_blanks [] h = tt
no_blanks (field ∷ fields) h = (weaker is_inside (is_other 32) (λ c e. (inside_other c e).0) field h.0, no_blanks fields h.1)

no_ends : (fields : List (List ℕ)) → AreInside fields → list_all (is_other 10) (join_with_byte 32 fields) ≡ true
no_ends [] h = refl
no_ends (field ∷ []) h = weaker is_inside (is_other 10) (λ c e. (inside_other c e).1) field h.0
no_ends (field ∷ next ∷ fields) h = both (is_other 10) field (32 ∷ join_with_byte 32 (next ∷ fields)) (weaker is_inside (is_other 10) (λ c e. (inside_other c e).1) field h.0) (no_ends (next ∷ fields) h.1)

-- an operation is read exactly
pub op_reader : IsReader op_in op_text IsOp
unfolding op_in
op_reader = record { found = found; again = again }
  where
    found : (text : List ℕ) (op : Op) → op_in text ≡ Some op → (text ≡ op_text op) × IsOp op
    found text op e =
        let f = fields_found (fields_in text) op e in
        (sym (join_with_byte-slice_split 32 text) ∙ ap (join_with_byte 32) f.0, f.1)

    again : (op : Op) → IsOp op → op_in (op_text op) ≡ Some op
    again op h =
        let r = each_read op h in
        ap (λ (ts : List (List ℕ)). op_of (fields_in (join_with_byte 32 ts))) r.are ∙ ap op_of (split_join 32 r.word r.fields (no_blanks (r.word ∷ r.fields) r.inside)) ∙ r.again

-- a line has no line end in it
pub op_no_end : (op : Op) → IsOp op → list_all (is_other 10) (op_text op) ≡ true
op_no_end op h =
    let r = each_read op h in
    ap (λ (ts : List (List ℕ)). list_all (is_other 10) (join_with_byte 32 ts)) r.are ∙ no_ends (r.word ∷ r.fields) r.inside

-- ---- what is answered of a line

pub is_op_text : (line : List ℕ) (op : Op) → op_in line ≡ Some op → IsOpText op line
is_op_text line op e = let f = op_reader.found line op e in record { lawful = f.1; text_is = f.0 }

pub no_op_text : (line : List ℕ) (op : Op) → op_in line ≡ None → IsOpText op line → ⊥
no_op_text line op e t = none-some op (sym e ∙ ap op_in t.text_is ∙ op_reader.again op t.lawful)

-- what is read of the first field and those behind it
pub read_of : (line word : List ℕ) (fields : List (List ℕ)) → word ∷ fields ≡ fields_in line → op_in line ≡ op_behind op_words word fields
unfolding op_in
read_of line word fields e = ap op_of (sym e)
