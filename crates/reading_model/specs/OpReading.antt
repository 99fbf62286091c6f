-- Reading a line of a script: its word, and the fields behind it.
use Rattle.std.specs.Prelude.{ℕ, ◌≡◌, List, [], ◌∷◌, length, codes, Option, Some, None, Bool, nat_lt, nat_le, ◌==◌, ◌&&◌, if◌then◌else◌}
use Rattle.std.specs.List.{slice_split}
use Rattle.std.specs.Option.{option_map}
use Rattle.std.specs.Str.{bytes_eq}
use Rattle.reading_model.specs.Fields.{number_in, hex_in, path_in, ◌>>=◌}
use Rattle.script_model.specs.declared.limits.TheConstants.{SLOTS, OFFSET_LIMIT, LONGEST_TRANSFER}
use Rattle.script_model.specs.declared.op.Op.{Op}
use Rattle.script_model.specs.declared.op.Op.TheVariants as ops
use Rattle.script_model.specs.Script.{IsOp}
use Rattle.script_model.specs.ScriptText.{op_text}

-- A text is the line of an operation.
pub record IsOpText (op : Op) (text : List ℕ) : Type 0 where
  pub lawful : IsOp op
  pub text_is : text ≡ op_text op

-- ---- a field

-- a number that passes a test
abbrev pub number_where : (ℕ → Bool) → List ℕ → Option ℕ
number_where test text = number_in text >>= λ n. if test n then Some n else None

abbrev pub slot_in : List ℕ → Option ℕ
slot_in text = number_where (λ n. nat_lt n SLOTS) text

-- an offset or a size
abbrev pub offset_in : List ℕ → Option ℕ
offset_in text = number_where (λ n. nat_lt n OFFSET_LIMIT) text

abbrev pub is_transfer : ℕ → Bool
is_transfer len = nat_le 1 len && nat_le len LONGEST_TRANSFER

-- how many octets are read
abbrev pub transfer_in : List ℕ → Option ℕ
transfer_in text = number_where is_transfer text

-- the octets that are written
abbrev pub written_in : List ℕ → Option (List ℕ)
written_in text = hex_in text >>= λ octets. if is_transfer (length octets) then Some octets else None

-- ---- the fields of a line

-- the fields of a text, with a blank between two
abbrev pub fields_in : List ℕ → List (List ℕ)
fields_in text = slice_split (λ c. c == 32) text

-- the fields behind a blank, where one stands
abbrev pub fields_behind : Option (List ℕ) → List (List ℕ)
fields_behind (Some text) = fields_in text
fields_behind None = []

-- the field that stands alone
abbrev pub only_field : List (List ℕ) → Option (List ℕ)
only_field [] = None
only_field (field ∷ []) = Some field
only_field (field ∷ next ∷ fields) = None

-- what one field spells
abbrev pub alone : {A : Type 0} → (List ℕ → Option A) → List (List ℕ) → Option A
alone read fields = only_field fields >>= read

-- what the first field spells, and the fields behind it
abbrev pub before : {A B : Type 0} → (List ℕ → Option A) → (List (List ℕ) → Option B) → List (List ℕ) → Option (A × B)
before read others [] = None
before read others (field ∷ fields) = read field >>= λ first. others fields >>= λ second. Some (first, second)

abbrev pub path_alone : List (List ℕ) → Option (List (List ℕ))
path_alone fields = alone path_in fields

abbrev pub path_pair : List (List ℕ) → Option (List (List ℕ) × List (List ℕ))
path_pair fields = before path_in path_alone fields

abbrev pub slot_alone : List (List ℕ) → Option ℕ
slot_alone fields = alone slot_in fields

abbrev pub slot_path : List (List ℕ) → Option (ℕ × List (List ℕ))
slot_path fields = before slot_in path_alone fields

abbrev pub slot_size : List (List ℕ) → Option (ℕ × ℕ)
slot_size fields = before slot_in (alone offset_in) fields

abbrev pub offset_length : List (List ℕ) → Option (ℕ × ℕ)
offset_length fields = before offset_in (alone transfer_in) fields

abbrev pub slot_offset_length : List (List ℕ) → Option (ℕ × (ℕ × ℕ))
slot_offset_length fields = before slot_in offset_length fields

abbrev pub offset_octets : List (List ℕ) → Option (ℕ × List ℕ)
offset_octets fields = before offset_in (alone written_in) fields

abbrev pub slot_offset_octets : List (List ℕ) → Option (ℕ × (ℕ × List ℕ))
slot_offset_octets fields = before slot_in offset_octets fields

-- ---- the words

-- An operation's word, and how the fields behind it are read.
pub record OpWord : Type 0 where
  pub word : List ℕ
  pub read : List (List ℕ) → Option Op

-- a word, what its fields spell, and the operation that is made of it
abbrev pub op_word : {A : Type 0} → List ℕ → (List (List ℕ) → Option A) → (A → Op) → OpWord
op_word word read make = record { word = word; read = λ fields. option_map make (read fields) }

-- the words that numbers follow
abbrev pub number_words : List OpWord
number_words =
    op_word (codes "read") slot_offset_length (λ x. ops.Read x.0 x.1.0 x.1.1) ∷ op_word (codes "truncate") slot_size (λ x. ops.Truncate x.0 x.1)
    ∷ op_word (codes "size") slot_alone ops.Size ∷ op_word (codes "sync") slot_alone ops.Sync ∷ op_word (codes "close") slot_alone ops.Close ∷ []

-- the words of files
abbrev pub file_words : List OpWord
file_words =
    op_word (codes "open") slot_path (λ x. ops.Open x.0 x.1) ∷ op_word (codes "create") slot_path (λ x. ops.Create x.0 x.1)
    ∷ op_word (codes "write") slot_offset_octets (λ x. ops.Write x.0 x.1.0 x.1.1) ∷ number_words

-- a rename from one path to another
abbrev pub renames : List (List ℕ) × List (List ℕ) → Op
renames paths = ops.Rename (record { old = paths.0; new = paths.1 })

-- all words, those of the tree first
abbrev pub op_words : List OpWord
op_words =
    op_word (codes "mkdir") path_alone ops.Mkdir ∷ op_word (codes "rmdir") path_alone ops.Rmdir ∷ op_word (codes "unlink") path_alone ops.Unlink
    ∷ op_word (codes "rename") path_pair renames ∷ op_word (codes "list") path_alone ops.List ∷ op_word (codes "stat") path_alone ops.Stat ∷ file_words

-- fields that are read as those of this word
abbrev pub op_behind : List OpWord → List ℕ → List (List ℕ) → Option Op
op_behind [] word fields = None
op_behind (first ∷ others) word fields = if bytes_eq word first.word then first.read fields else op_behind others word fields

abbrev pub op_of : List (List ℕ) → Option Op
op_of [] = None
op_of (word ∷ fields) = op_behind op_words word fields

unfoldable pub op_in : List ℕ → Option Op
op_in text = op_of (fields_in text)
