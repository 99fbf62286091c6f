-- The one spelling of a script.
use Rattle.std.specs.Prelude.{ℕ, List, [], ◌∷◌, ◌++◌, length, codes}
use Rattle.std.specs.List.{flat_map, join_with_byte}
use Rattle.text_model.specs.Line.{line, number, hex, path}
use Rattle.script_model.specs.declared.op.Op.{Op}
use Rattle.script_model.specs.declared.op.Op.TheVariants as ops

-- an operation's word and its fields
abbrev pub op_fields : Op → List (List ℕ)
op_fields (ops.Mkdir p) = codes "mkdir" ∷ path p ∷ []
op_fields (ops.Rmdir p) = codes "rmdir" ∷ path p ∷ []
op_fields (ops.Unlink p) = codes "unlink" ∷ path p ∷ []
op_fields (ops.Rename paths) = codes "rename" ∷ path paths.old ∷ path paths.new ∷ []
op_fields (ops.List p) = codes "list" ∷ path p ∷ []
op_fields (ops.Stat p) = codes "stat" ∷ path p ∷ []
op_fields (ops.Open slot p) = codes "open" ∷ number slot ∷ path p ∷ []
op_fields (ops.Create slot p) = codes "create" ∷ number slot ∷ path p ∷ []
op_fields (ops.Read slot offset len) = codes "read" ∷ number slot ∷ number offset ∷ number len ∷ []
op_fields (ops.Write slot offset octets) = codes "write" ∷ number slot ∷ number offset ∷ hex octets ∷ []
op_fields (ops.Truncate slot size) = codes "truncate" ∷ number slot ∷ number size ∷ []
op_fields (ops.Size slot) = codes "size" ∷ number slot ∷ []
op_fields (ops.Sync slot) = codes "sync" ∷ number slot ∷ []
op_fields (ops.Close slot) = codes "close" ∷ number slot ∷ []

-- an operation's line, and the same without its line end
abbrev pub op_line : Op → List ℕ
op_line op = line (op_fields op)

abbrev pub op_text : Op → List ℕ
op_text op = join_with_byte 32 (op_fields op)

abbrev pub script_text : List Op → List ℕ
script_text ops = line (codes "script" ∷ number (length ops) ∷ []) ++ flat_map op_line ops
