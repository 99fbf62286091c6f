-- The line of a node in a show text, field by field.
use Rattle.std.proofs.Common.{◌≡◌, List, [], ◌∷◌, ◌++◌, ℕ, append_assoc}
use Rattle.line_writer.specs.Fields.{spaced}
use Rattle.line_writer.proofs.FieldLemmas.{join_with_byte-cons}
use Rattle.text_model.specs.Line.{number, path}
use Rattle.show_model.specs.declared.item.ShowItem.{ShowItem}
use Rattle.show_model.specs.ShowText.{kind_letter, path_to, what_fields, item_line}

-- pieces of which some begin with s
pieces : (out a s b c d e : List ℕ) → out ++ ((a ++ ((s ++ b) ++ ((s ++ c) ++ d))) ++ e) ≡ out ++ a ++ (s ++ b) ++ s ++ c ++ d ++ e
pieces out a s b c d e = simp append_assoc

-- the parts of the line, written one behind another
pub item_line-parts : (out : List ℕ) (item : ShowItem) →
    out ++ item_line item
    ≡ out ++ kind_letter item.what ++ 32 ∷ number item.node ++ 32 ∷ [] ++ path (path_to item.path item.what) ++ spaced (what_fields item.what) ++ 10 ∷ []
item_line-parts out item =
    rw (join_with_byte-cons (kind_letter item.what) (number item.node ∷ path (path_to item.path item.what) ∷ what_fields item.what))
    (pieces out (kind_letter item.what) (32 ∷ []) (number item.node) (path (path_to item.path item.what)) (spaced (what_fields item.what)) (10 ∷ []))
