-- Worked lines of scripts.
use Rattle.std.proofs.Common.{◌≡◌, List, [], ◌∷◌, refl}
use Rattle.std.specs.Prelude.{codes}
use Rattle.std.specs.Fmt.{digits}
use Rattle.hex.specs.Hex.{encode_with}
use Rattle.script_model.specs.declared.op.Op.{Op}
use Rattle.script_model.specs.declared.op.Op.TheVariants as ops
use Rattle.script_model.specs.ScriptText.{script_text}

abbrev on_tree : List Op
on_tree =
    ops.Mkdir (codes "a" ∷ []) ∷ ops.Rename (record { old = codes "a" ∷ []; new = codes "b" ∷ codes "c d" ∷ [] }) ∷ ops.Unlink (codes "f" ∷ [])
    ∷ ops.Rmdir (codes "a" ∷ []) ∷ ops.Stat [] ∷ ops.List [] ∷ []

on_tree_lines : script_text on_tree ≡ codes "script 6\nmkdir /a\nrename /a /b/c%20d\nunlink /f\nrmdir /a\nstat /\nlist /\n"
unfolding digits encode_with
on_tree_lines = refl

abbrev on_files : List Op
on_files =
    ops.Create 0 (codes "f" ∷ []) ∷ ops.Open 15 (codes "f" ∷ []) ∷ ops.Write 0 7 (0 ∷ 255 ∷ []) ∷ ops.Read 15 0 65536
    ∷ ops.Truncate 0 1099511627775 ∷ ops.Size 0 ∷ ops.Sync 0 ∷ ops.Close 15 ∷ []

on_files_lines : script_text on_files ≡ codes "script 8\ncreate 0 /f\nopen 15 /f\nwrite 0 7 00ff\nread 15 0 65536\ntruncate 0 1099511627775\nsize 0\nsync 0\nclose 15\n"
unfolding digits encode_with
on_files_lines = refl
