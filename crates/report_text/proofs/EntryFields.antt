-- The lines of entries, field by field.
use Rattle.std.proofs.Common.{◌≡◌, List, [], ◌∷◌, ◌++◌, ℕ, refl, append_assoc}
use Rattle.std.specs.Prelude.{codes}
use Rattle.std.specs.List.{join_with_byte}
use Rattle.tree_model.specs.declared.call.TreeCall.{TreeCall}
use Rattle.tree_model.specs.declared.call.TreeCall.TheVariants as calls
use Rattle.tree_model.specs.declared.call.TreeReply.{TreeReply}
use Rattle.tree_model.specs.declared.call.TreeReply.TheVariants as replies
use Rattle.session_model.specs.declared.entry.FileEntry.{FileEntry}
use Rattle.session_model.specs.declared.entry.TreeEntry.{TreeEntry}
use Rattle.session_model.specs.declared.file.FileCall.{FileCall}
use Rattle.session_model.specs.declared.file.FileCall.TheVariants as on_file
use Rattle.session_model.specs.declared.file.FileReply.{FileReply}
use Rattle.session_model.specs.declared.file.FileReply.TheVariants as files
use Rattle.text_model.specs.Line.{number}
use Rattle.served_model.specs.ReportText.{tree_call, tree_reply, entry_line, file_call, file_reply, file_entry_line}

-- a sign and the reply behind it
behind_sign : (reply : TreeReply) → join_with_byte 32 (codes "=" ∷ tree_reply reply) ≡ codes "= " ++ join_with_byte 32 (tree_reply reply)
behind_sign (replies.Node node) = refl
behind_sign replies.Done = refl
behind_sign (replies.Names names) = refl
behind_sign (replies.Info kind node) = refl
behind_sign (replies.Refused refusal) = refl
behind_sign replies.LowerFault = refl
behind_sign replies.Memory = refl

-- a call between the field before it and those behind it
around_call : (field next : List ℕ) (others : List (List ℕ)) (call : TreeCall) →
    join_with_byte 32 (field ∷ (tree_call call ++ next ∷ others)) ≡ field ++ 32 ∷ (join_with_byte 32 (tree_call call) ++ 32 ∷ join_with_byte 32 (next ∷ others))
around_call field next others (calls.Resolve p) = refl
around_call field next others (calls.Create p) = refl
around_call field next others (calls.Mkdir p) = refl
around_call field next others (calls.Rmdir p) = refl
around_call field next others (calls.Unlink p) = refl
around_call field next others (calls.Rename paths) = simp append_assoc
around_call field next others (calls.List p) = refl
around_call field next others (calls.Stat p) = refl

-- the parts of an entry's line, written one behind another
pub entry_line-parts : (out : List ℕ) (e : TreeEntry) →
    out ++ entry_line e
    ≡ out ++ number e.session ++ 32 ∷ [] ++ number e.op ++ 32 ∷ [] ++ number e.before ++ 32 ∷ [] ++ number e.after ++ 32 ∷ []
    ++ join_with_byte 32 (tree_call e.call) ++ codes " = " ++ join_with_byte 32 (tree_reply e.reply) ++ 10 ∷ []
entry_line-parts out e = rw (around_call (number e.after) (codes "=") (tree_reply e.reply) e.call, behind_sign e.reply) (simp append_assoc)

-- ---- and those of a file

behind_file_sign : (reply : FileReply) → join_with_byte 32 (codes "=" ∷ file_reply reply) ≡ codes "= " ++ join_with_byte 32 (file_reply reply)
behind_file_sign files.Done = refl
behind_file_sign (files.Octets octets) = refl
behind_file_sign (files.Length size) = refl
behind_file_sign (files.Refused cause) = refl
behind_file_sign files.NotOpen = refl
behind_file_sign files.TooBig = refl
behind_file_sign files.LowerFault = refl
behind_file_sign files.Memory = refl

around_file_call : (field next : List ℕ) (others : List (List ℕ)) (call : FileCall) →
    join_with_byte 32 (field ∷ (file_call call ++ next ∷ others)) ≡ field ++ 32 ∷ (join_with_byte 32 (file_call call) ++ 32 ∷ join_with_byte 32 (next ∷ others))
around_file_call field next others (on_file.Attach slot) = refl
around_file_call field next others (on_file.Read slot at len) = simp append_assoc
around_file_call field next others (on_file.Write slot at octets) = simp append_assoc
around_file_call field next others (on_file.Truncate slot size) = simp append_assoc
around_file_call field next others (on_file.Size slot) = refl
around_file_call field next others (on_file.Sync slot) = refl
around_file_call field next others (on_file.Detach slot) = refl

pub file_entry_line-parts : (out : List ℕ) (e : FileEntry) →
    out ++ file_entry_line e
    ≡ out ++ number e.session ++ 32 ∷ [] ++ number e.op ++ 32 ∷ [] ++ number e.before ++ 32 ∷ [] ++ number e.after ++ 32 ∷ []
    ++ join_with_byte 32 (file_call e.call) ++ codes " = " ++ join_with_byte 32 (file_reply e.reply) ++ 10 ∷ []
file_entry_line-parts out e = rw (around_file_call (number e.after) (codes "=") (file_reply e.reply) e.call, behind_file_sign e.reply) (simp append_assoc)
