-- Worked sessions: reports that are right, and the same with one thing changed.
use Rattle.std.proofs.Common.{List, [], ◌∷◌, inl, inr, refl, codes, arith}
use Rattle.lower_model.specs.declared.kind.Kind.TheVariants as kinds
use Rattle.packet_model.specs.declared.cause.BadCause.TheVariants as causes
use Rattle.tree_model.specs.declared.call.TreeCall.TheVariants as on_tree
use Rattle.tree_model.specs.declared.call.TreeReply.TheVariants as tree_replies
use Rattle.tree_model.specs.declared.call.TreeRefusal.TheVariants as refusals
use Rattle.session_model.specs.declared.file.FileCall.TheVariants as on_file
use Rattle.session_model.specs.declared.file.FileReply.TheVariants as file_replies
use Rattle.script_model.specs.declared.op.Op.{Op}
use Rattle.script_model.specs.declared.op.Op.TheVariants as ops
use Rattle.session_model.specs.declared.reply.Reply.{Reply}
use Rattle.session_model.specs.declared.reply.Reply.TheVariants as replies
use Rattle.session_model.specs.declared.entry.TreeEntry.{TreeEntry}
use Rattle.session_model.specs.declared.entry.FileEntry.{FileEntry}
use Rattle.session_model.specs.Session.{fresh}
use Rattle.session_model.specs.Runs.{Runs}
use Rattle.session_model.proofs.Check.{Checks, checks, runs}

abbrev first_script : List Op
first_script = ((ops.Mkdir (codes "d" ∷ [])) ∷ (ops.Create 0 (codes "f" ∷ [])) ∷ (ops.Open 0 (codes "f" ∷ [])) ∷ (ops.Write 0 0 (97 ∷ 98 ∷ 99 ∷ [])) ∷ (ops.List []) ∷ (ops.Size 0) ∷ (ops.Close 1) ∷ [])

abbrev first_tree : List TreeEntry
first_tree = (record { session = 0; op = 0; call = (on_tree.Mkdir (codes "d" ∷ [])); reply = tree_replies.Done; before = 0; after = 0 } ∷ record { session = 0; op = 1; call = (on_tree.Create (codes "f" ∷ [])); reply = (tree_replies.Node 2); before = 0; after = 0 } ∷ record { session = 0; op = 4; call = (on_tree.List []); reply = (tree_replies.Names (record { kind = kinds.Dir; name = codes "d" } ∷ record { kind = kinds.File; name = codes "f" } ∷ [])); before = 0; after = 0 } ∷ [])

abbrev first_file : List FileEntry
first_file = (record { session = 0; op = 1; node = 2; call = (on_file.Attach 0); reply = file_replies.Done; before = 0; after = 0 } ∷ record { session = 0; op = 3; node = 2; call = (on_file.Write 0 0 (97 ∷ 98 ∷ 99 ∷ [])); reply = file_replies.Done; before = 0; after = 0 } ∷ record { session = 0; op = 5; node = 2; call = (on_file.Size 0); reply = (file_replies.Length 3); before = 0; after = 0 } ∷ record { session = 0; op = 7; node = 2; call = (on_file.Detach 0); reply = file_replies.Done; before = 0; after = 0 } ∷ [])

abbrev first_replies : List Reply
first_replies = ((replies.Tree tree_replies.Done) ∷ (replies.Opened 2) ∷ replies.Slot ∷ (replies.File file_replies.Done) ∷ (replies.Tree (tree_replies.Names (record { kind = kinds.Dir; name = codes "d" } ∷ record { kind = kinds.File; name = codes "f" } ∷ []))) ∷ (replies.File (file_replies.Length 3)) ∷ replies.Handle ∷ (replies.File file_replies.Done) ∷ [])

pub first : Runs (fresh 0 first_script) (record { tree = first_tree; file = first_file }) first_replies
first = runs 10 (fresh 0 first_script) first_tree first_file first_replies (inr (record { session = refl; op = refl; call_is = refl }, (refl, inr (record { session = refl; op = refl; call_is = refl }, inr (record { session = refl; op = refl; node_is = refl; call_is = refl }, (refl, (refl, inr (record { session = refl; op = refl; node_is = refl; call_is = refl }, (refl, inr (record { session = refl; op = refl; call_is = refl }, (refl, inr (record { session = refl; op = refl; node_is = refl; call_is = refl }, (refl, (refl, inr (record { session = refl; op = refl; node_is = refl; call_is = refl }, (refl, (tt, tt, tt)))))))))))))))))

pub first_without_the_last_file_entry : Runs (fresh 0 first_script) (record { tree = first_tree; file = (record { session = 0; op = 1; node = 2; call = (on_file.Attach 0); reply = file_replies.Done; before = 0; after = 0 } ∷ record { session = 0; op = 3; node = 2; call = (on_file.Write 0 0 (97 ∷ 98 ∷ 99 ∷ [])); reply = file_replies.Done; before = 0; after = 0 } ∷ record { session = 0; op = 5; node = 2; call = (on_file.Size 0); reply = (file_replies.Length 3); before = 0; after = 0 } ∷ []) }) first_replies → ⊥
first_without_the_last_file_entry h = let k : Checks (Unit {0}) 10 (fresh 0 first_script) first_tree (record { session = 0; op = 1; node = 2; call = (on_file.Attach 0); reply = file_replies.Done; before = 0; after = 0 } ∷ record { session = 0; op = 3; node = 2; call = (on_file.Write 0 0 (97 ∷ 98 ∷ 99 ∷ [])); reply = file_replies.Done; before = 0; after = 0 } ∷ record { session = 0; op = 5; node = 2; call = (on_file.Size 0); reply = (file_replies.Length 3); before = 0; after = 0 } ∷ []) first_replies = checks 10 (fresh 0 first_script) (record { tree = first_tree; file = (record { session = 0; op = 1; node = 2; call = (on_file.Attach 0); reply = file_replies.Done; before = 0; after = 0 } ∷ record { session = 0; op = 3; node = 2; call = (on_file.Write 0 0 (97 ∷ 98 ∷ 99 ∷ [])); reply = file_replies.Done; before = 0; after = 0 } ∷ record { session = 0; op = 5; node = 2; call = (on_file.Size 0); reply = (file_replies.Length 3); before = 0; after = 0 } ∷ []) }) first_replies h in grind arith

pub first_without_the_first_tree_entry : Runs (fresh 0 first_script) (record { tree = (record { session = 0; op = 1; call = (on_tree.Create (codes "f" ∷ [])); reply = (tree_replies.Node 2); before = 0; after = 0 } ∷ record { session = 0; op = 4; call = (on_tree.List []); reply = (tree_replies.Names (record { kind = kinds.Dir; name = codes "d" } ∷ record { kind = kinds.File; name = codes "f" } ∷ [])); before = 0; after = 0 } ∷ []); file = first_file }) first_replies → ⊥
first_without_the_first_tree_entry h = let k : Checks (Unit {0}) 10 (fresh 0 first_script) (record { session = 0; op = 1; call = (on_tree.Create (codes "f" ∷ [])); reply = (tree_replies.Node 2); before = 0; after = 0 } ∷ record { session = 0; op = 4; call = (on_tree.List []); reply = (tree_replies.Names (record { kind = kinds.Dir; name = codes "d" } ∷ record { kind = kinds.File; name = codes "f" } ∷ [])); before = 0; after = 0 } ∷ []) first_file first_replies = checks 10 (fresh 0 first_script) (record { tree = (record { session = 0; op = 1; call = (on_tree.Create (codes "f" ∷ [])); reply = (tree_replies.Node 2); before = 0; after = 0 } ∷ record { session = 0; op = 4; call = (on_tree.List []); reply = (tree_replies.Names (record { kind = kinds.Dir; name = codes "d" } ∷ record { kind = kinds.File; name = codes "f" } ∷ [])); before = 0; after = 0 } ∷ []); file = first_file }) first_replies h in grind arith

pub first_with_two_file_entries_exchanged : Runs (fresh 0 first_script) (record { tree = first_tree; file = (record { session = 0; op = 3; node = 2; call = (on_file.Write 0 0 (97 ∷ 98 ∷ 99 ∷ [])); reply = file_replies.Done; before = 0; after = 0 } ∷ record { session = 0; op = 1; node = 2; call = (on_file.Attach 0); reply = file_replies.Done; before = 0; after = 0 } ∷ record { session = 0; op = 5; node = 2; call = (on_file.Size 0); reply = (file_replies.Length 3); before = 0; after = 0 } ∷ record { session = 0; op = 7; node = 2; call = (on_file.Detach 0); reply = file_replies.Done; before = 0; after = 0 } ∷ []) }) first_replies → ⊥
first_with_two_file_entries_exchanged h = let k : Checks (Unit {0}) 10 (fresh 0 first_script) first_tree (record { session = 0; op = 3; node = 2; call = (on_file.Write 0 0 (97 ∷ 98 ∷ 99 ∷ [])); reply = file_replies.Done; before = 0; after = 0 } ∷ record { session = 0; op = 1; node = 2; call = (on_file.Attach 0); reply = file_replies.Done; before = 0; after = 0 } ∷ record { session = 0; op = 5; node = 2; call = (on_file.Size 0); reply = (file_replies.Length 3); before = 0; after = 0 } ∷ record { session = 0; op = 7; node = 2; call = (on_file.Detach 0); reply = file_replies.Done; before = 0; after = 0 } ∷ []) first_replies = checks 10 (fresh 0 first_script) (record { tree = first_tree; file = (record { session = 0; op = 3; node = 2; call = (on_file.Write 0 0 (97 ∷ 98 ∷ 99 ∷ [])); reply = file_replies.Done; before = 0; after = 0 } ∷ record { session = 0; op = 1; node = 2; call = (on_file.Attach 0); reply = file_replies.Done; before = 0; after = 0 } ∷ record { session = 0; op = 5; node = 2; call = (on_file.Size 0); reply = (file_replies.Length 3); before = 0; after = 0 } ∷ record { session = 0; op = 7; node = 2; call = (on_file.Detach 0); reply = file_replies.Done; before = 0; after = 0 } ∷ []) }) first_replies h in grind arith

pub first_with_two_tree_entries_exchanged : Runs (fresh 0 first_script) (record { tree = (record { session = 0; op = 1; call = (on_tree.Create (codes "f" ∷ [])); reply = (tree_replies.Node 2); before = 0; after = 0 } ∷ record { session = 0; op = 0; call = (on_tree.Mkdir (codes "d" ∷ [])); reply = tree_replies.Done; before = 0; after = 0 } ∷ record { session = 0; op = 4; call = (on_tree.List []); reply = (tree_replies.Names (record { kind = kinds.Dir; name = codes "d" } ∷ record { kind = kinds.File; name = codes "f" } ∷ [])); before = 0; after = 0 } ∷ []); file = first_file }) first_replies → ⊥
first_with_two_tree_entries_exchanged h = let k : Checks (Unit {0}) 10 (fresh 0 first_script) (record { session = 0; op = 1; call = (on_tree.Create (codes "f" ∷ [])); reply = (tree_replies.Node 2); before = 0; after = 0 } ∷ record { session = 0; op = 0; call = (on_tree.Mkdir (codes "d" ∷ [])); reply = tree_replies.Done; before = 0; after = 0 } ∷ record { session = 0; op = 4; call = (on_tree.List []); reply = (tree_replies.Names (record { kind = kinds.Dir; name = codes "d" } ∷ record { kind = kinds.File; name = codes "f" } ∷ [])); before = 0; after = 0 } ∷ []) first_file first_replies = checks 10 (fresh 0 first_script) (record { tree = (record { session = 0; op = 1; call = (on_tree.Create (codes "f" ∷ [])); reply = (tree_replies.Node 2); before = 0; after = 0 } ∷ record { session = 0; op = 0; call = (on_tree.Mkdir (codes "d" ∷ [])); reply = tree_replies.Done; before = 0; after = 0 } ∷ record { session = 0; op = 4; call = (on_tree.List []); reply = (tree_replies.Names (record { kind = kinds.Dir; name = codes "d" } ∷ record { kind = kinds.File; name = codes "f" } ∷ [])); before = 0; after = 0 } ∷ []); file = first_file }) first_replies h in grind arith

pub first_with_the_last_entry_in_the_next_operation : Runs (fresh 0 first_script) (record { tree = first_tree; file = (record { session = 0; op = 1; node = 2; call = (on_file.Attach 0); reply = file_replies.Done; before = 0; after = 0 } ∷ record { session = 0; op = 3; node = 2; call = (on_file.Write 0 0 (97 ∷ 98 ∷ 99 ∷ [])); reply = file_replies.Done; before = 0; after = 0 } ∷ record { session = 0; op = 5; node = 2; call = (on_file.Size 0); reply = (file_replies.Length 3); before = 0; after = 0 } ∷ record { session = 0; op = 8; node = 2; call = (on_file.Detach 0); reply = file_replies.Done; before = 0; after = 0 } ∷ []) }) first_replies → ⊥
first_with_the_last_entry_in_the_next_operation h = let k : Checks (Unit {0}) 10 (fresh 0 first_script) first_tree (record { session = 0; op = 1; node = 2; call = (on_file.Attach 0); reply = file_replies.Done; before = 0; after = 0 } ∷ record { session = 0; op = 3; node = 2; call = (on_file.Write 0 0 (97 ∷ 98 ∷ 99 ∷ [])); reply = file_replies.Done; before = 0; after = 0 } ∷ record { session = 0; op = 5; node = 2; call = (on_file.Size 0); reply = (file_replies.Length 3); before = 0; after = 0 } ∷ record { session = 0; op = 8; node = 2; call = (on_file.Detach 0); reply = file_replies.Done; before = 0; after = 0 } ∷ []) first_replies = checks 10 (fresh 0 first_script) (record { tree = first_tree; file = (record { session = 0; op = 1; node = 2; call = (on_file.Attach 0); reply = file_replies.Done; before = 0; after = 0 } ∷ record { session = 0; op = 3; node = 2; call = (on_file.Write 0 0 (97 ∷ 98 ∷ 99 ∷ [])); reply = file_replies.Done; before = 0; after = 0 } ∷ record { session = 0; op = 5; node = 2; call = (on_file.Size 0); reply = (file_replies.Length 3); before = 0; after = 0 } ∷ record { session = 0; op = 8; node = 2; call = (on_file.Detach 0); reply = file_replies.Done; before = 0; after = 0 } ∷ []) }) first_replies h in grind arith

pub first_with_the_last_entry_twice : Runs (fresh 0 first_script) (record { tree = first_tree; file = (record { session = 0; op = 1; node = 2; call = (on_file.Attach 0); reply = file_replies.Done; before = 0; after = 0 } ∷ record { session = 0; op = 3; node = 2; call = (on_file.Write 0 0 (97 ∷ 98 ∷ 99 ∷ [])); reply = file_replies.Done; before = 0; after = 0 } ∷ record { session = 0; op = 5; node = 2; call = (on_file.Size 0); reply = (file_replies.Length 3); before = 0; after = 0 } ∷ record { session = 0; op = 7; node = 2; call = (on_file.Detach 0); reply = file_replies.Done; before = 0; after = 0 } ∷ record { session = 0; op = 7; node = 2; call = (on_file.Detach 0); reply = file_replies.Done; before = 0; after = 0 } ∷ []) }) first_replies → ⊥
first_with_the_last_entry_twice h = let k : Checks (Unit {0}) 10 (fresh 0 first_script) first_tree (record { session = 0; op = 1; node = 2; call = (on_file.Attach 0); reply = file_replies.Done; before = 0; after = 0 } ∷ record { session = 0; op = 3; node = 2; call = (on_file.Write 0 0 (97 ∷ 98 ∷ 99 ∷ [])); reply = file_replies.Done; before = 0; after = 0 } ∷ record { session = 0; op = 5; node = 2; call = (on_file.Size 0); reply = (file_replies.Length 3); before = 0; after = 0 } ∷ record { session = 0; op = 7; node = 2; call = (on_file.Detach 0); reply = file_replies.Done; before = 0; after = 0 } ∷ record { session = 0; op = 7; node = 2; call = (on_file.Detach 0); reply = file_replies.Done; before = 0; after = 0 } ∷ []) first_replies = checks 10 (fresh 0 first_script) (record { tree = first_tree; file = (record { session = 0; op = 1; node = 2; call = (on_file.Attach 0); reply = file_replies.Done; before = 0; after = 0 } ∷ record { session = 0; op = 3; node = 2; call = (on_file.Write 0 0 (97 ∷ 98 ∷ 99 ∷ [])); reply = file_replies.Done; before = 0; after = 0 } ∷ record { session = 0; op = 5; node = 2; call = (on_file.Size 0); reply = (file_replies.Length 3); before = 0; after = 0 } ∷ record { session = 0; op = 7; node = 2; call = (on_file.Detach 0); reply = file_replies.Done; before = 0; after = 0 } ∷ record { session = 0; op = 7; node = 2; call = (on_file.Detach 0); reply = file_replies.Done; before = 0; after = 0 } ∷ []) }) first_replies h in grind arith

pub first_with_another_session : Runs (fresh 0 first_script) (record { tree = first_tree; file = (record { session = 0; op = 1; node = 2; call = (on_file.Attach 0); reply = file_replies.Done; before = 0; after = 0 } ∷ record { session = 0; op = 3; node = 2; call = (on_file.Write 0 0 (97 ∷ 98 ∷ 99 ∷ [])); reply = file_replies.Done; before = 0; after = 0 } ∷ record { session = 0; op = 5; node = 2; call = (on_file.Size 0); reply = (file_replies.Length 3); before = 0; after = 0 } ∷ record { session = 1; op = 7; node = 2; call = (on_file.Detach 0); reply = file_replies.Done; before = 0; after = 0 } ∷ []) }) first_replies → ⊥
first_with_another_session h = let k : Checks (Unit {0}) 10 (fresh 0 first_script) first_tree (record { session = 0; op = 1; node = 2; call = (on_file.Attach 0); reply = file_replies.Done; before = 0; after = 0 } ∷ record { session = 0; op = 3; node = 2; call = (on_file.Write 0 0 (97 ∷ 98 ∷ 99 ∷ [])); reply = file_replies.Done; before = 0; after = 0 } ∷ record { session = 0; op = 5; node = 2; call = (on_file.Size 0); reply = (file_replies.Length 3); before = 0; after = 0 } ∷ record { session = 1; op = 7; node = 2; call = (on_file.Detach 0); reply = file_replies.Done; before = 0; after = 0 } ∷ []) first_replies = checks 10 (fresh 0 first_script) (record { tree = first_tree; file = (record { session = 0; op = 1; node = 2; call = (on_file.Attach 0); reply = file_replies.Done; before = 0; after = 0 } ∷ record { session = 0; op = 3; node = 2; call = (on_file.Write 0 0 (97 ∷ 98 ∷ 99 ∷ [])); reply = file_replies.Done; before = 0; after = 0 } ∷ record { session = 0; op = 5; node = 2; call = (on_file.Size 0); reply = (file_replies.Length 3); before = 0; after = 0 } ∷ record { session = 1; op = 7; node = 2; call = (on_file.Detach 0); reply = file_replies.Done; before = 0; after = 0 } ∷ []) }) first_replies h in grind arith

pub first_answered_otherwise : Runs (fresh 0 first_script) (record { tree = first_tree; file = (record { session = 0; op = 1; node = 2; call = (on_file.Attach 0); reply = file_replies.TooBig; before = 0; after = 0 } ∷ record { session = 0; op = 3; node = 2; call = (on_file.Write 0 0 (97 ∷ 98 ∷ 99 ∷ [])); reply = file_replies.Done; before = 0; after = 0 } ∷ record { session = 0; op = 5; node = 2; call = (on_file.Size 0); reply = (file_replies.Length 3); before = 0; after = 0 } ∷ record { session = 0; op = 7; node = 2; call = (on_file.Detach 0); reply = file_replies.Done; before = 0; after = 0 } ∷ []) }) first_replies → ⊥
first_answered_otherwise h = let k : Checks (Unit {0}) 10 (fresh 0 first_script) first_tree (record { session = 0; op = 1; node = 2; call = (on_file.Attach 0); reply = file_replies.TooBig; before = 0; after = 0 } ∷ record { session = 0; op = 3; node = 2; call = (on_file.Write 0 0 (97 ∷ 98 ∷ 99 ∷ [])); reply = file_replies.Done; before = 0; after = 0 } ∷ record { session = 0; op = 5; node = 2; call = (on_file.Size 0); reply = (file_replies.Length 3); before = 0; after = 0 } ∷ record { session = 0; op = 7; node = 2; call = (on_file.Detach 0); reply = file_replies.Done; before = 0; after = 0 } ∷ []) first_replies = checks 10 (fresh 0 first_script) (record { tree = first_tree; file = (record { session = 0; op = 1; node = 2; call = (on_file.Attach 0); reply = file_replies.TooBig; before = 0; after = 0 } ∷ record { session = 0; op = 3; node = 2; call = (on_file.Write 0 0 (97 ∷ 98 ∷ 99 ∷ [])); reply = file_replies.Done; before = 0; after = 0 } ∷ record { session = 0; op = 5; node = 2; call = (on_file.Size 0); reply = (file_replies.Length 3); before = 0; after = 0 } ∷ record { session = 0; op = 7; node = 2; call = (on_file.Detach 0); reply = file_replies.Done; before = 0; after = 0 } ∷ []) }) first_replies h in grind arith

pub first_with_another_reply : Runs (fresh 0 first_script) (record { tree = first_tree; file = first_file }) ((replies.Tree tree_replies.Done) ∷ (replies.Opened 2) ∷ replies.Slot ∷ (replies.File file_replies.Done) ∷ (replies.Tree (tree_replies.Names (record { kind = kinds.Dir; name = codes "d" } ∷ record { kind = kinds.File; name = codes "f" } ∷ []))) ∷ (replies.File (file_replies.Length 3)) ∷ replies.Handle ∷ replies.Slot ∷ []) → ⊥
first_with_another_reply h = let k : Checks (Unit {0}) 10 (fresh 0 first_script) first_tree first_file ((replies.Tree tree_replies.Done) ∷ (replies.Opened 2) ∷ replies.Slot ∷ (replies.File file_replies.Done) ∷ (replies.Tree (tree_replies.Names (record { kind = kinds.Dir; name = codes "d" } ∷ record { kind = kinds.File; name = codes "f" } ∷ []))) ∷ (replies.File (file_replies.Length 3)) ∷ replies.Handle ∷ replies.Slot ∷ []) = checks 10 (fresh 0 first_script) (record { tree = first_tree; file = first_file }) ((replies.Tree tree_replies.Done) ∷ (replies.Opened 2) ∷ replies.Slot ∷ (replies.File file_replies.Done) ∷ (replies.Tree (tree_replies.Names (record { kind = kinds.Dir; name = codes "d" } ∷ record { kind = kinds.File; name = codes "f" } ∷ []))) ∷ (replies.File (file_replies.Length 3)) ∷ replies.Handle ∷ replies.Slot ∷ []) h in grind arith

pub first_with_a_reply_left_out : Runs (fresh 0 first_script) (record { tree = first_tree; file = first_file }) ((replies.Opened 2) ∷ replies.Slot ∷ (replies.File file_replies.Done) ∷ (replies.Tree (tree_replies.Names (record { kind = kinds.Dir; name = codes "d" } ∷ record { kind = kinds.File; name = codes "f" } ∷ []))) ∷ (replies.File (file_replies.Length 3)) ∷ replies.Handle ∷ (replies.File file_replies.Done) ∷ []) → ⊥
first_with_a_reply_left_out h = let k : Checks (Unit {0}) 10 (fresh 0 first_script) first_tree first_file ((replies.Opened 2) ∷ replies.Slot ∷ (replies.File file_replies.Done) ∷ (replies.Tree (tree_replies.Names (record { kind = kinds.Dir; name = codes "d" } ∷ record { kind = kinds.File; name = codes "f" } ∷ []))) ∷ (replies.File (file_replies.Length 3)) ∷ replies.Handle ∷ (replies.File file_replies.Done) ∷ []) = checks 10 (fresh 0 first_script) (record { tree = first_tree; file = first_file }) ((replies.Opened 2) ∷ replies.Slot ∷ (replies.File file_replies.Done) ∷ (replies.Tree (tree_replies.Names (record { kind = kinds.Dir; name = codes "d" } ∷ record { kind = kinds.File; name = codes "f" } ∷ []))) ∷ (replies.File (file_replies.Length 3)) ∷ replies.Handle ∷ (replies.File file_replies.Done) ∷ []) h in grind arith

abbrev every_script : List Op
every_script = ((ops.Mkdir (codes "d" ∷ [])) ∷ (ops.Rmdir (codes "d" ∷ [])) ∷ (ops.Create 3 (codes "f" ∷ [])) ∷ (ops.Write 3 1 (120 ∷ 121 ∷ [])) ∷ (ops.Read 3 0 9) ∷ (ops.Truncate 3 2) ∷ (ops.Size 3) ∷ (ops.Sync 3) ∷ (ops.Rename (record { old = codes "f" ∷ []; new = codes "g" ∷ [] })) ∷ (ops.Stat (codes "g" ∷ [])) ∷ (ops.List []) ∷ (ops.Open 4 (codes "g" ∷ [])) ∷ (ops.Close 3) ∷ (ops.Unlink (codes "g" ∷ [])) ∷ (ops.Unlink (codes "nope" ∷ [])) ∷ [])

abbrev every_tree : List TreeEntry
every_tree = (record { session = 0; op = 0; call = (on_tree.Mkdir (codes "d" ∷ [])); reply = tree_replies.Done; before = 0; after = 0 } ∷ record { session = 0; op = 1; call = (on_tree.Rmdir (codes "d" ∷ [])); reply = tree_replies.Done; before = 0; after = 0 } ∷ record { session = 0; op = 2; call = (on_tree.Create (codes "f" ∷ [])); reply = (tree_replies.Node 2); before = 0; after = 0 } ∷ record { session = 0; op = 8; call = (on_tree.Rename (record { old = codes "f" ∷ []; new = codes "g" ∷ [] })); reply = tree_replies.Done; before = 0; after = 0 } ∷ record { session = 0; op = 9; call = (on_tree.Stat (codes "g" ∷ [])); reply = (tree_replies.Info kinds.File 2); before = 0; after = 0 } ∷ record { session = 0; op = 10; call = (on_tree.List []); reply = (tree_replies.Names (record { kind = kinds.File; name = codes "g" } ∷ [])); before = 0; after = 0 } ∷ record { session = 0; op = 11; call = (on_tree.Resolve (codes "g" ∷ [])); reply = (tree_replies.Node 2); before = 0; after = 0 } ∷ record { session = 0; op = 13; call = (on_tree.Unlink (codes "g" ∷ [])); reply = tree_replies.Done; before = 0; after = 0 } ∷ record { session = 0; op = 14; call = (on_tree.Unlink (codes "nope" ∷ [])); reply = (tree_replies.Refused refusals.NotFound); before = 0; after = 0 } ∷ [])

abbrev every_file : List FileEntry
every_file = (record { session = 0; op = 2; node = 2; call = (on_file.Attach 3); reply = file_replies.Done; before = 0; after = 0 } ∷ record { session = 0; op = 3; node = 2; call = (on_file.Write 3 1 (120 ∷ 121 ∷ [])); reply = file_replies.Done; before = 0; after = 0 } ∷ record { session = 0; op = 4; node = 2; call = (on_file.Read 3 0 9); reply = (file_replies.Octets (0 ∷ 120 ∷ 121 ∷ [])); before = 0; after = 0 } ∷ record { session = 0; op = 5; node = 2; call = (on_file.Truncate 3 2); reply = file_replies.Done; before = 0; after = 0 } ∷ record { session = 0; op = 6; node = 2; call = (on_file.Size 3); reply = (file_replies.Length 2); before = 0; after = 0 } ∷ record { session = 0; op = 7; node = 2; call = (on_file.Sync 3); reply = file_replies.Done; before = 0; after = 0 } ∷ record { session = 0; op = 11; node = 2; call = (on_file.Attach 4); reply = file_replies.Done; before = 0; after = 0 } ∷ record { session = 0; op = 12; node = 2; call = (on_file.Detach 3); reply = file_replies.Done; before = 0; after = 0 } ∷ record { session = 0; op = 15; node = 2; call = (on_file.Detach 4); reply = file_replies.Done; before = 0; after = 0 } ∷ [])

abbrev every_replies : List Reply
every_replies = ((replies.Tree tree_replies.Done) ∷ (replies.Tree tree_replies.Done) ∷ (replies.Opened 2) ∷ (replies.File file_replies.Done) ∷ (replies.File (file_replies.Octets (0 ∷ 120 ∷ 121 ∷ []))) ∷ (replies.File file_replies.Done) ∷ (replies.File (file_replies.Length 2)) ∷ (replies.File file_replies.Done) ∷ (replies.Tree tree_replies.Done) ∷ (replies.Tree (tree_replies.Info kinds.File 2)) ∷ (replies.Tree (tree_replies.Names (record { kind = kinds.File; name = codes "g" } ∷ []))) ∷ (replies.Opened 2) ∷ (replies.File file_replies.Done) ∷ (replies.Tree tree_replies.Done) ∷ (replies.Tree (tree_replies.Refused refusals.NotFound)) ∷ (replies.File file_replies.Done) ∷ [])

pub every : Runs (fresh 0 every_script) (record { tree = every_tree; file = every_file }) every_replies
every = runs 19 (fresh 0 every_script) every_tree every_file every_replies (inr (record { session = refl; op = refl; call_is = refl }, (refl, inr (record { session = refl; op = refl; call_is = refl }, (refl, inr (record { session = refl; op = refl; call_is = refl }, inr (record { session = refl; op = refl; node_is = refl; call_is = refl }, (refl, inr (record { session = refl; op = refl; node_is = refl; call_is = refl }, (refl, inr (record { session = refl; op = refl; node_is = refl; call_is = refl }, (refl, inr (record { session = refl; op = refl; node_is = refl; call_is = refl }, (refl, inr (record { session = refl; op = refl; node_is = refl; call_is = refl }, (refl, inr (record { session = refl; op = refl; node_is = refl; call_is = refl }, (refl, inr (record { session = refl; op = refl; call_is = refl }, (refl, inr (record { session = refl; op = refl; call_is = refl }, (refl, inr (record { session = refl; op = refl; call_is = refl }, (refl, inr (record { session = refl; op = refl; call_is = refl }, inr (record { session = refl; op = refl; node_is = refl; call_is = refl }, (refl, inr (record { session = refl; op = refl; node_is = refl; call_is = refl }, (refl, inr (record { session = refl; op = refl; call_is = refl }, (refl, inr (record { session = refl; op = refl; call_is = refl }, (refl, inr (record { session = refl; op = refl; node_is = refl; call_is = refl }, (refl, (tt, tt, tt))))))))))))))))))))))))))))))))))))

pub every_without_the_last_file_entry : Runs (fresh 0 every_script) (record { tree = every_tree; file = (record { session = 0; op = 2; node = 2; call = (on_file.Attach 3); reply = file_replies.Done; before = 0; after = 0 } ∷ record { session = 0; op = 3; node = 2; call = (on_file.Write 3 1 (120 ∷ 121 ∷ [])); reply = file_replies.Done; before = 0; after = 0 } ∷ record { session = 0; op = 4; node = 2; call = (on_file.Read 3 0 9); reply = (file_replies.Octets (0 ∷ 120 ∷ 121 ∷ [])); before = 0; after = 0 } ∷ record { session = 0; op = 5; node = 2; call = (on_file.Truncate 3 2); reply = file_replies.Done; before = 0; after = 0 } ∷ record { session = 0; op = 6; node = 2; call = (on_file.Size 3); reply = (file_replies.Length 2); before = 0; after = 0 } ∷ record { session = 0; op = 7; node = 2; call = (on_file.Sync 3); reply = file_replies.Done; before = 0; after = 0 } ∷ record { session = 0; op = 11; node = 2; call = (on_file.Attach 4); reply = file_replies.Done; before = 0; after = 0 } ∷ record { session = 0; op = 12; node = 2; call = (on_file.Detach 3); reply = file_replies.Done; before = 0; after = 0 } ∷ []) }) every_replies → ⊥
every_without_the_last_file_entry h = let k : Checks (Unit {0}) 19 (fresh 0 every_script) every_tree (record { session = 0; op = 2; node = 2; call = (on_file.Attach 3); reply = file_replies.Done; before = 0; after = 0 } ∷ record { session = 0; op = 3; node = 2; call = (on_file.Write 3 1 (120 ∷ 121 ∷ [])); reply = file_replies.Done; before = 0; after = 0 } ∷ record { session = 0; op = 4; node = 2; call = (on_file.Read 3 0 9); reply = (file_replies.Octets (0 ∷ 120 ∷ 121 ∷ [])); before = 0; after = 0 } ∷ record { session = 0; op = 5; node = 2; call = (on_file.Truncate 3 2); reply = file_replies.Done; before = 0; after = 0 } ∷ record { session = 0; op = 6; node = 2; call = (on_file.Size 3); reply = (file_replies.Length 2); before = 0; after = 0 } ∷ record { session = 0; op = 7; node = 2; call = (on_file.Sync 3); reply = file_replies.Done; before = 0; after = 0 } ∷ record { session = 0; op = 11; node = 2; call = (on_file.Attach 4); reply = file_replies.Done; before = 0; after = 0 } ∷ record { session = 0; op = 12; node = 2; call = (on_file.Detach 3); reply = file_replies.Done; before = 0; after = 0 } ∷ []) every_replies = checks 19 (fresh 0 every_script) (record { tree = every_tree; file = (record { session = 0; op = 2; node = 2; call = (on_file.Attach 3); reply = file_replies.Done; before = 0; after = 0 } ∷ record { session = 0; op = 3; node = 2; call = (on_file.Write 3 1 (120 ∷ 121 ∷ [])); reply = file_replies.Done; before = 0; after = 0 } ∷ record { session = 0; op = 4; node = 2; call = (on_file.Read 3 0 9); reply = (file_replies.Octets (0 ∷ 120 ∷ 121 ∷ [])); before = 0; after = 0 } ∷ record { session = 0; op = 5; node = 2; call = (on_file.Truncate 3 2); reply = file_replies.Done; before = 0; after = 0 } ∷ record { session = 0; op = 6; node = 2; call = (on_file.Size 3); reply = (file_replies.Length 2); before = 0; after = 0 } ∷ record { session = 0; op = 7; node = 2; call = (on_file.Sync 3); reply = file_replies.Done; before = 0; after = 0 } ∷ record { session = 0; op = 11; node = 2; call = (on_file.Attach 4); reply = file_replies.Done; before = 0; after = 0 } ∷ record { session = 0; op = 12; node = 2; call = (on_file.Detach 3); reply = file_replies.Done; before = 0; after = 0 } ∷ []) }) every_replies h in grind arith

pub every_without_the_first_tree_entry : Runs (fresh 0 every_script) (record { tree = (record { session = 0; op = 1; call = (on_tree.Rmdir (codes "d" ∷ [])); reply = tree_replies.Done; before = 0; after = 0 } ∷ record { session = 0; op = 2; call = (on_tree.Create (codes "f" ∷ [])); reply = (tree_replies.Node 2); before = 0; after = 0 } ∷ record { session = 0; op = 8; call = (on_tree.Rename (record { old = codes "f" ∷ []; new = codes "g" ∷ [] })); reply = tree_replies.Done; before = 0; after = 0 } ∷ record { session = 0; op = 9; call = (on_tree.Stat (codes "g" ∷ [])); reply = (tree_replies.Info kinds.File 2); before = 0; after = 0 } ∷ record { session = 0; op = 10; call = (on_tree.List []); reply = (tree_replies.Names (record { kind = kinds.File; name = codes "g" } ∷ [])); before = 0; after = 0 } ∷ record { session = 0; op = 11; call = (on_tree.Resolve (codes "g" ∷ [])); reply = (tree_replies.Node 2); before = 0; after = 0 } ∷ record { session = 0; op = 13; call = (on_tree.Unlink (codes "g" ∷ [])); reply = tree_replies.Done; before = 0; after = 0 } ∷ record { session = 0; op = 14; call = (on_tree.Unlink (codes "nope" ∷ [])); reply = (tree_replies.Refused refusals.NotFound); before = 0; after = 0 } ∷ []); file = every_file }) every_replies → ⊥
every_without_the_first_tree_entry h = let k : Checks (Unit {0}) 19 (fresh 0 every_script) (record { session = 0; op = 1; call = (on_tree.Rmdir (codes "d" ∷ [])); reply = tree_replies.Done; before = 0; after = 0 } ∷ record { session = 0; op = 2; call = (on_tree.Create (codes "f" ∷ [])); reply = (tree_replies.Node 2); before = 0; after = 0 } ∷ record { session = 0; op = 8; call = (on_tree.Rename (record { old = codes "f" ∷ []; new = codes "g" ∷ [] })); reply = tree_replies.Done; before = 0; after = 0 } ∷ record { session = 0; op = 9; call = (on_tree.Stat (codes "g" ∷ [])); reply = (tree_replies.Info kinds.File 2); before = 0; after = 0 } ∷ record { session = 0; op = 10; call = (on_tree.List []); reply = (tree_replies.Names (record { kind = kinds.File; name = codes "g" } ∷ [])); before = 0; after = 0 } ∷ record { session = 0; op = 11; call = (on_tree.Resolve (codes "g" ∷ [])); reply = (tree_replies.Node 2); before = 0; after = 0 } ∷ record { session = 0; op = 13; call = (on_tree.Unlink (codes "g" ∷ [])); reply = tree_replies.Done; before = 0; after = 0 } ∷ record { session = 0; op = 14; call = (on_tree.Unlink (codes "nope" ∷ [])); reply = (tree_replies.Refused refusals.NotFound); before = 0; after = 0 } ∷ []) every_file every_replies = checks 19 (fresh 0 every_script) (record { tree = (record { session = 0; op = 1; call = (on_tree.Rmdir (codes "d" ∷ [])); reply = tree_replies.Done; before = 0; after = 0 } ∷ record { session = 0; op = 2; call = (on_tree.Create (codes "f" ∷ [])); reply = (tree_replies.Node 2); before = 0; after = 0 } ∷ record { session = 0; op = 8; call = (on_tree.Rename (record { old = codes "f" ∷ []; new = codes "g" ∷ [] })); reply = tree_replies.Done; before = 0; after = 0 } ∷ record { session = 0; op = 9; call = (on_tree.Stat (codes "g" ∷ [])); reply = (tree_replies.Info kinds.File 2); before = 0; after = 0 } ∷ record { session = 0; op = 10; call = (on_tree.List []); reply = (tree_replies.Names (record { kind = kinds.File; name = codes "g" } ∷ [])); before = 0; after = 0 } ∷ record { session = 0; op = 11; call = (on_tree.Resolve (codes "g" ∷ [])); reply = (tree_replies.Node 2); before = 0; after = 0 } ∷ record { session = 0; op = 13; call = (on_tree.Unlink (codes "g" ∷ [])); reply = tree_replies.Done; before = 0; after = 0 } ∷ record { session = 0; op = 14; call = (on_tree.Unlink (codes "nope" ∷ [])); reply = (tree_replies.Refused refusals.NotFound); before = 0; after = 0 } ∷ []); file = every_file }) every_replies h in grind arith

pub every_with_two_file_entries_exchanged : Runs (fresh 0 every_script) (record { tree = every_tree; file = (record { session = 0; op = 3; node = 2; call = (on_file.Write 3 1 (120 ∷ 121 ∷ [])); reply = file_replies.Done; before = 0; after = 0 } ∷ record { session = 0; op = 2; node = 2; call = (on_file.Attach 3); reply = file_replies.Done; before = 0; after = 0 } ∷ record { session = 0; op = 4; node = 2; call = (on_file.Read 3 0 9); reply = (file_replies.Octets (0 ∷ 120 ∷ 121 ∷ [])); before = 0; after = 0 } ∷ record { session = 0; op = 5; node = 2; call = (on_file.Truncate 3 2); reply = file_replies.Done; before = 0; after = 0 } ∷ record { session = 0; op = 6; node = 2; call = (on_file.Size 3); reply = (file_replies.Length 2); before = 0; after = 0 } ∷ record { session = 0; op = 7; node = 2; call = (on_file.Sync 3); reply = file_replies.Done; before = 0; after = 0 } ∷ record { session = 0; op = 11; node = 2; call = (on_file.Attach 4); reply = file_replies.Done; before = 0; after = 0 } ∷ record { session = 0; op = 12; node = 2; call = (on_file.Detach 3); reply = file_replies.Done; before = 0; after = 0 } ∷ record { session = 0; op = 15; node = 2; call = (on_file.Detach 4); reply = file_replies.Done; before = 0; after = 0 } ∷ []) }) every_replies → ⊥
every_with_two_file_entries_exchanged h = let k : Checks (Unit {0}) 19 (fresh 0 every_script) every_tree (record { session = 0; op = 3; node = 2; call = (on_file.Write 3 1 (120 ∷ 121 ∷ [])); reply = file_replies.Done; before = 0; after = 0 } ∷ record { session = 0; op = 2; node = 2; call = (on_file.Attach 3); reply = file_replies.Done; before = 0; after = 0 } ∷ record { session = 0; op = 4; node = 2; call = (on_file.Read 3 0 9); reply = (file_replies.Octets (0 ∷ 120 ∷ 121 ∷ [])); before = 0; after = 0 } ∷ record { session = 0; op = 5; node = 2; call = (on_file.Truncate 3 2); reply = file_replies.Done; before = 0; after = 0 } ∷ record { session = 0; op = 6; node = 2; call = (on_file.Size 3); reply = (file_replies.Length 2); before = 0; after = 0 } ∷ record { session = 0; op = 7; node = 2; call = (on_file.Sync 3); reply = file_replies.Done; before = 0; after = 0 } ∷ record { session = 0; op = 11; node = 2; call = (on_file.Attach 4); reply = file_replies.Done; before = 0; after = 0 } ∷ record { session = 0; op = 12; node = 2; call = (on_file.Detach 3); reply = file_replies.Done; before = 0; after = 0 } ∷ record { session = 0; op = 15; node = 2; call = (on_file.Detach 4); reply = file_replies.Done; before = 0; after = 0 } ∷ []) every_replies = checks 19 (fresh 0 every_script) (record { tree = every_tree; file = (record { session = 0; op = 3; node = 2; call = (on_file.Write 3 1 (120 ∷ 121 ∷ [])); reply = file_replies.Done; before = 0; after = 0 } ∷ record { session = 0; op = 2; node = 2; call = (on_file.Attach 3); reply = file_replies.Done; before = 0; after = 0 } ∷ record { session = 0; op = 4; node = 2; call = (on_file.Read 3 0 9); reply = (file_replies.Octets (0 ∷ 120 ∷ 121 ∷ [])); before = 0; after = 0 } ∷ record { session = 0; op = 5; node = 2; call = (on_file.Truncate 3 2); reply = file_replies.Done; before = 0; after = 0 } ∷ record { session = 0; op = 6; node = 2; call = (on_file.Size 3); reply = (file_replies.Length 2); before = 0; after = 0 } ∷ record { session = 0; op = 7; node = 2; call = (on_file.Sync 3); reply = file_replies.Done; before = 0; after = 0 } ∷ record { session = 0; op = 11; node = 2; call = (on_file.Attach 4); reply = file_replies.Done; before = 0; after = 0 } ∷ record { session = 0; op = 12; node = 2; call = (on_file.Detach 3); reply = file_replies.Done; before = 0; after = 0 } ∷ record { session = 0; op = 15; node = 2; call = (on_file.Detach 4); reply = file_replies.Done; before = 0; after = 0 } ∷ []) }) every_replies h in grind arith

pub every_with_two_tree_entries_exchanged : Runs (fresh 0 every_script) (record { tree = (record { session = 0; op = 1; call = (on_tree.Rmdir (codes "d" ∷ [])); reply = tree_replies.Done; before = 0; after = 0 } ∷ record { session = 0; op = 0; call = (on_tree.Mkdir (codes "d" ∷ [])); reply = tree_replies.Done; before = 0; after = 0 } ∷ record { session = 0; op = 2; call = (on_tree.Create (codes "f" ∷ [])); reply = (tree_replies.Node 2); before = 0; after = 0 } ∷ record { session = 0; op = 8; call = (on_tree.Rename (record { old = codes "f" ∷ []; new = codes "g" ∷ [] })); reply = tree_replies.Done; before = 0; after = 0 } ∷ record { session = 0; op = 9; call = (on_tree.Stat (codes "g" ∷ [])); reply = (tree_replies.Info kinds.File 2); before = 0; after = 0 } ∷ record { session = 0; op = 10; call = (on_tree.List []); reply = (tree_replies.Names (record { kind = kinds.File; name = codes "g" } ∷ [])); before = 0; after = 0 } ∷ record { session = 0; op = 11; call = (on_tree.Resolve (codes "g" ∷ [])); reply = (tree_replies.Node 2); before = 0; after = 0 } ∷ record { session = 0; op = 13; call = (on_tree.Unlink (codes "g" ∷ [])); reply = tree_replies.Done; before = 0; after = 0 } ∷ record { session = 0; op = 14; call = (on_tree.Unlink (codes "nope" ∷ [])); reply = (tree_replies.Refused refusals.NotFound); before = 0; after = 0 } ∷ []); file = every_file }) every_replies → ⊥
every_with_two_tree_entries_exchanged h = let k : Checks (Unit {0}) 19 (fresh 0 every_script) (record { session = 0; op = 1; call = (on_tree.Rmdir (codes "d" ∷ [])); reply = tree_replies.Done; before = 0; after = 0 } ∷ record { session = 0; op = 0; call = (on_tree.Mkdir (codes "d" ∷ [])); reply = tree_replies.Done; before = 0; after = 0 } ∷ record { session = 0; op = 2; call = (on_tree.Create (codes "f" ∷ [])); reply = (tree_replies.Node 2); before = 0; after = 0 } ∷ record { session = 0; op = 8; call = (on_tree.Rename (record { old = codes "f" ∷ []; new = codes "g" ∷ [] })); reply = tree_replies.Done; before = 0; after = 0 } ∷ record { session = 0; op = 9; call = (on_tree.Stat (codes "g" ∷ [])); reply = (tree_replies.Info kinds.File 2); before = 0; after = 0 } ∷ record { session = 0; op = 10; call = (on_tree.List []); reply = (tree_replies.Names (record { kind = kinds.File; name = codes "g" } ∷ [])); before = 0; after = 0 } ∷ record { session = 0; op = 11; call = (on_tree.Resolve (codes "g" ∷ [])); reply = (tree_replies.Node 2); before = 0; after = 0 } ∷ record { session = 0; op = 13; call = (on_tree.Unlink (codes "g" ∷ [])); reply = tree_replies.Done; before = 0; after = 0 } ∷ record { session = 0; op = 14; call = (on_tree.Unlink (codes "nope" ∷ [])); reply = (tree_replies.Refused refusals.NotFound); before = 0; after = 0 } ∷ []) every_file every_replies = checks 19 (fresh 0 every_script) (record { tree = (record { session = 0; op = 1; call = (on_tree.Rmdir (codes "d" ∷ [])); reply = tree_replies.Done; before = 0; after = 0 } ∷ record { session = 0; op = 0; call = (on_tree.Mkdir (codes "d" ∷ [])); reply = tree_replies.Done; before = 0; after = 0 } ∷ record { session = 0; op = 2; call = (on_tree.Create (codes "f" ∷ [])); reply = (tree_replies.Node 2); before = 0; after = 0 } ∷ record { session = 0; op = 8; call = (on_tree.Rename (record { old = codes "f" ∷ []; new = codes "g" ∷ [] })); reply = tree_replies.Done; before = 0; after = 0 } ∷ record { session = 0; op = 9; call = (on_tree.Stat (codes "g" ∷ [])); reply = (tree_replies.Info kinds.File 2); before = 0; after = 0 } ∷ record { session = 0; op = 10; call = (on_tree.List []); reply = (tree_replies.Names (record { kind = kinds.File; name = codes "g" } ∷ [])); before = 0; after = 0 } ∷ record { session = 0; op = 11; call = (on_tree.Resolve (codes "g" ∷ [])); reply = (tree_replies.Node 2); before = 0; after = 0 } ∷ record { session = 0; op = 13; call = (on_tree.Unlink (codes "g" ∷ [])); reply = tree_replies.Done; before = 0; after = 0 } ∷ record { session = 0; op = 14; call = (on_tree.Unlink (codes "nope" ∷ [])); reply = (tree_replies.Refused refusals.NotFound); before = 0; after = 0 } ∷ []); file = every_file }) every_replies h in grind arith

pub every_with_the_last_entry_in_the_next_operation : Runs (fresh 0 every_script) (record { tree = every_tree; file = (record { session = 0; op = 2; node = 2; call = (on_file.Attach 3); reply = file_replies.Done; before = 0; after = 0 } ∷ record { session = 0; op = 3; node = 2; call = (on_file.Write 3 1 (120 ∷ 121 ∷ [])); reply = file_replies.Done; before = 0; after = 0 } ∷ record { session = 0; op = 4; node = 2; call = (on_file.Read 3 0 9); reply = (file_replies.Octets (0 ∷ 120 ∷ 121 ∷ [])); before = 0; after = 0 } ∷ record { session = 0; op = 5; node = 2; call = (on_file.Truncate 3 2); reply = file_replies.Done; before = 0; after = 0 } ∷ record { session = 0; op = 6; node = 2; call = (on_file.Size 3); reply = (file_replies.Length 2); before = 0; after = 0 } ∷ record { session = 0; op = 7; node = 2; call = (on_file.Sync 3); reply = file_replies.Done; before = 0; after = 0 } ∷ record { session = 0; op = 11; node = 2; call = (on_file.Attach 4); reply = file_replies.Done; before = 0; after = 0 } ∷ record { session = 0; op = 12; node = 2; call = (on_file.Detach 3); reply = file_replies.Done; before = 0; after = 0 } ∷ record { session = 0; op = 16; node = 2; call = (on_file.Detach 4); reply = file_replies.Done; before = 0; after = 0 } ∷ []) }) every_replies → ⊥
every_with_the_last_entry_in_the_next_operation h = let k : Checks (Unit {0}) 19 (fresh 0 every_script) every_tree (record { session = 0; op = 2; node = 2; call = (on_file.Attach 3); reply = file_replies.Done; before = 0; after = 0 } ∷ record { session = 0; op = 3; node = 2; call = (on_file.Write 3 1 (120 ∷ 121 ∷ [])); reply = file_replies.Done; before = 0; after = 0 } ∷ record { session = 0; op = 4; node = 2; call = (on_file.Read 3 0 9); reply = (file_replies.Octets (0 ∷ 120 ∷ 121 ∷ [])); before = 0; after = 0 } ∷ record { session = 0; op = 5; node = 2; call = (on_file.Truncate 3 2); reply = file_replies.Done; before = 0; after = 0 } ∷ record { session = 0; op = 6; node = 2; call = (on_file.Size 3); reply = (file_replies.Length 2); before = 0; after = 0 } ∷ record { session = 0; op = 7; node = 2; call = (on_file.Sync 3); reply = file_replies.Done; before = 0; after = 0 } ∷ record { session = 0; op = 11; node = 2; call = (on_file.Attach 4); reply = file_replies.Done; before = 0; after = 0 } ∷ record { session = 0; op = 12; node = 2; call = (on_file.Detach 3); reply = file_replies.Done; before = 0; after = 0 } ∷ record { session = 0; op = 16; node = 2; call = (on_file.Detach 4); reply = file_replies.Done; before = 0; after = 0 } ∷ []) every_replies = checks 19 (fresh 0 every_script) (record { tree = every_tree; file = (record { session = 0; op = 2; node = 2; call = (on_file.Attach 3); reply = file_replies.Done; before = 0; after = 0 } ∷ record { session = 0; op = 3; node = 2; call = (on_file.Write 3 1 (120 ∷ 121 ∷ [])); reply = file_replies.Done; before = 0; after = 0 } ∷ record { session = 0; op = 4; node = 2; call = (on_file.Read 3 0 9); reply = (file_replies.Octets (0 ∷ 120 ∷ 121 ∷ [])); before = 0; after = 0 } ∷ record { session = 0; op = 5; node = 2; call = (on_file.Truncate 3 2); reply = file_replies.Done; before = 0; after = 0 } ∷ record { session = 0; op = 6; node = 2; call = (on_file.Size 3); reply = (file_replies.Length 2); before = 0; after = 0 } ∷ record { session = 0; op = 7; node = 2; call = (on_file.Sync 3); reply = file_replies.Done; before = 0; after = 0 } ∷ record { session = 0; op = 11; node = 2; call = (on_file.Attach 4); reply = file_replies.Done; before = 0; after = 0 } ∷ record { session = 0; op = 12; node = 2; call = (on_file.Detach 3); reply = file_replies.Done; before = 0; after = 0 } ∷ record { session = 0; op = 16; node = 2; call = (on_file.Detach 4); reply = file_replies.Done; before = 0; after = 0 } ∷ []) }) every_replies h in grind arith

pub every_with_the_last_entry_twice : Runs (fresh 0 every_script) (record { tree = every_tree; file = (record { session = 0; op = 2; node = 2; call = (on_file.Attach 3); reply = file_replies.Done; before = 0; after = 0 } ∷ record { session = 0; op = 3; node = 2; call = (on_file.Write 3 1 (120 ∷ 121 ∷ [])); reply = file_replies.Done; before = 0; after = 0 } ∷ record { session = 0; op = 4; node = 2; call = (on_file.Read 3 0 9); reply = (file_replies.Octets (0 ∷ 120 ∷ 121 ∷ [])); before = 0; after = 0 } ∷ record { session = 0; op = 5; node = 2; call = (on_file.Truncate 3 2); reply = file_replies.Done; before = 0; after = 0 } ∷ record { session = 0; op = 6; node = 2; call = (on_file.Size 3); reply = (file_replies.Length 2); before = 0; after = 0 } ∷ record { session = 0; op = 7; node = 2; call = (on_file.Sync 3); reply = file_replies.Done; before = 0; after = 0 } ∷ record { session = 0; op = 11; node = 2; call = (on_file.Attach 4); reply = file_replies.Done; before = 0; after = 0 } ∷ record { session = 0; op = 12; node = 2; call = (on_file.Detach 3); reply = file_replies.Done; before = 0; after = 0 } ∷ record { session = 0; op = 15; node = 2; call = (on_file.Detach 4); reply = file_replies.Done; before = 0; after = 0 } ∷ record { session = 0; op = 15; node = 2; call = (on_file.Detach 4); reply = file_replies.Done; before = 0; after = 0 } ∷ []) }) every_replies → ⊥
every_with_the_last_entry_twice h = let k : Checks (Unit {0}) 19 (fresh 0 every_script) every_tree (record { session = 0; op = 2; node = 2; call = (on_file.Attach 3); reply = file_replies.Done; before = 0; after = 0 } ∷ record { session = 0; op = 3; node = 2; call = (on_file.Write 3 1 (120 ∷ 121 ∷ [])); reply = file_replies.Done; before = 0; after = 0 } ∷ record { session = 0; op = 4; node = 2; call = (on_file.Read 3 0 9); reply = (file_replies.Octets (0 ∷ 120 ∷ 121 ∷ [])); before = 0; after = 0 } ∷ record { session = 0; op = 5; node = 2; call = (on_file.Truncate 3 2); reply = file_replies.Done; before = 0; after = 0 } ∷ record { session = 0; op = 6; node = 2; call = (on_file.Size 3); reply = (file_replies.Length 2); before = 0; after = 0 } ∷ record { session = 0; op = 7; node = 2; call = (on_file.Sync 3); reply = file_replies.Done; before = 0; after = 0 } ∷ record { session = 0; op = 11; node = 2; call = (on_file.Attach 4); reply = file_replies.Done; before = 0; after = 0 } ∷ record { session = 0; op = 12; node = 2; call = (on_file.Detach 3); reply = file_replies.Done; before = 0; after = 0 } ∷ record { session = 0; op = 15; node = 2; call = (on_file.Detach 4); reply = file_replies.Done; before = 0; after = 0 } ∷ record { session = 0; op = 15; node = 2; call = (on_file.Detach 4); reply = file_replies.Done; before = 0; after = 0 } ∷ []) every_replies = checks 19 (fresh 0 every_script) (record { tree = every_tree; file = (record { session = 0; op = 2; node = 2; call = (on_file.Attach 3); reply = file_replies.Done; before = 0; after = 0 } ∷ record { session = 0; op = 3; node = 2; call = (on_file.Write 3 1 (120 ∷ 121 ∷ [])); reply = file_replies.Done; before = 0; after = 0 } ∷ record { session = 0; op = 4; node = 2; call = (on_file.Read 3 0 9); reply = (file_replies.Octets (0 ∷ 120 ∷ 121 ∷ [])); before = 0; after = 0 } ∷ record { session = 0; op = 5; node = 2; call = (on_file.Truncate 3 2); reply = file_replies.Done; before = 0; after = 0 } ∷ record { session = 0; op = 6; node = 2; call = (on_file.Size 3); reply = (file_replies.Length 2); before = 0; after = 0 } ∷ record { session = 0; op = 7; node = 2; call = (on_file.Sync 3); reply = file_replies.Done; before = 0; after = 0 } ∷ record { session = 0; op = 11; node = 2; call = (on_file.Attach 4); reply = file_replies.Done; before = 0; after = 0 } ∷ record { session = 0; op = 12; node = 2; call = (on_file.Detach 3); reply = file_replies.Done; before = 0; after = 0 } ∷ record { session = 0; op = 15; node = 2; call = (on_file.Detach 4); reply = file_replies.Done; before = 0; after = 0 } ∷ record { session = 0; op = 15; node = 2; call = (on_file.Detach 4); reply = file_replies.Done; before = 0; after = 0 } ∷ []) }) every_replies h in grind arith

pub every_with_another_session : Runs (fresh 0 every_script) (record { tree = every_tree; file = (record { session = 0; op = 2; node = 2; call = (on_file.Attach 3); reply = file_replies.Done; before = 0; after = 0 } ∷ record { session = 0; op = 3; node = 2; call = (on_file.Write 3 1 (120 ∷ 121 ∷ [])); reply = file_replies.Done; before = 0; after = 0 } ∷ record { session = 0; op = 4; node = 2; call = (on_file.Read 3 0 9); reply = (file_replies.Octets (0 ∷ 120 ∷ 121 ∷ [])); before = 0; after = 0 } ∷ record { session = 0; op = 5; node = 2; call = (on_file.Truncate 3 2); reply = file_replies.Done; before = 0; after = 0 } ∷ record { session = 0; op = 6; node = 2; call = (on_file.Size 3); reply = (file_replies.Length 2); before = 0; after = 0 } ∷ record { session = 0; op = 7; node = 2; call = (on_file.Sync 3); reply = file_replies.Done; before = 0; after = 0 } ∷ record { session = 0; op = 11; node = 2; call = (on_file.Attach 4); reply = file_replies.Done; before = 0; after = 0 } ∷ record { session = 0; op = 12; node = 2; call = (on_file.Detach 3); reply = file_replies.Done; before = 0; after = 0 } ∷ record { session = 1; op = 15; node = 2; call = (on_file.Detach 4); reply = file_replies.Done; before = 0; after = 0 } ∷ []) }) every_replies → ⊥
every_with_another_session h = let k : Checks (Unit {0}) 19 (fresh 0 every_script) every_tree (record { session = 0; op = 2; node = 2; call = (on_file.Attach 3); reply = file_replies.Done; before = 0; after = 0 } ∷ record { session = 0; op = 3; node = 2; call = (on_file.Write 3 1 (120 ∷ 121 ∷ [])); reply = file_replies.Done; before = 0; after = 0 } ∷ record { session = 0; op = 4; node = 2; call = (on_file.Read 3 0 9); reply = (file_replies.Octets (0 ∷ 120 ∷ 121 ∷ [])); before = 0; after = 0 } ∷ record { session = 0; op = 5; node = 2; call = (on_file.Truncate 3 2); reply = file_replies.Done; before = 0; after = 0 } ∷ record { session = 0; op = 6; node = 2; call = (on_file.Size 3); reply = (file_replies.Length 2); before = 0; after = 0 } ∷ record { session = 0; op = 7; node = 2; call = (on_file.Sync 3); reply = file_replies.Done; before = 0; after = 0 } ∷ record { session = 0; op = 11; node = 2; call = (on_file.Attach 4); reply = file_replies.Done; before = 0; after = 0 } ∷ record { session = 0; op = 12; node = 2; call = (on_file.Detach 3); reply = file_replies.Done; before = 0; after = 0 } ∷ record { session = 1; op = 15; node = 2; call = (on_file.Detach 4); reply = file_replies.Done; before = 0; after = 0 } ∷ []) every_replies = checks 19 (fresh 0 every_script) (record { tree = every_tree; file = (record { session = 0; op = 2; node = 2; call = (on_file.Attach 3); reply = file_replies.Done; before = 0; after = 0 } ∷ record { session = 0; op = 3; node = 2; call = (on_file.Write 3 1 (120 ∷ 121 ∷ [])); reply = file_replies.Done; before = 0; after = 0 } ∷ record { session = 0; op = 4; node = 2; call = (on_file.Read 3 0 9); reply = (file_replies.Octets (0 ∷ 120 ∷ 121 ∷ [])); before = 0; after = 0 } ∷ record { session = 0; op = 5; node = 2; call = (on_file.Truncate 3 2); reply = file_replies.Done; before = 0; after = 0 } ∷ record { session = 0; op = 6; node = 2; call = (on_file.Size 3); reply = (file_replies.Length 2); before = 0; after = 0 } ∷ record { session = 0; op = 7; node = 2; call = (on_file.Sync 3); reply = file_replies.Done; before = 0; after = 0 } ∷ record { session = 0; op = 11; node = 2; call = (on_file.Attach 4); reply = file_replies.Done; before = 0; after = 0 } ∷ record { session = 0; op = 12; node = 2; call = (on_file.Detach 3); reply = file_replies.Done; before = 0; after = 0 } ∷ record { session = 1; op = 15; node = 2; call = (on_file.Detach 4); reply = file_replies.Done; before = 0; after = 0 } ∷ []) }) every_replies h in grind arith

pub every_answered_otherwise : Runs (fresh 0 every_script) (record { tree = every_tree; file = (record { session = 0; op = 2; node = 2; call = (on_file.Attach 3); reply = file_replies.TooBig; before = 0; after = 0 } ∷ record { session = 0; op = 3; node = 2; call = (on_file.Write 3 1 (120 ∷ 121 ∷ [])); reply = file_replies.Done; before = 0; after = 0 } ∷ record { session = 0; op = 4; node = 2; call = (on_file.Read 3 0 9); reply = (file_replies.Octets (0 ∷ 120 ∷ 121 ∷ [])); before = 0; after = 0 } ∷ record { session = 0; op = 5; node = 2; call = (on_file.Truncate 3 2); reply = file_replies.Done; before = 0; after = 0 } ∷ record { session = 0; op = 6; node = 2; call = (on_file.Size 3); reply = (file_replies.Length 2); before = 0; after = 0 } ∷ record { session = 0; op = 7; node = 2; call = (on_file.Sync 3); reply = file_replies.Done; before = 0; after = 0 } ∷ record { session = 0; op = 11; node = 2; call = (on_file.Attach 4); reply = file_replies.Done; before = 0; after = 0 } ∷ record { session = 0; op = 12; node = 2; call = (on_file.Detach 3); reply = file_replies.Done; before = 0; after = 0 } ∷ record { session = 0; op = 15; node = 2; call = (on_file.Detach 4); reply = file_replies.Done; before = 0; after = 0 } ∷ []) }) every_replies → ⊥
every_answered_otherwise h = let k : Checks (Unit {0}) 19 (fresh 0 every_script) every_tree (record { session = 0; op = 2; node = 2; call = (on_file.Attach 3); reply = file_replies.TooBig; before = 0; after = 0 } ∷ record { session = 0; op = 3; node = 2; call = (on_file.Write 3 1 (120 ∷ 121 ∷ [])); reply = file_replies.Done; before = 0; after = 0 } ∷ record { session = 0; op = 4; node = 2; call = (on_file.Read 3 0 9); reply = (file_replies.Octets (0 ∷ 120 ∷ 121 ∷ [])); before = 0; after = 0 } ∷ record { session = 0; op = 5; node = 2; call = (on_file.Truncate 3 2); reply = file_replies.Done; before = 0; after = 0 } ∷ record { session = 0; op = 6; node = 2; call = (on_file.Size 3); reply = (file_replies.Length 2); before = 0; after = 0 } ∷ record { session = 0; op = 7; node = 2; call = (on_file.Sync 3); reply = file_replies.Done; before = 0; after = 0 } ∷ record { session = 0; op = 11; node = 2; call = (on_file.Attach 4); reply = file_replies.Done; before = 0; after = 0 } ∷ record { session = 0; op = 12; node = 2; call = (on_file.Detach 3); reply = file_replies.Done; before = 0; after = 0 } ∷ record { session = 0; op = 15; node = 2; call = (on_file.Detach 4); reply = file_replies.Done; before = 0; after = 0 } ∷ []) every_replies = checks 19 (fresh 0 every_script) (record { tree = every_tree; file = (record { session = 0; op = 2; node = 2; call = (on_file.Attach 3); reply = file_replies.TooBig; before = 0; after = 0 } ∷ record { session = 0; op = 3; node = 2; call = (on_file.Write 3 1 (120 ∷ 121 ∷ [])); reply = file_replies.Done; before = 0; after = 0 } ∷ record { session = 0; op = 4; node = 2; call = (on_file.Read 3 0 9); reply = (file_replies.Octets (0 ∷ 120 ∷ 121 ∷ [])); before = 0; after = 0 } ∷ record { session = 0; op = 5; node = 2; call = (on_file.Truncate 3 2); reply = file_replies.Done; before = 0; after = 0 } ∷ record { session = 0; op = 6; node = 2; call = (on_file.Size 3); reply = (file_replies.Length 2); before = 0; after = 0 } ∷ record { session = 0; op = 7; node = 2; call = (on_file.Sync 3); reply = file_replies.Done; before = 0; after = 0 } ∷ record { session = 0; op = 11; node = 2; call = (on_file.Attach 4); reply = file_replies.Done; before = 0; after = 0 } ∷ record { session = 0; op = 12; node = 2; call = (on_file.Detach 3); reply = file_replies.Done; before = 0; after = 0 } ∷ record { session = 0; op = 15; node = 2; call = (on_file.Detach 4); reply = file_replies.Done; before = 0; after = 0 } ∷ []) }) every_replies h in grind arith

pub every_with_another_reply : Runs (fresh 0 every_script) (record { tree = every_tree; file = every_file }) ((replies.Tree tree_replies.Done) ∷ (replies.Tree tree_replies.Done) ∷ (replies.Opened 2) ∷ (replies.File file_replies.Done) ∷ (replies.File (file_replies.Octets (0 ∷ 120 ∷ 121 ∷ []))) ∷ (replies.File file_replies.Done) ∷ (replies.File (file_replies.Length 2)) ∷ (replies.File file_replies.Done) ∷ (replies.Tree tree_replies.Done) ∷ (replies.Tree (tree_replies.Info kinds.File 2)) ∷ (replies.Tree (tree_replies.Names (record { kind = kinds.File; name = codes "g" } ∷ []))) ∷ (replies.Opened 2) ∷ (replies.File file_replies.Done) ∷ (replies.Tree tree_replies.Done) ∷ (replies.Tree (tree_replies.Refused refusals.NotFound)) ∷ replies.Slot ∷ []) → ⊥
every_with_another_reply h = let k : Checks (Unit {0}) 19 (fresh 0 every_script) every_tree every_file ((replies.Tree tree_replies.Done) ∷ (replies.Tree tree_replies.Done) ∷ (replies.Opened 2) ∷ (replies.File file_replies.Done) ∷ (replies.File (file_replies.Octets (0 ∷ 120 ∷ 121 ∷ []))) ∷ (replies.File file_replies.Done) ∷ (replies.File (file_replies.Length 2)) ∷ (replies.File file_replies.Done) ∷ (replies.Tree tree_replies.Done) ∷ (replies.Tree (tree_replies.Info kinds.File 2)) ∷ (replies.Tree (tree_replies.Names (record { kind = kinds.File; name = codes "g" } ∷ []))) ∷ (replies.Opened 2) ∷ (replies.File file_replies.Done) ∷ (replies.Tree tree_replies.Done) ∷ (replies.Tree (tree_replies.Refused refusals.NotFound)) ∷ replies.Slot ∷ []) = checks 19 (fresh 0 every_script) (record { tree = every_tree; file = every_file }) ((replies.Tree tree_replies.Done) ∷ (replies.Tree tree_replies.Done) ∷ (replies.Opened 2) ∷ (replies.File file_replies.Done) ∷ (replies.File (file_replies.Octets (0 ∷ 120 ∷ 121 ∷ []))) ∷ (replies.File file_replies.Done) ∷ (replies.File (file_replies.Length 2)) ∷ (replies.File file_replies.Done) ∷ (replies.Tree tree_replies.Done) ∷ (replies.Tree (tree_replies.Info kinds.File 2)) ∷ (replies.Tree (tree_replies.Names (record { kind = kinds.File; name = codes "g" } ∷ []))) ∷ (replies.Opened 2) ∷ (replies.File file_replies.Done) ∷ (replies.Tree tree_replies.Done) ∷ (replies.Tree (tree_replies.Refused refusals.NotFound)) ∷ replies.Slot ∷ []) h in grind arith

pub every_with_a_reply_left_out : Runs (fresh 0 every_script) (record { tree = every_tree; file = every_file }) ((replies.Tree tree_replies.Done) ∷ (replies.Opened 2) ∷ (replies.File file_replies.Done) ∷ (replies.File (file_replies.Octets (0 ∷ 120 ∷ 121 ∷ []))) ∷ (replies.File file_replies.Done) ∷ (replies.File (file_replies.Length 2)) ∷ (replies.File file_replies.Done) ∷ (replies.Tree tree_replies.Done) ∷ (replies.Tree (tree_replies.Info kinds.File 2)) ∷ (replies.Tree (tree_replies.Names (record { kind = kinds.File; name = codes "g" } ∷ []))) ∷ (replies.Opened 2) ∷ (replies.File file_replies.Done) ∷ (replies.Tree tree_replies.Done) ∷ (replies.Tree (tree_replies.Refused refusals.NotFound)) ∷ (replies.File file_replies.Done) ∷ []) → ⊥
every_with_a_reply_left_out h = let k : Checks (Unit {0}) 19 (fresh 0 every_script) every_tree every_file ((replies.Tree tree_replies.Done) ∷ (replies.Opened 2) ∷ (replies.File file_replies.Done) ∷ (replies.File (file_replies.Octets (0 ∷ 120 ∷ 121 ∷ []))) ∷ (replies.File file_replies.Done) ∷ (replies.File (file_replies.Length 2)) ∷ (replies.File file_replies.Done) ∷ (replies.Tree tree_replies.Done) ∷ (replies.Tree (tree_replies.Info kinds.File 2)) ∷ (replies.Tree (tree_replies.Names (record { kind = kinds.File; name = codes "g" } ∷ []))) ∷ (replies.Opened 2) ∷ (replies.File file_replies.Done) ∷ (replies.Tree tree_replies.Done) ∷ (replies.Tree (tree_replies.Refused refusals.NotFound)) ∷ (replies.File file_replies.Done) ∷ []) = checks 19 (fresh 0 every_script) (record { tree = every_tree; file = every_file }) ((replies.Tree tree_replies.Done) ∷ (replies.Opened 2) ∷ (replies.File file_replies.Done) ∷ (replies.File (file_replies.Octets (0 ∷ 120 ∷ 121 ∷ []))) ∷ (replies.File file_replies.Done) ∷ (replies.File (file_replies.Length 2)) ∷ (replies.File file_replies.Done) ∷ (replies.Tree tree_replies.Done) ∷ (replies.Tree (tree_replies.Info kinds.File 2)) ∷ (replies.Tree (tree_replies.Names (record { kind = kinds.File; name = codes "g" } ∷ []))) ∷ (replies.Opened 2) ∷ (replies.File file_replies.Done) ∷ (replies.Tree tree_replies.Done) ∷ (replies.Tree (tree_replies.Refused refusals.NotFound)) ∷ (replies.File file_replies.Done) ∷ []) h in grind arith

abbrev ends_script : List Op
ends_script = ((ops.Create 9 (codes "f" ∷ [])) ∷ (ops.Open 2 (codes "f" ∷ [])) ∷ (ops.Open 2 (codes "nope" ∷ [])) ∷ (ops.Read 5 0 1) ∷ [])

abbrev ends_tree : List TreeEntry
ends_tree = (record { session = 0; op = 0; call = (on_tree.Create (codes "f" ∷ [])); reply = (tree_replies.Node 1); before = 0; after = 0 } ∷ record { session = 0; op = 1; call = (on_tree.Resolve (codes "f" ∷ [])); reply = (tree_replies.Node 1); before = 0; after = 0 } ∷ [])

abbrev ends_file : List FileEntry
ends_file = (record { session = 0; op = 0; node = 1; call = (on_file.Attach 9); reply = file_replies.Done; before = 0; after = 0 } ∷ record { session = 0; op = 1; node = 1; call = (on_file.Attach 2); reply = file_replies.Done; before = 0; after = 0 } ∷ record { session = 0; op = 4; node = 1; call = (on_file.Detach 2); reply = file_replies.Done; before = 0; after = 0 } ∷ record { session = 0; op = 5; node = 1; call = (on_file.Detach 9); reply = file_replies.Done; before = 0; after = 0 } ∷ [])

abbrev ends_replies : List Reply
ends_replies = ((replies.Opened 1) ∷ (replies.Opened 1) ∷ replies.Slot ∷ replies.Handle ∷ (replies.File file_replies.Done) ∷ (replies.File file_replies.Done) ∷ [])

pub ends : Runs (fresh 0 ends_script) (record { tree = ends_tree; file = ends_file }) ends_replies
ends = runs 9 (fresh 0 ends_script) ends_tree ends_file ends_replies (inr (record { session = refl; op = refl; call_is = refl }, inr (record { session = refl; op = refl; node_is = refl; call_is = refl }, (refl, inr (record { session = refl; op = refl; call_is = refl }, inr (record { session = refl; op = refl; node_is = refl; call_is = refl }, (refl, (refl, (refl, inr (record { session = refl; op = refl; node_is = refl; call_is = refl }, (refl, inr (record { session = refl; op = refl; node_is = refl; call_is = refl }, (refl, (tt, tt, tt))))))))))))))

pub ends_without_the_last_file_entry : Runs (fresh 0 ends_script) (record { tree = ends_tree; file = (record { session = 0; op = 0; node = 1; call = (on_file.Attach 9); reply = file_replies.Done; before = 0; after = 0 } ∷ record { session = 0; op = 1; node = 1; call = (on_file.Attach 2); reply = file_replies.Done; before = 0; after = 0 } ∷ record { session = 0; op = 4; node = 1; call = (on_file.Detach 2); reply = file_replies.Done; before = 0; after = 0 } ∷ []) }) ends_replies → ⊥
ends_without_the_last_file_entry h = let k : Checks (Unit {0}) 9 (fresh 0 ends_script) ends_tree (record { session = 0; op = 0; node = 1; call = (on_file.Attach 9); reply = file_replies.Done; before = 0; after = 0 } ∷ record { session = 0; op = 1; node = 1; call = (on_file.Attach 2); reply = file_replies.Done; before = 0; after = 0 } ∷ record { session = 0; op = 4; node = 1; call = (on_file.Detach 2); reply = file_replies.Done; before = 0; after = 0 } ∷ []) ends_replies = checks 9 (fresh 0 ends_script) (record { tree = ends_tree; file = (record { session = 0; op = 0; node = 1; call = (on_file.Attach 9); reply = file_replies.Done; before = 0; after = 0 } ∷ record { session = 0; op = 1; node = 1; call = (on_file.Attach 2); reply = file_replies.Done; before = 0; after = 0 } ∷ record { session = 0; op = 4; node = 1; call = (on_file.Detach 2); reply = file_replies.Done; before = 0; after = 0 } ∷ []) }) ends_replies h in grind arith

pub ends_without_the_first_tree_entry : Runs (fresh 0 ends_script) (record { tree = (record { session = 0; op = 1; call = (on_tree.Resolve (codes "f" ∷ [])); reply = (tree_replies.Node 1); before = 0; after = 0 } ∷ []); file = ends_file }) ends_replies → ⊥
ends_without_the_first_tree_entry h = let k : Checks (Unit {0}) 9 (fresh 0 ends_script) (record { session = 0; op = 1; call = (on_tree.Resolve (codes "f" ∷ [])); reply = (tree_replies.Node 1); before = 0; after = 0 } ∷ []) ends_file ends_replies = checks 9 (fresh 0 ends_script) (record { tree = (record { session = 0; op = 1; call = (on_tree.Resolve (codes "f" ∷ [])); reply = (tree_replies.Node 1); before = 0; after = 0 } ∷ []); file = ends_file }) ends_replies h in grind arith

pub ends_with_two_file_entries_exchanged : Runs (fresh 0 ends_script) (record { tree = ends_tree; file = (record { session = 0; op = 1; node = 1; call = (on_file.Attach 2); reply = file_replies.Done; before = 0; after = 0 } ∷ record { session = 0; op = 0; node = 1; call = (on_file.Attach 9); reply = file_replies.Done; before = 0; after = 0 } ∷ record { session = 0; op = 4; node = 1; call = (on_file.Detach 2); reply = file_replies.Done; before = 0; after = 0 } ∷ record { session = 0; op = 5; node = 1; call = (on_file.Detach 9); reply = file_replies.Done; before = 0; after = 0 } ∷ []) }) ends_replies → ⊥
ends_with_two_file_entries_exchanged h = let k : Checks (Unit {0}) 9 (fresh 0 ends_script) ends_tree (record { session = 0; op = 1; node = 1; call = (on_file.Attach 2); reply = file_replies.Done; before = 0; after = 0 } ∷ record { session = 0; op = 0; node = 1; call = (on_file.Attach 9); reply = file_replies.Done; before = 0; after = 0 } ∷ record { session = 0; op = 4; node = 1; call = (on_file.Detach 2); reply = file_replies.Done; before = 0; after = 0 } ∷ record { session = 0; op = 5; node = 1; call = (on_file.Detach 9); reply = file_replies.Done; before = 0; after = 0 } ∷ []) ends_replies = checks 9 (fresh 0 ends_script) (record { tree = ends_tree; file = (record { session = 0; op = 1; node = 1; call = (on_file.Attach 2); reply = file_replies.Done; before = 0; after = 0 } ∷ record { session = 0; op = 0; node = 1; call = (on_file.Attach 9); reply = file_replies.Done; before = 0; after = 0 } ∷ record { session = 0; op = 4; node = 1; call = (on_file.Detach 2); reply = file_replies.Done; before = 0; after = 0 } ∷ record { session = 0; op = 5; node = 1; call = (on_file.Detach 9); reply = file_replies.Done; before = 0; after = 0 } ∷ []) }) ends_replies h in grind arith

pub ends_with_two_tree_entries_exchanged : Runs (fresh 0 ends_script) (record { tree = (record { session = 0; op = 1; call = (on_tree.Resolve (codes "f" ∷ [])); reply = (tree_replies.Node 1); before = 0; after = 0 } ∷ record { session = 0; op = 0; call = (on_tree.Create (codes "f" ∷ [])); reply = (tree_replies.Node 1); before = 0; after = 0 } ∷ []); file = ends_file }) ends_replies → ⊥
ends_with_two_tree_entries_exchanged h = let k : Checks (Unit {0}) 9 (fresh 0 ends_script) (record { session = 0; op = 1; call = (on_tree.Resolve (codes "f" ∷ [])); reply = (tree_replies.Node 1); before = 0; after = 0 } ∷ record { session = 0; op = 0; call = (on_tree.Create (codes "f" ∷ [])); reply = (tree_replies.Node 1); before = 0; after = 0 } ∷ []) ends_file ends_replies = checks 9 (fresh 0 ends_script) (record { tree = (record { session = 0; op = 1; call = (on_tree.Resolve (codes "f" ∷ [])); reply = (tree_replies.Node 1); before = 0; after = 0 } ∷ record { session = 0; op = 0; call = (on_tree.Create (codes "f" ∷ [])); reply = (tree_replies.Node 1); before = 0; after = 0 } ∷ []); file = ends_file }) ends_replies h in grind arith

pub ends_with_the_last_entry_in_the_next_operation : Runs (fresh 0 ends_script) (record { tree = ends_tree; file = (record { session = 0; op = 0; node = 1; call = (on_file.Attach 9); reply = file_replies.Done; before = 0; after = 0 } ∷ record { session = 0; op = 1; node = 1; call = (on_file.Attach 2); reply = file_replies.Done; before = 0; after = 0 } ∷ record { session = 0; op = 4; node = 1; call = (on_file.Detach 2); reply = file_replies.Done; before = 0; after = 0 } ∷ record { session = 0; op = 6; node = 1; call = (on_file.Detach 9); reply = file_replies.Done; before = 0; after = 0 } ∷ []) }) ends_replies → ⊥
ends_with_the_last_entry_in_the_next_operation h = let k : Checks (Unit {0}) 9 (fresh 0 ends_script) ends_tree (record { session = 0; op = 0; node = 1; call = (on_file.Attach 9); reply = file_replies.Done; before = 0; after = 0 } ∷ record { session = 0; op = 1; node = 1; call = (on_file.Attach 2); reply = file_replies.Done; before = 0; after = 0 } ∷ record { session = 0; op = 4; node = 1; call = (on_file.Detach 2); reply = file_replies.Done; before = 0; after = 0 } ∷ record { session = 0; op = 6; node = 1; call = (on_file.Detach 9); reply = file_replies.Done; before = 0; after = 0 } ∷ []) ends_replies = checks 9 (fresh 0 ends_script) (record { tree = ends_tree; file = (record { session = 0; op = 0; node = 1; call = (on_file.Attach 9); reply = file_replies.Done; before = 0; after = 0 } ∷ record { session = 0; op = 1; node = 1; call = (on_file.Attach 2); reply = file_replies.Done; before = 0; after = 0 } ∷ record { session = 0; op = 4; node = 1; call = (on_file.Detach 2); reply = file_replies.Done; before = 0; after = 0 } ∷ record { session = 0; op = 6; node = 1; call = (on_file.Detach 9); reply = file_replies.Done; before = 0; after = 0 } ∷ []) }) ends_replies h in grind arith

pub ends_with_the_last_entry_twice : Runs (fresh 0 ends_script) (record { tree = ends_tree; file = (record { session = 0; op = 0; node = 1; call = (on_file.Attach 9); reply = file_replies.Done; before = 0; after = 0 } ∷ record { session = 0; op = 1; node = 1; call = (on_file.Attach 2); reply = file_replies.Done; before = 0; after = 0 } ∷ record { session = 0; op = 4; node = 1; call = (on_file.Detach 2); reply = file_replies.Done; before = 0; after = 0 } ∷ record { session = 0; op = 5; node = 1; call = (on_file.Detach 9); reply = file_replies.Done; before = 0; after = 0 } ∷ record { session = 0; op = 5; node = 1; call = (on_file.Detach 9); reply = file_replies.Done; before = 0; after = 0 } ∷ []) }) ends_replies → ⊥
ends_with_the_last_entry_twice h = let k : Checks (Unit {0}) 9 (fresh 0 ends_script) ends_tree (record { session = 0; op = 0; node = 1; call = (on_file.Attach 9); reply = file_replies.Done; before = 0; after = 0 } ∷ record { session = 0; op = 1; node = 1; call = (on_file.Attach 2); reply = file_replies.Done; before = 0; after = 0 } ∷ record { session = 0; op = 4; node = 1; call = (on_file.Detach 2); reply = file_replies.Done; before = 0; after = 0 } ∷ record { session = 0; op = 5; node = 1; call = (on_file.Detach 9); reply = file_replies.Done; before = 0; after = 0 } ∷ record { session = 0; op = 5; node = 1; call = (on_file.Detach 9); reply = file_replies.Done; before = 0; after = 0 } ∷ []) ends_replies = checks 9 (fresh 0 ends_script) (record { tree = ends_tree; file = (record { session = 0; op = 0; node = 1; call = (on_file.Attach 9); reply = file_replies.Done; before = 0; after = 0 } ∷ record { session = 0; op = 1; node = 1; call = (on_file.Attach 2); reply = file_replies.Done; before = 0; after = 0 } ∷ record { session = 0; op = 4; node = 1; call = (on_file.Detach 2); reply = file_replies.Done; before = 0; after = 0 } ∷ record { session = 0; op = 5; node = 1; call = (on_file.Detach 9); reply = file_replies.Done; before = 0; after = 0 } ∷ record { session = 0; op = 5; node = 1; call = (on_file.Detach 9); reply = file_replies.Done; before = 0; after = 0 } ∷ []) }) ends_replies h in grind arith

pub ends_with_another_session : Runs (fresh 0 ends_script) (record { tree = ends_tree; file = (record { session = 0; op = 0; node = 1; call = (on_file.Attach 9); reply = file_replies.Done; before = 0; after = 0 } ∷ record { session = 0; op = 1; node = 1; call = (on_file.Attach 2); reply = file_replies.Done; before = 0; after = 0 } ∷ record { session = 0; op = 4; node = 1; call = (on_file.Detach 2); reply = file_replies.Done; before = 0; after = 0 } ∷ record { session = 1; op = 5; node = 1; call = (on_file.Detach 9); reply = file_replies.Done; before = 0; after = 0 } ∷ []) }) ends_replies → ⊥
ends_with_another_session h = let k : Checks (Unit {0}) 9 (fresh 0 ends_script) ends_tree (record { session = 0; op = 0; node = 1; call = (on_file.Attach 9); reply = file_replies.Done; before = 0; after = 0 } ∷ record { session = 0; op = 1; node = 1; call = (on_file.Attach 2); reply = file_replies.Done; before = 0; after = 0 } ∷ record { session = 0; op = 4; node = 1; call = (on_file.Detach 2); reply = file_replies.Done; before = 0; after = 0 } ∷ record { session = 1; op = 5; node = 1; call = (on_file.Detach 9); reply = file_replies.Done; before = 0; after = 0 } ∷ []) ends_replies = checks 9 (fresh 0 ends_script) (record { tree = ends_tree; file = (record { session = 0; op = 0; node = 1; call = (on_file.Attach 9); reply = file_replies.Done; before = 0; after = 0 } ∷ record { session = 0; op = 1; node = 1; call = (on_file.Attach 2); reply = file_replies.Done; before = 0; after = 0 } ∷ record { session = 0; op = 4; node = 1; call = (on_file.Detach 2); reply = file_replies.Done; before = 0; after = 0 } ∷ record { session = 1; op = 5; node = 1; call = (on_file.Detach 9); reply = file_replies.Done; before = 0; after = 0 } ∷ []) }) ends_replies h in grind arith

pub ends_answered_otherwise : Runs (fresh 0 ends_script) (record { tree = ends_tree; file = (record { session = 0; op = 0; node = 1; call = (on_file.Attach 9); reply = file_replies.TooBig; before = 0; after = 0 } ∷ record { session = 0; op = 1; node = 1; call = (on_file.Attach 2); reply = file_replies.Done; before = 0; after = 0 } ∷ record { session = 0; op = 4; node = 1; call = (on_file.Detach 2); reply = file_replies.Done; before = 0; after = 0 } ∷ record { session = 0; op = 5; node = 1; call = (on_file.Detach 9); reply = file_replies.Done; before = 0; after = 0 } ∷ []) }) ends_replies → ⊥
ends_answered_otherwise h = let k : Checks (Unit {0}) 9 (fresh 0 ends_script) ends_tree (record { session = 0; op = 0; node = 1; call = (on_file.Attach 9); reply = file_replies.TooBig; before = 0; after = 0 } ∷ record { session = 0; op = 1; node = 1; call = (on_file.Attach 2); reply = file_replies.Done; before = 0; after = 0 } ∷ record { session = 0; op = 4; node = 1; call = (on_file.Detach 2); reply = file_replies.Done; before = 0; after = 0 } ∷ record { session = 0; op = 5; node = 1; call = (on_file.Detach 9); reply = file_replies.Done; before = 0; after = 0 } ∷ []) ends_replies = checks 9 (fresh 0 ends_script) (record { tree = ends_tree; file = (record { session = 0; op = 0; node = 1; call = (on_file.Attach 9); reply = file_replies.TooBig; before = 0; after = 0 } ∷ record { session = 0; op = 1; node = 1; call = (on_file.Attach 2); reply = file_replies.Done; before = 0; after = 0 } ∷ record { session = 0; op = 4; node = 1; call = (on_file.Detach 2); reply = file_replies.Done; before = 0; after = 0 } ∷ record { session = 0; op = 5; node = 1; call = (on_file.Detach 9); reply = file_replies.Done; before = 0; after = 0 } ∷ []) }) ends_replies h in grind arith

pub ends_with_another_reply : Runs (fresh 0 ends_script) (record { tree = ends_tree; file = ends_file }) ((replies.Opened 1) ∷ (replies.Opened 1) ∷ replies.Slot ∷ replies.Handle ∷ (replies.File file_replies.Done) ∷ replies.Slot ∷ []) → ⊥
ends_with_another_reply h = let k : Checks (Unit {0}) 9 (fresh 0 ends_script) ends_tree ends_file ((replies.Opened 1) ∷ (replies.Opened 1) ∷ replies.Slot ∷ replies.Handle ∷ (replies.File file_replies.Done) ∷ replies.Slot ∷ []) = checks 9 (fresh 0 ends_script) (record { tree = ends_tree; file = ends_file }) ((replies.Opened 1) ∷ (replies.Opened 1) ∷ replies.Slot ∷ replies.Handle ∷ (replies.File file_replies.Done) ∷ replies.Slot ∷ []) h in grind arith

pub ends_with_a_reply_left_out : Runs (fresh 0 ends_script) (record { tree = ends_tree; file = ends_file }) ((replies.Opened 1) ∷ replies.Slot ∷ replies.Handle ∷ (replies.File file_replies.Done) ∷ (replies.File file_replies.Done) ∷ []) → ⊥
ends_with_a_reply_left_out h = let k : Checks (Unit {0}) 9 (fresh 0 ends_script) ends_tree ends_file ((replies.Opened 1) ∷ replies.Slot ∷ replies.Handle ∷ (replies.File file_replies.Done) ∷ (replies.File file_replies.Done) ∷ []) = checks 9 (fresh 0 ends_script) (record { tree = ends_tree; file = ends_file }) ((replies.Opened 1) ∷ replies.Slot ∷ replies.Handle ∷ (replies.File file_replies.Done) ∷ (replies.File file_replies.Done) ∷ []) h in grind arith

pub ends_closed_in_falling_order : Runs (fresh 0 ends_script) (record { tree = ends_tree; file = (record { session = 0; op = 0; node = 1; call = (on_file.Attach 9); reply = file_replies.Done; before = 0; after = 0 } ∷ record { session = 0; op = 1; node = 1; call = (on_file.Attach 2); reply = file_replies.Done; before = 0; after = 0 } ∷ record { session = 0; op = 4; node = 1; call = (on_file.Detach 9); reply = file_replies.Done; before = 0; after = 0 } ∷ record { session = 0; op = 5; node = 1; call = (on_file.Detach 2); reply = file_replies.Done; before = 0; after = 0 } ∷ []) }) ends_replies → ⊥
ends_closed_in_falling_order h = let k : Checks (Unit {0}) 9 (fresh 0 ends_script) ends_tree (record { session = 0; op = 0; node = 1; call = (on_file.Attach 9); reply = file_replies.Done; before = 0; after = 0 } ∷ record { session = 0; op = 1; node = 1; call = (on_file.Attach 2); reply = file_replies.Done; before = 0; after = 0 } ∷ record { session = 0; op = 4; node = 1; call = (on_file.Detach 9); reply = file_replies.Done; before = 0; after = 0 } ∷ record { session = 0; op = 5; node = 1; call = (on_file.Detach 2); reply = file_replies.Done; before = 0; after = 0 } ∷ []) ends_replies = checks 9 (fresh 0 ends_script) (record { tree = ends_tree; file = (record { session = 0; op = 0; node = 1; call = (on_file.Attach 9); reply = file_replies.Done; before = 0; after = 0 } ∷ record { session = 0; op = 1; node = 1; call = (on_file.Attach 2); reply = file_replies.Done; before = 0; after = 0 } ∷ record { session = 0; op = 4; node = 1; call = (on_file.Detach 9); reply = file_replies.Done; before = 0; after = 0 } ∷ record { session = 0; op = 5; node = 1; call = (on_file.Detach 2); reply = file_replies.Done; before = 0; after = 0 } ∷ []) }) ends_replies h in grind arith

abbrev left_script : List Op
left_script = ((ops.Create 0 (codes "f" ∷ [])) ∷ (ops.Write 0 0 (97 ∷ [])) ∷ (ops.Stat (codes "f" ∷ [])) ∷ [])

abbrev left_tree : List TreeEntry
left_tree = (record { session = 0; op = 0; call = (on_tree.Create (codes "f" ∷ [])); reply = (tree_replies.Node 1); before = 0; after = 0 } ∷ record { session = 0; op = 2; call = (on_tree.Stat (codes "f" ∷ [])); reply = (tree_replies.Info kinds.File 1); before = 0; after = 0 } ∷ [])

abbrev left_file : List FileEntry
left_file = (record { session = 0; op = 0; node = 1; call = (on_file.Attach 0); reply = file_replies.Done; before = 0; after = 0 } ∷ record { session = 0; op = 1; node = 1; call = (on_file.Write 0 0 (97 ∷ [])); reply = file_replies.Done; before = 0; after = 0 } ∷ record { session = 0; op = 3; node = 1; call = (on_file.Detach 0); reply = file_replies.Done; before = 0; after = 0 } ∷ [])

abbrev left_replies : List Reply
left_replies = ((replies.Opened 1) ∷ (replies.File file_replies.Done) ∷ (replies.Tree (tree_replies.Info kinds.File 1)) ∷ (replies.File file_replies.Done) ∷ [])

pub left : Runs (fresh 0 left_script) (record { tree = left_tree; file = left_file }) left_replies
left = runs 6 (fresh 0 left_script) left_tree left_file left_replies (inr (record { session = refl; op = refl; call_is = refl }, inr (record { session = refl; op = refl; node_is = refl; call_is = refl }, (refl, inr (record { session = refl; op = refl; node_is = refl; call_is = refl }, (refl, inr (record { session = refl; op = refl; call_is = refl }, (refl, inr (record { session = refl; op = refl; node_is = refl; call_is = refl }, (refl, (tt, tt, tt)))))))))))

pub left_without_the_last_file_entry : Runs (fresh 0 left_script) (record { tree = left_tree; file = (record { session = 0; op = 0; node = 1; call = (on_file.Attach 0); reply = file_replies.Done; before = 0; after = 0 } ∷ record { session = 0; op = 1; node = 1; call = (on_file.Write 0 0 (97 ∷ [])); reply = file_replies.Done; before = 0; after = 0 } ∷ []) }) left_replies → ⊥
left_without_the_last_file_entry h = let k : Checks (Unit {0}) 6 (fresh 0 left_script) left_tree (record { session = 0; op = 0; node = 1; call = (on_file.Attach 0); reply = file_replies.Done; before = 0; after = 0 } ∷ record { session = 0; op = 1; node = 1; call = (on_file.Write 0 0 (97 ∷ [])); reply = file_replies.Done; before = 0; after = 0 } ∷ []) left_replies = checks 6 (fresh 0 left_script) (record { tree = left_tree; file = (record { session = 0; op = 0; node = 1; call = (on_file.Attach 0); reply = file_replies.Done; before = 0; after = 0 } ∷ record { session = 0; op = 1; node = 1; call = (on_file.Write 0 0 (97 ∷ [])); reply = file_replies.Done; before = 0; after = 0 } ∷ []) }) left_replies h in grind arith

pub left_without_the_first_tree_entry : Runs (fresh 0 left_script) (record { tree = (record { session = 0; op = 2; call = (on_tree.Stat (codes "f" ∷ [])); reply = (tree_replies.Info kinds.File 1); before = 0; after = 0 } ∷ []); file = left_file }) left_replies → ⊥
left_without_the_first_tree_entry h = let k : Checks (Unit {0}) 6 (fresh 0 left_script) (record { session = 0; op = 2; call = (on_tree.Stat (codes "f" ∷ [])); reply = (tree_replies.Info kinds.File 1); before = 0; after = 0 } ∷ []) left_file left_replies = checks 6 (fresh 0 left_script) (record { tree = (record { session = 0; op = 2; call = (on_tree.Stat (codes "f" ∷ [])); reply = (tree_replies.Info kinds.File 1); before = 0; after = 0 } ∷ []); file = left_file }) left_replies h in grind arith

pub left_with_two_file_entries_exchanged : Runs (fresh 0 left_script) (record { tree = left_tree; file = (record { session = 0; op = 1; node = 1; call = (on_file.Write 0 0 (97 ∷ [])); reply = file_replies.Done; before = 0; after = 0 } ∷ record { session = 0; op = 0; node = 1; call = (on_file.Attach 0); reply = file_replies.Done; before = 0; after = 0 } ∷ record { session = 0; op = 3; node = 1; call = (on_file.Detach 0); reply = file_replies.Done; before = 0; after = 0 } ∷ []) }) left_replies → ⊥
left_with_two_file_entries_exchanged h = let k : Checks (Unit {0}) 6 (fresh 0 left_script) left_tree (record { session = 0; op = 1; node = 1; call = (on_file.Write 0 0 (97 ∷ [])); reply = file_replies.Done; before = 0; after = 0 } ∷ record { session = 0; op = 0; node = 1; call = (on_file.Attach 0); reply = file_replies.Done; before = 0; after = 0 } ∷ record { session = 0; op = 3; node = 1; call = (on_file.Detach 0); reply = file_replies.Done; before = 0; after = 0 } ∷ []) left_replies = checks 6 (fresh 0 left_script) (record { tree = left_tree; file = (record { session = 0; op = 1; node = 1; call = (on_file.Write 0 0 (97 ∷ [])); reply = file_replies.Done; before = 0; after = 0 } ∷ record { session = 0; op = 0; node = 1; call = (on_file.Attach 0); reply = file_replies.Done; before = 0; after = 0 } ∷ record { session = 0; op = 3; node = 1; call = (on_file.Detach 0); reply = file_replies.Done; before = 0; after = 0 } ∷ []) }) left_replies h in grind arith

pub left_with_two_tree_entries_exchanged : Runs (fresh 0 left_script) (record { tree = (record { session = 0; op = 2; call = (on_tree.Stat (codes "f" ∷ [])); reply = (tree_replies.Info kinds.File 1); before = 0; after = 0 } ∷ record { session = 0; op = 0; call = (on_tree.Create (codes "f" ∷ [])); reply = (tree_replies.Node 1); before = 0; after = 0 } ∷ []); file = left_file }) left_replies → ⊥
left_with_two_tree_entries_exchanged h = let k : Checks (Unit {0}) 6 (fresh 0 left_script) (record { session = 0; op = 2; call = (on_tree.Stat (codes "f" ∷ [])); reply = (tree_replies.Info kinds.File 1); before = 0; after = 0 } ∷ record { session = 0; op = 0; call = (on_tree.Create (codes "f" ∷ [])); reply = (tree_replies.Node 1); before = 0; after = 0 } ∷ []) left_file left_replies = checks 6 (fresh 0 left_script) (record { tree = (record { session = 0; op = 2; call = (on_tree.Stat (codes "f" ∷ [])); reply = (tree_replies.Info kinds.File 1); before = 0; after = 0 } ∷ record { session = 0; op = 0; call = (on_tree.Create (codes "f" ∷ [])); reply = (tree_replies.Node 1); before = 0; after = 0 } ∷ []); file = left_file }) left_replies h in grind arith

pub left_with_the_last_entry_in_the_next_operation : Runs (fresh 0 left_script) (record { tree = left_tree; file = (record { session = 0; op = 0; node = 1; call = (on_file.Attach 0); reply = file_replies.Done; before = 0; after = 0 } ∷ record { session = 0; op = 1; node = 1; call = (on_file.Write 0 0 (97 ∷ [])); reply = file_replies.Done; before = 0; after = 0 } ∷ record { session = 0; op = 4; node = 1; call = (on_file.Detach 0); reply = file_replies.Done; before = 0; after = 0 } ∷ []) }) left_replies → ⊥
left_with_the_last_entry_in_the_next_operation h = let k : Checks (Unit {0}) 6 (fresh 0 left_script) left_tree (record { session = 0; op = 0; node = 1; call = (on_file.Attach 0); reply = file_replies.Done; before = 0; after = 0 } ∷ record { session = 0; op = 1; node = 1; call = (on_file.Write 0 0 (97 ∷ [])); reply = file_replies.Done; before = 0; after = 0 } ∷ record { session = 0; op = 4; node = 1; call = (on_file.Detach 0); reply = file_replies.Done; before = 0; after = 0 } ∷ []) left_replies = checks 6 (fresh 0 left_script) (record { tree = left_tree; file = (record { session = 0; op = 0; node = 1; call = (on_file.Attach 0); reply = file_replies.Done; before = 0; after = 0 } ∷ record { session = 0; op = 1; node = 1; call = (on_file.Write 0 0 (97 ∷ [])); reply = file_replies.Done; before = 0; after = 0 } ∷ record { session = 0; op = 4; node = 1; call = (on_file.Detach 0); reply = file_replies.Done; before = 0; after = 0 } ∷ []) }) left_replies h in grind arith

pub left_with_the_last_entry_twice : Runs (fresh 0 left_script) (record { tree = left_tree; file = (record { session = 0; op = 0; node = 1; call = (on_file.Attach 0); reply = file_replies.Done; before = 0; after = 0 } ∷ record { session = 0; op = 1; node = 1; call = (on_file.Write 0 0 (97 ∷ [])); reply = file_replies.Done; before = 0; after = 0 } ∷ record { session = 0; op = 3; node = 1; call = (on_file.Detach 0); reply = file_replies.Done; before = 0; after = 0 } ∷ record { session = 0; op = 3; node = 1; call = (on_file.Detach 0); reply = file_replies.Done; before = 0; after = 0 } ∷ []) }) left_replies → ⊥
left_with_the_last_entry_twice h = let k : Checks (Unit {0}) 6 (fresh 0 left_script) left_tree (record { session = 0; op = 0; node = 1; call = (on_file.Attach 0); reply = file_replies.Done; before = 0; after = 0 } ∷ record { session = 0; op = 1; node = 1; call = (on_file.Write 0 0 (97 ∷ [])); reply = file_replies.Done; before = 0; after = 0 } ∷ record { session = 0; op = 3; node = 1; call = (on_file.Detach 0); reply = file_replies.Done; before = 0; after = 0 } ∷ record { session = 0; op = 3; node = 1; call = (on_file.Detach 0); reply = file_replies.Done; before = 0; after = 0 } ∷ []) left_replies = checks 6 (fresh 0 left_script) (record { tree = left_tree; file = (record { session = 0; op = 0; node = 1; call = (on_file.Attach 0); reply = file_replies.Done; before = 0; after = 0 } ∷ record { session = 0; op = 1; node = 1; call = (on_file.Write 0 0 (97 ∷ [])); reply = file_replies.Done; before = 0; after = 0 } ∷ record { session = 0; op = 3; node = 1; call = (on_file.Detach 0); reply = file_replies.Done; before = 0; after = 0 } ∷ record { session = 0; op = 3; node = 1; call = (on_file.Detach 0); reply = file_replies.Done; before = 0; after = 0 } ∷ []) }) left_replies h in grind arith

pub left_with_another_session : Runs (fresh 0 left_script) (record { tree = left_tree; file = (record { session = 0; op = 0; node = 1; call = (on_file.Attach 0); reply = file_replies.Done; before = 0; after = 0 } ∷ record { session = 0; op = 1; node = 1; call = (on_file.Write 0 0 (97 ∷ [])); reply = file_replies.Done; before = 0; after = 0 } ∷ record { session = 1; op = 3; node = 1; call = (on_file.Detach 0); reply = file_replies.Done; before = 0; after = 0 } ∷ []) }) left_replies → ⊥
left_with_another_session h = let k : Checks (Unit {0}) 6 (fresh 0 left_script) left_tree (record { session = 0; op = 0; node = 1; call = (on_file.Attach 0); reply = file_replies.Done; before = 0; after = 0 } ∷ record { session = 0; op = 1; node = 1; call = (on_file.Write 0 0 (97 ∷ [])); reply = file_replies.Done; before = 0; after = 0 } ∷ record { session = 1; op = 3; node = 1; call = (on_file.Detach 0); reply = file_replies.Done; before = 0; after = 0 } ∷ []) left_replies = checks 6 (fresh 0 left_script) (record { tree = left_tree; file = (record { session = 0; op = 0; node = 1; call = (on_file.Attach 0); reply = file_replies.Done; before = 0; after = 0 } ∷ record { session = 0; op = 1; node = 1; call = (on_file.Write 0 0 (97 ∷ [])); reply = file_replies.Done; before = 0; after = 0 } ∷ record { session = 1; op = 3; node = 1; call = (on_file.Detach 0); reply = file_replies.Done; before = 0; after = 0 } ∷ []) }) left_replies h in grind arith

pub left_answered_otherwise : Runs (fresh 0 left_script) (record { tree = left_tree; file = (record { session = 0; op = 0; node = 1; call = (on_file.Attach 0); reply = file_replies.TooBig; before = 0; after = 0 } ∷ record { session = 0; op = 1; node = 1; call = (on_file.Write 0 0 (97 ∷ [])); reply = file_replies.Done; before = 0; after = 0 } ∷ record { session = 0; op = 3; node = 1; call = (on_file.Detach 0); reply = file_replies.Done; before = 0; after = 0 } ∷ []) }) left_replies → ⊥
left_answered_otherwise h = let k : Checks (Unit {0}) 6 (fresh 0 left_script) left_tree (record { session = 0; op = 0; node = 1; call = (on_file.Attach 0); reply = file_replies.TooBig; before = 0; after = 0 } ∷ record { session = 0; op = 1; node = 1; call = (on_file.Write 0 0 (97 ∷ [])); reply = file_replies.Done; before = 0; after = 0 } ∷ record { session = 0; op = 3; node = 1; call = (on_file.Detach 0); reply = file_replies.Done; before = 0; after = 0 } ∷ []) left_replies = checks 6 (fresh 0 left_script) (record { tree = left_tree; file = (record { session = 0; op = 0; node = 1; call = (on_file.Attach 0); reply = file_replies.TooBig; before = 0; after = 0 } ∷ record { session = 0; op = 1; node = 1; call = (on_file.Write 0 0 (97 ∷ [])); reply = file_replies.Done; before = 0; after = 0 } ∷ record { session = 0; op = 3; node = 1; call = (on_file.Detach 0); reply = file_replies.Done; before = 0; after = 0 } ∷ []) }) left_replies h in grind arith

pub left_with_another_reply : Runs (fresh 0 left_script) (record { tree = left_tree; file = left_file }) ((replies.Opened 1) ∷ (replies.File file_replies.Done) ∷ (replies.Tree (tree_replies.Info kinds.File 1)) ∷ replies.Slot ∷ []) → ⊥
left_with_another_reply h = let k : Checks (Unit {0}) 6 (fresh 0 left_script) left_tree left_file ((replies.Opened 1) ∷ (replies.File file_replies.Done) ∷ (replies.Tree (tree_replies.Info kinds.File 1)) ∷ replies.Slot ∷ []) = checks 6 (fresh 0 left_script) (record { tree = left_tree; file = left_file }) ((replies.Opened 1) ∷ (replies.File file_replies.Done) ∷ (replies.Tree (tree_replies.Info kinds.File 1)) ∷ replies.Slot ∷ []) h in grind arith

pub left_with_a_reply_left_out : Runs (fresh 0 left_script) (record { tree = left_tree; file = left_file }) ((replies.File file_replies.Done) ∷ (replies.Tree (tree_replies.Info kinds.File 1)) ∷ (replies.File file_replies.Done) ∷ []) → ⊥
left_with_a_reply_left_out h = let k : Checks (Unit {0}) 6 (fresh 0 left_script) left_tree left_file ((replies.File file_replies.Done) ∷ (replies.Tree (tree_replies.Info kinds.File 1)) ∷ (replies.File file_replies.Done) ∷ []) = checks 6 (fresh 0 left_script) (record { tree = left_tree; file = left_file }) ((replies.File file_replies.Done) ∷ (replies.Tree (tree_replies.Info kinds.File 1)) ∷ (replies.File file_replies.Done) ∷ []) h in grind arith

abbrev right_script : List Op
right_script = ((ops.Open 0 (codes "f" ∷ [])) ∷ (ops.Read 0 0 5) ∷ (ops.Rmdir []) ∷ [])

abbrev right_tree : List TreeEntry
right_tree = (record { session = 1; op = 0; call = (on_tree.Resolve (codes "f" ∷ [])); reply = (tree_replies.Node 1); before = 0; after = 0 } ∷ record { session = 1; op = 2; call = (on_tree.Rmdir []); reply = (tree_replies.Refused refusals.IsRoot); before = 0; after = 0 } ∷ [])

abbrev right_file : List FileEntry
right_file = (record { session = 1; op = 0; node = 1; call = (on_file.Attach 0); reply = file_replies.Done; before = 0; after = 0 } ∷ record { session = 1; op = 1; node = 1; call = (on_file.Read 0 0 5); reply = (file_replies.Octets []); before = 0; after = 0 } ∷ record { session = 1; op = 3; node = 1; call = (on_file.Detach 0); reply = file_replies.Done; before = 0; after = 0 } ∷ [])

abbrev right_replies : List Reply
right_replies = ((replies.Opened 1) ∷ (replies.File (file_replies.Octets [])) ∷ (replies.Tree (tree_replies.Refused refusals.IsRoot)) ∷ (replies.File file_replies.Done) ∷ [])

pub right : Runs (fresh 1 right_script) (record { tree = right_tree; file = right_file }) right_replies
right = runs 6 (fresh 1 right_script) right_tree right_file right_replies (inr (record { session = refl; op = refl; call_is = refl }, inr (record { session = refl; op = refl; node_is = refl; call_is = refl }, (refl, inr (record { session = refl; op = refl; node_is = refl; call_is = refl }, (refl, inr (record { session = refl; op = refl; call_is = refl }, (refl, inr (record { session = refl; op = refl; node_is = refl; call_is = refl }, (refl, (tt, tt, tt)))))))))))

pub right_without_the_last_file_entry : Runs (fresh 1 right_script) (record { tree = right_tree; file = (record { session = 1; op = 0; node = 1; call = (on_file.Attach 0); reply = file_replies.Done; before = 0; after = 0 } ∷ record { session = 1; op = 1; node = 1; call = (on_file.Read 0 0 5); reply = (file_replies.Octets []); before = 0; after = 0 } ∷ []) }) right_replies → ⊥
right_without_the_last_file_entry h = let k : Checks (Unit {0}) 6 (fresh 1 right_script) right_tree (record { session = 1; op = 0; node = 1; call = (on_file.Attach 0); reply = file_replies.Done; before = 0; after = 0 } ∷ record { session = 1; op = 1; node = 1; call = (on_file.Read 0 0 5); reply = (file_replies.Octets []); before = 0; after = 0 } ∷ []) right_replies = checks 6 (fresh 1 right_script) (record { tree = right_tree; file = (record { session = 1; op = 0; node = 1; call = (on_file.Attach 0); reply = file_replies.Done; before = 0; after = 0 } ∷ record { session = 1; op = 1; node = 1; call = (on_file.Read 0 0 5); reply = (file_replies.Octets []); before = 0; after = 0 } ∷ []) }) right_replies h in grind arith

pub right_without_the_first_tree_entry : Runs (fresh 1 right_script) (record { tree = (record { session = 1; op = 2; call = (on_tree.Rmdir []); reply = (tree_replies.Refused refusals.IsRoot); before = 0; after = 0 } ∷ []); file = right_file }) right_replies → ⊥
right_without_the_first_tree_entry h = let k : Checks (Unit {0}) 6 (fresh 1 right_script) (record { session = 1; op = 2; call = (on_tree.Rmdir []); reply = (tree_replies.Refused refusals.IsRoot); before = 0; after = 0 } ∷ []) right_file right_replies = checks 6 (fresh 1 right_script) (record { tree = (record { session = 1; op = 2; call = (on_tree.Rmdir []); reply = (tree_replies.Refused refusals.IsRoot); before = 0; after = 0 } ∷ []); file = right_file }) right_replies h in grind arith

pub right_with_two_file_entries_exchanged : Runs (fresh 1 right_script) (record { tree = right_tree; file = (record { session = 1; op = 1; node = 1; call = (on_file.Read 0 0 5); reply = (file_replies.Octets []); before = 0; after = 0 } ∷ record { session = 1; op = 0; node = 1; call = (on_file.Attach 0); reply = file_replies.Done; before = 0; after = 0 } ∷ record { session = 1; op = 3; node = 1; call = (on_file.Detach 0); reply = file_replies.Done; before = 0; after = 0 } ∷ []) }) right_replies → ⊥
right_with_two_file_entries_exchanged h = let k : Checks (Unit {0}) 6 (fresh 1 right_script) right_tree (record { session = 1; op = 1; node = 1; call = (on_file.Read 0 0 5); reply = (file_replies.Octets []); before = 0; after = 0 } ∷ record { session = 1; op = 0; node = 1; call = (on_file.Attach 0); reply = file_replies.Done; before = 0; after = 0 } ∷ record { session = 1; op = 3; node = 1; call = (on_file.Detach 0); reply = file_replies.Done; before = 0; after = 0 } ∷ []) right_replies = checks 6 (fresh 1 right_script) (record { tree = right_tree; file = (record { session = 1; op = 1; node = 1; call = (on_file.Read 0 0 5); reply = (file_replies.Octets []); before = 0; after = 0 } ∷ record { session = 1; op = 0; node = 1; call = (on_file.Attach 0); reply = file_replies.Done; before = 0; after = 0 } ∷ record { session = 1; op = 3; node = 1; call = (on_file.Detach 0); reply = file_replies.Done; before = 0; after = 0 } ∷ []) }) right_replies h in grind arith

pub right_with_two_tree_entries_exchanged : Runs (fresh 1 right_script) (record { tree = (record { session = 1; op = 2; call = (on_tree.Rmdir []); reply = (tree_replies.Refused refusals.IsRoot); before = 0; after = 0 } ∷ record { session = 1; op = 0; call = (on_tree.Resolve (codes "f" ∷ [])); reply = (tree_replies.Node 1); before = 0; after = 0 } ∷ []); file = right_file }) right_replies → ⊥
right_with_two_tree_entries_exchanged h = let k : Checks (Unit {0}) 6 (fresh 1 right_script) (record { session = 1; op = 2; call = (on_tree.Rmdir []); reply = (tree_replies.Refused refusals.IsRoot); before = 0; after = 0 } ∷ record { session = 1; op = 0; call = (on_tree.Resolve (codes "f" ∷ [])); reply = (tree_replies.Node 1); before = 0; after = 0 } ∷ []) right_file right_replies = checks 6 (fresh 1 right_script) (record { tree = (record { session = 1; op = 2; call = (on_tree.Rmdir []); reply = (tree_replies.Refused refusals.IsRoot); before = 0; after = 0 } ∷ record { session = 1; op = 0; call = (on_tree.Resolve (codes "f" ∷ [])); reply = (tree_replies.Node 1); before = 0; after = 0 } ∷ []); file = right_file }) right_replies h in grind arith

pub right_with_the_last_entry_in_the_next_operation : Runs (fresh 1 right_script) (record { tree = right_tree; file = (record { session = 1; op = 0; node = 1; call = (on_file.Attach 0); reply = file_replies.Done; before = 0; after = 0 } ∷ record { session = 1; op = 1; node = 1; call = (on_file.Read 0 0 5); reply = (file_replies.Octets []); before = 0; after = 0 } ∷ record { session = 1; op = 4; node = 1; call = (on_file.Detach 0); reply = file_replies.Done; before = 0; after = 0 } ∷ []) }) right_replies → ⊥
right_with_the_last_entry_in_the_next_operation h = let k : Checks (Unit {0}) 6 (fresh 1 right_script) right_tree (record { session = 1; op = 0; node = 1; call = (on_file.Attach 0); reply = file_replies.Done; before = 0; after = 0 } ∷ record { session = 1; op = 1; node = 1; call = (on_file.Read 0 0 5); reply = (file_replies.Octets []); before = 0; after = 0 } ∷ record { session = 1; op = 4; node = 1; call = (on_file.Detach 0); reply = file_replies.Done; before = 0; after = 0 } ∷ []) right_replies = checks 6 (fresh 1 right_script) (record { tree = right_tree; file = (record { session = 1; op = 0; node = 1; call = (on_file.Attach 0); reply = file_replies.Done; before = 0; after = 0 } ∷ record { session = 1; op = 1; node = 1; call = (on_file.Read 0 0 5); reply = (file_replies.Octets []); before = 0; after = 0 } ∷ record { session = 1; op = 4; node = 1; call = (on_file.Detach 0); reply = file_replies.Done; before = 0; after = 0 } ∷ []) }) right_replies h in grind arith

pub right_with_the_last_entry_twice : Runs (fresh 1 right_script) (record { tree = right_tree; file = (record { session = 1; op = 0; node = 1; call = (on_file.Attach 0); reply = file_replies.Done; before = 0; after = 0 } ∷ record { session = 1; op = 1; node = 1; call = (on_file.Read 0 0 5); reply = (file_replies.Octets []); before = 0; after = 0 } ∷ record { session = 1; op = 3; node = 1; call = (on_file.Detach 0); reply = file_replies.Done; before = 0; after = 0 } ∷ record { session = 1; op = 3; node = 1; call = (on_file.Detach 0); reply = file_replies.Done; before = 0; after = 0 } ∷ []) }) right_replies → ⊥
right_with_the_last_entry_twice h = let k : Checks (Unit {0}) 6 (fresh 1 right_script) right_tree (record { session = 1; op = 0; node = 1; call = (on_file.Attach 0); reply = file_replies.Done; before = 0; after = 0 } ∷ record { session = 1; op = 1; node = 1; call = (on_file.Read 0 0 5); reply = (file_replies.Octets []); before = 0; after = 0 } ∷ record { session = 1; op = 3; node = 1; call = (on_file.Detach 0); reply = file_replies.Done; before = 0; after = 0 } ∷ record { session = 1; op = 3; node = 1; call = (on_file.Detach 0); reply = file_replies.Done; before = 0; after = 0 } ∷ []) right_replies = checks 6 (fresh 1 right_script) (record { tree = right_tree; file = (record { session = 1; op = 0; node = 1; call = (on_file.Attach 0); reply = file_replies.Done; before = 0; after = 0 } ∷ record { session = 1; op = 1; node = 1; call = (on_file.Read 0 0 5); reply = (file_replies.Octets []); before = 0; after = 0 } ∷ record { session = 1; op = 3; node = 1; call = (on_file.Detach 0); reply = file_replies.Done; before = 0; after = 0 } ∷ record { session = 1; op = 3; node = 1; call = (on_file.Detach 0); reply = file_replies.Done; before = 0; after = 0 } ∷ []) }) right_replies h in grind arith

pub right_with_another_session : Runs (fresh 1 right_script) (record { tree = right_tree; file = (record { session = 1; op = 0; node = 1; call = (on_file.Attach 0); reply = file_replies.Done; before = 0; after = 0 } ∷ record { session = 1; op = 1; node = 1; call = (on_file.Read 0 0 5); reply = (file_replies.Octets []); before = 0; after = 0 } ∷ record { session = 2; op = 3; node = 1; call = (on_file.Detach 0); reply = file_replies.Done; before = 0; after = 0 } ∷ []) }) right_replies → ⊥
right_with_another_session h = let k : Checks (Unit {0}) 6 (fresh 1 right_script) right_tree (record { session = 1; op = 0; node = 1; call = (on_file.Attach 0); reply = file_replies.Done; before = 0; after = 0 } ∷ record { session = 1; op = 1; node = 1; call = (on_file.Read 0 0 5); reply = (file_replies.Octets []); before = 0; after = 0 } ∷ record { session = 2; op = 3; node = 1; call = (on_file.Detach 0); reply = file_replies.Done; before = 0; after = 0 } ∷ []) right_replies = checks 6 (fresh 1 right_script) (record { tree = right_tree; file = (record { session = 1; op = 0; node = 1; call = (on_file.Attach 0); reply = file_replies.Done; before = 0; after = 0 } ∷ record { session = 1; op = 1; node = 1; call = (on_file.Read 0 0 5); reply = (file_replies.Octets []); before = 0; after = 0 } ∷ record { session = 2; op = 3; node = 1; call = (on_file.Detach 0); reply = file_replies.Done; before = 0; after = 0 } ∷ []) }) right_replies h in grind arith

pub right_answered_otherwise : Runs (fresh 1 right_script) (record { tree = right_tree; file = (record { session = 1; op = 0; node = 1; call = (on_file.Attach 0); reply = file_replies.TooBig; before = 0; after = 0 } ∷ record { session = 1; op = 1; node = 1; call = (on_file.Read 0 0 5); reply = (file_replies.Octets []); before = 0; after = 0 } ∷ record { session = 1; op = 3; node = 1; call = (on_file.Detach 0); reply = file_replies.Done; before = 0; after = 0 } ∷ []) }) right_replies → ⊥
right_answered_otherwise h = let k : Checks (Unit {0}) 6 (fresh 1 right_script) right_tree (record { session = 1; op = 0; node = 1; call = (on_file.Attach 0); reply = file_replies.TooBig; before = 0; after = 0 } ∷ record { session = 1; op = 1; node = 1; call = (on_file.Read 0 0 5); reply = (file_replies.Octets []); before = 0; after = 0 } ∷ record { session = 1; op = 3; node = 1; call = (on_file.Detach 0); reply = file_replies.Done; before = 0; after = 0 } ∷ []) right_replies = checks 6 (fresh 1 right_script) (record { tree = right_tree; file = (record { session = 1; op = 0; node = 1; call = (on_file.Attach 0); reply = file_replies.TooBig; before = 0; after = 0 } ∷ record { session = 1; op = 1; node = 1; call = (on_file.Read 0 0 5); reply = (file_replies.Octets []); before = 0; after = 0 } ∷ record { session = 1; op = 3; node = 1; call = (on_file.Detach 0); reply = file_replies.Done; before = 0; after = 0 } ∷ []) }) right_replies h in grind arith

pub right_with_another_reply : Runs (fresh 1 right_script) (record { tree = right_tree; file = right_file }) ((replies.Opened 1) ∷ (replies.File (file_replies.Octets [])) ∷ (replies.Tree (tree_replies.Refused refusals.IsRoot)) ∷ replies.Slot ∷ []) → ⊥
right_with_another_reply h = let k : Checks (Unit {0}) 6 (fresh 1 right_script) right_tree right_file ((replies.Opened 1) ∷ (replies.File (file_replies.Octets [])) ∷ (replies.Tree (tree_replies.Refused refusals.IsRoot)) ∷ replies.Slot ∷ []) = checks 6 (fresh 1 right_script) (record { tree = right_tree; file = right_file }) ((replies.Opened 1) ∷ (replies.File (file_replies.Octets [])) ∷ (replies.Tree (tree_replies.Refused refusals.IsRoot)) ∷ replies.Slot ∷ []) h in grind arith

pub right_with_a_reply_left_out : Runs (fresh 1 right_script) (record { tree = right_tree; file = right_file }) ((replies.File (file_replies.Octets [])) ∷ (replies.Tree (tree_replies.Refused refusals.IsRoot)) ∷ (replies.File file_replies.Done) ∷ []) → ⊥
right_with_a_reply_left_out h = let k : Checks (Unit {0}) 6 (fresh 1 right_script) right_tree right_file ((replies.File (file_replies.Octets [])) ∷ (replies.Tree (tree_replies.Refused refusals.IsRoot)) ∷ (replies.File file_replies.Done) ∷ []) = checks 6 (fresh 1 right_script) (record { tree = right_tree; file = right_file }) ((replies.File (file_replies.Octets [])) ∷ (replies.Tree (tree_replies.Refused refusals.IsRoot)) ∷ (replies.File file_replies.Done) ∷ []) h in grind arith

abbrev declined_script : List Op
declined_script = ((ops.Mkdir (codes "d" ∷ [])) ∷ (ops.Rename (record { old = codes "d" ∷ []; new = codes "d" ∷ codes "e" ∷ [] })) ∷ (ops.Create 0 (codes "d" ∷ codes "f" ∷ [])) ∷ (ops.Rmdir (codes "d" ∷ [])) ∷ (ops.Mkdir (codes "d" ∷ codes "f" ∷ codes "g" ∷ [])) ∷ (ops.Create 1 (codes "d" ∷ [])) ∷ (ops.Truncate 0 70000000) ∷ (ops.Close 0) ∷ (ops.Close 0) ∷ [])

abbrev declined_tree : List TreeEntry
declined_tree = (record { session = 0; op = 0; call = (on_tree.Mkdir (codes "d" ∷ [])); reply = tree_replies.Done; before = 0; after = 0 } ∷ record { session = 0; op = 1; call = (on_tree.Rename (record { old = codes "d" ∷ []; new = codes "d" ∷ codes "e" ∷ [] })); reply = (tree_replies.Refused refusals.Inside); before = 0; after = 0 } ∷ record { session = 0; op = 2; call = (on_tree.Create (codes "d" ∷ codes "f" ∷ [])); reply = (tree_replies.Node 2); before = 0; after = 0 } ∷ record { session = 0; op = 3; call = (on_tree.Rmdir (codes "d" ∷ [])); reply = (tree_replies.Refused refusals.NotEmpty); before = 0; after = 0 } ∷ record { session = 0; op = 4; call = (on_tree.Mkdir (codes "d" ∷ codes "f" ∷ codes "g" ∷ [])); reply = (tree_replies.Refused refusals.NotDir); before = 0; after = 0 } ∷ record { session = 0; op = 5; call = (on_tree.Create (codes "d" ∷ [])); reply = (tree_replies.Refused refusals.Exists); before = 0; after = 0 } ∷ [])

abbrev declined_file : List FileEntry
declined_file = (record { session = 0; op = 2; node = 2; call = (on_file.Attach 0); reply = file_replies.Done; before = 0; after = 0 } ∷ record { session = 0; op = 6; node = 2; call = (on_file.Truncate 0 70000000); reply = file_replies.TooBig; before = 0; after = 0 } ∷ record { session = 0; op = 7; node = 2; call = (on_file.Detach 0); reply = file_replies.Done; before = 0; after = 0 } ∷ [])

abbrev declined_replies : List Reply
declined_replies = ((replies.Tree tree_replies.Done) ∷ (replies.Tree (tree_replies.Refused refusals.Inside)) ∷ (replies.Opened 2) ∷ (replies.Tree (tree_replies.Refused refusals.NotEmpty)) ∷ (replies.Tree (tree_replies.Refused refusals.NotDir)) ∷ (replies.Tree (tree_replies.Refused refusals.Exists)) ∷ (replies.File file_replies.TooBig) ∷ (replies.File file_replies.Done) ∷ replies.Handle ∷ [])

pub declined : Runs (fresh 0 declined_script) (record { tree = declined_tree; file = declined_file }) declined_replies
declined = runs 11 (fresh 0 declined_script) declined_tree declined_file declined_replies (inr (record { session = refl; op = refl; call_is = refl }, (refl, inr (record { session = refl; op = refl; call_is = refl }, (refl, inr (record { session = refl; op = refl; call_is = refl }, inr (record { session = refl; op = refl; node_is = refl; call_is = refl }, (refl, inr (record { session = refl; op = refl; call_is = refl }, (refl, inr (record { session = refl; op = refl; call_is = refl }, (refl, inr (record { session = refl; op = refl; call_is = refl }, (refl, inr (record { session = refl; op = refl; node_is = refl; call_is = refl }, (refl, inr (record { session = refl; op = refl; node_is = refl; call_is = refl }, (refl, (refl, (tt, tt, tt))))))))))))))))))))

pub declined_without_the_last_file_entry : Runs (fresh 0 declined_script) (record { tree = declined_tree; file = (record { session = 0; op = 2; node = 2; call = (on_file.Attach 0); reply = file_replies.Done; before = 0; after = 0 } ∷ record { session = 0; op = 6; node = 2; call = (on_file.Truncate 0 70000000); reply = file_replies.TooBig; before = 0; after = 0 } ∷ []) }) declined_replies → ⊥
declined_without_the_last_file_entry h = let k : Checks (Unit {0}) 11 (fresh 0 declined_script) declined_tree (record { session = 0; op = 2; node = 2; call = (on_file.Attach 0); reply = file_replies.Done; before = 0; after = 0 } ∷ record { session = 0; op = 6; node = 2; call = (on_file.Truncate 0 70000000); reply = file_replies.TooBig; before = 0; after = 0 } ∷ []) declined_replies = checks 11 (fresh 0 declined_script) (record { tree = declined_tree; file = (record { session = 0; op = 2; node = 2; call = (on_file.Attach 0); reply = file_replies.Done; before = 0; after = 0 } ∷ record { session = 0; op = 6; node = 2; call = (on_file.Truncate 0 70000000); reply = file_replies.TooBig; before = 0; after = 0 } ∷ []) }) declined_replies h in grind arith

pub declined_without_the_first_tree_entry : Runs (fresh 0 declined_script) (record { tree = (record { session = 0; op = 1; call = (on_tree.Rename (record { old = codes "d" ∷ []; new = codes "d" ∷ codes "e" ∷ [] })); reply = (tree_replies.Refused refusals.Inside); before = 0; after = 0 } ∷ record { session = 0; op = 2; call = (on_tree.Create (codes "d" ∷ codes "f" ∷ [])); reply = (tree_replies.Node 2); before = 0; after = 0 } ∷ record { session = 0; op = 3; call = (on_tree.Rmdir (codes "d" ∷ [])); reply = (tree_replies.Refused refusals.NotEmpty); before = 0; after = 0 } ∷ record { session = 0; op = 4; call = (on_tree.Mkdir (codes "d" ∷ codes "f" ∷ codes "g" ∷ [])); reply = (tree_replies.Refused refusals.NotDir); before = 0; after = 0 } ∷ record { session = 0; op = 5; call = (on_tree.Create (codes "d" ∷ [])); reply = (tree_replies.Refused refusals.Exists); before = 0; after = 0 } ∷ []); file = declined_file }) declined_replies → ⊥
declined_without_the_first_tree_entry h = let k : Checks (Unit {0}) 11 (fresh 0 declined_script) (record { session = 0; op = 1; call = (on_tree.Rename (record { old = codes "d" ∷ []; new = codes "d" ∷ codes "e" ∷ [] })); reply = (tree_replies.Refused refusals.Inside); before = 0; after = 0 } ∷ record { session = 0; op = 2; call = (on_tree.Create (codes "d" ∷ codes "f" ∷ [])); reply = (tree_replies.Node 2); before = 0; after = 0 } ∷ record { session = 0; op = 3; call = (on_tree.Rmdir (codes "d" ∷ [])); reply = (tree_replies.Refused refusals.NotEmpty); before = 0; after = 0 } ∷ record { session = 0; op = 4; call = (on_tree.Mkdir (codes "d" ∷ codes "f" ∷ codes "g" ∷ [])); reply = (tree_replies.Refused refusals.NotDir); before = 0; after = 0 } ∷ record { session = 0; op = 5; call = (on_tree.Create (codes "d" ∷ [])); reply = (tree_replies.Refused refusals.Exists); before = 0; after = 0 } ∷ []) declined_file declined_replies = checks 11 (fresh 0 declined_script) (record { tree = (record { session = 0; op = 1; call = (on_tree.Rename (record { old = codes "d" ∷ []; new = codes "d" ∷ codes "e" ∷ [] })); reply = (tree_replies.Refused refusals.Inside); before = 0; after = 0 } ∷ record { session = 0; op = 2; call = (on_tree.Create (codes "d" ∷ codes "f" ∷ [])); reply = (tree_replies.Node 2); before = 0; after = 0 } ∷ record { session = 0; op = 3; call = (on_tree.Rmdir (codes "d" ∷ [])); reply = (tree_replies.Refused refusals.NotEmpty); before = 0; after = 0 } ∷ record { session = 0; op = 4; call = (on_tree.Mkdir (codes "d" ∷ codes "f" ∷ codes "g" ∷ [])); reply = (tree_replies.Refused refusals.NotDir); before = 0; after = 0 } ∷ record { session = 0; op = 5; call = (on_tree.Create (codes "d" ∷ [])); reply = (tree_replies.Refused refusals.Exists); before = 0; after = 0 } ∷ []); file = declined_file }) declined_replies h in grind arith

pub declined_with_two_file_entries_exchanged : Runs (fresh 0 declined_script) (record { tree = declined_tree; file = (record { session = 0; op = 6; node = 2; call = (on_file.Truncate 0 70000000); reply = file_replies.TooBig; before = 0; after = 0 } ∷ record { session = 0; op = 2; node = 2; call = (on_file.Attach 0); reply = file_replies.Done; before = 0; after = 0 } ∷ record { session = 0; op = 7; node = 2; call = (on_file.Detach 0); reply = file_replies.Done; before = 0; after = 0 } ∷ []) }) declined_replies → ⊥
declined_with_two_file_entries_exchanged h = let k : Checks (Unit {0}) 11 (fresh 0 declined_script) declined_tree (record { session = 0; op = 6; node = 2; call = (on_file.Truncate 0 70000000); reply = file_replies.TooBig; before = 0; after = 0 } ∷ record { session = 0; op = 2; node = 2; call = (on_file.Attach 0); reply = file_replies.Done; before = 0; after = 0 } ∷ record { session = 0; op = 7; node = 2; call = (on_file.Detach 0); reply = file_replies.Done; before = 0; after = 0 } ∷ []) declined_replies = checks 11 (fresh 0 declined_script) (record { tree = declined_tree; file = (record { session = 0; op = 6; node = 2; call = (on_file.Truncate 0 70000000); reply = file_replies.TooBig; before = 0; after = 0 } ∷ record { session = 0; op = 2; node = 2; call = (on_file.Attach 0); reply = file_replies.Done; before = 0; after = 0 } ∷ record { session = 0; op = 7; node = 2; call = (on_file.Detach 0); reply = file_replies.Done; before = 0; after = 0 } ∷ []) }) declined_replies h in grind arith

pub declined_with_two_tree_entries_exchanged : Runs (fresh 0 declined_script) (record { tree = (record { session = 0; op = 1; call = (on_tree.Rename (record { old = codes "d" ∷ []; new = codes "d" ∷ codes "e" ∷ [] })); reply = (tree_replies.Refused refusals.Inside); before = 0; after = 0 } ∷ record { session = 0; op = 0; call = (on_tree.Mkdir (codes "d" ∷ [])); reply = tree_replies.Done; before = 0; after = 0 } ∷ record { session = 0; op = 2; call = (on_tree.Create (codes "d" ∷ codes "f" ∷ [])); reply = (tree_replies.Node 2); before = 0; after = 0 } ∷ record { session = 0; op = 3; call = (on_tree.Rmdir (codes "d" ∷ [])); reply = (tree_replies.Refused refusals.NotEmpty); before = 0; after = 0 } ∷ record { session = 0; op = 4; call = (on_tree.Mkdir (codes "d" ∷ codes "f" ∷ codes "g" ∷ [])); reply = (tree_replies.Refused refusals.NotDir); before = 0; after = 0 } ∷ record { session = 0; op = 5; call = (on_tree.Create (codes "d" ∷ [])); reply = (tree_replies.Refused refusals.Exists); before = 0; after = 0 } ∷ []); file = declined_file }) declined_replies → ⊥
declined_with_two_tree_entries_exchanged h = let k : Checks (Unit {0}) 11 (fresh 0 declined_script) (record { session = 0; op = 1; call = (on_tree.Rename (record { old = codes "d" ∷ []; new = codes "d" ∷ codes "e" ∷ [] })); reply = (tree_replies.Refused refusals.Inside); before = 0; after = 0 } ∷ record { session = 0; op = 0; call = (on_tree.Mkdir (codes "d" ∷ [])); reply = tree_replies.Done; before = 0; after = 0 } ∷ record { session = 0; op = 2; call = (on_tree.Create (codes "d" ∷ codes "f" ∷ [])); reply = (tree_replies.Node 2); before = 0; after = 0 } ∷ record { session = 0; op = 3; call = (on_tree.Rmdir (codes "d" ∷ [])); reply = (tree_replies.Refused refusals.NotEmpty); before = 0; after = 0 } ∷ record { session = 0; op = 4; call = (on_tree.Mkdir (codes "d" ∷ codes "f" ∷ codes "g" ∷ [])); reply = (tree_replies.Refused refusals.NotDir); before = 0; after = 0 } ∷ record { session = 0; op = 5; call = (on_tree.Create (codes "d" ∷ [])); reply = (tree_replies.Refused refusals.Exists); before = 0; after = 0 } ∷ []) declined_file declined_replies = checks 11 (fresh 0 declined_script) (record { tree = (record { session = 0; op = 1; call = (on_tree.Rename (record { old = codes "d" ∷ []; new = codes "d" ∷ codes "e" ∷ [] })); reply = (tree_replies.Refused refusals.Inside); before = 0; after = 0 } ∷ record { session = 0; op = 0; call = (on_tree.Mkdir (codes "d" ∷ [])); reply = tree_replies.Done; before = 0; after = 0 } ∷ record { session = 0; op = 2; call = (on_tree.Create (codes "d" ∷ codes "f" ∷ [])); reply = (tree_replies.Node 2); before = 0; after = 0 } ∷ record { session = 0; op = 3; call = (on_tree.Rmdir (codes "d" ∷ [])); reply = (tree_replies.Refused refusals.NotEmpty); before = 0; after = 0 } ∷ record { session = 0; op = 4; call = (on_tree.Mkdir (codes "d" ∷ codes "f" ∷ codes "g" ∷ [])); reply = (tree_replies.Refused refusals.NotDir); before = 0; after = 0 } ∷ record { session = 0; op = 5; call = (on_tree.Create (codes "d" ∷ [])); reply = (tree_replies.Refused refusals.Exists); before = 0; after = 0 } ∷ []); file = declined_file }) declined_replies h in grind arith

pub declined_with_the_last_entry_in_the_next_operation : Runs (fresh 0 declined_script) (record { tree = declined_tree; file = (record { session = 0; op = 2; node = 2; call = (on_file.Attach 0); reply = file_replies.Done; before = 0; after = 0 } ∷ record { session = 0; op = 6; node = 2; call = (on_file.Truncate 0 70000000); reply = file_replies.TooBig; before = 0; after = 0 } ∷ record { session = 0; op = 8; node = 2; call = (on_file.Detach 0); reply = file_replies.Done; before = 0; after = 0 } ∷ []) }) declined_replies → ⊥
declined_with_the_last_entry_in_the_next_operation h = let k : Checks (Unit {0}) 11 (fresh 0 declined_script) declined_tree (record { session = 0; op = 2; node = 2; call = (on_file.Attach 0); reply = file_replies.Done; before = 0; after = 0 } ∷ record { session = 0; op = 6; node = 2; call = (on_file.Truncate 0 70000000); reply = file_replies.TooBig; before = 0; after = 0 } ∷ record { session = 0; op = 8; node = 2; call = (on_file.Detach 0); reply = file_replies.Done; before = 0; after = 0 } ∷ []) declined_replies = checks 11 (fresh 0 declined_script) (record { tree = declined_tree; file = (record { session = 0; op = 2; node = 2; call = (on_file.Attach 0); reply = file_replies.Done; before = 0; after = 0 } ∷ record { session = 0; op = 6; node = 2; call = (on_file.Truncate 0 70000000); reply = file_replies.TooBig; before = 0; after = 0 } ∷ record { session = 0; op = 8; node = 2; call = (on_file.Detach 0); reply = file_replies.Done; before = 0; after = 0 } ∷ []) }) declined_replies h in grind arith

pub declined_with_the_last_entry_twice : Runs (fresh 0 declined_script) (record { tree = declined_tree; file = (record { session = 0; op = 2; node = 2; call = (on_file.Attach 0); reply = file_replies.Done; before = 0; after = 0 } ∷ record { session = 0; op = 6; node = 2; call = (on_file.Truncate 0 70000000); reply = file_replies.TooBig; before = 0; after = 0 } ∷ record { session = 0; op = 7; node = 2; call = (on_file.Detach 0); reply = file_replies.Done; before = 0; after = 0 } ∷ record { session = 0; op = 7; node = 2; call = (on_file.Detach 0); reply = file_replies.Done; before = 0; after = 0 } ∷ []) }) declined_replies → ⊥
declined_with_the_last_entry_twice h = let k : Checks (Unit {0}) 11 (fresh 0 declined_script) declined_tree (record { session = 0; op = 2; node = 2; call = (on_file.Attach 0); reply = file_replies.Done; before = 0; after = 0 } ∷ record { session = 0; op = 6; node = 2; call = (on_file.Truncate 0 70000000); reply = file_replies.TooBig; before = 0; after = 0 } ∷ record { session = 0; op = 7; node = 2; call = (on_file.Detach 0); reply = file_replies.Done; before = 0; after = 0 } ∷ record { session = 0; op = 7; node = 2; call = (on_file.Detach 0); reply = file_replies.Done; before = 0; after = 0 } ∷ []) declined_replies = checks 11 (fresh 0 declined_script) (record { tree = declined_tree; file = (record { session = 0; op = 2; node = 2; call = (on_file.Attach 0); reply = file_replies.Done; before = 0; after = 0 } ∷ record { session = 0; op = 6; node = 2; call = (on_file.Truncate 0 70000000); reply = file_replies.TooBig; before = 0; after = 0 } ∷ record { session = 0; op = 7; node = 2; call = (on_file.Detach 0); reply = file_replies.Done; before = 0; after = 0 } ∷ record { session = 0; op = 7; node = 2; call = (on_file.Detach 0); reply = file_replies.Done; before = 0; after = 0 } ∷ []) }) declined_replies h in grind arith

pub declined_with_another_session : Runs (fresh 0 declined_script) (record { tree = declined_tree; file = (record { session = 0; op = 2; node = 2; call = (on_file.Attach 0); reply = file_replies.Done; before = 0; after = 0 } ∷ record { session = 0; op = 6; node = 2; call = (on_file.Truncate 0 70000000); reply = file_replies.TooBig; before = 0; after = 0 } ∷ record { session = 1; op = 7; node = 2; call = (on_file.Detach 0); reply = file_replies.Done; before = 0; after = 0 } ∷ []) }) declined_replies → ⊥
declined_with_another_session h = let k : Checks (Unit {0}) 11 (fresh 0 declined_script) declined_tree (record { session = 0; op = 2; node = 2; call = (on_file.Attach 0); reply = file_replies.Done; before = 0; after = 0 } ∷ record { session = 0; op = 6; node = 2; call = (on_file.Truncate 0 70000000); reply = file_replies.TooBig; before = 0; after = 0 } ∷ record { session = 1; op = 7; node = 2; call = (on_file.Detach 0); reply = file_replies.Done; before = 0; after = 0 } ∷ []) declined_replies = checks 11 (fresh 0 declined_script) (record { tree = declined_tree; file = (record { session = 0; op = 2; node = 2; call = (on_file.Attach 0); reply = file_replies.Done; before = 0; after = 0 } ∷ record { session = 0; op = 6; node = 2; call = (on_file.Truncate 0 70000000); reply = file_replies.TooBig; before = 0; after = 0 } ∷ record { session = 1; op = 7; node = 2; call = (on_file.Detach 0); reply = file_replies.Done; before = 0; after = 0 } ∷ []) }) declined_replies h in grind arith

pub declined_answered_otherwise : Runs (fresh 0 declined_script) (record { tree = declined_tree; file = (record { session = 0; op = 2; node = 2; call = (on_file.Attach 0); reply = file_replies.TooBig; before = 0; after = 0 } ∷ record { session = 0; op = 6; node = 2; call = (on_file.Truncate 0 70000000); reply = file_replies.TooBig; before = 0; after = 0 } ∷ record { session = 0; op = 7; node = 2; call = (on_file.Detach 0); reply = file_replies.Done; before = 0; after = 0 } ∷ []) }) declined_replies → ⊥
declined_answered_otherwise h = let k : Checks (Unit {0}) 11 (fresh 0 declined_script) declined_tree (record { session = 0; op = 2; node = 2; call = (on_file.Attach 0); reply = file_replies.TooBig; before = 0; after = 0 } ∷ record { session = 0; op = 6; node = 2; call = (on_file.Truncate 0 70000000); reply = file_replies.TooBig; before = 0; after = 0 } ∷ record { session = 0; op = 7; node = 2; call = (on_file.Detach 0); reply = file_replies.Done; before = 0; after = 0 } ∷ []) declined_replies = checks 11 (fresh 0 declined_script) (record { tree = declined_tree; file = (record { session = 0; op = 2; node = 2; call = (on_file.Attach 0); reply = file_replies.TooBig; before = 0; after = 0 } ∷ record { session = 0; op = 6; node = 2; call = (on_file.Truncate 0 70000000); reply = file_replies.TooBig; before = 0; after = 0 } ∷ record { session = 0; op = 7; node = 2; call = (on_file.Detach 0); reply = file_replies.Done; before = 0; after = 0 } ∷ []) }) declined_replies h in grind arith

pub declined_with_another_reply : Runs (fresh 0 declined_script) (record { tree = declined_tree; file = declined_file }) ((replies.Tree tree_replies.Done) ∷ (replies.Tree (tree_replies.Refused refusals.Inside)) ∷ (replies.Opened 2) ∷ (replies.Tree (tree_replies.Refused refusals.NotEmpty)) ∷ (replies.Tree (tree_replies.Refused refusals.NotDir)) ∷ (replies.Tree (tree_replies.Refused refusals.Exists)) ∷ (replies.File file_replies.TooBig) ∷ (replies.File file_replies.Done) ∷ replies.Slot ∷ []) → ⊥
declined_with_another_reply h = let k : Checks (Unit {0}) 11 (fresh 0 declined_script) declined_tree declined_file ((replies.Tree tree_replies.Done) ∷ (replies.Tree (tree_replies.Refused refusals.Inside)) ∷ (replies.Opened 2) ∷ (replies.Tree (tree_replies.Refused refusals.NotEmpty)) ∷ (replies.Tree (tree_replies.Refused refusals.NotDir)) ∷ (replies.Tree (tree_replies.Refused refusals.Exists)) ∷ (replies.File file_replies.TooBig) ∷ (replies.File file_replies.Done) ∷ replies.Slot ∷ []) = checks 11 (fresh 0 declined_script) (record { tree = declined_tree; file = declined_file }) ((replies.Tree tree_replies.Done) ∷ (replies.Tree (tree_replies.Refused refusals.Inside)) ∷ (replies.Opened 2) ∷ (replies.Tree (tree_replies.Refused refusals.NotEmpty)) ∷ (replies.Tree (tree_replies.Refused refusals.NotDir)) ∷ (replies.Tree (tree_replies.Refused refusals.Exists)) ∷ (replies.File file_replies.TooBig) ∷ (replies.File file_replies.Done) ∷ replies.Slot ∷ []) h in grind arith

pub declined_with_a_reply_left_out : Runs (fresh 0 declined_script) (record { tree = declined_tree; file = declined_file }) ((replies.Tree (tree_replies.Refused refusals.Inside)) ∷ (replies.Opened 2) ∷ (replies.Tree (tree_replies.Refused refusals.NotEmpty)) ∷ (replies.Tree (tree_replies.Refused refusals.NotDir)) ∷ (replies.Tree (tree_replies.Refused refusals.Exists)) ∷ (replies.File file_replies.TooBig) ∷ (replies.File file_replies.Done) ∷ replies.Handle ∷ []) → ⊥
declined_with_a_reply_left_out h = let k : Checks (Unit {0}) 11 (fresh 0 declined_script) declined_tree declined_file ((replies.Tree (tree_replies.Refused refusals.Inside)) ∷ (replies.Opened 2) ∷ (replies.Tree (tree_replies.Refused refusals.NotEmpty)) ∷ (replies.Tree (tree_replies.Refused refusals.NotDir)) ∷ (replies.Tree (tree_replies.Refused refusals.Exists)) ∷ (replies.File file_replies.TooBig) ∷ (replies.File file_replies.Done) ∷ replies.Handle ∷ []) = checks 11 (fresh 0 declined_script) (record { tree = declined_tree; file = declined_file }) ((replies.Tree (tree_replies.Refused refusals.Inside)) ∷ (replies.Opened 2) ∷ (replies.Tree (tree_replies.Refused refusals.NotEmpty)) ∷ (replies.Tree (tree_replies.Refused refusals.NotDir)) ∷ (replies.Tree (tree_replies.Refused refusals.Exists)) ∷ (replies.File file_replies.TooBig) ∷ (replies.File file_replies.Done) ∷ replies.Handle ∷ []) h in grind arith

abbrev lacking_script : List Op
lacking_script = ((ops.Create 0 (codes "f" ∷ [])) ∷ (ops.Size 0) ∷ (ops.Create 0 (codes "g" ∷ [])) ∷ (ops.Mkdir (codes "d" ∷ [])) ∷ (ops.Sync 0) ∷ (ops.Open 1 (codes "g" ∷ [])) ∷ [])

abbrev lacking_tree : List TreeEntry
lacking_tree = (record { session = 0; op = 0; call = (on_tree.Create (codes "f" ∷ [])); reply = (tree_replies.Node 1); before = 0; after = 0 } ∷ record { session = 0; op = 2; call = (on_tree.Create (codes "g" ∷ [])); reply = (tree_replies.Node 2); before = 0; after = 0 } ∷ record { session = 0; op = 5; call = (on_tree.Resolve (codes "g" ∷ [])); reply = tree_replies.Memory; before = 0; after = 0 } ∷ [])

abbrev lacking_file : List FileEntry
lacking_file = (record { session = 0; op = 2; node = 2; call = (on_file.Attach 0); reply = file_replies.Done; before = 0; after = 0 } ∷ record { session = 0; op = 6; node = 2; call = (on_file.Detach 0); reply = file_replies.Done; before = 0; after = 0 } ∷ [])

abbrev lacking_replies : List Reply
lacking_replies = (replies.Memory ∷ replies.Handle ∷ (replies.Opened 2) ∷ replies.Memory ∷ replies.Memory ∷ (replies.Tree tree_replies.Memory) ∷ (replies.File file_replies.Done) ∷ [])

pub lacking : Runs (fresh 0 lacking_script) (record { tree = lacking_tree; file = lacking_file }) lacking_replies
lacking = runs 10 (fresh 0 lacking_script) lacking_tree lacking_file lacking_replies (inr (record { session = refl; op = refl; call_is = refl }, inl (refl, (refl, (refl, inr (record { session = refl; op = refl; call_is = refl }, inr (record { session = refl; op = refl; node_is = refl; call_is = refl }, (refl, inl (refl, inl (refl, (refl, inr (record { session = refl; op = refl; call_is = refl }, (refl, inr (record { session = refl; op = refl; node_is = refl; call_is = refl }, (refl, (tt, tt, tt))))))))))))))))

pub lacking_without_the_last_file_entry : Runs (fresh 0 lacking_script) (record { tree = lacking_tree; file = (record { session = 0; op = 2; node = 2; call = (on_file.Attach 0); reply = file_replies.Done; before = 0; after = 0 } ∷ []) }) lacking_replies → ⊥
lacking_without_the_last_file_entry h = let k : Checks (Unit {0}) 10 (fresh 0 lacking_script) lacking_tree (record { session = 0; op = 2; node = 2; call = (on_file.Attach 0); reply = file_replies.Done; before = 0; after = 0 } ∷ []) lacking_replies = checks 10 (fresh 0 lacking_script) (record { tree = lacking_tree; file = (record { session = 0; op = 2; node = 2; call = (on_file.Attach 0); reply = file_replies.Done; before = 0; after = 0 } ∷ []) }) lacking_replies h in grind arith

pub lacking_with_two_file_entries_exchanged : Runs (fresh 0 lacking_script) (record { tree = lacking_tree; file = (record { session = 0; op = 6; node = 2; call = (on_file.Detach 0); reply = file_replies.Done; before = 0; after = 0 } ∷ record { session = 0; op = 2; node = 2; call = (on_file.Attach 0); reply = file_replies.Done; before = 0; after = 0 } ∷ []) }) lacking_replies → ⊥
lacking_with_two_file_entries_exchanged h = let k : Checks (Unit {0}) 10 (fresh 0 lacking_script) lacking_tree (record { session = 0; op = 6; node = 2; call = (on_file.Detach 0); reply = file_replies.Done; before = 0; after = 0 } ∷ record { session = 0; op = 2; node = 2; call = (on_file.Attach 0); reply = file_replies.Done; before = 0; after = 0 } ∷ []) lacking_replies = checks 10 (fresh 0 lacking_script) (record { tree = lacking_tree; file = (record { session = 0; op = 6; node = 2; call = (on_file.Detach 0); reply = file_replies.Done; before = 0; after = 0 } ∷ record { session = 0; op = 2; node = 2; call = (on_file.Attach 0); reply = file_replies.Done; before = 0; after = 0 } ∷ []) }) lacking_replies h in grind arith

pub lacking_with_two_tree_entries_exchanged : Runs (fresh 0 lacking_script) (record { tree = (record { session = 0; op = 2; call = (on_tree.Create (codes "g" ∷ [])); reply = (tree_replies.Node 2); before = 0; after = 0 } ∷ record { session = 0; op = 0; call = (on_tree.Create (codes "f" ∷ [])); reply = (tree_replies.Node 1); before = 0; after = 0 } ∷ record { session = 0; op = 5; call = (on_tree.Resolve (codes "g" ∷ [])); reply = tree_replies.Memory; before = 0; after = 0 } ∷ []); file = lacking_file }) lacking_replies → ⊥
lacking_with_two_tree_entries_exchanged h = let k : Checks (Unit {0}) 10 (fresh 0 lacking_script) (record { session = 0; op = 2; call = (on_tree.Create (codes "g" ∷ [])); reply = (tree_replies.Node 2); before = 0; after = 0 } ∷ record { session = 0; op = 0; call = (on_tree.Create (codes "f" ∷ [])); reply = (tree_replies.Node 1); before = 0; after = 0 } ∷ record { session = 0; op = 5; call = (on_tree.Resolve (codes "g" ∷ [])); reply = tree_replies.Memory; before = 0; after = 0 } ∷ []) lacking_file lacking_replies = checks 10 (fresh 0 lacking_script) (record { tree = (record { session = 0; op = 2; call = (on_tree.Create (codes "g" ∷ [])); reply = (tree_replies.Node 2); before = 0; after = 0 } ∷ record { session = 0; op = 0; call = (on_tree.Create (codes "f" ∷ [])); reply = (tree_replies.Node 1); before = 0; after = 0 } ∷ record { session = 0; op = 5; call = (on_tree.Resolve (codes "g" ∷ [])); reply = tree_replies.Memory; before = 0; after = 0 } ∷ []); file = lacking_file }) lacking_replies h in grind arith

pub lacking_with_the_last_entry_in_the_next_operation : Runs (fresh 0 lacking_script) (record { tree = lacking_tree; file = (record { session = 0; op = 2; node = 2; call = (on_file.Attach 0); reply = file_replies.Done; before = 0; after = 0 } ∷ record { session = 0; op = 7; node = 2; call = (on_file.Detach 0); reply = file_replies.Done; before = 0; after = 0 } ∷ []) }) lacking_replies → ⊥
lacking_with_the_last_entry_in_the_next_operation h = let k : Checks (Unit {0}) 10 (fresh 0 lacking_script) lacking_tree (record { session = 0; op = 2; node = 2; call = (on_file.Attach 0); reply = file_replies.Done; before = 0; after = 0 } ∷ record { session = 0; op = 7; node = 2; call = (on_file.Detach 0); reply = file_replies.Done; before = 0; after = 0 } ∷ []) lacking_replies = checks 10 (fresh 0 lacking_script) (record { tree = lacking_tree; file = (record { session = 0; op = 2; node = 2; call = (on_file.Attach 0); reply = file_replies.Done; before = 0; after = 0 } ∷ record { session = 0; op = 7; node = 2; call = (on_file.Detach 0); reply = file_replies.Done; before = 0; after = 0 } ∷ []) }) lacking_replies h in grind arith

pub lacking_with_the_last_entry_twice : Runs (fresh 0 lacking_script) (record { tree = lacking_tree; file = (record { session = 0; op = 2; node = 2; call = (on_file.Attach 0); reply = file_replies.Done; before = 0; after = 0 } ∷ record { session = 0; op = 6; node = 2; call = (on_file.Detach 0); reply = file_replies.Done; before = 0; after = 0 } ∷ record { session = 0; op = 6; node = 2; call = (on_file.Detach 0); reply = file_replies.Done; before = 0; after = 0 } ∷ []) }) lacking_replies → ⊥
lacking_with_the_last_entry_twice h = let k : Checks (Unit {0}) 10 (fresh 0 lacking_script) lacking_tree (record { session = 0; op = 2; node = 2; call = (on_file.Attach 0); reply = file_replies.Done; before = 0; after = 0 } ∷ record { session = 0; op = 6; node = 2; call = (on_file.Detach 0); reply = file_replies.Done; before = 0; after = 0 } ∷ record { session = 0; op = 6; node = 2; call = (on_file.Detach 0); reply = file_replies.Done; before = 0; after = 0 } ∷ []) lacking_replies = checks 10 (fresh 0 lacking_script) (record { tree = lacking_tree; file = (record { session = 0; op = 2; node = 2; call = (on_file.Attach 0); reply = file_replies.Done; before = 0; after = 0 } ∷ record { session = 0; op = 6; node = 2; call = (on_file.Detach 0); reply = file_replies.Done; before = 0; after = 0 } ∷ record { session = 0; op = 6; node = 2; call = (on_file.Detach 0); reply = file_replies.Done; before = 0; after = 0 } ∷ []) }) lacking_replies h in grind arith

pub lacking_with_another_session : Runs (fresh 0 lacking_script) (record { tree = lacking_tree; file = (record { session = 0; op = 2; node = 2; call = (on_file.Attach 0); reply = file_replies.Done; before = 0; after = 0 } ∷ record { session = 1; op = 6; node = 2; call = (on_file.Detach 0); reply = file_replies.Done; before = 0; after = 0 } ∷ []) }) lacking_replies → ⊥
lacking_with_another_session h = let k : Checks (Unit {0}) 10 (fresh 0 lacking_script) lacking_tree (record { session = 0; op = 2; node = 2; call = (on_file.Attach 0); reply = file_replies.Done; before = 0; after = 0 } ∷ record { session = 1; op = 6; node = 2; call = (on_file.Detach 0); reply = file_replies.Done; before = 0; after = 0 } ∷ []) lacking_replies = checks 10 (fresh 0 lacking_script) (record { tree = lacking_tree; file = (record { session = 0; op = 2; node = 2; call = (on_file.Attach 0); reply = file_replies.Done; before = 0; after = 0 } ∷ record { session = 1; op = 6; node = 2; call = (on_file.Detach 0); reply = file_replies.Done; before = 0; after = 0 } ∷ []) }) lacking_replies h in grind arith

pub lacking_answered_otherwise : Runs (fresh 0 lacking_script) (record { tree = lacking_tree; file = (record { session = 0; op = 2; node = 2; call = (on_file.Attach 0); reply = file_replies.TooBig; before = 0; after = 0 } ∷ record { session = 0; op = 6; node = 2; call = (on_file.Detach 0); reply = file_replies.Done; before = 0; after = 0 } ∷ []) }) lacking_replies → ⊥
lacking_answered_otherwise h = let k : Checks (Unit {0}) 10 (fresh 0 lacking_script) lacking_tree (record { session = 0; op = 2; node = 2; call = (on_file.Attach 0); reply = file_replies.TooBig; before = 0; after = 0 } ∷ record { session = 0; op = 6; node = 2; call = (on_file.Detach 0); reply = file_replies.Done; before = 0; after = 0 } ∷ []) lacking_replies = checks 10 (fresh 0 lacking_script) (record { tree = lacking_tree; file = (record { session = 0; op = 2; node = 2; call = (on_file.Attach 0); reply = file_replies.TooBig; before = 0; after = 0 } ∷ record { session = 0; op = 6; node = 2; call = (on_file.Detach 0); reply = file_replies.Done; before = 0; after = 0 } ∷ []) }) lacking_replies h in grind arith

pub lacking_with_another_reply : Runs (fresh 0 lacking_script) (record { tree = lacking_tree; file = lacking_file }) (replies.Memory ∷ replies.Handle ∷ (replies.Opened 2) ∷ replies.Memory ∷ replies.Memory ∷ (replies.Tree tree_replies.Memory) ∷ replies.Slot ∷ []) → ⊥
lacking_with_another_reply h = let k : Checks (Unit {0}) 10 (fresh 0 lacking_script) lacking_tree lacking_file (replies.Memory ∷ replies.Handle ∷ (replies.Opened 2) ∷ replies.Memory ∷ replies.Memory ∷ (replies.Tree tree_replies.Memory) ∷ replies.Slot ∷ []) = checks 10 (fresh 0 lacking_script) (record { tree = lacking_tree; file = lacking_file }) (replies.Memory ∷ replies.Handle ∷ (replies.Opened 2) ∷ replies.Memory ∷ replies.Memory ∷ (replies.Tree tree_replies.Memory) ∷ replies.Slot ∷ []) h in grind arith

pub lacking_with_a_reply_left_out : Runs (fresh 0 lacking_script) (record { tree = lacking_tree; file = lacking_file }) (replies.Handle ∷ (replies.Opened 2) ∷ replies.Memory ∷ replies.Memory ∷ (replies.Tree tree_replies.Memory) ∷ (replies.File file_replies.Done) ∷ []) → ⊥
lacking_with_a_reply_left_out h = let k : Checks (Unit {0}) 10 (fresh 0 lacking_script) lacking_tree lacking_file (replies.Handle ∷ (replies.Opened 2) ∷ replies.Memory ∷ replies.Memory ∷ (replies.Tree tree_replies.Memory) ∷ (replies.File file_replies.Done) ∷ []) = checks 10 (fresh 0 lacking_script) (record { tree = lacking_tree; file = lacking_file }) (replies.Handle ∷ (replies.Opened 2) ∷ replies.Memory ∷ replies.Memory ∷ (replies.Tree tree_replies.Memory) ∷ (replies.File file_replies.Done) ∷ []) h in grind arith

abbrev refused_script : List Op
refused_script = ((ops.Open 0 (codes "f" ∷ [])) ∷ (ops.Open 1 (codes "f" ∷ [])) ∷ (ops.Close 0) ∷ (ops.Close 0) ∷ (ops.Close 0) ∷ [])

abbrev refused_tree : List TreeEntry
refused_tree = (record { session = 0; op = 0; call = (on_tree.Resolve (codes "f" ∷ [])); reply = (tree_replies.Node 1); before = 0; after = 0 } ∷ record { session = 0; op = 1; call = (on_tree.Resolve (codes "f" ∷ [])); reply = (tree_replies.Node 1); before = 0; after = 0 } ∷ [])

abbrev refused_file : List FileEntry
refused_file = (record { session = 0; op = 0; node = 1; call = (on_file.Attach 0); reply = file_replies.Done; before = 0; after = 0 } ∷ record { session = 0; op = 1; node = 1; call = (on_file.Attach 1); reply = file_replies.Done; before = 0; after = 0 } ∷ record { session = 0; op = 2; node = 1; call = (on_file.Detach 0); reply = file_replies.LowerFault; before = 0; after = 0 } ∷ record { session = 0; op = 4; node = 1; call = (on_file.Detach 0); reply = file_replies.LowerFault; before = 0; after = 0 } ∷ record { session = 0; op = 5; node = 1; call = (on_file.Detach 0); reply = file_replies.LowerFault; before = 0; after = 0 } ∷ record { session = 0; op = 6; node = 1; call = (on_file.Detach 1); reply = file_replies.Done; before = 0; after = 0 } ∷ [])

abbrev refused_replies : List Reply
refused_replies = ((replies.Opened 1) ∷ (replies.Opened 1) ∷ (replies.File file_replies.LowerFault) ∷ replies.Memory ∷ (replies.File file_replies.LowerFault) ∷ (replies.File file_replies.LowerFault) ∷ (replies.File file_replies.Done) ∷ [])

pub refused : Runs (fresh 0 refused_script) (record { tree = refused_tree; file = refused_file }) refused_replies
refused = runs 10 (fresh 0 refused_script) refused_tree refused_file refused_replies (inr (record { session = refl; op = refl; call_is = refl }, inr (record { session = refl; op = refl; node_is = refl; call_is = refl }, (refl, inr (record { session = refl; op = refl; call_is = refl }, inr (record { session = refl; op = refl; node_is = refl; call_is = refl }, (refl, inr (record { session = refl; op = refl; node_is = refl; call_is = refl }, (refl, inl (refl, (refl, inr (record { session = refl; op = refl; node_is = refl; call_is = refl }, (refl, inr (record { session = refl; op = refl; node_is = refl; call_is = refl }, (refl, inr (record { session = refl; op = refl; node_is = refl; call_is = refl }, (refl, (tt, tt, tt))))))))))))))))))

pub refused_without_the_last_file_entry : Runs (fresh 0 refused_script) (record { tree = refused_tree; file = (record { session = 0; op = 0; node = 1; call = (on_file.Attach 0); reply = file_replies.Done; before = 0; after = 0 } ∷ record { session = 0; op = 1; node = 1; call = (on_file.Attach 1); reply = file_replies.Done; before = 0; after = 0 } ∷ record { session = 0; op = 2; node = 1; call = (on_file.Detach 0); reply = file_replies.LowerFault; before = 0; after = 0 } ∷ record { session = 0; op = 4; node = 1; call = (on_file.Detach 0); reply = file_replies.LowerFault; before = 0; after = 0 } ∷ record { session = 0; op = 5; node = 1; call = (on_file.Detach 0); reply = file_replies.LowerFault; before = 0; after = 0 } ∷ []) }) refused_replies → ⊥
refused_without_the_last_file_entry h = let k : Checks (Unit {0}) 10 (fresh 0 refused_script) refused_tree (record { session = 0; op = 0; node = 1; call = (on_file.Attach 0); reply = file_replies.Done; before = 0; after = 0 } ∷ record { session = 0; op = 1; node = 1; call = (on_file.Attach 1); reply = file_replies.Done; before = 0; after = 0 } ∷ record { session = 0; op = 2; node = 1; call = (on_file.Detach 0); reply = file_replies.LowerFault; before = 0; after = 0 } ∷ record { session = 0; op = 4; node = 1; call = (on_file.Detach 0); reply = file_replies.LowerFault; before = 0; after = 0 } ∷ record { session = 0; op = 5; node = 1; call = (on_file.Detach 0); reply = file_replies.LowerFault; before = 0; after = 0 } ∷ []) refused_replies = checks 10 (fresh 0 refused_script) (record { tree = refused_tree; file = (record { session = 0; op = 0; node = 1; call = (on_file.Attach 0); reply = file_replies.Done; before = 0; after = 0 } ∷ record { session = 0; op = 1; node = 1; call = (on_file.Attach 1); reply = file_replies.Done; before = 0; after = 0 } ∷ record { session = 0; op = 2; node = 1; call = (on_file.Detach 0); reply = file_replies.LowerFault; before = 0; after = 0 } ∷ record { session = 0; op = 4; node = 1; call = (on_file.Detach 0); reply = file_replies.LowerFault; before = 0; after = 0 } ∷ record { session = 0; op = 5; node = 1; call = (on_file.Detach 0); reply = file_replies.LowerFault; before = 0; after = 0 } ∷ []) }) refused_replies h in grind arith

pub refused_without_the_first_tree_entry : Runs (fresh 0 refused_script) (record { tree = (record { session = 0; op = 1; call = (on_tree.Resolve (codes "f" ∷ [])); reply = (tree_replies.Node 1); before = 0; after = 0 } ∷ []); file = refused_file }) refused_replies → ⊥
refused_without_the_first_tree_entry h = let k : Checks (Unit {0}) 10 (fresh 0 refused_script) (record { session = 0; op = 1; call = (on_tree.Resolve (codes "f" ∷ [])); reply = (tree_replies.Node 1); before = 0; after = 0 } ∷ []) refused_file refused_replies = checks 10 (fresh 0 refused_script) (record { tree = (record { session = 0; op = 1; call = (on_tree.Resolve (codes "f" ∷ [])); reply = (tree_replies.Node 1); before = 0; after = 0 } ∷ []); file = refused_file }) refused_replies h in grind arith

pub refused_with_two_file_entries_exchanged : Runs (fresh 0 refused_script) (record { tree = refused_tree; file = (record { session = 0; op = 1; node = 1; call = (on_file.Attach 1); reply = file_replies.Done; before = 0; after = 0 } ∷ record { session = 0; op = 0; node = 1; call = (on_file.Attach 0); reply = file_replies.Done; before = 0; after = 0 } ∷ record { session = 0; op = 2; node = 1; call = (on_file.Detach 0); reply = file_replies.LowerFault; before = 0; after = 0 } ∷ record { session = 0; op = 4; node = 1; call = (on_file.Detach 0); reply = file_replies.LowerFault; before = 0; after = 0 } ∷ record { session = 0; op = 5; node = 1; call = (on_file.Detach 0); reply = file_replies.LowerFault; before = 0; after = 0 } ∷ record { session = 0; op = 6; node = 1; call = (on_file.Detach 1); reply = file_replies.Done; before = 0; after = 0 } ∷ []) }) refused_replies → ⊥
refused_with_two_file_entries_exchanged h = let k : Checks (Unit {0}) 10 (fresh 0 refused_script) refused_tree (record { session = 0; op = 1; node = 1; call = (on_file.Attach 1); reply = file_replies.Done; before = 0; after = 0 } ∷ record { session = 0; op = 0; node = 1; call = (on_file.Attach 0); reply = file_replies.Done; before = 0; after = 0 } ∷ record { session = 0; op = 2; node = 1; call = (on_file.Detach 0); reply = file_replies.LowerFault; before = 0; after = 0 } ∷ record { session = 0; op = 4; node = 1; call = (on_file.Detach 0); reply = file_replies.LowerFault; before = 0; after = 0 } ∷ record { session = 0; op = 5; node = 1; call = (on_file.Detach 0); reply = file_replies.LowerFault; before = 0; after = 0 } ∷ record { session = 0; op = 6; node = 1; call = (on_file.Detach 1); reply = file_replies.Done; before = 0; after = 0 } ∷ []) refused_replies = checks 10 (fresh 0 refused_script) (record { tree = refused_tree; file = (record { session = 0; op = 1; node = 1; call = (on_file.Attach 1); reply = file_replies.Done; before = 0; after = 0 } ∷ record { session = 0; op = 0; node = 1; call = (on_file.Attach 0); reply = file_replies.Done; before = 0; after = 0 } ∷ record { session = 0; op = 2; node = 1; call = (on_file.Detach 0); reply = file_replies.LowerFault; before = 0; after = 0 } ∷ record { session = 0; op = 4; node = 1; call = (on_file.Detach 0); reply = file_replies.LowerFault; before = 0; after = 0 } ∷ record { session = 0; op = 5; node = 1; call = (on_file.Detach 0); reply = file_replies.LowerFault; before = 0; after = 0 } ∷ record { session = 0; op = 6; node = 1; call = (on_file.Detach 1); reply = file_replies.Done; before = 0; after = 0 } ∷ []) }) refused_replies h in grind arith

pub refused_with_two_tree_entries_exchanged : Runs (fresh 0 refused_script) (record { tree = (record { session = 0; op = 1; call = (on_tree.Resolve (codes "f" ∷ [])); reply = (tree_replies.Node 1); before = 0; after = 0 } ∷ record { session = 0; op = 0; call = (on_tree.Resolve (codes "f" ∷ [])); reply = (tree_replies.Node 1); before = 0; after = 0 } ∷ []); file = refused_file }) refused_replies → ⊥
refused_with_two_tree_entries_exchanged h = let k : Checks (Unit {0}) 10 (fresh 0 refused_script) (record { session = 0; op = 1; call = (on_tree.Resolve (codes "f" ∷ [])); reply = (tree_replies.Node 1); before = 0; after = 0 } ∷ record { session = 0; op = 0; call = (on_tree.Resolve (codes "f" ∷ [])); reply = (tree_replies.Node 1); before = 0; after = 0 } ∷ []) refused_file refused_replies = checks 10 (fresh 0 refused_script) (record { tree = (record { session = 0; op = 1; call = (on_tree.Resolve (codes "f" ∷ [])); reply = (tree_replies.Node 1); before = 0; after = 0 } ∷ record { session = 0; op = 0; call = (on_tree.Resolve (codes "f" ∷ [])); reply = (tree_replies.Node 1); before = 0; after = 0 } ∷ []); file = refused_file }) refused_replies h in grind arith

pub refused_with_the_last_entry_in_the_next_operation : Runs (fresh 0 refused_script) (record { tree = refused_tree; file = (record { session = 0; op = 0; node = 1; call = (on_file.Attach 0); reply = file_replies.Done; before = 0; after = 0 } ∷ record { session = 0; op = 1; node = 1; call = (on_file.Attach 1); reply = file_replies.Done; before = 0; after = 0 } ∷ record { session = 0; op = 2; node = 1; call = (on_file.Detach 0); reply = file_replies.LowerFault; before = 0; after = 0 } ∷ record { session = 0; op = 4; node = 1; call = (on_file.Detach 0); reply = file_replies.LowerFault; before = 0; after = 0 } ∷ record { session = 0; op = 5; node = 1; call = (on_file.Detach 0); reply = file_replies.LowerFault; before = 0; after = 0 } ∷ record { session = 0; op = 7; node = 1; call = (on_file.Detach 1); reply = file_replies.Done; before = 0; after = 0 } ∷ []) }) refused_replies → ⊥
refused_with_the_last_entry_in_the_next_operation h = let k : Checks (Unit {0}) 10 (fresh 0 refused_script) refused_tree (record { session = 0; op = 0; node = 1; call = (on_file.Attach 0); reply = file_replies.Done; before = 0; after = 0 } ∷ record { session = 0; op = 1; node = 1; call = (on_file.Attach 1); reply = file_replies.Done; before = 0; after = 0 } ∷ record { session = 0; op = 2; node = 1; call = (on_file.Detach 0); reply = file_replies.LowerFault; before = 0; after = 0 } ∷ record { session = 0; op = 4; node = 1; call = (on_file.Detach 0); reply = file_replies.LowerFault; before = 0; after = 0 } ∷ record { session = 0; op = 5; node = 1; call = (on_file.Detach 0); reply = file_replies.LowerFault; before = 0; after = 0 } ∷ record { session = 0; op = 7; node = 1; call = (on_file.Detach 1); reply = file_replies.Done; before = 0; after = 0 } ∷ []) refused_replies = checks 10 (fresh 0 refused_script) (record { tree = refused_tree; file = (record { session = 0; op = 0; node = 1; call = (on_file.Attach 0); reply = file_replies.Done; before = 0; after = 0 } ∷ record { session = 0; op = 1; node = 1; call = (on_file.Attach 1); reply = file_replies.Done; before = 0; after = 0 } ∷ record { session = 0; op = 2; node = 1; call = (on_file.Detach 0); reply = file_replies.LowerFault; before = 0; after = 0 } ∷ record { session = 0; op = 4; node = 1; call = (on_file.Detach 0); reply = file_replies.LowerFault; before = 0; after = 0 } ∷ record { session = 0; op = 5; node = 1; call = (on_file.Detach 0); reply = file_replies.LowerFault; before = 0; after = 0 } ∷ record { session = 0; op = 7; node = 1; call = (on_file.Detach 1); reply = file_replies.Done; before = 0; after = 0 } ∷ []) }) refused_replies h in grind arith

pub refused_with_the_last_entry_twice : Runs (fresh 0 refused_script) (record { tree = refused_tree; file = (record { session = 0; op = 0; node = 1; call = (on_file.Attach 0); reply = file_replies.Done; before = 0; after = 0 } ∷ record { session = 0; op = 1; node = 1; call = (on_file.Attach 1); reply = file_replies.Done; before = 0; after = 0 } ∷ record { session = 0; op = 2; node = 1; call = (on_file.Detach 0); reply = file_replies.LowerFault; before = 0; after = 0 } ∷ record { session = 0; op = 4; node = 1; call = (on_file.Detach 0); reply = file_replies.LowerFault; before = 0; after = 0 } ∷ record { session = 0; op = 5; node = 1; call = (on_file.Detach 0); reply = file_replies.LowerFault; before = 0; after = 0 } ∷ record { session = 0; op = 6; node = 1; call = (on_file.Detach 1); reply = file_replies.Done; before = 0; after = 0 } ∷ record { session = 0; op = 6; node = 1; call = (on_file.Detach 1); reply = file_replies.Done; before = 0; after = 0 } ∷ []) }) refused_replies → ⊥
refused_with_the_last_entry_twice h = let k : Checks (Unit {0}) 10 (fresh 0 refused_script) refused_tree (record { session = 0; op = 0; node = 1; call = (on_file.Attach 0); reply = file_replies.Done; before = 0; after = 0 } ∷ record { session = 0; op = 1; node = 1; call = (on_file.Attach 1); reply = file_replies.Done; before = 0; after = 0 } ∷ record { session = 0; op = 2; node = 1; call = (on_file.Detach 0); reply = file_replies.LowerFault; before = 0; after = 0 } ∷ record { session = 0; op = 4; node = 1; call = (on_file.Detach 0); reply = file_replies.LowerFault; before = 0; after = 0 } ∷ record { session = 0; op = 5; node = 1; call = (on_file.Detach 0); reply = file_replies.LowerFault; before = 0; after = 0 } ∷ record { session = 0; op = 6; node = 1; call = (on_file.Detach 1); reply = file_replies.Done; before = 0; after = 0 } ∷ record { session = 0; op = 6; node = 1; call = (on_file.Detach 1); reply = file_replies.Done; before = 0; after = 0 } ∷ []) refused_replies = checks 10 (fresh 0 refused_script) (record { tree = refused_tree; file = (record { session = 0; op = 0; node = 1; call = (on_file.Attach 0); reply = file_replies.Done; before = 0; after = 0 } ∷ record { session = 0; op = 1; node = 1; call = (on_file.Attach 1); reply = file_replies.Done; before = 0; after = 0 } ∷ record { session = 0; op = 2; node = 1; call = (on_file.Detach 0); reply = file_replies.LowerFault; before = 0; after = 0 } ∷ record { session = 0; op = 4; node = 1; call = (on_file.Detach 0); reply = file_replies.LowerFault; before = 0; after = 0 } ∷ record { session = 0; op = 5; node = 1; call = (on_file.Detach 0); reply = file_replies.LowerFault; before = 0; after = 0 } ∷ record { session = 0; op = 6; node = 1; call = (on_file.Detach 1); reply = file_replies.Done; before = 0; after = 0 } ∷ record { session = 0; op = 6; node = 1; call = (on_file.Detach 1); reply = file_replies.Done; before = 0; after = 0 } ∷ []) }) refused_replies h in grind arith

pub refused_with_another_session : Runs (fresh 0 refused_script) (record { tree = refused_tree; file = (record { session = 0; op = 0; node = 1; call = (on_file.Attach 0); reply = file_replies.Done; before = 0; after = 0 } ∷ record { session = 0; op = 1; node = 1; call = (on_file.Attach 1); reply = file_replies.Done; before = 0; after = 0 } ∷ record { session = 0; op = 2; node = 1; call = (on_file.Detach 0); reply = file_replies.LowerFault; before = 0; after = 0 } ∷ record { session = 0; op = 4; node = 1; call = (on_file.Detach 0); reply = file_replies.LowerFault; before = 0; after = 0 } ∷ record { session = 0; op = 5; node = 1; call = (on_file.Detach 0); reply = file_replies.LowerFault; before = 0; after = 0 } ∷ record { session = 1; op = 6; node = 1; call = (on_file.Detach 1); reply = file_replies.Done; before = 0; after = 0 } ∷ []) }) refused_replies → ⊥
refused_with_another_session h = let k : Checks (Unit {0}) 10 (fresh 0 refused_script) refused_tree (record { session = 0; op = 0; node = 1; call = (on_file.Attach 0); reply = file_replies.Done; before = 0; after = 0 } ∷ record { session = 0; op = 1; node = 1; call = (on_file.Attach 1); reply = file_replies.Done; before = 0; after = 0 } ∷ record { session = 0; op = 2; node = 1; call = (on_file.Detach 0); reply = file_replies.LowerFault; before = 0; after = 0 } ∷ record { session = 0; op = 4; node = 1; call = (on_file.Detach 0); reply = file_replies.LowerFault; before = 0; after = 0 } ∷ record { session = 0; op = 5; node = 1; call = (on_file.Detach 0); reply = file_replies.LowerFault; before = 0; after = 0 } ∷ record { session = 1; op = 6; node = 1; call = (on_file.Detach 1); reply = file_replies.Done; before = 0; after = 0 } ∷ []) refused_replies = checks 10 (fresh 0 refused_script) (record { tree = refused_tree; file = (record { session = 0; op = 0; node = 1; call = (on_file.Attach 0); reply = file_replies.Done; before = 0; after = 0 } ∷ record { session = 0; op = 1; node = 1; call = (on_file.Attach 1); reply = file_replies.Done; before = 0; after = 0 } ∷ record { session = 0; op = 2; node = 1; call = (on_file.Detach 0); reply = file_replies.LowerFault; before = 0; after = 0 } ∷ record { session = 0; op = 4; node = 1; call = (on_file.Detach 0); reply = file_replies.LowerFault; before = 0; after = 0 } ∷ record { session = 0; op = 5; node = 1; call = (on_file.Detach 0); reply = file_replies.LowerFault; before = 0; after = 0 } ∷ record { session = 1; op = 6; node = 1; call = (on_file.Detach 1); reply = file_replies.Done; before = 0; after = 0 } ∷ []) }) refused_replies h in grind arith

pub refused_answered_otherwise : Runs (fresh 0 refused_script) (record { tree = refused_tree; file = (record { session = 0; op = 0; node = 1; call = (on_file.Attach 0); reply = file_replies.TooBig; before = 0; after = 0 } ∷ record { session = 0; op = 1; node = 1; call = (on_file.Attach 1); reply = file_replies.Done; before = 0; after = 0 } ∷ record { session = 0; op = 2; node = 1; call = (on_file.Detach 0); reply = file_replies.LowerFault; before = 0; after = 0 } ∷ record { session = 0; op = 4; node = 1; call = (on_file.Detach 0); reply = file_replies.LowerFault; before = 0; after = 0 } ∷ record { session = 0; op = 5; node = 1; call = (on_file.Detach 0); reply = file_replies.LowerFault; before = 0; after = 0 } ∷ record { session = 0; op = 6; node = 1; call = (on_file.Detach 1); reply = file_replies.Done; before = 0; after = 0 } ∷ []) }) refused_replies → ⊥
refused_answered_otherwise h = let k : Checks (Unit {0}) 10 (fresh 0 refused_script) refused_tree (record { session = 0; op = 0; node = 1; call = (on_file.Attach 0); reply = file_replies.TooBig; before = 0; after = 0 } ∷ record { session = 0; op = 1; node = 1; call = (on_file.Attach 1); reply = file_replies.Done; before = 0; after = 0 } ∷ record { session = 0; op = 2; node = 1; call = (on_file.Detach 0); reply = file_replies.LowerFault; before = 0; after = 0 } ∷ record { session = 0; op = 4; node = 1; call = (on_file.Detach 0); reply = file_replies.LowerFault; before = 0; after = 0 } ∷ record { session = 0; op = 5; node = 1; call = (on_file.Detach 0); reply = file_replies.LowerFault; before = 0; after = 0 } ∷ record { session = 0; op = 6; node = 1; call = (on_file.Detach 1); reply = file_replies.Done; before = 0; after = 0 } ∷ []) refused_replies = checks 10 (fresh 0 refused_script) (record { tree = refused_tree; file = (record { session = 0; op = 0; node = 1; call = (on_file.Attach 0); reply = file_replies.TooBig; before = 0; after = 0 } ∷ record { session = 0; op = 1; node = 1; call = (on_file.Attach 1); reply = file_replies.Done; before = 0; after = 0 } ∷ record { session = 0; op = 2; node = 1; call = (on_file.Detach 0); reply = file_replies.LowerFault; before = 0; after = 0 } ∷ record { session = 0; op = 4; node = 1; call = (on_file.Detach 0); reply = file_replies.LowerFault; before = 0; after = 0 } ∷ record { session = 0; op = 5; node = 1; call = (on_file.Detach 0); reply = file_replies.LowerFault; before = 0; after = 0 } ∷ record { session = 0; op = 6; node = 1; call = (on_file.Detach 1); reply = file_replies.Done; before = 0; after = 0 } ∷ []) }) refused_replies h in grind arith

pub refused_with_another_reply : Runs (fresh 0 refused_script) (record { tree = refused_tree; file = refused_file }) ((replies.Opened 1) ∷ (replies.Opened 1) ∷ (replies.File file_replies.LowerFault) ∷ replies.Memory ∷ (replies.File file_replies.LowerFault) ∷ (replies.File file_replies.LowerFault) ∷ replies.Slot ∷ []) → ⊥
refused_with_another_reply h = let k : Checks (Unit {0}) 10 (fresh 0 refused_script) refused_tree refused_file ((replies.Opened 1) ∷ (replies.Opened 1) ∷ (replies.File file_replies.LowerFault) ∷ replies.Memory ∷ (replies.File file_replies.LowerFault) ∷ (replies.File file_replies.LowerFault) ∷ replies.Slot ∷ []) = checks 10 (fresh 0 refused_script) (record { tree = refused_tree; file = refused_file }) ((replies.Opened 1) ∷ (replies.Opened 1) ∷ (replies.File file_replies.LowerFault) ∷ replies.Memory ∷ (replies.File file_replies.LowerFault) ∷ (replies.File file_replies.LowerFault) ∷ replies.Slot ∷ []) h in grind arith

pub refused_with_a_reply_left_out : Runs (fresh 0 refused_script) (record { tree = refused_tree; file = refused_file }) ((replies.Opened 1) ∷ (replies.File file_replies.LowerFault) ∷ replies.Memory ∷ (replies.File file_replies.LowerFault) ∷ (replies.File file_replies.LowerFault) ∷ (replies.File file_replies.Done) ∷ []) → ⊥
refused_with_a_reply_left_out h = let k : Checks (Unit {0}) 10 (fresh 0 refused_script) refused_tree refused_file ((replies.Opened 1) ∷ (replies.File file_replies.LowerFault) ∷ replies.Memory ∷ (replies.File file_replies.LowerFault) ∷ (replies.File file_replies.LowerFault) ∷ (replies.File file_replies.Done) ∷ []) = checks 10 (fresh 0 refused_script) (record { tree = refused_tree; file = refused_file }) ((replies.Opened 1) ∷ (replies.File file_replies.LowerFault) ∷ replies.Memory ∷ (replies.File file_replies.LowerFault) ∷ (replies.File file_replies.LowerFault) ∷ (replies.File file_replies.Done) ∷ []) h in grind arith

pub refused_closed_twice_at_the_end : Runs (fresh 0 refused_script) (record { tree = refused_tree; file = (record { session = 0; op = 0; node = 1; call = (on_file.Attach 0); reply = file_replies.Done; before = 0; after = 0 } ∷ record { session = 0; op = 1; node = 1; call = (on_file.Attach 1); reply = file_replies.Done; before = 0; after = 0 } ∷ record { session = 0; op = 2; node = 1; call = (on_file.Detach 0); reply = file_replies.LowerFault; before = 0; after = 0 } ∷ record { session = 0; op = 4; node = 1; call = (on_file.Detach 0); reply = file_replies.LowerFault; before = 0; after = 0 } ∷ record { session = 0; op = 5; node = 1; call = (on_file.Detach 0); reply = file_replies.LowerFault; before = 0; after = 0 } ∷ record { session = 0; op = 6; node = 1; call = (on_file.Detach 1); reply = file_replies.Done; before = 0; after = 0 } ∷ record { session = 0; op = 7; node = 1; call = (on_file.Detach 0); reply = file_replies.Done; before = 0; after = 0 } ∷ []) }) ((replies.Opened 1) ∷ (replies.Opened 1) ∷ (replies.File file_replies.LowerFault) ∷ replies.Memory ∷ (replies.File file_replies.LowerFault) ∷ (replies.File file_replies.LowerFault) ∷ (replies.File file_replies.Done) ∷ (replies.File file_replies.Done) ∷ []) → ⊥
refused_closed_twice_at_the_end h = let k : Checks (Unit {0}) 10 (fresh 0 refused_script) refused_tree (record { session = 0; op = 0; node = 1; call = (on_file.Attach 0); reply = file_replies.Done; before = 0; after = 0 } ∷ record { session = 0; op = 1; node = 1; call = (on_file.Attach 1); reply = file_replies.Done; before = 0; after = 0 } ∷ record { session = 0; op = 2; node = 1; call = (on_file.Detach 0); reply = file_replies.LowerFault; before = 0; after = 0 } ∷ record { session = 0; op = 4; node = 1; call = (on_file.Detach 0); reply = file_replies.LowerFault; before = 0; after = 0 } ∷ record { session = 0; op = 5; node = 1; call = (on_file.Detach 0); reply = file_replies.LowerFault; before = 0; after = 0 } ∷ record { session = 0; op = 6; node = 1; call = (on_file.Detach 1); reply = file_replies.Done; before = 0; after = 0 } ∷ record { session = 0; op = 7; node = 1; call = (on_file.Detach 0); reply = file_replies.Done; before = 0; after = 0 } ∷ []) ((replies.Opened 1) ∷ (replies.Opened 1) ∷ (replies.File file_replies.LowerFault) ∷ replies.Memory ∷ (replies.File file_replies.LowerFault) ∷ (replies.File file_replies.LowerFault) ∷ (replies.File file_replies.Done) ∷ (replies.File file_replies.Done) ∷ []) = checks 10 (fresh 0 refused_script) (record { tree = refused_tree; file = (record { session = 0; op = 0; node = 1; call = (on_file.Attach 0); reply = file_replies.Done; before = 0; after = 0 } ∷ record { session = 0; op = 1; node = 1; call = (on_file.Attach 1); reply = file_replies.Done; before = 0; after = 0 } ∷ record { session = 0; op = 2; node = 1; call = (on_file.Detach 0); reply = file_replies.LowerFault; before = 0; after = 0 } ∷ record { session = 0; op = 4; node = 1; call = (on_file.Detach 0); reply = file_replies.LowerFault; before = 0; after = 0 } ∷ record { session = 0; op = 5; node = 1; call = (on_file.Detach 0); reply = file_replies.LowerFault; before = 0; after = 0 } ∷ record { session = 0; op = 6; node = 1; call = (on_file.Detach 1); reply = file_replies.Done; before = 0; after = 0 } ∷ record { session = 0; op = 7; node = 1; call = (on_file.Detach 0); reply = file_replies.Done; before = 0; after = 0 } ∷ []) }) ((replies.Opened 1) ∷ (replies.Opened 1) ∷ (replies.File file_replies.LowerFault) ∷ replies.Memory ∷ (replies.File file_replies.LowerFault) ∷ (replies.File file_replies.LowerFault) ∷ (replies.File file_replies.Done) ∷ (replies.File file_replies.Done) ∷ []) h in grind arith

pub refused_without_the_end_of_a_refused_slot : Runs (fresh 0 refused_script) (record { tree = refused_tree; file = (record { session = 0; op = 0; node = 1; call = (on_file.Attach 0); reply = file_replies.Done; before = 0; after = 0 } ∷ record { session = 0; op = 1; node = 1; call = (on_file.Attach 1); reply = file_replies.Done; before = 0; after = 0 } ∷ record { session = 0; op = 2; node = 1; call = (on_file.Detach 0); reply = file_replies.LowerFault; before = 0; after = 0 } ∷ record { session = 0; op = 4; node = 1; call = (on_file.Detach 0); reply = file_replies.LowerFault; before = 0; after = 0 } ∷ record { session = 0; op = 5; node = 1; call = (on_file.Detach 1); reply = file_replies.Done; before = 0; after = 0 } ∷ []) }) ((replies.Opened 1) ∷ (replies.Opened 1) ∷ (replies.File file_replies.LowerFault) ∷ replies.Memory ∷ (replies.File file_replies.LowerFault) ∷ (replies.File file_replies.Done) ∷ []) → ⊥
refused_without_the_end_of_a_refused_slot h = let k : Checks (Unit {0}) 10 (fresh 0 refused_script) refused_tree (record { session = 0; op = 0; node = 1; call = (on_file.Attach 0); reply = file_replies.Done; before = 0; after = 0 } ∷ record { session = 0; op = 1; node = 1; call = (on_file.Attach 1); reply = file_replies.Done; before = 0; after = 0 } ∷ record { session = 0; op = 2; node = 1; call = (on_file.Detach 0); reply = file_replies.LowerFault; before = 0; after = 0 } ∷ record { session = 0; op = 4; node = 1; call = (on_file.Detach 0); reply = file_replies.LowerFault; before = 0; after = 0 } ∷ record { session = 0; op = 5; node = 1; call = (on_file.Detach 1); reply = file_replies.Done; before = 0; after = 0 } ∷ []) ((replies.Opened 1) ∷ (replies.Opened 1) ∷ (replies.File file_replies.LowerFault) ∷ replies.Memory ∷ (replies.File file_replies.LowerFault) ∷ (replies.File file_replies.Done) ∷ []) = checks 10 (fresh 0 refused_script) (record { tree = refused_tree; file = (record { session = 0; op = 0; node = 1; call = (on_file.Attach 0); reply = file_replies.Done; before = 0; after = 0 } ∷ record { session = 0; op = 1; node = 1; call = (on_file.Attach 1); reply = file_replies.Done; before = 0; after = 0 } ∷ record { session = 0; op = 2; node = 1; call = (on_file.Detach 0); reply = file_replies.LowerFault; before = 0; after = 0 } ∷ record { session = 0; op = 4; node = 1; call = (on_file.Detach 0); reply = file_replies.LowerFault; before = 0; after = 0 } ∷ record { session = 0; op = 5; node = 1; call = (on_file.Detach 1); reply = file_replies.Done; before = 0; after = 0 } ∷ []) }) ((replies.Opened 1) ∷ (replies.Opened 1) ∷ (replies.File file_replies.LowerFault) ∷ replies.Memory ∷ (replies.File file_replies.LowerFault) ∷ (replies.File file_replies.Done) ∷ []) h in grind arith

pub refused_with_no_memory_for_a_first_close : Runs (fresh 0 refused_script) (record { tree = refused_tree; file = (record { session = 0; op = 0; node = 1; call = (on_file.Attach 0); reply = file_replies.Done; before = 0; after = 0 } ∷ record { session = 0; op = 1; node = 1; call = (on_file.Attach 1); reply = file_replies.Done; before = 0; after = 0 } ∷ record { session = 0; op = 2; node = 1; call = (on_file.Detach 0); reply = file_replies.LowerFault; before = 0; after = 0 } ∷ record { session = 0; op = 4; node = 1; call = (on_file.Detach 0); reply = file_replies.LowerFault; before = 0; after = 0 } ∷ record { session = 0; op = 5; node = 1; call = (on_file.Detach 0); reply = file_replies.LowerFault; before = 0; after = 0 } ∷ []) }) ((replies.Opened 1) ∷ (replies.Opened 1) ∷ (replies.File file_replies.LowerFault) ∷ replies.Memory ∷ (replies.File file_replies.LowerFault) ∷ (replies.File file_replies.LowerFault) ∷ replies.Memory ∷ []) → ⊥
refused_with_no_memory_for_a_first_close h = let k : Checks (Unit {0}) 10 (fresh 0 refused_script) refused_tree (record { session = 0; op = 0; node = 1; call = (on_file.Attach 0); reply = file_replies.Done; before = 0; after = 0 } ∷ record { session = 0; op = 1; node = 1; call = (on_file.Attach 1); reply = file_replies.Done; before = 0; after = 0 } ∷ record { session = 0; op = 2; node = 1; call = (on_file.Detach 0); reply = file_replies.LowerFault; before = 0; after = 0 } ∷ record { session = 0; op = 4; node = 1; call = (on_file.Detach 0); reply = file_replies.LowerFault; before = 0; after = 0 } ∷ record { session = 0; op = 5; node = 1; call = (on_file.Detach 0); reply = file_replies.LowerFault; before = 0; after = 0 } ∷ []) ((replies.Opened 1) ∷ (replies.Opened 1) ∷ (replies.File file_replies.LowerFault) ∷ replies.Memory ∷ (replies.File file_replies.LowerFault) ∷ (replies.File file_replies.LowerFault) ∷ replies.Memory ∷ []) = checks 10 (fresh 0 refused_script) (record { tree = refused_tree; file = (record { session = 0; op = 0; node = 1; call = (on_file.Attach 0); reply = file_replies.Done; before = 0; after = 0 } ∷ record { session = 0; op = 1; node = 1; call = (on_file.Attach 1); reply = file_replies.Done; before = 0; after = 0 } ∷ record { session = 0; op = 2; node = 1; call = (on_file.Detach 0); reply = file_replies.LowerFault; before = 0; after = 0 } ∷ record { session = 0; op = 4; node = 1; call = (on_file.Detach 0); reply = file_replies.LowerFault; before = 0; after = 0 } ∷ record { session = 0; op = 5; node = 1; call = (on_file.Detach 0); reply = file_replies.LowerFault; before = 0; after = 0 } ∷ []) }) ((replies.Opened 1) ∷ (replies.Opened 1) ∷ (replies.File file_replies.LowerFault) ∷ replies.Memory ∷ (replies.File file_replies.LowerFault) ∷ (replies.File file_replies.LowerFault) ∷ replies.Memory ∷ []) h in grind arith

abbrev bad_script : List Op
bad_script = ((ops.Open 0 (codes "f" ∷ [])) ∷ (ops.Truncate 0 7) ∷ [])

abbrev bad_tree : List TreeEntry
bad_tree = (record { session = 0; op = 0; call = (on_tree.Resolve (codes "f" ∷ [])); reply = (tree_replies.Node 1); before = 0; after = 0 } ∷ [])

abbrev bad_file : List FileEntry
bad_file = (record { session = 0; op = 0; node = 1; call = (on_file.Attach 0); reply = (file_replies.Refused (causes.Short 3)); before = 0; after = 0 } ∷ [])

abbrev bad_replies : List Reply
bad_replies = ((replies.File (file_replies.Refused (causes.Short 3))) ∷ replies.Handle ∷ [])

pub bad : Runs (fresh 0 bad_script) (record { tree = bad_tree; file = bad_file }) bad_replies
bad = runs 4 (fresh 0 bad_script) bad_tree bad_file bad_replies (inr (record { session = refl; op = refl; call_is = refl }, inr (record { session = refl; op = refl; node_is = refl; call_is = refl }, (refl, (refl, (tt, tt, tt))))))

pub bad_without_the_last_file_entry : Runs (fresh 0 bad_script) (record { tree = bad_tree; file = [] }) bad_replies → ⊥
bad_without_the_last_file_entry h = let k : Checks (Unit {0}) 4 (fresh 0 bad_script) bad_tree [] bad_replies = checks 4 (fresh 0 bad_script) (record { tree = bad_tree; file = [] }) bad_replies h in grind arith

pub bad_without_the_first_tree_entry : Runs (fresh 0 bad_script) (record { tree = []; file = bad_file }) bad_replies → ⊥
bad_without_the_first_tree_entry h = let k : Checks (Unit {0}) 4 (fresh 0 bad_script) [] bad_file bad_replies = checks 4 (fresh 0 bad_script) (record { tree = []; file = bad_file }) bad_replies h in grind arith

pub bad_with_the_last_entry_in_the_next_operation : Runs (fresh 0 bad_script) (record { tree = bad_tree; file = (record { session = 0; op = 1; node = 1; call = (on_file.Attach 0); reply = (file_replies.Refused (causes.Short 3)); before = 0; after = 0 } ∷ []) }) bad_replies → ⊥
bad_with_the_last_entry_in_the_next_operation h = let k : Checks (Unit {0}) 4 (fresh 0 bad_script) bad_tree (record { session = 0; op = 1; node = 1; call = (on_file.Attach 0); reply = (file_replies.Refused (causes.Short 3)); before = 0; after = 0 } ∷ []) bad_replies = checks 4 (fresh 0 bad_script) (record { tree = bad_tree; file = (record { session = 0; op = 1; node = 1; call = (on_file.Attach 0); reply = (file_replies.Refused (causes.Short 3)); before = 0; after = 0 } ∷ []) }) bad_replies h in grind arith

pub bad_with_the_last_entry_twice : Runs (fresh 0 bad_script) (record { tree = bad_tree; file = (record { session = 0; op = 0; node = 1; call = (on_file.Attach 0); reply = (file_replies.Refused (causes.Short 3)); before = 0; after = 0 } ∷ record { session = 0; op = 0; node = 1; call = (on_file.Attach 0); reply = (file_replies.Refused (causes.Short 3)); before = 0; after = 0 } ∷ []) }) bad_replies → ⊥
bad_with_the_last_entry_twice h = let k : Checks (Unit {0}) 4 (fresh 0 bad_script) bad_tree (record { session = 0; op = 0; node = 1; call = (on_file.Attach 0); reply = (file_replies.Refused (causes.Short 3)); before = 0; after = 0 } ∷ record { session = 0; op = 0; node = 1; call = (on_file.Attach 0); reply = (file_replies.Refused (causes.Short 3)); before = 0; after = 0 } ∷ []) bad_replies = checks 4 (fresh 0 bad_script) (record { tree = bad_tree; file = (record { session = 0; op = 0; node = 1; call = (on_file.Attach 0); reply = (file_replies.Refused (causes.Short 3)); before = 0; after = 0 } ∷ record { session = 0; op = 0; node = 1; call = (on_file.Attach 0); reply = (file_replies.Refused (causes.Short 3)); before = 0; after = 0 } ∷ []) }) bad_replies h in grind arith

pub bad_with_another_session : Runs (fresh 0 bad_script) (record { tree = bad_tree; file = (record { session = 1; op = 0; node = 1; call = (on_file.Attach 0); reply = (file_replies.Refused (causes.Short 3)); before = 0; after = 0 } ∷ []) }) bad_replies → ⊥
bad_with_another_session h = let k : Checks (Unit {0}) 4 (fresh 0 bad_script) bad_tree (record { session = 1; op = 0; node = 1; call = (on_file.Attach 0); reply = (file_replies.Refused (causes.Short 3)); before = 0; after = 0 } ∷ []) bad_replies = checks 4 (fresh 0 bad_script) (record { tree = bad_tree; file = (record { session = 1; op = 0; node = 1; call = (on_file.Attach 0); reply = (file_replies.Refused (causes.Short 3)); before = 0; after = 0 } ∷ []) }) bad_replies h in grind arith

pub bad_answered_otherwise : Runs (fresh 0 bad_script) (record { tree = bad_tree; file = (record { session = 0; op = 0; node = 1; call = (on_file.Attach 0); reply = file_replies.TooBig; before = 0; after = 0 } ∷ []) }) bad_replies → ⊥
bad_answered_otherwise h = let k : Checks (Unit {0}) 4 (fresh 0 bad_script) bad_tree (record { session = 0; op = 0; node = 1; call = (on_file.Attach 0); reply = file_replies.TooBig; before = 0; after = 0 } ∷ []) bad_replies = checks 4 (fresh 0 bad_script) (record { tree = bad_tree; file = (record { session = 0; op = 0; node = 1; call = (on_file.Attach 0); reply = file_replies.TooBig; before = 0; after = 0 } ∷ []) }) bad_replies h in grind arith

pub bad_with_another_reply : Runs (fresh 0 bad_script) (record { tree = bad_tree; file = bad_file }) ((replies.File (file_replies.Refused (causes.Short 3))) ∷ replies.Slot ∷ []) → ⊥
bad_with_another_reply h = let k : Checks (Unit {0}) 4 (fresh 0 bad_script) bad_tree bad_file ((replies.File (file_replies.Refused (causes.Short 3))) ∷ replies.Slot ∷ []) = checks 4 (fresh 0 bad_script) (record { tree = bad_tree; file = bad_file }) ((replies.File (file_replies.Refused (causes.Short 3))) ∷ replies.Slot ∷ []) h in grind arith

pub bad_with_a_reply_left_out : Runs (fresh 0 bad_script) (record { tree = bad_tree; file = bad_file }) (replies.Handle ∷ []) → ⊥
bad_with_a_reply_left_out h = let k : Checks (Unit {0}) 4 (fresh 0 bad_script) bad_tree bad_file (replies.Handle ∷ []) = checks 4 (fresh 0 bad_script) (record { tree = bad_tree; file = bad_file }) (replies.Handle ∷ []) h in grind arith
