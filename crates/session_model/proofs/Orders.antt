-- Worked schedules: orders that are right, and others.
use Rattle.std.proofs.Common.{◌≡◌, ℕ, List, [], ◌∷◌, inr, refl, subst, codes, arith}
use Rattle.lower_model.specs.declared.kind.Kind.TheVariants as kinds
use Rattle.tree_model.specs.declared.call.TreeCall.TheVariants as on_tree
use Rattle.tree_model.specs.declared.call.TreeReply.TheVariants as tree_replies
use Rattle.tree_model.specs.declared.call.TreeRefusal.TheVariants as refusals
use Rattle.session_model.specs.declared.file.FileCall.TheVariants as on_file
use Rattle.session_model.specs.declared.file.FileReply.TheVariants as file_replies
use Rattle.script_model.specs.declared.op.Op.TheVariants as ops
use Rattle.session_model.specs.declared.reply.Reply.{Reply}
use Rattle.session_model.specs.declared.reply.Reply.TheVariants as replies
use Rattle.session_model.specs.Session.{Member}
use Rattle.session_model.specs.Histories.{Histories}
use Rattle.session_model.specs.Walks.{Walks, HaveEnded, members, replies_of}
use Rattle.session_model.proofs.CheckWalk.{ChecksWalk, WalksTo, checks_walk, walks}

-- no walk over these items has this log and these replies
abbrev NoWalk : List Member → List ℕ → Histories → List (List Reply) → Type 0
NoWalk all items log replies = (last : List Member) → Walks all items log last → HaveEnded last → replies_of last ≡ replies → ⊥

no_walk : (all : List Member) (items : List ℕ) (log : Histories) (replies : List (List Reply)) → (ChecksWalk replies items all log.tree log.file → ⊥) → NoWalk all items log replies
no_walk all items log replies h last w ended e = h (subst (λ (r : List (List Reply)). ChecksWalk r items all log.tree log.file) e (checks_walk items all log last w ended))

abbrev pair_all : List Member
pair_all = members 0 (((ops.Create 0 (codes "f" ∷ [])) ∷ (ops.Write 0 0 (97 ∷ [])) ∷ (ops.Stat (codes "f" ∷ [])) ∷ []) ∷ ((ops.Open 0 (codes "f" ∷ [])) ∷ (ops.Read 0 0 5) ∷ (ops.Rmdir []) ∷ []) ∷ [])

abbrev pair_log : Histories
pair_log = record { tree = (record { session = 0; op = 0; call = (on_tree.Create (codes "f" ∷ [])); reply = (tree_replies.Node 1); before = 0; after = 0 } ∷ record { session = 1; op = 0; call = (on_tree.Resolve (codes "f" ∷ [])); reply = (tree_replies.Node 1); before = 0; after = 0 } ∷ record { session = 0; op = 2; call = (on_tree.Stat (codes "f" ∷ [])); reply = (tree_replies.Info kinds.File 1); before = 0; after = 0 } ∷ record { session = 1; op = 2; call = (on_tree.Rmdir []); reply = (tree_replies.Refused refusals.IsRoot); before = 0; after = 0 } ∷ []); file = (record { session = 1; op = 0; node = 1; call = (on_file.Attach 0); reply = file_replies.Done; before = 0; after = 0 } ∷ record { session = 0; op = 0; node = 1; call = (on_file.Attach 0); reply = file_replies.Done; before = 0; after = 0 } ∷ record { session = 1; op = 1; node = 1; call = (on_file.Read 0 0 5); reply = (file_replies.Octets []); before = 0; after = 0 } ∷ record { session = 0; op = 1; node = 1; call = (on_file.Write 0 0 (97 ∷ [])); reply = file_replies.Done; before = 0; after = 0 } ∷ record { session = 0; op = 3; node = 1; call = (on_file.Detach 0); reply = file_replies.Done; before = 0; after = 0 } ∷ record { session = 1; op = 3; node = 1; call = (on_file.Detach 0); reply = file_replies.Done; before = 0; after = 0 } ∷ []) }

abbrev pair_replies : List (List Reply)
pair_replies = (((replies.Opened 1) ∷ (replies.File file_replies.Done) ∷ (replies.Tree (tree_replies.Info kinds.File 1)) ∷ (replies.File file_replies.Done) ∷ []) ∷ ((replies.Opened 1) ∷ (replies.File (file_replies.Octets [])) ∷ (replies.Tree (tree_replies.Refused refusals.IsRoot)) ∷ (replies.File file_replies.Done) ∷ []) ∷ [])

pub pair : WalksTo pair_all (0 ∷ 1 ∷ 1 ∷ 0 ∷ 1 ∷ 0 ∷ 0 ∷ 1 ∷ 0 ∷ 0 ∷ 0 ∷ 0 ∷ 1 ∷ 1 ∷ []) pair_log pair_replies
pair = walks pair_replies (0 ∷ 1 ∷ 1 ∷ 0 ∷ 1 ∷ 0 ∷ 0 ∷ 1 ∷ 0 ∷ 0 ∷ 0 ∷ 0 ∷ 1 ∷ 1 ∷ []) pair_all pair_log.tree pair_log.file (inr (record { session = refl; op = refl; call_is = refl }, inr (record { session = refl; op = refl; call_is = refl }, inr (record { session = refl; op = refl; node_is = refl; call_is = refl }, inr (record { session = refl; op = refl; node_is = refl; call_is = refl }, inr (record { session = refl; op = refl; node_is = refl; call_is = refl }, inr (record { session = refl; op = refl; node_is = refl; call_is = refl }, inr (record { session = refl; op = refl; call_is = refl }, inr (record { session = refl; op = refl; call_is = refl }, inr (record { session = refl; op = refl; node_is = refl; call_is = refl }, inr (record { session = refl; op = refl; node_is = refl; call_is = refl }, (tt, tt, (refl, (refl, tt)), refl))))))))))))

pub pair_with_two_tree_entries_exchanged : NoWalk pair_all (0 ∷ 1 ∷ 1 ∷ 0 ∷ 1 ∷ 0 ∷ 0 ∷ 1 ∷ 0 ∷ 0 ∷ 0 ∷ 0 ∷ 1 ∷ 1 ∷ []) (record { tree = (record { session = 1; op = 0; call = (on_tree.Resolve (codes "f" ∷ [])); reply = (tree_replies.Node 1); before = 0; after = 0 } ∷ record { session = 0; op = 0; call = (on_tree.Create (codes "f" ∷ [])); reply = (tree_replies.Node 1); before = 0; after = 0 } ∷ record { session = 0; op = 2; call = (on_tree.Stat (codes "f" ∷ [])); reply = (tree_replies.Info kinds.File 1); before = 0; after = 0 } ∷ record { session = 1; op = 2; call = (on_tree.Rmdir []); reply = (tree_replies.Refused refusals.IsRoot); before = 0; after = 0 } ∷ []); file = (record { session = 1; op = 0; node = 1; call = (on_file.Attach 0); reply = file_replies.Done; before = 0; after = 0 } ∷ record { session = 0; op = 0; node = 1; call = (on_file.Attach 0); reply = file_replies.Done; before = 0; after = 0 } ∷ record { session = 1; op = 1; node = 1; call = (on_file.Read 0 0 5); reply = (file_replies.Octets []); before = 0; after = 0 } ∷ record { session = 0; op = 1; node = 1; call = (on_file.Write 0 0 (97 ∷ [])); reply = file_replies.Done; before = 0; after = 0 } ∷ record { session = 0; op = 3; node = 1; call = (on_file.Detach 0); reply = file_replies.Done; before = 0; after = 0 } ∷ record { session = 1; op = 3; node = 1; call = (on_file.Detach 0); reply = file_replies.Done; before = 0; after = 0 } ∷ []) }) pair_replies
pair_with_two_tree_entries_exchanged = no_walk pair_all (0 ∷ 1 ∷ 1 ∷ 0 ∷ 1 ∷ 0 ∷ 0 ∷ 1 ∷ 0 ∷ 0 ∷ 0 ∷ 0 ∷ 1 ∷ 1 ∷ []) (record { tree = (record { session = 1; op = 0; call = (on_tree.Resolve (codes "f" ∷ [])); reply = (tree_replies.Node 1); before = 0; after = 0 } ∷ record { session = 0; op = 0; call = (on_tree.Create (codes "f" ∷ [])); reply = (tree_replies.Node 1); before = 0; after = 0 } ∷ record { session = 0; op = 2; call = (on_tree.Stat (codes "f" ∷ [])); reply = (tree_replies.Info kinds.File 1); before = 0; after = 0 } ∷ record { session = 1; op = 2; call = (on_tree.Rmdir []); reply = (tree_replies.Refused refusals.IsRoot); before = 0; after = 0 } ∷ []); file = (record { session = 1; op = 0; node = 1; call = (on_file.Attach 0); reply = file_replies.Done; before = 0; after = 0 } ∷ record { session = 0; op = 0; node = 1; call = (on_file.Attach 0); reply = file_replies.Done; before = 0; after = 0 } ∷ record { session = 1; op = 1; node = 1; call = (on_file.Read 0 0 5); reply = (file_replies.Octets []); before = 0; after = 0 } ∷ record { session = 0; op = 1; node = 1; call = (on_file.Write 0 0 (97 ∷ [])); reply = file_replies.Done; before = 0; after = 0 } ∷ record { session = 0; op = 3; node = 1; call = (on_file.Detach 0); reply = file_replies.Done; before = 0; after = 0 } ∷ record { session = 1; op = 3; node = 1; call = (on_file.Detach 0); reply = file_replies.Done; before = 0; after = 0 } ∷ []) }) pair_replies (λ (h : ChecksWalk pair_replies (0 ∷ 1 ∷ 1 ∷ 0 ∷ 1 ∷ 0 ∷ 0 ∷ 1 ∷ 0 ∷ 0 ∷ 0 ∷ 0 ∷ 1 ∷ 1 ∷ []) pair_all (record { session = 1; op = 0; call = (on_tree.Resolve (codes "f" ∷ [])); reply = (tree_replies.Node 1); before = 0; after = 0 } ∷ record { session = 0; op = 0; call = (on_tree.Create (codes "f" ∷ [])); reply = (tree_replies.Node 1); before = 0; after = 0 } ∷ record { session = 0; op = 2; call = (on_tree.Stat (codes "f" ∷ [])); reply = (tree_replies.Info kinds.File 1); before = 0; after = 0 } ∷ record { session = 1; op = 2; call = (on_tree.Rmdir []); reply = (tree_replies.Refused refusals.IsRoot); before = 0; after = 0 } ∷ []) (record { session = 1; op = 0; node = 1; call = (on_file.Attach 0); reply = file_replies.Done; before = 0; after = 0 } ∷ record { session = 0; op = 0; node = 1; call = (on_file.Attach 0); reply = file_replies.Done; before = 0; after = 0 } ∷ record { session = 1; op = 1; node = 1; call = (on_file.Read 0 0 5); reply = (file_replies.Octets []); before = 0; after = 0 } ∷ record { session = 0; op = 1; node = 1; call = (on_file.Write 0 0 (97 ∷ [])); reply = file_replies.Done; before = 0; after = 0 } ∷ record { session = 0; op = 3; node = 1; call = (on_file.Detach 0); reply = file_replies.Done; before = 0; after = 0 } ∷ record { session = 1; op = 3; node = 1; call = (on_file.Detach 0); reply = file_replies.Done; before = 0; after = 0 } ∷ [])). grind arith)

pub pair_with_two_file_entries_exchanged : NoWalk pair_all (0 ∷ 1 ∷ 1 ∷ 0 ∷ 1 ∷ 0 ∷ 0 ∷ 1 ∷ 0 ∷ 0 ∷ 0 ∷ 0 ∷ 1 ∷ 1 ∷ []) (record { tree = (record { session = 0; op = 0; call = (on_tree.Create (codes "f" ∷ [])); reply = (tree_replies.Node 1); before = 0; after = 0 } ∷ record { session = 1; op = 0; call = (on_tree.Resolve (codes "f" ∷ [])); reply = (tree_replies.Node 1); before = 0; after = 0 } ∷ record { session = 0; op = 2; call = (on_tree.Stat (codes "f" ∷ [])); reply = (tree_replies.Info kinds.File 1); before = 0; after = 0 } ∷ record { session = 1; op = 2; call = (on_tree.Rmdir []); reply = (tree_replies.Refused refusals.IsRoot); before = 0; after = 0 } ∷ []); file = (record { session = 0; op = 0; node = 1; call = (on_file.Attach 0); reply = file_replies.Done; before = 0; after = 0 } ∷ record { session = 1; op = 0; node = 1; call = (on_file.Attach 0); reply = file_replies.Done; before = 0; after = 0 } ∷ record { session = 1; op = 1; node = 1; call = (on_file.Read 0 0 5); reply = (file_replies.Octets []); before = 0; after = 0 } ∷ record { session = 0; op = 1; node = 1; call = (on_file.Write 0 0 (97 ∷ [])); reply = file_replies.Done; before = 0; after = 0 } ∷ record { session = 0; op = 3; node = 1; call = (on_file.Detach 0); reply = file_replies.Done; before = 0; after = 0 } ∷ record { session = 1; op = 3; node = 1; call = (on_file.Detach 0); reply = file_replies.Done; before = 0; after = 0 } ∷ []) }) pair_replies
pair_with_two_file_entries_exchanged = no_walk pair_all (0 ∷ 1 ∷ 1 ∷ 0 ∷ 1 ∷ 0 ∷ 0 ∷ 1 ∷ 0 ∷ 0 ∷ 0 ∷ 0 ∷ 1 ∷ 1 ∷ []) (record { tree = (record { session = 0; op = 0; call = (on_tree.Create (codes "f" ∷ [])); reply = (tree_replies.Node 1); before = 0; after = 0 } ∷ record { session = 1; op = 0; call = (on_tree.Resolve (codes "f" ∷ [])); reply = (tree_replies.Node 1); before = 0; after = 0 } ∷ record { session = 0; op = 2; call = (on_tree.Stat (codes "f" ∷ [])); reply = (tree_replies.Info kinds.File 1); before = 0; after = 0 } ∷ record { session = 1; op = 2; call = (on_tree.Rmdir []); reply = (tree_replies.Refused refusals.IsRoot); before = 0; after = 0 } ∷ []); file = (record { session = 0; op = 0; node = 1; call = (on_file.Attach 0); reply = file_replies.Done; before = 0; after = 0 } ∷ record { session = 1; op = 0; node = 1; call = (on_file.Attach 0); reply = file_replies.Done; before = 0; after = 0 } ∷ record { session = 1; op = 1; node = 1; call = (on_file.Read 0 0 5); reply = (file_replies.Octets []); before = 0; after = 0 } ∷ record { session = 0; op = 1; node = 1; call = (on_file.Write 0 0 (97 ∷ [])); reply = file_replies.Done; before = 0; after = 0 } ∷ record { session = 0; op = 3; node = 1; call = (on_file.Detach 0); reply = file_replies.Done; before = 0; after = 0 } ∷ record { session = 1; op = 3; node = 1; call = (on_file.Detach 0); reply = file_replies.Done; before = 0; after = 0 } ∷ []) }) pair_replies (λ (h : ChecksWalk pair_replies (0 ∷ 1 ∷ 1 ∷ 0 ∷ 1 ∷ 0 ∷ 0 ∷ 1 ∷ 0 ∷ 0 ∷ 0 ∷ 0 ∷ 1 ∷ 1 ∷ []) pair_all (record { session = 0; op = 0; call = (on_tree.Create (codes "f" ∷ [])); reply = (tree_replies.Node 1); before = 0; after = 0 } ∷ record { session = 1; op = 0; call = (on_tree.Resolve (codes "f" ∷ [])); reply = (tree_replies.Node 1); before = 0; after = 0 } ∷ record { session = 0; op = 2; call = (on_tree.Stat (codes "f" ∷ [])); reply = (tree_replies.Info kinds.File 1); before = 0; after = 0 } ∷ record { session = 1; op = 2; call = (on_tree.Rmdir []); reply = (tree_replies.Refused refusals.IsRoot); before = 0; after = 0 } ∷ []) (record { session = 0; op = 0; node = 1; call = (on_file.Attach 0); reply = file_replies.Done; before = 0; after = 0 } ∷ record { session = 1; op = 0; node = 1; call = (on_file.Attach 0); reply = file_replies.Done; before = 0; after = 0 } ∷ record { session = 1; op = 1; node = 1; call = (on_file.Read 0 0 5); reply = (file_replies.Octets []); before = 0; after = 0 } ∷ record { session = 0; op = 1; node = 1; call = (on_file.Write 0 0 (97 ∷ [])); reply = file_replies.Done; before = 0; after = 0 } ∷ record { session = 0; op = 3; node = 1; call = (on_file.Detach 0); reply = file_replies.Done; before = 0; after = 0 } ∷ record { session = 1; op = 3; node = 1; call = (on_file.Detach 0); reply = file_replies.Done; before = 0; after = 0 } ∷ [])). grind arith)

pub pair_with_two_items_exchanged : NoWalk pair_all (1 ∷ 0 ∷ 1 ∷ 0 ∷ 1 ∷ 0 ∷ 0 ∷ 1 ∷ 0 ∷ 0 ∷ 0 ∷ 0 ∷ 1 ∷ 1 ∷ []) pair_log pair_replies
pair_with_two_items_exchanged = no_walk pair_all (1 ∷ 0 ∷ 1 ∷ 0 ∷ 1 ∷ 0 ∷ 0 ∷ 1 ∷ 0 ∷ 0 ∷ 0 ∷ 0 ∷ 1 ∷ 1 ∷ []) pair_log pair_replies (λ (h : ChecksWalk pair_replies (1 ∷ 0 ∷ 1 ∷ 0 ∷ 1 ∷ 0 ∷ 0 ∷ 1 ∷ 0 ∷ 0 ∷ 0 ∷ 0 ∷ 1 ∷ 1 ∷ []) pair_all (record { session = 0; op = 0; call = (on_tree.Create (codes "f" ∷ [])); reply = (tree_replies.Node 1); before = 0; after = 0 } ∷ record { session = 1; op = 0; call = (on_tree.Resolve (codes "f" ∷ [])); reply = (tree_replies.Node 1); before = 0; after = 0 } ∷ record { session = 0; op = 2; call = (on_tree.Stat (codes "f" ∷ [])); reply = (tree_replies.Info kinds.File 1); before = 0; after = 0 } ∷ record { session = 1; op = 2; call = (on_tree.Rmdir []); reply = (tree_replies.Refused refusals.IsRoot); before = 0; after = 0 } ∷ []) (record { session = 1; op = 0; node = 1; call = (on_file.Attach 0); reply = file_replies.Done; before = 0; after = 0 } ∷ record { session = 0; op = 0; node = 1; call = (on_file.Attach 0); reply = file_replies.Done; before = 0; after = 0 } ∷ record { session = 1; op = 1; node = 1; call = (on_file.Read 0 0 5); reply = (file_replies.Octets []); before = 0; after = 0 } ∷ record { session = 0; op = 1; node = 1; call = (on_file.Write 0 0 (97 ∷ [])); reply = file_replies.Done; before = 0; after = 0 } ∷ record { session = 0; op = 3; node = 1; call = (on_file.Detach 0); reply = file_replies.Done; before = 0; after = 0 } ∷ record { session = 1; op = 3; node = 1; call = (on_file.Detach 0); reply = file_replies.Done; before = 0; after = 0 } ∷ [])). grind arith)

pub pair_with_an_item_left_out : NoWalk pair_all (0 ∷ 1 ∷ 1 ∷ 0 ∷ 1 ∷ 0 ∷ 0 ∷ 1 ∷ 0 ∷ []) pair_log pair_replies
pair_with_an_item_left_out = no_walk pair_all (0 ∷ 1 ∷ 1 ∷ 0 ∷ 1 ∷ 0 ∷ 0 ∷ 1 ∷ 0 ∷ []) pair_log pair_replies (λ (h : ChecksWalk pair_replies (0 ∷ 1 ∷ 1 ∷ 0 ∷ 1 ∷ 0 ∷ 0 ∷ 1 ∷ 0 ∷ []) pair_all (record { session = 0; op = 0; call = (on_tree.Create (codes "f" ∷ [])); reply = (tree_replies.Node 1); before = 0; after = 0 } ∷ record { session = 1; op = 0; call = (on_tree.Resolve (codes "f" ∷ [])); reply = (tree_replies.Node 1); before = 0; after = 0 } ∷ record { session = 0; op = 2; call = (on_tree.Stat (codes "f" ∷ [])); reply = (tree_replies.Info kinds.File 1); before = 0; after = 0 } ∷ record { session = 1; op = 2; call = (on_tree.Rmdir []); reply = (tree_replies.Refused refusals.IsRoot); before = 0; after = 0 } ∷ []) (record { session = 1; op = 0; node = 1; call = (on_file.Attach 0); reply = file_replies.Done; before = 0; after = 0 } ∷ record { session = 0; op = 0; node = 1; call = (on_file.Attach 0); reply = file_replies.Done; before = 0; after = 0 } ∷ record { session = 1; op = 1; node = 1; call = (on_file.Read 0 0 5); reply = (file_replies.Octets []); before = 0; after = 0 } ∷ record { session = 0; op = 1; node = 1; call = (on_file.Write 0 0 (97 ∷ [])); reply = file_replies.Done; before = 0; after = 0 } ∷ record { session = 0; op = 3; node = 1; call = (on_file.Detach 0); reply = file_replies.Done; before = 0; after = 0 } ∷ record { session = 1; op = 3; node = 1; call = (on_file.Detach 0); reply = file_replies.Done; before = 0; after = 0 } ∷ [])). grind arith)

pub pair_without_the_last_entry : NoWalk pair_all (0 ∷ 1 ∷ 1 ∷ 0 ∷ 1 ∷ 0 ∷ 0 ∷ 1 ∷ 0 ∷ 0 ∷ 0 ∷ 0 ∷ 1 ∷ 1 ∷ []) (record { tree = (record { session = 0; op = 0; call = (on_tree.Create (codes "f" ∷ [])); reply = (tree_replies.Node 1); before = 0; after = 0 } ∷ record { session = 1; op = 0; call = (on_tree.Resolve (codes "f" ∷ [])); reply = (tree_replies.Node 1); before = 0; after = 0 } ∷ record { session = 0; op = 2; call = (on_tree.Stat (codes "f" ∷ [])); reply = (tree_replies.Info kinds.File 1); before = 0; after = 0 } ∷ record { session = 1; op = 2; call = (on_tree.Rmdir []); reply = (tree_replies.Refused refusals.IsRoot); before = 0; after = 0 } ∷ []); file = (record { session = 1; op = 0; node = 1; call = (on_file.Attach 0); reply = file_replies.Done; before = 0; after = 0 } ∷ record { session = 0; op = 0; node = 1; call = (on_file.Attach 0); reply = file_replies.Done; before = 0; after = 0 } ∷ record { session = 1; op = 1; node = 1; call = (on_file.Read 0 0 5); reply = (file_replies.Octets []); before = 0; after = 0 } ∷ record { session = 0; op = 1; node = 1; call = (on_file.Write 0 0 (97 ∷ [])); reply = file_replies.Done; before = 0; after = 0 } ∷ record { session = 0; op = 3; node = 1; call = (on_file.Detach 0); reply = file_replies.Done; before = 0; after = 0 } ∷ []) }) pair_replies
pair_without_the_last_entry = no_walk pair_all (0 ∷ 1 ∷ 1 ∷ 0 ∷ 1 ∷ 0 ∷ 0 ∷ 1 ∷ 0 ∷ 0 ∷ 0 ∷ 0 ∷ 1 ∷ 1 ∷ []) (record { tree = (record { session = 0; op = 0; call = (on_tree.Create (codes "f" ∷ [])); reply = (tree_replies.Node 1); before = 0; after = 0 } ∷ record { session = 1; op = 0; call = (on_tree.Resolve (codes "f" ∷ [])); reply = (tree_replies.Node 1); before = 0; after = 0 } ∷ record { session = 0; op = 2; call = (on_tree.Stat (codes "f" ∷ [])); reply = (tree_replies.Info kinds.File 1); before = 0; after = 0 } ∷ record { session = 1; op = 2; call = (on_tree.Rmdir []); reply = (tree_replies.Refused refusals.IsRoot); before = 0; after = 0 } ∷ []); file = (record { session = 1; op = 0; node = 1; call = (on_file.Attach 0); reply = file_replies.Done; before = 0; after = 0 } ∷ record { session = 0; op = 0; node = 1; call = (on_file.Attach 0); reply = file_replies.Done; before = 0; after = 0 } ∷ record { session = 1; op = 1; node = 1; call = (on_file.Read 0 0 5); reply = (file_replies.Octets []); before = 0; after = 0 } ∷ record { session = 0; op = 1; node = 1; call = (on_file.Write 0 0 (97 ∷ [])); reply = file_replies.Done; before = 0; after = 0 } ∷ record { session = 0; op = 3; node = 1; call = (on_file.Detach 0); reply = file_replies.Done; before = 0; after = 0 } ∷ []) }) pair_replies (λ (h : ChecksWalk pair_replies (0 ∷ 1 ∷ 1 ∷ 0 ∷ 1 ∷ 0 ∷ 0 ∷ 1 ∷ 0 ∷ 0 ∷ 0 ∷ 0 ∷ 1 ∷ 1 ∷ []) pair_all (record { session = 0; op = 0; call = (on_tree.Create (codes "f" ∷ [])); reply = (tree_replies.Node 1); before = 0; after = 0 } ∷ record { session = 1; op = 0; call = (on_tree.Resolve (codes "f" ∷ [])); reply = (tree_replies.Node 1); before = 0; after = 0 } ∷ record { session = 0; op = 2; call = (on_tree.Stat (codes "f" ∷ [])); reply = (tree_replies.Info kinds.File 1); before = 0; after = 0 } ∷ record { session = 1; op = 2; call = (on_tree.Rmdir []); reply = (tree_replies.Refused refusals.IsRoot); before = 0; after = 0 } ∷ []) (record { session = 1; op = 0; node = 1; call = (on_file.Attach 0); reply = file_replies.Done; before = 0; after = 0 } ∷ record { session = 0; op = 0; node = 1; call = (on_file.Attach 0); reply = file_replies.Done; before = 0; after = 0 } ∷ record { session = 1; op = 1; node = 1; call = (on_file.Read 0 0 5); reply = (file_replies.Octets []); before = 0; after = 0 } ∷ record { session = 0; op = 1; node = 1; call = (on_file.Write 0 0 (97 ∷ [])); reply = file_replies.Done; before = 0; after = 0 } ∷ record { session = 0; op = 3; node = 1; call = (on_file.Detach 0); reply = file_replies.Done; before = 0; after = 0 } ∷ [])). grind arith)

abbrev idle_all : List Member
idle_all = members 0 (((ops.Mkdir (codes "d" ∷ [])) ∷ []) ∷ ((ops.Mkdir (codes "d" ∷ [])) ∷ (ops.Rmdir (codes "d" ∷ [])) ∷ []) ∷ [])

abbrev idle_log : Histories
idle_log = record { tree = (record { session = 0; op = 0; call = (on_tree.Mkdir (codes "d" ∷ [])); reply = tree_replies.Done; before = 0; after = 0 } ∷ record { session = 1; op = 0; call = (on_tree.Mkdir (codes "d" ∷ [])); reply = (tree_replies.Refused refusals.Exists); before = 0; after = 0 } ∷ record { session = 1; op = 1; call = (on_tree.Rmdir (codes "d" ∷ [])); reply = tree_replies.Done; before = 0; after = 0 } ∷ []); file = [] }

abbrev idle_replies : List (List Reply)
idle_replies = (((replies.Tree tree_replies.Done) ∷ []) ∷ ((replies.Tree (tree_replies.Refused refusals.Exists)) ∷ (replies.Tree tree_replies.Done) ∷ []) ∷ [])

pub idle : WalksTo idle_all (0 ∷ 0 ∷ 0 ∷ 1 ∷ 0 ∷ 1 ∷ 1 ∷ []) idle_log idle_replies
idle = walks idle_replies (0 ∷ 0 ∷ 0 ∷ 1 ∷ 0 ∷ 1 ∷ 1 ∷ []) idle_all idle_log.tree idle_log.file (inr (record { session = refl; op = refl; call_is = refl }, inr (record { session = refl; op = refl; call_is = refl }, inr (record { session = refl; op = refl; call_is = refl }, (tt, tt, (refl, (refl, tt)), refl)))))

pub idle_with_two_tree_entries_exchanged : NoWalk idle_all (0 ∷ 0 ∷ 0 ∷ 1 ∷ 0 ∷ 1 ∷ 1 ∷ []) (record { tree = (record { session = 1; op = 0; call = (on_tree.Mkdir (codes "d" ∷ [])); reply = (tree_replies.Refused refusals.Exists); before = 0; after = 0 } ∷ record { session = 0; op = 0; call = (on_tree.Mkdir (codes "d" ∷ [])); reply = tree_replies.Done; before = 0; after = 0 } ∷ record { session = 1; op = 1; call = (on_tree.Rmdir (codes "d" ∷ [])); reply = tree_replies.Done; before = 0; after = 0 } ∷ []); file = [] }) idle_replies
idle_with_two_tree_entries_exchanged = no_walk idle_all (0 ∷ 0 ∷ 0 ∷ 1 ∷ 0 ∷ 1 ∷ 1 ∷ []) (record { tree = (record { session = 1; op = 0; call = (on_tree.Mkdir (codes "d" ∷ [])); reply = (tree_replies.Refused refusals.Exists); before = 0; after = 0 } ∷ record { session = 0; op = 0; call = (on_tree.Mkdir (codes "d" ∷ [])); reply = tree_replies.Done; before = 0; after = 0 } ∷ record { session = 1; op = 1; call = (on_tree.Rmdir (codes "d" ∷ [])); reply = tree_replies.Done; before = 0; after = 0 } ∷ []); file = [] }) idle_replies (λ (h : ChecksWalk idle_replies (0 ∷ 0 ∷ 0 ∷ 1 ∷ 0 ∷ 1 ∷ 1 ∷ []) idle_all (record { session = 1; op = 0; call = (on_tree.Mkdir (codes "d" ∷ [])); reply = (tree_replies.Refused refusals.Exists); before = 0; after = 0 } ∷ record { session = 0; op = 0; call = (on_tree.Mkdir (codes "d" ∷ [])); reply = tree_replies.Done; before = 0; after = 0 } ∷ record { session = 1; op = 1; call = (on_tree.Rmdir (codes "d" ∷ [])); reply = tree_replies.Done; before = 0; after = 0 } ∷ []) []). grind arith)

pub idle_with_an_item_left_out : NoWalk idle_all (0 ∷ 1 ∷ []) idle_log idle_replies
idle_with_an_item_left_out = no_walk idle_all (0 ∷ 1 ∷ []) idle_log idle_replies (λ (h : ChecksWalk idle_replies (0 ∷ 1 ∷ []) idle_all (record { session = 0; op = 0; call = (on_tree.Mkdir (codes "d" ∷ [])); reply = tree_replies.Done; before = 0; after = 0 } ∷ record { session = 1; op = 0; call = (on_tree.Mkdir (codes "d" ∷ [])); reply = (tree_replies.Refused refusals.Exists); before = 0; after = 0 } ∷ record { session = 1; op = 1; call = (on_tree.Rmdir (codes "d" ∷ [])); reply = tree_replies.Done; before = 0; after = 0 } ∷ []) []). grind arith)

abbrev trio_all : List Member
trio_all = members 0 (((ops.Create 0 (codes "f" ∷ [])) ∷ []) ∷ ((ops.Create 0 (codes "f" ∷ [])) ∷ (ops.Create 1 (codes "f" ∷ [])) ∷ []) ∷ ((ops.Open 0 (codes "f" ∷ [])) ∷ (ops.Size 0) ∷ []) ∷ [])

abbrev trio_log : Histories
trio_log = record { tree = (record { session = 2; op = 0; call = (on_tree.Resolve (codes "f" ∷ [])); reply = (tree_replies.Refused refusals.NotFound); before = 0; after = 0 } ∷ record { session = 1; op = 0; call = (on_tree.Create (codes "f" ∷ [])); reply = (tree_replies.Node 1); before = 0; after = 0 } ∷ record { session = 0; op = 0; call = (on_tree.Create (codes "f" ∷ [])); reply = (tree_replies.Refused refusals.Exists); before = 0; after = 0 } ∷ record { session = 1; op = 1; call = (on_tree.Create (codes "f" ∷ [])); reply = (tree_replies.Refused refusals.Exists); before = 0; after = 0 } ∷ []); file = (record { session = 1; op = 0; node = 1; call = (on_file.Attach 0); reply = file_replies.Done; before = 0; after = 0 } ∷ record { session = 1; op = 2; node = 1; call = (on_file.Detach 0); reply = file_replies.Done; before = 0; after = 0 } ∷ []) }

abbrev trio_replies : List (List Reply)
trio_replies = (((replies.Tree (tree_replies.Refused refusals.Exists)) ∷ []) ∷ ((replies.Opened 1) ∷ (replies.Tree (tree_replies.Refused refusals.Exists)) ∷ (replies.File file_replies.Done) ∷ []) ∷ ((replies.Tree (tree_replies.Refused refusals.NotFound)) ∷ replies.Handle ∷ []) ∷ [])

pub trio : WalksTo trio_all (2 ∷ 2 ∷ 1 ∷ 0 ∷ 1 ∷ 2 ∷ 2 ∷ 0 ∷ 1 ∷ 1 ∷ 1 ∷ 2 ∷ []) trio_log trio_replies
trio = walks trio_replies (2 ∷ 2 ∷ 1 ∷ 0 ∷ 1 ∷ 2 ∷ 2 ∷ 0 ∷ 1 ∷ 1 ∷ 1 ∷ 2 ∷ []) trio_all trio_log.tree trio_log.file (inr (record { session = refl; op = refl; call_is = refl }, inr (record { session = refl; op = refl; call_is = refl }, inr (record { session = refl; op = refl; call_is = refl }, inr (record { session = refl; op = refl; node_is = refl; call_is = refl }, inr (record { session = refl; op = refl; call_is = refl }, inr (record { session = refl; op = refl; node_is = refl; call_is = refl }, (tt, tt, (refl, (refl, (refl, tt))), refl))))))))

pub trio_with_two_tree_entries_exchanged : NoWalk trio_all (2 ∷ 2 ∷ 1 ∷ 0 ∷ 1 ∷ 2 ∷ 2 ∷ 0 ∷ 1 ∷ 1 ∷ 1 ∷ 2 ∷ []) (record { tree = (record { session = 1; op = 0; call = (on_tree.Create (codes "f" ∷ [])); reply = (tree_replies.Node 1); before = 0; after = 0 } ∷ record { session = 2; op = 0; call = (on_tree.Resolve (codes "f" ∷ [])); reply = (tree_replies.Refused refusals.NotFound); before = 0; after = 0 } ∷ record { session = 0; op = 0; call = (on_tree.Create (codes "f" ∷ [])); reply = (tree_replies.Refused refusals.Exists); before = 0; after = 0 } ∷ record { session = 1; op = 1; call = (on_tree.Create (codes "f" ∷ [])); reply = (tree_replies.Refused refusals.Exists); before = 0; after = 0 } ∷ []); file = (record { session = 1; op = 0; node = 1; call = (on_file.Attach 0); reply = file_replies.Done; before = 0; after = 0 } ∷ record { session = 1; op = 2; node = 1; call = (on_file.Detach 0); reply = file_replies.Done; before = 0; after = 0 } ∷ []) }) trio_replies
trio_with_two_tree_entries_exchanged = no_walk trio_all (2 ∷ 2 ∷ 1 ∷ 0 ∷ 1 ∷ 2 ∷ 2 ∷ 0 ∷ 1 ∷ 1 ∷ 1 ∷ 2 ∷ []) (record { tree = (record { session = 1; op = 0; call = (on_tree.Create (codes "f" ∷ [])); reply = (tree_replies.Node 1); before = 0; after = 0 } ∷ record { session = 2; op = 0; call = (on_tree.Resolve (codes "f" ∷ [])); reply = (tree_replies.Refused refusals.NotFound); before = 0; after = 0 } ∷ record { session = 0; op = 0; call = (on_tree.Create (codes "f" ∷ [])); reply = (tree_replies.Refused refusals.Exists); before = 0; after = 0 } ∷ record { session = 1; op = 1; call = (on_tree.Create (codes "f" ∷ [])); reply = (tree_replies.Refused refusals.Exists); before = 0; after = 0 } ∷ []); file = (record { session = 1; op = 0; node = 1; call = (on_file.Attach 0); reply = file_replies.Done; before = 0; after = 0 } ∷ record { session = 1; op = 2; node = 1; call = (on_file.Detach 0); reply = file_replies.Done; before = 0; after = 0 } ∷ []) }) trio_replies (λ (h : ChecksWalk trio_replies (2 ∷ 2 ∷ 1 ∷ 0 ∷ 1 ∷ 2 ∷ 2 ∷ 0 ∷ 1 ∷ 1 ∷ 1 ∷ 2 ∷ []) trio_all (record { session = 1; op = 0; call = (on_tree.Create (codes "f" ∷ [])); reply = (tree_replies.Node 1); before = 0; after = 0 } ∷ record { session = 2; op = 0; call = (on_tree.Resolve (codes "f" ∷ [])); reply = (tree_replies.Refused refusals.NotFound); before = 0; after = 0 } ∷ record { session = 0; op = 0; call = (on_tree.Create (codes "f" ∷ [])); reply = (tree_replies.Refused refusals.Exists); before = 0; after = 0 } ∷ record { session = 1; op = 1; call = (on_tree.Create (codes "f" ∷ [])); reply = (tree_replies.Refused refusals.Exists); before = 0; after = 0 } ∷ []) (record { session = 1; op = 0; node = 1; call = (on_file.Attach 0); reply = file_replies.Done; before = 0; after = 0 } ∷ record { session = 1; op = 2; node = 1; call = (on_file.Detach 0); reply = file_replies.Done; before = 0; after = 0 } ∷ [])). grind arith)

pub trio_with_two_file_entries_exchanged : NoWalk trio_all (2 ∷ 2 ∷ 1 ∷ 0 ∷ 1 ∷ 2 ∷ 2 ∷ 0 ∷ 1 ∷ 1 ∷ 1 ∷ 2 ∷ []) (record { tree = (record { session = 2; op = 0; call = (on_tree.Resolve (codes "f" ∷ [])); reply = (tree_replies.Refused refusals.NotFound); before = 0; after = 0 } ∷ record { session = 1; op = 0; call = (on_tree.Create (codes "f" ∷ [])); reply = (tree_replies.Node 1); before = 0; after = 0 } ∷ record { session = 0; op = 0; call = (on_tree.Create (codes "f" ∷ [])); reply = (tree_replies.Refused refusals.Exists); before = 0; after = 0 } ∷ record { session = 1; op = 1; call = (on_tree.Create (codes "f" ∷ [])); reply = (tree_replies.Refused refusals.Exists); before = 0; after = 0 } ∷ []); file = (record { session = 1; op = 2; node = 1; call = (on_file.Detach 0); reply = file_replies.Done; before = 0; after = 0 } ∷ record { session = 1; op = 0; node = 1; call = (on_file.Attach 0); reply = file_replies.Done; before = 0; after = 0 } ∷ []) }) trio_replies
trio_with_two_file_entries_exchanged = no_walk trio_all (2 ∷ 2 ∷ 1 ∷ 0 ∷ 1 ∷ 2 ∷ 2 ∷ 0 ∷ 1 ∷ 1 ∷ 1 ∷ 2 ∷ []) (record { tree = (record { session = 2; op = 0; call = (on_tree.Resolve (codes "f" ∷ [])); reply = (tree_replies.Refused refusals.NotFound); before = 0; after = 0 } ∷ record { session = 1; op = 0; call = (on_tree.Create (codes "f" ∷ [])); reply = (tree_replies.Node 1); before = 0; after = 0 } ∷ record { session = 0; op = 0; call = (on_tree.Create (codes "f" ∷ [])); reply = (tree_replies.Refused refusals.Exists); before = 0; after = 0 } ∷ record { session = 1; op = 1; call = (on_tree.Create (codes "f" ∷ [])); reply = (tree_replies.Refused refusals.Exists); before = 0; after = 0 } ∷ []); file = (record { session = 1; op = 2; node = 1; call = (on_file.Detach 0); reply = file_replies.Done; before = 0; after = 0 } ∷ record { session = 1; op = 0; node = 1; call = (on_file.Attach 0); reply = file_replies.Done; before = 0; after = 0 } ∷ []) }) trio_replies (λ (h : ChecksWalk trio_replies (2 ∷ 2 ∷ 1 ∷ 0 ∷ 1 ∷ 2 ∷ 2 ∷ 0 ∷ 1 ∷ 1 ∷ 1 ∷ 2 ∷ []) trio_all (record { session = 2; op = 0; call = (on_tree.Resolve (codes "f" ∷ [])); reply = (tree_replies.Refused refusals.NotFound); before = 0; after = 0 } ∷ record { session = 1; op = 0; call = (on_tree.Create (codes "f" ∷ [])); reply = (tree_replies.Node 1); before = 0; after = 0 } ∷ record { session = 0; op = 0; call = (on_tree.Create (codes "f" ∷ [])); reply = (tree_replies.Refused refusals.Exists); before = 0; after = 0 } ∷ record { session = 1; op = 1; call = (on_tree.Create (codes "f" ∷ [])); reply = (tree_replies.Refused refusals.Exists); before = 0; after = 0 } ∷ []) (record { session = 1; op = 2; node = 1; call = (on_file.Detach 0); reply = file_replies.Done; before = 0; after = 0 } ∷ record { session = 1; op = 0; node = 1; call = (on_file.Attach 0); reply = file_replies.Done; before = 0; after = 0 } ∷ [])). grind arith)

pub trio_with_two_items_exchanged : NoWalk trio_all (2 ∷ 2 ∷ 0 ∷ 1 ∷ 1 ∷ 2 ∷ 2 ∷ 0 ∷ 1 ∷ 1 ∷ 1 ∷ 2 ∷ []) trio_log trio_replies
trio_with_two_items_exchanged = no_walk trio_all (2 ∷ 2 ∷ 0 ∷ 1 ∷ 1 ∷ 2 ∷ 2 ∷ 0 ∷ 1 ∷ 1 ∷ 1 ∷ 2 ∷ []) trio_log trio_replies (λ (h : ChecksWalk trio_replies (2 ∷ 2 ∷ 0 ∷ 1 ∷ 1 ∷ 2 ∷ 2 ∷ 0 ∷ 1 ∷ 1 ∷ 1 ∷ 2 ∷ []) trio_all (record { session = 2; op = 0; call = (on_tree.Resolve (codes "f" ∷ [])); reply = (tree_replies.Refused refusals.NotFound); before = 0; after = 0 } ∷ record { session = 1; op = 0; call = (on_tree.Create (codes "f" ∷ [])); reply = (tree_replies.Node 1); before = 0; after = 0 } ∷ record { session = 0; op = 0; call = (on_tree.Create (codes "f" ∷ [])); reply = (tree_replies.Refused refusals.Exists); before = 0; after = 0 } ∷ record { session = 1; op = 1; call = (on_tree.Create (codes "f" ∷ [])); reply = (tree_replies.Refused refusals.Exists); before = 0; after = 0 } ∷ []) (record { session = 1; op = 0; node = 1; call = (on_file.Attach 0); reply = file_replies.Done; before = 0; after = 0 } ∷ record { session = 1; op = 2; node = 1; call = (on_file.Detach 0); reply = file_replies.Done; before = 0; after = 0 } ∷ [])). grind arith)

pub trio_with_an_item_left_out : NoWalk trio_all (2 ∷ 2 ∷ 1 ∷ 0 ∷ 1 ∷ 1 ∷ []) trio_log trio_replies
trio_with_an_item_left_out = no_walk trio_all (2 ∷ 2 ∷ 1 ∷ 0 ∷ 1 ∷ 1 ∷ []) trio_log trio_replies (λ (h : ChecksWalk trio_replies (2 ∷ 2 ∷ 1 ∷ 0 ∷ 1 ∷ 1 ∷ []) trio_all (record { session = 2; op = 0; call = (on_tree.Resolve (codes "f" ∷ [])); reply = (tree_replies.Refused refusals.NotFound); before = 0; after = 0 } ∷ record { session = 1; op = 0; call = (on_tree.Create (codes "f" ∷ [])); reply = (tree_replies.Node 1); before = 0; after = 0 } ∷ record { session = 0; op = 0; call = (on_tree.Create (codes "f" ∷ [])); reply = (tree_replies.Refused refusals.Exists); before = 0; after = 0 } ∷ record { session = 1; op = 1; call = (on_tree.Create (codes "f" ∷ [])); reply = (tree_replies.Refused refusals.Exists); before = 0; after = 0 } ∷ []) (record { session = 1; op = 0; node = 1; call = (on_file.Attach 0); reply = file_replies.Done; before = 0; after = 0 } ∷ record { session = 1; op = 2; node = 1; call = (on_file.Detach 0); reply = file_replies.Done; before = 0; after = 0 } ∷ [])). grind arith)

pub trio_without_the_last_entry : NoWalk trio_all (2 ∷ 2 ∷ 1 ∷ 0 ∷ 1 ∷ 2 ∷ 2 ∷ 0 ∷ 1 ∷ 1 ∷ 1 ∷ 2 ∷ []) (record { tree = (record { session = 2; op = 0; call = (on_tree.Resolve (codes "f" ∷ [])); reply = (tree_replies.Refused refusals.NotFound); before = 0; after = 0 } ∷ record { session = 1; op = 0; call = (on_tree.Create (codes "f" ∷ [])); reply = (tree_replies.Node 1); before = 0; after = 0 } ∷ record { session = 0; op = 0; call = (on_tree.Create (codes "f" ∷ [])); reply = (tree_replies.Refused refusals.Exists); before = 0; after = 0 } ∷ record { session = 1; op = 1; call = (on_tree.Create (codes "f" ∷ [])); reply = (tree_replies.Refused refusals.Exists); before = 0; after = 0 } ∷ []); file = (record { session = 1; op = 0; node = 1; call = (on_file.Attach 0); reply = file_replies.Done; before = 0; after = 0 } ∷ []) }) trio_replies
trio_without_the_last_entry = no_walk trio_all (2 ∷ 2 ∷ 1 ∷ 0 ∷ 1 ∷ 2 ∷ 2 ∷ 0 ∷ 1 ∷ 1 ∷ 1 ∷ 2 ∷ []) (record { tree = (record { session = 2; op = 0; call = (on_tree.Resolve (codes "f" ∷ [])); reply = (tree_replies.Refused refusals.NotFound); before = 0; after = 0 } ∷ record { session = 1; op = 0; call = (on_tree.Create (codes "f" ∷ [])); reply = (tree_replies.Node 1); before = 0; after = 0 } ∷ record { session = 0; op = 0; call = (on_tree.Create (codes "f" ∷ [])); reply = (tree_replies.Refused refusals.Exists); before = 0; after = 0 } ∷ record { session = 1; op = 1; call = (on_tree.Create (codes "f" ∷ [])); reply = (tree_replies.Refused refusals.Exists); before = 0; after = 0 } ∷ []); file = (record { session = 1; op = 0; node = 1; call = (on_file.Attach 0); reply = file_replies.Done; before = 0; after = 0 } ∷ []) }) trio_replies (λ (h : ChecksWalk trio_replies (2 ∷ 2 ∷ 1 ∷ 0 ∷ 1 ∷ 2 ∷ 2 ∷ 0 ∷ 1 ∷ 1 ∷ 1 ∷ 2 ∷ []) trio_all (record { session = 2; op = 0; call = (on_tree.Resolve (codes "f" ∷ [])); reply = (tree_replies.Refused refusals.NotFound); before = 0; after = 0 } ∷ record { session = 1; op = 0; call = (on_tree.Create (codes "f" ∷ [])); reply = (tree_replies.Node 1); before = 0; after = 0 } ∷ record { session = 0; op = 0; call = (on_tree.Create (codes "f" ∷ [])); reply = (tree_replies.Refused refusals.Exists); before = 0; after = 0 } ∷ record { session = 1; op = 1; call = (on_tree.Create (codes "f" ∷ [])); reply = (tree_replies.Refused refusals.Exists); before = 0; after = 0 } ∷ []) (record { session = 1; op = 0; node = 1; call = (on_file.Attach 0); reply = file_replies.Done; before = 0; after = 0 } ∷ [])). grind arith)
