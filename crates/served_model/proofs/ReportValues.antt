-- Worked values of reports.
use Rattle.std.proofs.Common.{◌≡◌, ℕ, List, [], ◌∷◌, ◌++◌, refl}
use Rattle.std.specs.Prelude.{codes, None}
use Rattle.std.specs.Fmt.{digits}
use Rattle.hex.specs.Hex.{encode_with}
use Rattle.lower_model.specs.declared.kind.Kind.TheVariants as kinds
use Rattle.lower_model.specs.declared.node.LowerNode.{LowerNode}
use Rattle.tree_model.specs.declared.call.TreeCall.TheVariants as calls
use Rattle.tree_model.specs.declared.call.TreeReply.{TreeReply}
use Rattle.tree_model.specs.declared.call.TreeReply.TheVariants as replies
use Rattle.tree_model.specs.declared.call.TreeRefusal.TheVariants.{Exists}
use Rattle.session_model.specs.declared.entry.TreeEntry.{TreeEntry}
use Rattle.session_model.specs.declared.entry.FileEntry.{FileEntry}
use Rattle.session_model.specs.declared.file.FileCall.{FileCall}
use Rattle.session_model.specs.declared.file.FileCall.TheVariants as on_file
use Rattle.session_model.specs.declared.file.FileReply.{FileReply}
use Rattle.session_model.specs.declared.reply.Reply.TheVariants.{Tree, File, Opened, Slot, Handle, Memory}
use Rattle.session_model.specs.declared.file.FileReply.TheVariants as files
use Rattle.packet_model.specs.declared.cause.BadCause.TheVariants as causes
use Rattle.served_model.specs.declared.end.ReportEnd.TheVariants.{Image, Stuck}
use Rattle.served_model.specs.ReportText.{Report, report_text, stuck_text, entry_line, files_text, reply_line}

-- ---- a directory `a` is made below an empty root, and listed

abbrev made_a : TreeEntry
made_a = record { session = 0; op = 0; call = calls.Mkdir (codes "a" ∷ []); reply = replies.Done; before = 0; after = 0 }

abbrev names_of_root : TreeReply
names_of_root = replies.Names (record { kind = kinds.Dir; name = codes "a" } ∷ [])

abbrev listed_root : TreeEntry
listed_root = record { session = 0; op = 1; call = calls.List []; reply = names_of_root; before = 0; after = 0 }

entry_of_mkdir : entry_line made_a ≡ codes "0 0 0 0 mkdir /a = ok\n"
unfolding digits
entry_of_mkdir = refl

entry_of_list : entry_line listed_root ≡ codes "0 1 0 0 list / = names d:a\n"
unfolding digits
entry_of_list = refl

-- ---- whole reports

abbrev root : LowerNode
root = record { parent = 0; kind = kinds.Dir; name = []; attribute = None; body = [] }

nothing_run : report_text (record { sessions = [] ∷ []; histories = record { tree = []; file = [] }; end = Image (root ∷ []) })
    ≡ codes "ecryptfs-report 1\nsession 0 0\ntree 0\nimage 12\nECRYIMG1" ++ 0 ∷ 0 ∷ 0 ∷ 0 ∷ [] ++ codes "\nend\n"
unfolding digits
nothing_run = refl

abbrev directory_a : LowerNode
directory_a = record { parent = 0; kind = kinds.Dir; name = codes "a"; attribute = None; body = [] }

abbrev two_calls : Report
two_calls = record {
  sessions = (Tree replies.Done ∷ Tree names_of_root ∷ []) ∷ [];
  histories = record { tree = made_a ∷ listed_root ∷ []; file = [] };
  end = Image (root ∷ directory_a ∷ []);
}

made_and_listed : report_text two_calls
    ≡ codes "ecryptfs-report 1\nsession 0 2\nok\nnames d:a\ntree 2\n0 0 0 0 mkdir /a = ok\n0 1 0 0 list / = names d:a\nimage 17\nECRYIMG1"
    ++ 0 ∷ 0 ∷ 0 ∷ 1 ∷ 0 ∷ 1 ∷ 0 ∷ 1 ∷ 97 ∷ [] ++ codes "\nend\n"
unfolding digits
made_and_listed = refl

-- ---- runs of which a part failed

-- the part of bodies with number 0 can't be written back
not_unmounted : report_text (record { sessions = [] ∷ []; histories = record { tree = []; file = [] }; end = Stuck 1 0 2 })
    ≡ codes "ecryptfs-report 1\nsession 0 0\ntree 0\nstuck 1 0 2\n"
unfolding digits
not_unmounted = refl

-- the image can't be split
not_split : stuck_text 9 0 1 ≡ codes "ecryptfs-report 1\nstuck 9 0 1\n"
unfolding digits
not_split = refl

-- ---- other replies

refused : reply_line (Tree (replies.Refused Exists)) ≡ codes "err exists\n"
refused = refl

no_memory : reply_line Memory ≡ codes "err memory\n"
no_memory = refl

empty_directory : reply_line (Tree (replies.Names [])) ≡ codes "names\n"
empty_directory = refl

-- a file beside a directory whose name has a space
two_names : reply_line (Tree (replies.Names (record { kind = kinds.Dir; name = codes "b c" } ∷ record { kind = kinds.File; name = codes "f" } ∷ []))) ≡ codes "names d:b%20c f:f\n"
unfolding encode_with
two_names = refl

-- the kind and the node of a directory, a file's node, its size and what was read of it
node_told : reply_line (Tree (replies.Info kinds.Dir 12)) ≡ codes "ok d 12\n"
unfolding digits
node_told = refl

file_opened : reply_line (Opened 3) ≡ codes "ok 3\n"
unfolding digits
file_opened = refl

octets_read : reply_line (File (files.Octets (0 ∷ 65 ∷ []))) ≡ codes "data 0041\n"
unfolding encode_with
octets_read = refl

none_read : reply_line (File (files.Octets [])) ≡ codes "data -\n"
none_read = refl

bad_file : reply_line (File (files.Refused (causes.Short 25))) ≡ codes "err bad short 25\n"
unfolding digits
bad_file = refl

slot_taken : reply_line Slot ≡ codes "err slot\n"
slot_taken = refl

-- ---- a turn that a lower fault ended, and one that moved an entry

abbrev moved : TreeEntry
moved = record { session = 0; op = 3; call = calls.Rename (record { old = codes "a" ∷ []; new = codes "b" ∷ codes "c" ∷ [] }); reply = replies.Done; before = 1; after = 1 }

entry_of_rename : entry_line moved ≡ codes "0 3 1 1 rename /a /b/c = ok\n"
unfolding digits
entry_of_rename = refl

abbrev failed : TreeEntry
failed = record { session = 0; op = 0; call = calls.Mkdir (codes "a" ∷ []); reply = replies.LowerFault; before = 0; after = 1 }

entry_of_fault : entry_line failed ≡ codes "0 0 0 1 mkdir /a = err lower\n"
unfolding digits
entry_of_fault = refl

-- ---- files: those with entries stand in the order of their nodes, each with its own entries

abbrev entry_at : ℕ → ℕ → FileCall → FileReply → FileEntry
entry_at node op call reply = record { session = 0; op = op; node = node; call = call; reply = reply; before = 0; after = 0 }

abbrev two_files : List FileEntry
two_files =
    entry_at 10 0 (on_file.Attach 0) files.Done ∷ entry_at 2 1 (on_file.Attach 1) (files.Refused (causes.Short 25)) ∷ entry_at 10 2 (on_file.Write 0 7 (0 ∷ 255 ∷ [])) files.Done
    ∷ entry_at 10 3 (on_file.Read 0 5 9) (files.Octets (0 ∷ 0 ∷ 0 ∷ 255 ∷ [])) ∷ []

histories_of_two_files : files_text two_files
    ≡ codes "file 2 1\n0 1 0 0 attach 1 = err bad short 25\nfile 10 3\n0 0 0 0 attach 0 = ok\n0 2 0 0 write 0 7 00ff = ok\n0 3 0 0 read 0 5 9 = data 000000ff\n"
unfolding digits encode_with
histories_of_two_files = refl

-- a size, nothing to read, no memory, a close that failed, and a slot that isn't open
abbrev other_calls : List FileEntry
other_calls =
    entry_at 1 0 (on_file.Attach 15) files.Done ∷ entry_at 1 1 (on_file.Truncate 15 1099511627775) files.TooBig ∷ entry_at 1 2 (on_file.Size 15) (files.Length 0)
    ∷ entry_at 1 3 (on_file.Read 15 0 1) (files.Octets []) ∷ entry_at 1 4 (on_file.Write 15 0 (1 ∷ [])) files.Memory ∷ record (entry_at 1 5 (on_file.Detach 15) files.LowerFault) { after = 1 }
    ∷ record (entry_at 1 6 (on_file.Sync 14) files.NotOpen) { before = 1; after = 1 } ∷ []

histories_of_other_calls : files_text other_calls
    ≡ codes "file 1 7\n0 0 0 0 attach 15 = ok\n0 1 0 0 truncate 15 1099511627775 = err toobig\n0 2 0 0 size 15 = ok 0\n0 3 0 0 read 15 0 1 = data -\n"
    ++ codes "0 4 0 0 write 15 0 01 = err memory\n0 5 0 1 detach 15 = err lower\n0 6 1 1 sync 14 = err notopen\n"
unfolding digits encode_with
histories_of_other_calls = refl

-- a report whose second store of bodies couldn't be written out
stuck_behind_a_file : report_text (record { sessions = (Opened 1 ∷ Handle ∷ []) ∷ []; histories = record { tree = []; file = entry_at 1 0 (on_file.Attach 0) files.Done ∷ [] }; end = Stuck 2 1 3 })
    ≡ codes "ecryptfs-report 1\nsession 0 2\nok 1\nerr handle\ntree 0\nfile 1 1\n0 0 0 0 attach 0 = ok\nstuck 2 1 3\n"
unfolding digits
stuck_behind_a_file = refl

no_histories : files_text [] ≡ []
no_histories = refl
