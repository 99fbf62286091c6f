-- The one spelling of a report.
use Rattle.std.specs.Prelude.{ℕ, ◌+◌, ◌==◌, nat_lt, if◌then◌else◌, List, [], ◌∷◌, ◌++◌, length, map, codes}
use Rattle.std.specs.List.{flat_map}
use Rattle.lower_model.specs.declared.kind.Kind.{Kind}
use Rattle.lower_model.specs.declared.kind.Kind.TheVariants as kinds
use Rattle.tree_model.specs.DirListing.{Shown}
use Rattle.tree_model.specs.declared.call.TreeCall.{TreeCall}
use Rattle.tree_model.specs.declared.call.TreeCall.TheVariants as calls
use Rattle.tree_model.specs.declared.call.TreeReply.{TreeReply}
use Rattle.tree_model.specs.declared.call.TreeReply.TheVariants as replies
use Rattle.tree_model.specs.declared.call.TreeRefusal.{TreeRefusal}
use Rattle.tree_model.specs.declared.call.TreeRefusal.TheVariants.{NameLong, NotFound, NotDir, IsRoot, Exists, IsDir, Inside, NotEmpty, NoNodes}
use Rattle.image_model.specs.ImageText.{image}
use Rattle.session_model.specs.declared.entry.TreeEntry.{TreeEntry}
use Rattle.session_model.specs.declared.entry.FileEntry.{FileEntry}
use Rattle.session_model.specs.declared.file.FileCall.{FileCall}
use Rattle.session_model.specs.declared.file.FileCall.TheVariants as on_file
use Rattle.session_model.specs.declared.file.FileReply.{FileReply}
use Rattle.session_model.specs.declared.file.FileReply.TheVariants as files
use Rattle.session_model.specs.declared.reply.Reply.{Reply}
use Rattle.session_model.specs.declared.reply.Reply.TheVariants.{Tree, File, Opened, Slot, Handle, Memory}
use Rattle.session_model.specs.Histories.{Histories}
use Rattle.file_model.specs.FileLog.{entries_at}
use Rattle.field_model.specs.CauseText.{cause_fields}
use Rattle.field_model.specs.NodeText.{kind_letter, data_field}
use Rattle.text_model.specs.Line.{line, number, hex, name, path}
use Rattle.job_model.specs.JobText.{image_text}
use Rattle.served_model.specs.declared.end.ReportEnd.{ReportEnd}
use Rattle.served_model.specs.declared.end.ReportEnd.TheVariants.{Image, Stuck}

abbrev pub refusal_word : TreeRefusal → List ℕ
refusal_word NameLong = codes "namelong"
refusal_word NotFound = codes "notfound"
refusal_word NotDir = codes "notdir"
refusal_word IsRoot = codes "isroot"
refusal_word Exists = codes "exists"
refusal_word IsDir = codes "isdir"
refusal_word Inside = codes "inside"
refusal_word NotEmpty = codes "notempty"
refusal_word NoNodes = codes "nonodes"

abbrev pub kind_word : Kind → List ℕ
kind_word kinds.Dir = codes "d:"
kind_word kinds.File = codes "f:"

abbrev pub shown_field : Shown → List ℕ
shown_field s = kind_word s.kind ++ name s.name

-- a word that tells why something isn't done
abbrev pub error : List ℕ → List (List ℕ)
error word = codes "err" ∷ word ∷ []

-- the fields of a reply of the tree
abbrev pub tree_reply : TreeReply → List (List ℕ)
tree_reply (replies.Node node) = codes "ok" ∷ number node ∷ []
tree_reply replies.Done = codes "ok" ∷ []
tree_reply (replies.Names names) = codes "names" ∷ map shown_field names
tree_reply (replies.Info kind node) = codes "ok" ∷ kind_letter kind ∷ number node ∷ []
tree_reply (replies.Refused refusal) = error (refusal_word refusal)
tree_reply replies.LowerFault = error (codes "lower")
tree_reply replies.Memory = error (codes "memory")

-- and of a file
abbrev pub file_reply : FileReply → List (List ℕ)
file_reply files.Done = codes "ok" ∷ []
file_reply (files.Octets octets) = codes "data" ∷ data_field octets ∷ []
file_reply (files.Length size) = codes "ok" ∷ number size ∷ []
file_reply (files.Refused cause) = codes "err" ∷ codes "bad" ∷ cause_fields cause
file_reply files.NotOpen = error (codes "notopen")
file_reply files.TooBig = error (codes "toobig")
file_reply files.LowerFault = error (codes "lower")
file_reply files.Memory = error (codes "memory")

-- the fields of what an operation is told
abbrev pub reply_fields : Reply → List (List ℕ)
reply_fields (Tree reply) = tree_reply reply
reply_fields (File reply) = file_reply reply
reply_fields (Opened node) = codes "ok" ∷ number node ∷ []
reply_fields Slot = error (codes "slot")
reply_fields Handle = error (codes "handle")
reply_fields Memory = error (codes "memory")

-- the fields of a call on the tree
abbrev pub tree_call : TreeCall → List (List ℕ)
tree_call (calls.Resolve p) = codes "resolve" ∷ path p ∷ []
tree_call (calls.Create p) = codes "create" ∷ path p ∷ []
tree_call (calls.Mkdir p) = codes "mkdir" ∷ path p ∷ []
tree_call (calls.Rmdir p) = codes "rmdir" ∷ path p ∷ []
tree_call (calls.Unlink p) = codes "unlink" ∷ path p ∷ []
tree_call (calls.Rename paths) = codes "rename" ∷ path paths.old ∷ path paths.new ∷ []
tree_call (calls.List p) = codes "list" ∷ path p ∷ []
tree_call (calls.Stat p) = codes "stat" ∷ path p ∷ []

-- and on a file
abbrev pub file_call : FileCall → List (List ℕ)
file_call (on_file.Attach slot) = codes "attach" ∷ number slot ∷ []
file_call (on_file.Read slot at len) = codes "read" ∷ number slot ∷ number at ∷ number len ∷ []
file_call (on_file.Write slot at octets) = codes "write" ∷ number slot ∷ number at ∷ hex octets ∷ []
file_call (on_file.Truncate slot size) = codes "truncate" ∷ number slot ∷ number size ∷ []
file_call (on_file.Size slot) = codes "size" ∷ number slot ∷ []
file_call (on_file.Sync slot) = codes "sync" ∷ number slot ∷ []
file_call (on_file.Detach slot) = codes "detach" ∷ number slot ∷ []

-- the session, its operation, the counts of faults around the turn, the call and the reply
abbrev pub entry_line : TreeEntry → List ℕ
entry_line e = line ((number e.session ∷ number e.op ∷ number e.before ∷ number e.after ∷ []) ++ tree_call e.call ++ codes "=" ∷ tree_reply e.reply)

abbrev pub file_entry_line : FileEntry → List ℕ
file_entry_line e = line ((number e.session ∷ number e.op ∷ number e.before ∷ number e.after ∷ []) ++ file_call e.call ++ codes "=" ∷ file_reply e.reply)

abbrev pub reply_line : Reply → List ℕ
reply_line reply = line (reply_fields reply)

abbrev pub session_text : ℕ → List Reply → List ℕ
session_text session replies = line (codes "session" ∷ number session ∷ number (length replies) ∷ []) ++ flat_map reply_line replies

-- sessions that are numbered from here on
abbrev pub sessions_text : ℕ → List (List Reply) → List ℕ
sessions_text session [] = []
sessions_text session (replies ∷ sessions) = session_text session replies ++ sessions_text (session + 1) sessions

abbrev pub tree_text : List TreeEntry → List ℕ
tree_text log = line (codes "tree" ∷ number (length log) ∷ []) ++ flat_map entry_line log

-- a node among rising ones
abbrev pub with_node : ℕ → List ℕ → List ℕ
with_node node [] = node ∷ []
with_node node (first ∷ rest) = if node == first then first ∷ rest else if nat_lt node first then node ∷ first ∷ rest else first ∷ with_node node rest

-- the nodes that have entries, in rising order
abbrev pub nodes_of : List FileEntry → List ℕ
nodes_of [] = []
nodes_of (e ∷ log) = with_node e.node (nodes_of log)

-- the history of one file
abbrev pub file_text : ℕ → List FileEntry → List ℕ
file_text node log = line (codes "file" ∷ number node ∷ number (length log) ∷ []) ++ flat_map file_entry_line log

-- the histories of all files that have one
abbrev pub files_text : List FileEntry → List ℕ
files_text log = flat_map (λ node. file_text node (entries_at node log)) (nodes_of log)

-- the line of a part that failed: its number, and its counts of faults before and after
abbrev pub stuck_line : ℕ → ℕ → ℕ → List ℕ
stuck_line part before after = line (codes "stuck" ∷ number part ∷ number before ∷ number after ∷ [])

-- what stands behind the histories
abbrev pub end_text : ReportEnd → List ℕ
end_text (Image nodes) = image_text (image nodes) ++ line (codes "end" ∷ [])
end_text (Stuck part before after) = stuck_line part before after

-- What a report tells: the replies of each session, the histories of the tree and of all files, and how the run ended.
pub record Report : Type 0 where
  pub sessions : List (List Reply)
  pub histories : Histories
  pub end : ReportEnd

abbrev pub report_head : List ℕ
report_head = line (codes "ecryptfs-report" ∷ codes "1" ∷ [])

-- the whole output where nothing was mounted
abbrev pub stuck_text : ℕ → ℕ → ℕ → List ℕ
stuck_text part before after = report_head ++ stuck_line part before after

abbrev pub report_text : Report → List ℕ
report_text r = report_head ++ sessions_text 0 r.sessions ++ tree_text r.histories.tree ++ files_text r.histories.file ++ end_text r.end
