-- What a replay of a job writes, by what mounting, replaying and reporting promise.
use Rattle.std.proofs.Common.{◌≡◌, ℕ, ◌++◌, true, List, [], map, Option, Some, None, Result, Ok, Err, refl, sym, ap, ap₂, ◌∙◌, subst}
use Rattle.std.specs.Prelude.{IfOk, OnOk, IfSome, slice_get}
use Rattle.body_model.specs.Bodies.{HeldBodies}
use Rattle.body_model.specs.Format.{Format, IsFormat}
use Rattle.names_model.specs.NameForm.{NameForm}
use Rattle.namespace_model.specs.Carried.{IsForm, Keeps}
use Rattle.namespace.specs.Namespace.{Namespace}
use Rattle.opening_model.proofs.ByPath.{store_tree}
use Rattle.lower_tree.specs.Held.{HeldNames, HeldParts, TellAll}
use Rattle.lower_tree.specs.Making.{HoldSomeTree, held_parts}
use Rattle.lower_inode.specs.Shards.{ShardOver}
use Rattle.session_model.specs.declared.entry.TreeEntry.{TreeEntry}
use Rattle.session_model.specs.declared.entry.FileEntry.{FileEntry}
use Rattle.session_model.specs.declared.reply.Reply.{Reply}
use Rattle.session_model.specs.Histories.{Histories}
use Rattle.session_model.specs.TreeLog.{IsTreeLog}
use Rattle.session_model.specs.Walks.{members, replies_of}
use Rattle.file_model.specs.FileLog.{AreShardLogs}
use Rattle.mounted_files.specs.Files.{AreNew, IsNew, log_of, logs_of}
use Rattle.mounted_files.proofs.Held.{bodies_of}
use Rattle.job_model.specs.declared.job.Job.{Job}
use Rattle.mount_model.specs.MountForm.{form_of_job, format_of_job}
use Rattle.served_model.specs.ReportText.{Report, report_text}
use Rattle.served_model.specs.Served.{Maker}
use Rattle.turn_order.specs.declared.replaying.Replayed.{Replayed}
use Rattle.turn_order.specs.GoesOn.{GoesOn}
use Rattle.turn_order.specs.Replay.{IsReplayed}
use Rattle.mount_run.specs.declared.replay_output.ReplayOutput.{ReplayOutput}
use Rattle.mount_run.specs.Mounted.{IsMounted, IsTakenDown, IsUnchanged}
use Rattle.mount_run.specs.Replays.{Replays}
use Rattle.mount_run.specs.Reported.{IsReport, IsReported}
use Rattle.mount_run.proofs.Mounting.{parts_of}
use Rattle.mount_run.proofs.Serving.{IsRun, fits_told, logs_are, on_written, replays, report_of}
use Rattle.mount_run.proofs.Sessions.{told_replies}

no_log : {B F K : Type 0} (held : B → HeldBodies) (rules : F → Format K) (format : F) (shard : Option (ShardOver B F K)) → IfSome shard (IsNew held rules format) → log_of shard ≡ []
no_log held rules format (Some shard) new = new.log
no_log held rules format None new = refl

-- files that were opened have no turns
pub no_turns : {B F K : Type 0} (held : B → HeldBodies) (rules : F → Format K) (format : F) (files : List (ShardOver B F K)) → AreNew held rules format files → (store : ℕ) → logs_of files store ≡ []
no_turns held rules format files new store = no_log held rules format (slice_get files store) (new store)

-- The sessions of a job were replayed on the tree of its image, which was mounted, and on its files.
pub record IsReplayOf {N U B F : Type 0} (held_names : N → HeldNames) (held : B → HeldBodies) (rules : F → Format (List ℕ)) (form_by : U → NameForm) (format : F) (job : Job) (before mounted : Maker)
    (names : Namespace N U) (files : List (ShardOver B F (List ℕ))) (replayed : Replayed N U B) : Type 0 where
  pub laws : IsForm (form_of_job job)
  pub form_is : form_by names.form ≡ form_of_job job
  pub rules_are : rules format ≡ format_of_job job
  pub lawful : IsFormat (rules format)
  pub is_mounted : IsMounted (form_of_job job) before job.image (parts_of (held_names names.lower) (bodies_of held files)) names.tree names.kept
  pub unchanged : IsUnchanged before mounted
  pub no_turn : names.log ≡ []
  pub new : AreNew held rules format files
  pub is_replayed : IsReplayed held_names held rules form_by job.schedule names files (members 0 job.scripts) replayed

module _ {N U B F : Type 0} (held_names : N → HeldNames) (held : B → HeldBodies) (rules : F → Format (List ℕ)) (form_by : U → NameForm) (format : F) (job : Job) (before mounted : Maker)
    (names : Namespace N U) (files : List (ShardOver B F (List ℕ))) (replayed : Replayed N U B) (r : IsReplayOf held_names held rules form_by format job before mounted names files replayed) where
  abbrev last : Namespace N U
  last = r.is_replayed.last

  abbrev own : Histories
  own = r.is_replayed.order.made

  abbrev replies : List (List Reply)
  replies = replies_of replayed.sessions.items

  goes_on : GoesOn held_names (form_of_job job) names last
  goes_on = subst (λ (form : NameForm). GoesOn held_names form names last) r.form_is r.is_replayed.names_back.goes_on

  logged : last.log ≡ own.tree
  logged = r.is_replayed.order.grows.adds_tree ∙ ap (λ (log : List TreeEntry). log ++ own.tree) r.no_turn

  run : IsRun held rules format job before mounted (held_names names.lower) (held_names last.lower) files r.is_replayed.ran names.tree names.kept last.tree last.kept own replies
  run = record {
    laws = r.laws;
    rules_are = r.rules_are;
    lawful = r.lawful;
    is_mounted = r.is_mounted;
    new = r.new;
    unchanged = r.unchanged;
    history = subst (λ (log : List TreeEntry). IsTreeLog names.tree (held_names names.lower).faults log last.tree (held_names last.lower).faults) logged goes_on.history;
    walked = replayed.sessions.items;
    order = r.is_replayed.order.order;
    replies_are = refl;
    logs = r.is_replayed.order.grows.adds_files;
    goes = r.is_replayed.files_back.go_on;
    told = goes_on.told;
    tree = r.is_replayed.names_back.tree;
    keeps = λ told. subst (λ (form : NameForm). Keeps form last.tree.places last.kept (held_names last.lower).entries) (ap form_by goes_on.same_form ∙ r.form_is) (r.is_replayed.names_back.keeps told);
    stays = goes_on.stays;
  }

  parts_are : held_parts held_names held replayed.names replayed.bodies.items ≡ parts_of (held_names last.lower) (bodies_of held r.is_replayed.outs)
  parts_are = ap₂ (λ (n : N) (bodies : List B). held_parts held_names held n bodies) r.is_replayed.names_back.lower r.is_replayed.files_back.bodies

  -- what was written out makes a tree
  pub allowed : OnOk replayed.out (mounted.tells ≡ true → TellAll (held_parts held_names held replayed.names replayed.bodies.items) → HoldSomeTree (held_parts held_names held replayed.names replayed.bodies.items))
  allowed = on_written held rules r.is_replayed.ran r.is_replayed.outs replayed.out _ r.is_replayed.files_back.written (λ all_out tells tell.
      subst (λ (parts : HeldParts). HoldSomeTree parts) (sym parts_are)
      (let t = subst (λ (parts : HeldParts). TellAll parts) parts_are tell in
      record {
        names = store_tree (form_of_job job) last.tree last.kept (held_names last.lower).entries (run.keeps t.names) run.tree;
        files = fits_told held rules format job before mounted (held_names names.lower) (held_names last.lower) files r.is_replayed.ran names.tree names.kept last.tree last.kept own replies run
            (sym r.unchanged.tells ∙ tells) r.is_replayed.outs all_out;
      }))

  file_logs : AreShardLogs replayed.file_logs.items own.file
  file_logs =
      subst (λ (logs : List (List FileEntry)). AreShardLogs logs own.file) (sym r.is_replayed.files_back.logs)
      (logs_are held rules format job before mounted (held_names names.lower) (held_names last.lower) files r.is_replayed.ran names.tree names.kept last.tree last.kept own replies run
      r.is_replayed.outs r.is_replayed.files_back.stores replayed.out r.is_replayed.files_back.written)

  is_reported : (after : Maker) (output : ReplayOutput) → IsReported held_names held mounted after replayed output → Replays job before after output
  is_reported after output reported =
      let tree_log : replayed.tree_log ≡ own.tree = r.is_replayed.names_back.log ∙ logged in
      let told : record { sessions = map (λ s. s.replies) replayed.sessions.items; histories = record { tree = replayed.tree_log; file = own.file }; end = reported.end } ≡ report_of replies own reported.end =
      ap₂ (λ (sessions : List (List Reply)) (tree : List TreeEntry). report_of sessions (record { tree = tree; file = own.file }) reported.end) (told_replies replayed.sessions.items) tree_log in
      replays held rules format job before mounted (held_names names.lower) (held_names last.lower) files r.is_replayed.ran names.tree names.kept last.tree last.kept own replies run r.is_replayed.outs after
      replayed.out reported.end output r.is_replayed.files_back.written
      (subst (λ (parts : HeldParts). IsTakenDown mounted after parts replayed.out reported.end) parts_are reported.taken_down)
      (subst (λ (report : Report). IsReport reported.end (report_text report) output) told (reported.is_report own.file file_logs))

  pub if_reported : {E : Type 0} (after : Maker) (result : Result ReplayOutput E) → IfOk result (IsReported held_names held mounted after replayed) → IfOk result (Replays job before after)
  if_reported after (Ok output) reported = is_reported after output reported
  if_reported after (Err fault) reported = tt
