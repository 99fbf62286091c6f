-- What a replay writes whose scripts were run on a mounted tree and its files.
use Rattle.std.proofs.Common.{◌≡◌, ◌≢◌, ℕ, zero, suc, ◌<◌, ◌%◌, ◌++◌, ◌⊎◌, Bool, true, false, inl, inr, List, length, Some, Result, Ok, Err, refl, sym, ap, ap₂, subst, ◌∙◌, arith}
use Rattle.std.specs.Prelude.{◌==◌, OnOk, map, slice_get}
use Rattle.std.proofs.lemmas.Bool.{false≢true}
use Rattle.std.proofs.lemmas.Bool.Decides.{eqb_tells}
use Rattle.std.proofs.lemmas.List.{length-map}
use Rattle.answer_model.specs.Count.{Rose}
use Rattle.lower_model.specs.declared.kind.Kind.TheVariants as kinds
use Rattle.lower_model.specs.LowerTree.{HoldsOctets}
use Rattle.tree_model.specs.declared.place.Place.TheVariants.{File}
use Rattle.tree_model.specs.IsTree.{IsTree}
use Rattle.tree_model.specs.PlainTree.{PlainTree}
use Rattle.names_model.specs.LowerPaths.{files_of}
use Rattle.names_model.proofs.FilesFit.{files_fit}
use Rattle.namespace_model.specs.Carried.{IsForm, Keeps, Stays}
use Rattle.session_model.specs.declared.reply.Reply.{Reply}
use Rattle.session_model.specs.Histories.{Histories}
use Rattle.session_model.specs.Legal.{IsLegal}
use Rattle.session_model.specs.TreeLog.{IsTreeLog}
use Rattle.session_model.specs.ScriptCalls.{AreScriptCalls}
use Rattle.session_model.specs.Session.{Member}
use Rattle.session_model.specs.Walks.{InOrder, members, replies_of}
use Rattle.session_model.proofs.ScriptCalls.{script_calls}
use Rattle.body_model.specs.LowerFile.{LowerFile}
use Rattle.body_model.specs.Bodies.{HeldBodies}
use Rattle.body_model.specs.Format.{Format, IsFormat, content}
use Rattle.file_model.specs.ByteFile.{FileState}
use Rattle.file_model.specs.FileLog.{AreShardLogs, IsTurn, entries_at, entries_in}
use Rattle.file_model.specs.Shard.{MayBeLeft, state_by, was_opened}
use Rattle.file_model.proofs.Entries.{is_apart}
use Rattle.lower_tree.specs.Held.{HeldNames, TellAll, TellsFiles, file_at, stores}
use Rattle.lower_tree.specs.Making.{AddsFaults, faults_of, sum_of_counts}
use Rattle.lower_inode.specs.Shards.{ShardOver}
use Rattle.mounted_files.specs.declared.shards.StuckStore.{StuckStore}
use Rattle.mounted_files.specs.Files.{AreNew, AreOut, FilesGoOn, IsStuckAt, faults_at, logs_of}
use Rattle.mounted_files.proofs.Held.{bodies_of, faults_in}
use Rattle.mounted_files.proofs.Histories.{calm, caused, counts, fits, left, legal, same_logs, shard_logs, state_at, tells_out}
use Rattle.job_model.specs.declared.job.Job.{Job}
use Rattle.mount_model.specs.MountForm.{form_of_job, format_of_job}
use Rattle.served_model.specs.declared.end.ReportEnd.{ReportEnd}
use Rattle.served_model.specs.declared.end.ReportEnd.TheVariants.{Image, Stuck}
use Rattle.served_model.specs.declared.end.TheConstants.{MAKER_PART}
use Rattle.served_model.specs.ReportText.{Report, report_text}
use Rattle.served_model.specs.Served.{CountsFaults, IsInOrder, IsLeftOf, IsStuckAtOpening, IsStuckAtSplit, IsStuckInOrder, Maker, RanScripts, first_state, with_last}
use Rattle.served_model.proofs.Unopened.{unopened}
use Rattle.turn_order.specs.Replay.{IsWritten}
use Rattle.mount_run.specs.declared.replay_output.ReplayOutput.{ReplayOutput}
use Rattle.mount_run.specs.declared.replay_output.ReplayOutput.TheVariants as outputs
use Rattle.mount_run.specs.Mounted.{IsMounted, IsUnchanged, IsTakenDown, IsUnitedOrNot, IsGivenBack}
use Rattle.mount_run.specs.Replays.{Replays}
use Rattle.mount_run.specs.Reported.{IsReport}
use Rattle.mount_run.proofs.Leaving.{is_shown, leaves}
use Rattle.mount_run.proofs.Mounting.{parts_of}

-- the report of a run
abbrev pub report_of : List (List Reply) → Histories → ReportEnd → Report
report_of replies own end = record { sessions = replies; histories = own; end = end }

-- what holds behind a whole write-out
pub on_written : {B F K : Type 0} (held : B → HeldBodies) (rules : F → Format K) (ran outs : List (ShardOver B F K)) (out : Result (Unit {0}) StuckStore) (P : Type 0) → IsWritten held rules ran outs out → (AreOut held rules ran outs → P) → OnOk out P
on_written held rules ran outs (Ok done) P written next = next written
on_written held rules ran outs (Err stuck) P written next = tt

-- a write-out adds no turn
pub written_logs : {B F K : Type 0} (held : B → HeldBodies) (rules : F → Format K) (ran outs : List (ShardOver B F K)) (out : Result (Unit {0}) StuckStore) → IsWritten held rules ran outs out → (store : ℕ) → logs_of outs store ≡ logs_of ran store
written_logs held rules ran outs (Ok done) written store = same_logs held rules ran outs written store
written_logs held rules ran outs (Err stuck) written store = written.logs store

-- The scripts of a job were run on the tree of an image that was mounted, and on its files.
pub record IsRun {B F : Type 0} (held : B → HeldBodies) (rules : F → Format (List ℕ)) (format : F) (job : Job) (before mounted : Maker) (first now : HeldNames) (opening ran : List (ShardOver B F (List ℕ)))
    (start : PlainTree) (kept : List (List ℕ)) (last : PlainTree) (names : List (List ℕ)) (own : Histories) (replies : List (List Reply)) : Type 0 where
  pub laws : IsForm (form_of_job job)
  pub rules_are : rules format ≡ format_of_job job
  pub lawful : IsFormat (rules format)
  pub is_mounted : IsMounted (form_of_job job) before job.image (parts_of first (bodies_of held opening)) start kept
  pub new : AreNew held rules format opening
  pub unchanged : IsUnchanged before mounted
  pub history : IsTreeLog start first.faults own.tree last now.faults
  pub walked : List Member
  pub order : InOrder (members 0 job.scripts) job.schedule own walked
  pub replies_are : replies ≡ replies_of walked
  pub logs : (store : ℕ) → store < stores → logs_of ran store ≡ logs_of opening store ++ entries_in store own.file
  pub goes : FilesGoOn held rules opening ran
  pub told : now.told ≡ first.told
  pub tree : IsTree last.places
  pub keeps : now.told ≡ true → Keeps (form_of_job job) last.places names now.entries
  pub stays : first.told ≡ true → Stays (form_of_job job) start.places kept first.entries last.places names now.entries

module _ {B F : Type 0} (held : B → HeldBodies) (rules : F → Format (List ℕ)) (format : F) (job : Job) (before mounted : Maker) (first now : HeldNames) (opening ran : List (ShardOver B F (List ℕ)))
    (start : PlainTree) (kept : List (List ℕ)) (last : PlainTree) (names : List (List ℕ)) (own : Histories) (replies : List (List Reply))
    (run : IsRun held rules format job before mounted first now opening ran start kept last names own replies) where
  abbrev Shards : Type 0
  Shards = List (ShardOver B F (List ℕ))

  abbrev image_files : ℕ → LowerFile
  image_files node = files_of job.image node

  all : length opening ≡ stores
  all =
      let bodies : List B = map (λ (s : ShardOver B F (List ℕ)). s.bodies) opening in
      sym (length-map opening (λ (s : ShardOver B F (List ℕ)). s.bodies)) ∙ sym (length-map bodies held) ∙ run.is_mounted.fresh.stores

  calls : AreScriptCalls job.scripts own replies
  calls = subst (λ (told : List (List Reply)). AreScriptCalls job.scripts own told) (sym run.replies_are) (script_calls job.scripts job.schedule own run.walked run.order)

  -- the logs at the end are those of the shards of one log
  pub logs_are : (outs : Shards) → length outs ≡ stores → (out : Result (Unit {0}) StuckStore) → IsWritten held rules ran outs out → AreShardLogs (map (λ (s : ShardOver B F (List ℕ)). s.log) outs) own.file
  logs_are outs count out written = shard_logs held rules format opening ran own.file all run.new run.goes run.logs outs count (written_logs held rules ran outs out written)

  -- as far as the maker tells
  module _ (tells : before.tells ≡ true) where
    tell : (node : ℕ) → TellsFiles (slice_get (bodies_of held opening) (node % stores))
    tell node = (run.is_mounted.tells tells).tell.bodies node

    hold : (node : ℕ) → file_at (bodies_of held opening) node ≡ image_files node
    hold node = (run.is_mounted.tells tells).hold.files node

    states_told : ℕ → FileState
    states_told = state_at held rules format opening ran own.file all run.new run.goes run.logs image_files tell hold

    legal_told : (node : ℕ) → IsLegal IsTurn (first_state job node) (entries_at node own.file) (states_told node)
    unfolding states_told
    legal_told node =
        subst (λ (r : Format (List ℕ)). IsLegal IsTurn (state_by (content r (image_files node))) (entries_at node own.file) (state_at held rules format opening ran own.file all run.new run.goes run.logs image_files tell hold node)) run.rules_are
        (legal held rules format opening ran own.file all run.new run.goes run.logs image_files tell hold node)

    left_told : (outs : Shards) → AreOut held rules ran outs → (node : ℕ) → IsLeftOf job own.file states_told node (file_at (bodies_of held outs) node)
    unfolding states_told
    left_told outs out node =
        subst (λ (r : Format (List ℕ)). MayBeLeft r (image_files node) node (was_opened node own.file) (state_at held rules format opening ran own.file all run.new run.goes run.logs image_files tell hold node) (file_at (bodies_of held outs) node)) run.rules_are
        (left held rules format opening ran own.file all run.new run.goes run.logs image_files tell hold outs out run.lawful node)

    pub fits_told : (outs : Shards) → AreOut held rules ran outs → (node : ℕ) → HoldsOctets kinds.File (file_at (bodies_of held outs) node).attribute (file_at (bodies_of held outs) node).body
    fits_told outs out node =
        fits held rules format opening ran own.file all run.new run.goes run.logs image_files tell hold outs out run.lawful node (files_fit job.image (run.is_mounted.tells tells).hold.lawful node)

    told_outs : (outs : Shards) → AreOut held rules ran outs → (node : ℕ) → TellsFiles (slice_get (bodies_of held outs) (node % stores))
    told_outs outs out node = tells_out held rules format opening ran own.file all run.new run.goes run.logs image_files tell hold outs out run.lawful node

  -- The states of the files at the end, as far as the maker tells.
  record LastStates : Type 0 where
    states : ℕ → FileState
    lawful : before.tells ≡ true → (node : ℕ) → IsLegal IsTurn (first_state job node) (entries_at node own.file) (states node)
    leaves_so : before.tells ≡ true → (outs : Shards) → AreOut held rules ran outs → (node : ℕ) → IsLeftOf job own.file states node (file_at (bodies_of held outs) node)

  by_tells : (b : Bool) → before.tells ≡ b → LastStates
  by_tells true is = record { states = states_told is; lawful = λ tells. legal_told is; leaves_so = λ tells. left_told is }
  by_tells false is = record { states = first_state job; lawful = λ tells. absurd (false≢true (sym is ∙ tells)); leaves_so = λ tells. absurd (false≢true (sym is ∙ tells)) }

  at_last : LastStates
  at_last = by_tells before.tells refl

  faults : ℕ → ℕ
  faults zero = now.faults
  faults (suc store) = faults_at held (slice_get ran store)

  calm_first : (store : ℕ) → faults_at held (slice_get opening store) ≡ 0
  calm_first store = sym (faults_in held opening store) ∙ run.is_mounted.fresh.calm (suc store)

  did_run : (end : ReportEnd) → RanScripts before.tells job (report_of replies own end) last at_last.states faults
  unfolding faults
  did_run end = record {
    start = start;
    opening = record {
      is_tree = run.is_mounted.is_tree;
      limit = run.is_mounted.limit;
      shown = λ tells. is_shown (form_of_job job) job.image first now (bodies_of held opening) (bodies_of held opening) start kept last names (run.is_mounted.tells tells);
    };
    tree_history = subst (λ (n : ℕ). IsTreeLog start n own.tree last now.faults) (run.is_mounted.fresh.calm 0) run.history;
    file_history = record {
      caused = caused held rules format opening ran own.file all run.new run.goes run.logs;
      legal = at_last.lawful;
      counts = λ store within. counts held rules format opening ran own.file all run.new run.goes run.logs store within (calm_first store);
    };
    script_calls = calls;
  }

  in_order : (end : ReportEnd) → IsInOrder job (report_of replies own end)
  in_order end = record { last = run.walked; order = run.order; replies = run.replies_are }

  -- ---- the end of a run

  module _ (outs : Shards) (after : Maker) (adds : AddsFaults (parts_of now (bodies_of held outs)) mounted.tallies after.tallies) where
    -- the tallies rose by these
    counts_as : (all_faults : ℕ → ℕ) → ((part : ℕ) → faults_of (parts_of now (bodies_of held outs)) part ≡ all_faults part) → CountsFaults before after all_faults
    counts_as all_faults same part within = adds part ∙ ap₂ (λ (tally count : ℕ). sum_of_counts tally count) (run.unchanged.tallies part) (same part)

    same_faults : AreOut held rules ran outs → (part : ℕ) → faults_of (parts_of now (bodies_of held outs)) part ≡ faults part
    unfolding faults
    same_faults out zero = refl
    same_faults out (suc store) = faults_in held outs store ∙ calm held rules ran outs out store

    last_faults : (stuck : StuckStore) (at : IsStuckAt held ran outs stuck) (part : ℕ) → faults_of (parts_of now (bodies_of held outs)) part ≡ with_last (suc at.store) stuck.after faults part
    unfolding faults
    last_faults stuck at zero = (let apart : (0 == suc at.store) ≡ false = is_apart 0 (suc at.store) (λ same. absurd (omega (arith, same))) in rw apart refl)
    last_faults stuck at (suc store) = elim (eqb_tells (suc store) (suc at.store)) [
      | inl same ↦ rw same.0 (
          let here : store ≡ at.store = (let e = same.1 in omega arith) in
          faults_in held outs store ∙ ap (λ (k : ℕ). faults_at held (slice_get outs k)) here ∙ sym at.last_is)
      | inr apart ↦ rw apart.0 (
          let other : store ≢ at.store = (let e : suc store ≢ suc at.store = apart.1 in λ same. e (ap (λ (n : ℕ). suc n) same)) in
          faults_in held outs store ∙ at.others store other)
    ]

  module _ (outs : Shards) (after : Maker) where
    -- what was not opened is as it was
    kept_file : (tells : before.tells ≡ true) (out : AreOut held rules ran outs) (node : ℕ) → node < length start.places → (slice_get start.places node ≡ Some File → ⊥) → file_at (bodies_of held outs) node ≡ image_files node
    kept_file tells out node within no_file =
        let closed : was_opened node own.file ≡ false = unopened job.scripts own replies start last first.faults now.faults calls run.history node within no_file in
        subst (λ (b : Bool). MayBeLeft (format_of_job job) (image_files node) node b (at_last.states node) (file_at (bodies_of held outs) node)) closed (at_last.leaves_so tells outs out node)

    united : (end e : ReportEnd) (output : ReplayOutput) → e ≡ end → AreOut held rules ran outs → IsUnitedOrNot mounted after (parts_of now (bodies_of held outs)) e → IsReport e (report_text (report_of replies own end)) output → Replays job before after output
    united end (Image image) (outputs.Report out_image text) is out down written = (
      record {
        in_order = in_order end;
        served = record {
          report = report_of replies own end;
          end = last;
          files = at_last.states;
          faults = faults;
          ran = did_run end;
          counted = counts_as outs after down.counted faults (same_faults outs after down.counted out);
          image = image;
          prints = sym is;
          lawful = down.ends.lawful;
          leaves = λ tells.
              (let t = run.is_mounted.tells tells in
              let names_tell = run.told ∙ t.tell.names in
              let all_tell : TellAll (parts_of now (bodies_of held outs)) = record { names = names_tell; bodies = told_outs tells outs out } in
              leaves (form_of_job job) job.image first now (bodies_of held opening) (bodies_of held outs) start kept last names t (run.stays t.tell.names) run.laws run.is_mounted.is_tree (run.keeps names_tell) run.tree image down.ends.lawful
              (down.ends.same (run.unchanged.tells ∙ tells) all_tell) (IsLeftOf job own.file at_last.states) (at_last.leaves_so tells outs out) (kept_file tells out));
          calm = down.ends.calm ∙ run.unchanged.faults;
          text = written.0;
        };
      },
      written.1,
    )
    united end (Image image) (outputs.Stuck text) is out down written = absurd written
    united end (Stuck part low high) (outputs.Report out_image text) is out down written = absurd written
    united end (Stuck part low high) (outputs.Stuck text) is out down written =
        let first_is : low ≡ before.faults = down.ends.first_is ∙ run.unchanged.faults in
        let stuck : Stuck part low high ≡ Stuck MAKER_PART before.faults after.faults = rw (down.ends.part_is, first_is, down.ends.last_is) refl in
        record {
          in_order = in_order end;
          stuck = inr (inr (inr (record {
            report = report_of replies own end;
            end = last;
            files = at_last.states;
            faults = faults;
            ran = did_run end;
            counted = counts_as outs after down.counted faults (same_faults outs after down.counted out);
            rose = subst (λ (n : ℕ). Rose n after.faults) run.unchanged.faults down.ends.rose;
            prints = sym is ∙ stuck;
            text = written;
          })));
        }

    given_back : (end : ReportEnd) (output : ReplayOutput) (stuck : StuckStore) → IsStuckAt held ran outs stuck → IsGivenBack mounted after (parts_of now (bodies_of held outs)) stuck end → IsReport end (report_text (report_of replies own end)) output → Replays job before after output
    unfolding faults
    given_back (Image image) output stuck at down written = (let is = down.end_is in absurd cc)
    given_back (Stuck part low high) (outputs.Report out_image text) stuck at down written = absurd written
    given_back (Stuck part low high) (outputs.Stuck text) stuck at down written =
        let end = Stuck part low high in
        let is : Stuck part low high ≡ Stuck (suc at.store) (faults_at held (slice_get ran at.store)) stuck.after = down.end_is ∙ rw (at.part_is, at.first_is) refl in
        record {
          in_order = in_order end;
          stuck = inr (inr (inl (record {
            report = report_of replies own end;
            end = last;
            files = at_last.states;
            faults = faults;
            ran = did_run end;
            store = at.store;
            is_store = at.is_store;
            last = stuck.after;
            rose = subst (λ (n : ℕ). Rose n stuck.after) at.first_is at.rose;
            counted = counts_as outs after down.counted (with_last (suc at.store) stuck.after faults) (last_faults outs after down.counted stuck at);
            calm = down.calm ∙ run.unchanged.faults;
            prints = is;
            text = written;
          })));
        }

    pub replays : (out : Result (Unit {0}) StuckStore) (end : ReportEnd) (output : ReplayOutput) → IsWritten held rules ran outs out → IsTakenDown mounted after (parts_of now (bodies_of held outs)) out end → IsReport end (report_text (report_of replies own end)) output
        → Replays job before after output
    replays (Ok done) end output written down report = united end end output refl written down report
    replays (Err stuck) end output written down report = given_back end output stuck written down report

-- nothing was mounted
pub stuck_before : (job : Job) (before after : Maker) (text : List ℕ) → IsStuckAtSplit before after text ⊎ IsStuckAtOpening before after text → IsStuckInOrder job before after text
stuck_before job before after text (inl split) = record { stuck = inl split; in_order = tt }
stuck_before job before after text (inr opening) = record { stuck = inr (inl opening); in_order = tt }
