use Rattle.std.proofs.Common.{◌<◌, ℕ, List, length, ap, sym, subst}
use Rattle.std.specs.List.{AllByRecursion}
use Rattle.names_model.specs.NameForm.{NameForm}
use Rattle.name_form.specs.FormOf.{form_of}
use Rattle.namespace_model.specs.Carried.{IsForm}
use Rattle.content_model.specs.Ecryptfs.{ecryptfs}
use Rattle.format_laws.proofs.EightOctets.{is_mount}
use Rattle.format_laws.proofs.FormatLaws.{ecryptfs_is_format}
use Rattle.session_model.specs.Session.{IsFresh, Member}
use Rattle.session_model.specs.Walks.{members}
use Rattle.mounted_files.proofs.Held.{bodies_of}
use Rattle.served_model.specs.ReportText.{stuck_text}
use Rattle.served_model.specs.Served.{IsStuckInOrder}
use Rattle.mount_run.specs.InputAndOutput.{maker_of}
use Rattle.mount_run.specs.Mounted.{IsMounted}
use Rattle.mount_run.proofs.FormLaws.{is_form}
use Rattle.mount_run.proofs.Mounting.{parts_of}
use Rattle.mount_run.proofs.Replaying.{IsReplayOf, allowed, if_reported, no_turns}
use Rattle.mount_run.proofs.Serving.{stuck_before}
use Rattle.mount_run.proofs.Sessions.{are_fresh, are_numbers}
use Rattle.mount_run.proofs.serve.serve.Goals as goal

pub returns-in-Err-Stuck : goal.returns-in-Err-Stuck
returns-in-Err-Stuck g c =
    let job = c.args.job in
    let before = maker_of g.M.LowerMaker.tells g.M.LowerMaker.count g.M.LowerMaker.tally_of c.args.lower.now in
    let after = maker_of g.M.LowerMaker.tells g.M.LowerMaker.count g.M.LowerMaker.tally_of c.mount.new.lower in
    let stuck = c.in-Err-Stuck in
    let fails = rw stuck.field-0-is at stuck.ensures.fails in
    subst (λ (text : List ℕ). IsStuckInOrder job before after text) (sym c.in_ok-text-in-Err-Stuck.ensures) (stuck_before job before after (stuck_text stuck.part stuck.before stuck.after) fails)

pub replay-requires-clause-fresh : goal.replay-requires-clause-fresh
replay-requires-clause-fresh g c = subst (λ (sessions : List Member). AllByRecursion IsFresh sessions) (sym c.in_ok-sessions.ensures) (are_fresh 0 c.args.job.scripts)

pub replay-requires-clause-items : goal.replay-requires-clause-items
replay-requires-clause-items g c =
    let scripts = c.args.job.scripts in
    let numbers = are_numbers scripts c.args.job.schedule c.requires.lawful.schedule.items in
    subst (λ (sessions : List Member). AllByRecursion (λ k. k < length sessions) c.as_slice.result.now) (sym c.in_ok-sessions.ensures)
    (subst (λ (schedule : List ℕ). AllByRecursion (λ k. k < length (members 0 scripts)) schedule) (sym c.as_slice.ensures) numbers)

pub replay-requires-clause-no_file_turn : goal.replay-requires-clause-no_file_turn
replay-requires-clause-no_file_turn g c = λ store within. no_turns g.M.B.LowerBodies.held (λ f. ecryptfs f.now.mount) c.args.format c.in-Ok.mounted.files c.in-Ok.ensures.files store

pub report_of-requires-clause-allowed : goal.report_of-requires-clause-allowed
report_of-requires-clause-allowed g c =
    let names_held = g.M.N.LowerNames.held in
    let held = g.M.B.LowerBodies.held in
    let U = g.U.NameForm in
    let job = c.args.job in
    let form = c.args.form in
    let names = c.in-Ok.mounted.names in
    let files = c.in-Ok.mounted.files in
    let before = maker_of g.M.LowerMaker.tells g.M.LowerMaker.count g.M.LowerMaker.tally_of c.args.lower.now in
    let mounted = maker_of g.M.LowerMaker.tells g.M.LowerMaker.count g.M.LowerMaker.tally_of c.mount.new.lower in
    let m = c.in-Ok.ensures in
    let is : IsReplayOf names_held held (λ f. ecryptfs f.now.mount) (λ form. form_of (U.upper form) (U.written form) (U.longest form)) c.args.format job before mounted names files c.in-Ok-replay.replayed = record {
      laws = subst IsForm c.requires.form (is_form (U.upper form) (U.written form) (U.longest form) (g.met.U.NameForm.reads_written form) (g.met.U.NameForm.reads_names form) (g.met.U.NameForm.writes_names form));
      form_is = rw m.form c.requires.form;
      rules_are = ap ecryptfs c.requires.format;
      lawful = ecryptfs_is_format c.args.format.now.mount (is_mount c.args.format.now);
      is_mounted = subst (λ (form : NameForm). IsMounted form before job.image (parts_of (names_held names.lower) (bodies_of held files)) names.tree names.kept) c.requires.form m.mounted;
      unchanged = m.unchanged;
      no_turn = m.log;
      new = m.files;
      is_replayed = rw (c.as_slice.ensures, c.in_ok-sessions.ensures) at c.in-Ok-replay.ensures.replayed;
    } in
    allowed names_held held (λ f. ecryptfs f.now.mount) (λ form. form_of (U.upper form) (U.written form) (U.longest form)) c.args.format job before mounted names files c.in-Ok-replay.replayed is

pub returns-in-Ok-replay : goal.returns-in-Ok-replay
returns-in-Ok-replay g c =
    let names_held = g.M.N.LowerNames.held in
    let held = g.M.B.LowerBodies.held in
    let U = g.U.NameForm in
    let job = c.args.job in
    let form = c.args.form in
    let names = c.in-Ok.mounted.names in
    let files = c.in-Ok.mounted.files in
    let before = maker_of g.M.LowerMaker.tells g.M.LowerMaker.count g.M.LowerMaker.tally_of c.args.lower.now in
    let mounted = maker_of g.M.LowerMaker.tells g.M.LowerMaker.count g.M.LowerMaker.tally_of c.mount.new.lower in
    let m = c.in-Ok.ensures in
    let is : IsReplayOf names_held held (λ f. ecryptfs f.now.mount) (λ form. form_of (U.upper form) (U.written form) (U.longest form)) c.args.format job before mounted names files c.in-Ok-replay.replayed = record {
      laws = subst IsForm c.requires.form (is_form (U.upper form) (U.written form) (U.longest form) (g.met.U.NameForm.reads_written form) (g.met.U.NameForm.reads_names form) (g.met.U.NameForm.writes_names form));
      form_is = rw m.form c.requires.form;
      rules_are = ap ecryptfs c.requires.format;
      lawful = ecryptfs_is_format c.args.format.now.mount (is_mount c.args.format.now);
      is_mounted = subst (λ (form : NameForm). IsMounted form before job.image (parts_of (names_held names.lower) (bodies_of held files)) names.tree names.kept) c.requires.form m.mounted;
      unchanged = m.unchanged;
      no_turn = m.log;
      new = m.files;
      is_replayed = rw (c.as_slice.ensures, c.in_ok-sessions.ensures) at c.in-Ok-replay.ensures.replayed;
    } in
    if_reported names_held held (λ f. ecryptfs f.now.mount) (λ form. form_of (U.upper form) (U.written form) (U.longest form)) c.args.format job before mounted names files c.in-Ok-replay.replayed is
    (maker_of g.M.LowerMaker.tells g.M.LowerMaker.count g.M.LowerMaker.tally_of c.report_of.new.lower) c.report_of.result c.report_of.ensures
