use Rattle.std.proofs.Common.{◌≡◌, List, ap, subst, sym, ◌∙◌}
use Rattle.std.proofs.lemmas.List.{with_items_is}
use Rattle.name_form.specs.FormOf.{form_of}
use Rattle.mounted_files.proofs.Histories.{goes_none}
use Rattle.session_model.specs.Session.{Member}
use Rattle.mounted_files.specs.Files.{logs_of}
use Rattle.turn_order.specs.GoesOn.{GoesOn}
use Rattle.turn_order.specs.Order.{RanInOrder}
use Rattle.turn_order.proofs.ComingBack.{none_above_files, written_by}
use Rattle.turn_order.proofs.Counting.{none_above_tree}
use Rattle.turn_order.proofs.GoingOn.{goes_on_none}
use Rattle.turn_order.proofs.replaying.replay.Goals as goal

pub returns-clause-replayed : goal.returns-clause-replayed
returns-clause-replayed g c =
    let held_names = g.N.LowerNames.held in
    let held = g.B.LowerBodies.held in
    let rules = g.F.BodyFormat.rules in
    let U = g.U.NameForm in
    let opening = c.args.names in
    let last = c.run_in_order.new.tree.names in
    let ran = c.run_in_order.new.files in
    let outs = c.write_out-out.new.self in
    let form = form_of (U.upper opening.form) (U.written opening.form) (U.longest opening.form) in
    let goes_on : GoesOn held_names form opening last = c.run_in_order.ensures.tree (record { names = opening }) (goes_on_none held_names form opening c.requires.no_turn) in
    let go_on = c.run_in_order.ensures.files c.args.files (goes_none held rules c.args.files) in
    let moved = c.run_in_order.new.sessions in
    let began = c.deref_mut.ensures.value ∙ c.begin.ensures.running in
    let ended : c.end.new.sessions.items ≡ moved = c.end.ensures ∙ with_items_is c.begin.new.running moved (c.run_in_order.auto.sessions ∙ c.deref_mut.ensures.len) in
    record {
      last = last;
      ran = ran;
      outs = outs;
      order = subst (λ (was : List Member). RanInOrder c.args.schedule.now opening.log last.log (logs_of c.args.files) (logs_of ran) was c.end.new.sessions.items) began
          (subst (λ (is : List Member). RanInOrder c.args.schedule.now opening.log last.log (logs_of c.args.files) (logs_of ran) c.deref_mut.result.now is) (sym ended) c.run_in_order.ensures.order);
      names_back = record {
        goes_on = goes_on;
        lower = ap (λ r. r.0) c.end-names.ensures.parts;
        form = ap (λ r. r.1) c.end-names.ensures.parts;
        log = ap (λ r. r.2) c.end-names.ensures.parts;
        tree = c.end-names.ensures.tree;
        keeps = c.end-names.ensures.keeps;
        counts = none_above_tree opening.tree last.tree (held_names opening.lower).faults (held_names last.lower).faults last.log goes_on.history;
      };
      files_back = record {
        go_on = go_on;
        written = written_by held rules ran outs c.write_out-out.result c.write_out-out.ensures.out c.write_out-out.ensures.stuck;
        bodies = c.end-bodies.ensures.bodies;
        logs = c.end-bodies.ensures.logs;
        counts = none_above_files held rules c.args.files ran go_on c.requires.no_file_turn;
        stores = c.write_out-out.ensures.stores;
      };
    }
