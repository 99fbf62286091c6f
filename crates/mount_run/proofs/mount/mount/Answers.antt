use Rattle.std.proofs.Common.{◌≡◌, ℕ, List, inr, ap, subst, sym, ◌∙◌, map}
use Rattle.answer_model.specs.Count.{Rose}
use Rattle.name_form.specs.FormOf.{form_of}
use Rattle.lower_tree.specs.Held.{HeldNames}
use Rattle.body_model.specs.Bodies.{HeldBodies}
use Rattle.lower_tree.specs.Making.{sum_of_counts, faults_of}
use Rattle.served_model.specs.declared.end.TheConstants.{NAMES_PART}
use Rattle.served_model.specs.ReportText.{stuck_text}
use Rattle.served_model.specs.Served.{CountsFaults, names_alone}
use Rattle.mount_run.specs.InputAndOutput.{maker_of}
use Rattle.mount_run.specs.Mounted.{IsMounted}
use Rattle.mount_run.proofs.Mounting.{counts_names, mounted, parts_of}
use Rattle.mount_run.proofs.mount.mount.Goals as goal

pub returns-in-Ok-open-clause-mounted : goal.returns-in-Ok-open-clause-mounted
returns-in-Ok-open-clause-mounted g c =
    let held = g.M.N.LowerNames.held in
    let split = c.in-Ok.ensures in
    let opened = c.in-Ok-new.ensures in
    let old : HeldNames = held c.in-Ok.parts.names in
    let names = c.in-Ok-new.names in
    let form = form_of (g.U.NameForm.upper c.args.form) (g.U.NameForm.written c.args.form) (g.U.NameForm.longest c.args.form) in
    let maker = maker_of g.M.LowerMaker.tells g.M.LowerMaker.count g.M.LowerMaker.tally_of c.args.lower.now in
    subst (λ (bodies : List _). IsMounted form maker c.args.image (parts_of (held names.lower) (map g.M.B.LowerBodies.held bodies)) names.tree names.kept) (sym c.in-Ok-open.ensures.bodies)
    (mounted form maker c.args.image old (held names.lower) (map g.M.B.LowerBodies.held c.in-Ok.parts.bodies.items) names.tree names.kept
    (record { fresh = split.fresh; tell = split.tell; hold = split.hold })
    (record {
      faults = opened.faults;
      told = opened.told;
      stays = opened.stays;
      shows = opened.shows;
      keeps = opened.keeps;
      is_tree = opened.tree;
      limit = opened.limit;
    }))

pub returns-in-Err-Lower-clause-fails : goal.returns-in-Err-Lower-clause-fails
returns-in-Err-Lower-clause-fails g c =
    let held = g.M.N.LowerNames.held in
    let split = c.in-Ok.ensures in
    let old : HeldNames = held c.in-Ok.parts.names in
    let bodies : List HeldBodies = map g.M.B.LowerBodies.held c.in-Ok.parts.bodies.items in
    let before = maker_of g.M.LowerMaker.tells g.M.LowerMaker.count g.M.LowerMaker.tally_of c.args.lower.now in
    let after = maker_of g.M.LowerMaker.tells g.M.LowerMaker.count g.M.LowerMaker.tally_of c.take_back-in-Err-Lower.new.self in
    let fault = rw c.in-Err-Lower.field-0-is at c.in-Err-Lower.ensures.fault in
    let names = held c.in-Err-Lower.names in
    let back = rw c.in-Err-Lower.field-0-is at c.take_back-in-Err-Lower.ensures.tallies in
    let first : c.in-Err-Lower.before ≡ 0 = fault.1 ∙ split.fresh.calm 0 in
    let adds : (part : ℕ) → after.tallies part ≡ sum_of_counts (before.tallies part) (faults_of (record { names = names; bodies = bodies }) part) =
    λ part. back part ∙ ap (λ (tally : ℕ). sum_of_counts tally (faults_of (record { names = names; bodies = bodies }) part)) (split.tallies part) in
    inr (record {
      faults = c.in-Err-Lower.after;
      rose = subst (λ (n : ℕ). Rose n c.in-Err-Lower.after) first fault.3;
      counted = subst (λ (n : ℕ). CountsFaults before after (names_alone n)) (sym fault.2) (counts_names old names bodies before after split.fresh adds);
      calm = c.take_back-in-Err-Lower.ensures.count ∙ split.cause;
      text = rw c.in-Err-Lower.field-0-is (ap (λ (n : ℕ). stuck_text NAMES_PART n c.in-Err-Lower.after) first);
    })
