use Rattle.std.proofs.Common.{◌≡◌, length, map}
use Rattle.std.specs.Prelude.{slice_get}
use Rattle.tree_model.specs.IsTree.{IsDirectory}
use Rattle.name_form.specs.FormOf.{form_of}
use Rattle.opening_model.specs.InTurn.{with_lowers}
use Rattle.opening_model.specs.Openings.{told}
use Rattle.namespace.proofs.opening.enter_all.Given as goal

abbrev pub invariant-loop-e : goal.invariant-loop-e
invariant-loop-e g l = record {
  entered : with_lowers (form_of (g.U.NameForm.upper l.form) (g.U.NameForm.written l.form) (g.U.NameForm.longest l.form)) (record { tree = l.tree; kept = l.kept.items }) l.dir (map told l.rest)
      ≡ with_lowers (form_of (g.U.NameForm.upper l.form) (g.U.NameForm.written l.form) (g.U.NameForm.longest l.form)) (record { tree = l.initial.tree; kept = l.initial.kept.items }) l.dir (map told l.initial.rest);
  directory : IsDirectory (slice_get l.tree.places l.dir);
  places : length l.tree.places ≡ length l.initial.tree.places;
  names : length l.kept.items ≡ length l.initial.kept.items;
  limit : l.tree.limit ≡ l.initial.tree.limit;
}

abbrev pub decreases-loop-e : goal.decreases-loop-e
decreases-loop-e g l = length l.rest
