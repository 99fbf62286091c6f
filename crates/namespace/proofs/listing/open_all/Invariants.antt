use Rattle.std.proofs.Common.{◌≡◌, ℕ, true, length}
use Rattle.name_form.specs.FormOf.{form_of}
use Rattle.opening_model.specs.Openings.{IsOpenedTo}
use Rattle.namespace.proofs.listing.open_all.Given as goal

abbrev pub invariant-loop-number : goal.invariant-loop-number
invariant-loop-number g l = record {
  opened : (g.N.LowerNames.held l.initial.lower).told ≡ true → IsOpenedTo (form_of (g.U.NameForm.upper l.form) (g.U.NameForm.written l.form) (g.U.NameForm.longest l.form)) (g.N.LowerNames.held l.initial.lower).entries l.number (record { tree = l.tree; kept = l.kept.items });
  stays : (g.N.LowerNames.held l.initial.lower).told ≡ true → (k : ℕ) → (g.N.LowerNames.held l.lower).entries k ≡ (g.N.LowerNames.held l.initial.lower).entries k;
  told : (g.N.LowerNames.held l.lower).told ≡ (g.N.LowerNames.held l.initial.lower).told;
  faults : (g.N.LowerNames.held l.lower).faults ≡ (g.N.LowerNames.held l.initial.lower).faults;
  places : length l.tree.places ≡ length l.initial.tree.places;
  names : length l.kept.items ≡ length l.initial.kept.items;
  limit : l.tree.limit ≡ l.initial.tree.limit;
}
