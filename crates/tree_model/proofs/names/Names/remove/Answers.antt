use Rattle.std.proofs.Common.{◌≡◌, [], sym, ap, subst, ◌∙◌}
use Rattle.tree_model.specs.Names.{without, RisesBehind}
use Rattle.tree_model.proofs.NameLemmas.{RisesBehind-without}
use Rattle.tree_model.proofs.Searches.{found_at, absent_at}
use Rattle.tree_model.proofs.names.Names.remove.Goals as goal

gone : (c : goal.After-drop-gone-inside) → c.remove-gone.new.self.items ≡ without c.args.name.now c.self.inside.entries.items
gone c = c.remove-gone.ensures.items ∙ sym (found_at _ _ c.args.name.now c.in-Ok.at c.remove-gone.result c.self.invariant c.deref.ensures.value c.in-Ok.ensures.bound c.remove-gone.ensures.value c.in-Ok.ensures.place).gone

pub invariant_of-self : goal.invariant_of-self
invariant_of-self c = subst (RisesBehind []) (sym (gone c)) (RisesBehind-without [] c.args.name.now c.self.inside.entries.items c.self.invariant)

pub returns-in-Ok : goal.returns-in-Ok
returns-in-Ok c = gone c ∙ ap (without c.args.name.now) c.self.view_is

pub returns-in_default : goal.returns-in_default
returns-in_default c = sym ((absent_at _ _ c.args.name.now c.in_default.field-0 c.self.invariant c.deref.ensures.value c.in_default.ensures.bound c.in_default.ensures.place).gone ∙ c.self.view_is) ∙ ap (without c.args.name.now) c.self.view_is
