use Rattle.std.proofs.Common.{◌≡◌, sym, ap, ◌∙◌}
use Rattle.std.specs.Prelude.{slice_set}
use Rattle.tree_model.specs.Names.{put_entry}
use Rattle.tree_model.proofs.NameLemmas.{put_rises}
use Rattle.tree_model.proofs.Searches.{put_found, put_absent}
use Rattle.tree_model.proofs.names.Names.insert_with.Goals as goal

there : (c : goal.After-drop-name-inside) → slice_set c.self.inside.entries.items c.in-Ok.at c.set_node.new.self ≡ put_entry c.self.inside.entries.items c.args.name c.args.node
there c =
    put_found _ _ c.octets.result.now c.in-Ok.at c.args.node c.index_mut.result.now c.set_node.new.self c.self.invariant c.deref.ensures.value c.in-Ok.ensures.bound c.index_mut.ensures.value c.in-Ok.ensures.place c.set_node.ensures
    ∙ ap (λ name. put_entry c.self.inside.entries.items name c.args.node) c.octets.ensures.value

new : (c : goal.After-unwrap) → c.insert.new.self.items ≡ put_entry c.self.inside.entries.items c.args.name c.args.node
new c =
    (rw (c.insert.ensures.succeeds c.take_room.ensures.room, c.take_room.ensures.items) at c.insert.ensures.items)
    ∙ put_absent _ _ c.octets.result.now c.in-Err.at c.args.node c.entry.result c.self.invariant c.deref.ensures.value c.in-Err.ensures.bound c.in-Err.ensures.place (c.entry.ensures ∙ ap (λ name. (name, c.args.node)) (sym c.octets.ensures.value))
    ∙ ap (λ name. put_entry c.self.inside.entries.items name c.args.node) c.octets.ensures.value

pub invariant_of-self : goal.invariant_of-self
invariant_of-self c = put_rises c.self.inside.entries.items _ c.args.name c.args.node c.self.invariant c.octets.ensures.name (there c)

pub invariant_of-self-in-Err : goal.invariant_of-self-in-Err
invariant_of-self-in-Err c = put_rises c.self.inside.entries.items _ c.args.name c.args.node c.self.invariant c.octets.ensures.name (new c)

pub returns-in-Ok-clause-names : goal.returns-in-Ok-clause-names
returns-in-Ok-clause-names c = there c ∙ ap (λ es. put_entry es c.args.name c.args.node) c.self.view_is

pub returns-in-Err-clause-names : goal.returns-in-Err-clause-names
returns-in-Err-clause-names c = new c ∙ ap (λ es. put_entry es c.args.name c.args.node) c.self.view_is
