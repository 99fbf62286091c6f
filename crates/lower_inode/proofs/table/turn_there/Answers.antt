use Rattle.std.proofs.Common.{rules, refl, ◌/◌, Some, ap, sym, ◌∙◌}
use Rattle.std.proofs.lemmas.Option.{slice_get-get_or}
use Rattle.lower_inode.proofs.Steps.{node_at, node_set_other, turn_nowhere, turn_placed}
use Rattle.lower_inode.proofs.table.turn_there.Goals as goal

pub returns-in_default-clause-turn : goal.returns-in_default-clause-turn
returns-in_default-clause-turn g c = turn_nowhere _ _ c.args.node c.args.nodes.now.items c.args.session c.args.call.now c.requires.node (search rules) c.requires.place

pub turn-requires-clause-node : goal.turn-requires-clause-node
turn-requires-clause-node g c = node_at _ c.args.node c.args.nodes.now.items c.in-Some.entry.now (slice_get-get_or c.args.nodes.now.items (c.args.node / 8) c.in-Some.entry.now (search rules) ∙ ap Some (sym c.in-Some.ensures.value)) c.requires.node

pub returns-clause-turn : goal.returns-clause-turn
returns-clause-turn g c = turn_placed _ _ _ c.args.node c.args.nodes.now.items c.in-Some.entry.now c.turn.new.entry c.args.session c.args.call.now c.turn.result (slice_get-get_or c.args.nodes.now.items (c.args.node / 8) c.in-Some.entry.now (search rules) ∙ ap Some (sym c.in-Some.ensures.value)) c.turn.ensures.turn

pub returns-clause-others : goal.returns-clause-others
returns-clause-others g c = λ other apart. node_set_other _ c.args.node other c.args.nodes.now.items c.turn.new.entry refl apart
