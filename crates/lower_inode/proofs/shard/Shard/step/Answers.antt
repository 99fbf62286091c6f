use Rattle.std.proofs.Common.{◌≡◌, ◌+◌, ◌≤◌, ap, arith, refl, subst, sym, ◌∙◌}
use Rattle.lower_inode.specs.CipherSteps.{most_steps}
use Rattle.lower_inode.specs.Shards.{IsReplyIn, node_in, shard_of}
use Rattle.lower_inode.specs.NodeTurn.{IsNode}
use Rattle.lower_inode.proofs.Others.{nodes_on}
use Rattle.lower_inode.proofs.Steps.{reply_in, step_at}
use Rattle.file_model.specs.Shard.{IsShardStep}
use Rattle.lower_inode.proofs.shard.Shard.step.Goals as goal

pub turn_at-reply-requires-clause-node : goal.turn_at-reply-requires-clause-node
turn_at-reply-requires-clause-node g c = subst (λ i. IsNode (g.B.LowerBodies.held c.self.inside.bodies) c.args.node (node_in i c.self.inside.nodes.items c.args.node)) (sym (c.requires.node ∙ ap (λ s. s.index) (sym c.self.view_is))) (c.self.invariant.nodes c.args.node)

pub logged_reply-requires : goal.logged_reply-requires
logged_reply-requires g c = subst (IsReplyIn c.turn_at-reply.result) (sym c.room.view_is ∙ sym c.room.invariant) (reply_in c.args.call c.turn_at-reply.result c.args.room (c.turn_at-reply.ensures.turn.cause c.args.op).kind c.requires.room)

pub invariant_of-self : goal.invariant_of-self
invariant_of-self g c =
    let own = c.requires.node ∙ ap (λ s. s.index) (sym c.self.view_is) in
    record {
      index = c.self.invariant.index;
      few = omega (arith, c.self.invariant.few, c.turn_at-reply.ensures.most);
      nodes = nodes_on (g.B.LowerBodies.held c.self.inside.bodies) (g.B.LowerBodies.held c.turn_at-reply.new.bodies) c.self.inside.index c.args.node c.self.inside.nodes.items c.turn_at-reply.new.nodes.items
          c.turn_at-reply.ensures.turn.touches c.self.invariant.nodes
          (subst (λ i. IsNode (g.B.LowerBodies.held c.turn_at-reply.new.bodies) c.args.node (node_in i c.turn_at-reply.new.nodes.items c.args.node)) own c.turn_at-reply.ensures.turn.shape)
          (λ other apart. subst (λ i. node_in i c.turn_at-reply.new.nodes.items other ≡ node_in i c.self.inside.nodes.items other) own (c.turn_at-reply.ensures.others other apart));
    }

pub returns-clause-step : goal.returns-clause-step
returns-clause-step g c =
    let own = c.requires.node ∙ ap (λ s. s.index) (sym c.self.view_is) in
    subst (λ s. IsShardStep (g.F.BodyFormat.rules s.format) (g.B.LowerBodies.held s.bodies) (g.B.LowerBodies.held c.turn_at-reply.new.bodies) (shard_of s) (shard_of (record { index = c.self.inside.index; bodies = c.turn_at-reply.new.bodies; format = c.self.inside.format; nodes = c.turn_at-reply.new.nodes.items; log = c.push.new.self }))
    (record { session = c.args.session; op = c.args.op; node = c.args.node; call = c.args.call; reply = c.turn_at-reply.result; before = (g.B.LowerBodies.held s.bodies).faults; after = (g.B.LowerBodies.held c.turn_at-reply.new.bodies).faults }))
    c.self.view_is
    (step_at (g.F.BodyFormat.rules c.self.inside.format) (g.B.LowerBodies.held c.self.inside.bodies) (g.B.LowerBodies.held c.turn_at-reply.new.bodies) c.self.inside.index
    (record { index = c.self.inside.index; bodies = c.self.inside.bodies; format = c.self.inside.format; nodes = c.self.inside.nodes.items; log = c.self.inside.log })
    (record { index = c.self.inside.index; bodies = c.turn_at-reply.new.bodies; format = c.self.inside.format; nodes = c.turn_at-reply.new.nodes.items; log = c.push.new.self })
    c.args.session c.args.op c.args.node c.args.call c.turn_at-reply.result own refl refl
    c.turn_at-reply.ensures.turn c.turn_at-reply.ensures.others
    (c.push.ensures ∙ rw (c.logged_reply.ensures, c.faults-before.ensures, c.faults-after.ensures) refl))

pub returns-clause-steps : goal.returns-clause-steps
returns-clause-steps g c =
    let own = c.requires.node ∙ ap (λ s. s.index) (sym c.self.view_is) in
    subst (λ s. c.turn_at-reply.new.steps ≤ c.args.steps.now + most_steps (node_in s.index s.nodes c.args.node) c.args.call) c.self.view_is
    (subst (λ i. c.turn_at-reply.new.steps ≤ c.args.steps.now + most_steps (node_in i c.self.inside.nodes.items c.args.node) c.args.call) own c.turn_at-reply.ensures.steps)
