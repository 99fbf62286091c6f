use Rattle.std.proofs.Common.{◌≡◌, ap, ◌∙◌, length, min, rules}
use Rattle.open_file.proofs.Extents.{whole_after, head_is}
use Rattle.open_file.proofs.opening.read_head.Goals as goal

pub returns-in-Ok-read_at-clause-head : goal.returns-in-Ok-read_at-clause-head
returns-in-Ok-read_at-clause-head g c =
    let len : length c.read_at.new.to ≡ length c.resize.new.self.items = search rules in
    let count : length c.resize.new.self.items ≡ min c.args.len 4096 = search rules in
    let whole = whole_after c.resize.new.self.len c.read_at.new.to c.resize.new.self.items len (search rules) in
    (ap length whole ∙ len ∙ count, λ told. whole ∙ c.in-Ok-read_at.ensures.octets told ∙ head_is (length c.read_at.new.to) c.args.len ((g.B.LowerBodies.held c.args.bodies.now).files c.args.node).body (len ∙ count) (c.requires told))
