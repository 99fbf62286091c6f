use Rattle.std.proofs.Common.{ℕ, ◌<◌, sym, ◌∙◌, arith}
use Rattle.name_tag70.proofs.Leads.{each_mapped}
use Rattle.name_tag70.proofs.lead.without_zeros.Goals as goal

pub returns : goal.returns
returns c = each_mapped c.loop-i.octets c.args.digests.now (omega (arith, c.loop-i.invariant.0)) (λ k h. c.loop-i.invariant.1 k (omega arith))
