use Rattle.std.proofs.Common.{◌≡◌, ◌+◌, ◌-◌, ◌∙◌, ap, arith, drop, length, min, rules, take}
use Rattle.std.proofs.lemmas.List.{take_at}
use Rattle.open_file.proofs.Extents.{copied}
use Rattle.open_file.proofs.buffers.copy_out.Goals as goal

pub returns-clause-octets : goal.returns-clause-octets
returns-clause-octets c =
    let n = c.min-count.result in
    let at = c.args.at in
    let buffer = c.args.buffer.now in
    let same : at + n - at ≡ n = omega arith in
    let count : n ≡ min (length c.args.to.now) (c.args.size - at) = search rules in
    let long : length c.copy_from_slice.new.self ≡ n = search rules in
    take_at c.copy_from_slice.new.self (drop n c.args.to.now) n long ∙ c.copy_from_slice.ensures.after ∙ ap (λ m. take m (drop at buffer)) same
    ∙ copied (length c.args.to.now) at c.args.size n buffer (omega (arith, c.if-at-size.false)) c.requires count
