use Rattle.std.proofs.Common.{◌≡◌, ap, ◌∙◌, sym, length, take, drop, ◌++◌, ◌+◌, ◌*◌, rules}
use Rattle.file_model.proofs.Extents.{extent_is}
use Rattle.open_file.proofs.opening.bring_page.Goals as goal

pub returns-in-Ok-extend_from_slice-clause-page : goal.returns-in-Ok-extend_from_slice-clause-page
returns-in-Ok-extend_from_slice-clause-page g c = λ told.
    let body = ((g.B.LowerBodies.held c.args.bodies.now).files c.args.node).body in
    let o = c.args.opened.now in
    let len : length c.read_at.new.to ≡ 4096 = search rules in
    let read = c.in-Ok.ensures.octets told ∙ ap (λ n. take n (drop (o.data_start + 4096 * c.args.number) body)) len ∙ sym (extent_is o.data_start c.args.number body) in
    c.in-Ok-extend_from_slice.ensures.items ∙ ap (λ p. c.args.buffer.now.items ++ p) (c.unseal.ensures.unsealed ∙ ap ((g.F.BodyFormat.rules c.args.format.now).plain o.key c.args.number) read)

pub returns-in-Ok-extend_from_slice-clause-long : goal.returns-in-Ok-extend_from_slice-clause-long
returns-in-Ok-extend_from_slice-clause-long g c = λ told.
    let body = ((g.B.LowerBodies.held c.args.bodies.now).files c.args.node).body in
    let o = c.args.opened.now in
    let len : length c.read_at.new.to ≡ 4096 = search rules in
    let read = c.in-Ok.ensures.octets told ∙ ap (λ n. take n (drop (o.data_start + 4096 * c.args.number) body)) len ∙ sym (extent_is o.data_start c.args.number body) in
    ap length (sym (c.unseal.ensures.unsealed ∙ ap ((g.F.BodyFormat.rules c.args.format.now).plain o.key c.args.number) read)) ∙ c.unseal.ensures.extent.long
