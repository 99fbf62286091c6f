use Rattle.std.proofs.Common.{◌≡◌, ap, ◌∙◌, sym, length, rules, List, ℕ, get_or}
use Rattle.body_model.specs.LowerFile.{LowerFile}
use Rattle.body_model.specs.Format.{joined, plain_at}
use Rattle.packet_model.specs.Metadata.{extent_count}
use Rattle.open_file.proofs.Extents.{whole_after}
use Rattle.open_file.proofs.Standing.{told_on}
use Rattle.open_file.proofs.Found.{stands_opened}
use Rattle.open_file.proofs.opening.pages_of.Goals as goal

pub returns-clause-stands : goal.returns-clause-stands
returns-clause-stands g c = λ told.
    let len : length c.clear_from.new.buffer ≡ length c.in_ok-buffer.buffer.items = search rules in
    let whole = whole_after c.in_ok-buffer.buffer.len c.clear_from.new.buffer c.in_ok-buffer.buffer.items len (search rules) in
    let held = g.B.LowerBodies.held in
    let format = g.F.BodyFormat.rules c.args.format.now in
    let o = c.args.opened.now in
    let file = (held c.args.bodies.now).files c.args.node in
    let told_there = told_on told c.in_ok-reserve.ensures.call.told in
    let keeps = c.in_ok-reserve.ensures.keeps told c.args.node in
    let pages = c.in_ok-buffer.ensures.pages told_there ∙ ap (λ (file : LowerFile). joined (plain_at format o.key o.data_start file.body) (extent_count o.size)) keeps in
    rw whole (stands_opened format file o c.in_ok-buffer.buffer.items c.clear_from.new.buffer c.in-Ok.marks.items (g.met.F.BodyFormat.lawful c.args.format.now) (c.requires.opening told) pages
    (λ n h. ap (λ (file : LowerFile). length (plain_at format o.key o.data_start file.body n)) (sym keeps) ∙ c.in_ok-buffer.ensures.long told_there n h)
    len (λ i h. c.clear_from.ensures.same i h ∙ ap (λ (xs : List ℕ). get_or xs i 0) c.deref_mut.ensures.value) c.clear_from.ensures.zeros)
