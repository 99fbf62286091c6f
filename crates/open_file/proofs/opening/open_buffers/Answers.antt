use Rattle.std.proofs.Common.{◌∙◌, sym, subst, IsTrue, refl}
use Rattle.std.proofs.lemmas.Bool.{false≢true}
use Rattle.body_model.specs.LowerFile.{LowerFile}
use Rattle.lower_tree.specs.Opening.{opening_of}
use Rattle.open_file.specs.Opening.{found, origin_found}
use Rattle.open_file.specs.Standing.{FileStands}
use Rattle.open_file.proofs.Standing.{told_on}
use Rattle.open_file.proofs.Found.{cause_found, empty_found, found_opened, found_some, opening_found}
use Rattle.open_file.proofs.opening.open_buffers.Goals as goal

pub returns-in-Ok-make_new-clause-found : goal.returns-in-Ok-make_new-clause-found
returns-in-Ok-make_new-clause-found g c = λ told.
    let held = g.B.LowerBodies.held in
    let l = c.in-Ok.ensures in
    let a = c.in-Ok-attribute.ensures in
    let empty = empty_found c.args.node (held c.args.bodies.now) (held c.len.new.self) c.in-Ok.len c.in-Ok-attribute.attribute told l.call.told l.keeps l.len a.attribute (c.is_empty_file.ensures.0 c.if-is_empty_file.true) in
    c.in-Ok-make_new.ensures.found ((held c.args.bodies.now).files c.args.node) empty.0 empty.1

pub returns-in-Err-open_by-clause-cause : goal.returns-in-Err-open_by-clause-cause
returns-in-Err-open_by-clause-cause g c = λ told.
    let held = g.B.LowerBodies.held in
    let format = g.F.BodyFormat.rules c.args.format.now in
    let l = c.in-Ok.ensures in
    let a = c.in-Ok-attribute.ensures in
    let some = found_some c.args.node (held c.args.bodies.now) (held c.len.new.self) c.in-Ok.len c.in-Ok-attribute.attribute told l.call.told l.keeps l.len a.attribute
    (λ p. false≢true (subst IsTrue c.if-is_empty_file.false (c.is_empty_file.ensures.1 p))) in
    let opens = opening_found format c.args.node (held c.args.bodies.now) (held c.len.new.self) (held c.attribute.new.self) c.in-Ok.len c.in-Ok-attribute.attribute
    c.in-Ok-read_head.head.items c.deref.result.now (opening_of format c.deref.result.now c.in-Ok-attribute.attribute c.in-Ok.len)
    told l.call.told a.call.told l.keeps a.keeps l.len a.attribute c.in-Ok-read_head.ensures.head c.deref.ensures.value refl in
    rw c.format_error.ensures (cause_found format ((held c.args.bodies.now).files c.args.node) c.in-Err-open_by.fault _ some opens c.in-Err-open_by.ensures.opens)

pub pages_of-requires-clause-opening : goal.pages_of-requires-clause-opening
pages_of-requires-clause-opening g c = λ told'.
    let held = g.B.LowerBodies.held in
    let format = g.F.BodyFormat.rules c.args.format.now in
    let l = c.in-Ok.ensures in
    let a = c.in-Ok-attribute.ensures in
    let r = c.in-Ok-read_head.ensures.reads in
    let told = told_on told' (sym (r.calls.told ∙ a.call.told ∙ l.call.told)) in
    let opens = opening_found format c.args.node (held c.args.bodies.now) (held c.len.new.self) (held c.attribute.new.self) c.in-Ok.len c.in-Ok-attribute.attribute
    c.in-Ok-read_head.head.items c.deref.result.now _
    told l.call.told a.call.told l.keeps a.keeps l.len a.attribute c.in-Ok-read_head.ensures.head c.deref.ensures.value c.in-Ok-open_by.ensures.opens in
    rw (r.keeps (told_on told (a.call.told ∙ l.call.told)) c.args.node, a.keeps (told_on told l.call.told) c.args.node, l.keeps told c.args.node) opens

pub returns-in-Ok-pages_of-clause-found : goal.returns-in-Ok-pages_of-clause-found
returns-in-Ok-pages_of-clause-found g c = λ told.
    let held = g.B.LowerBodies.held in
    let format = g.F.BodyFormat.rules c.args.format.now in
    let l = c.in-Ok.ensures in
    let a = c.in-Ok-attribute.ensures in
    let r = c.in-Ok-read_head.ensures.reads in
    let p = c.in-Ok-pages_of.ensures in
    let o = c.in-Ok-open_by.opened in
    let told_a = told_on told (a.call.told ∙ l.call.told) in
    let some = found_some c.args.node (held c.args.bodies.now) (held c.len.new.self) c.in-Ok.len c.in-Ok-attribute.attribute told l.call.told l.keeps l.len a.attribute
    (λ q. false≢true (subst IsTrue c.if-is_empty_file.false (c.is_empty_file.ensures.1 q))) in
    let opens = opening_found format c.args.node (held c.args.bodies.now) (held c.len.new.self) (held c.attribute.new.self) c.in-Ok.len c.in-Ok-attribute.attribute
    c.in-Ok-read_head.head.items c.deref.result.now _
    told l.call.told a.call.told l.keeps a.keeps l.len a.attribute c.in-Ok-read_head.ensures.head c.deref.ensures.value c.in-Ok-open_by.ensures.opens in
    let same = r.keeps told_a c.args.node ∙ a.keeps (told_on told l.call.told) c.args.node ∙ l.keeps told c.args.node in
    found_opened format c.args.node ((held c.args.bodies.now).files c.args.node) o c.in-Ok-pages_of.buffer.items c.in-Ok-pages_of.dirty.items (g.met.F.BodyFormat.lawful c.args.format.now) opens some p.shaped
    (subst (λ (file : LowerFile). FileStands format (origin_found file o) file (found o c.in-Ok-pages_of.buffer.items c.in-Ok-pages_of.dirty.items)) same (p.stands (told_on told_a r.calls.told))) p.clean
