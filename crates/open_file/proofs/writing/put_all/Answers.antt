use Rattle.std.proofs.Common.{◌∙◌, subst, List, ℕ}
use Rattle.file_model.specs.declared.mark.MetadataMark.TheVariants.{Clean}
use Rattle.open_file.specs.Standing.{Marks, StandsOn}
use Rattle.open_file.proofs.Standing.{then_on}
use Rattle.open_file.proofs.writing.put_all.Goals as goal

pub returns-in_err-write_dirty-clause-stands : goal.returns-in_err-write_dirty-clause-stands
returns-in_err-write_dirty-clause-stands g c = λ told origin s.
    let f = c.args.file.now in
    let format = g.F.BodyFormat.rules c.args.format.now in
    let held = g.B.LowerBodies.held in
    let a = held c.args.bodies.now in
    let b = held c.write_dirty.new.bodies in
    let old : Marks = record { pages = f.dirty.items; metadata = f.metadata_mark; len = f.length_mark } in
    let pages : Marks = record { pages = c.write_dirty.new.dirty.items; metadata = f.metadata_mark; len = f.length_mark } in
    let d = c.in_err-write_dirty.ensures in
    let first = subst (λ (xs : List ℕ). StandsOn format origin c.args.node a b f.opened xs old pages) c.deref.ensures.value (d.stands origin f.metadata_mark f.length_mark) in
    first told s

pub returns-in_err-put_metadata-clause-stands : goal.returns-in_err-put_metadata-clause-stands
returns-in_err-put_metadata-clause-stands g c = λ told origin s.
    let f = c.args.file.now in
    let format = g.F.BodyFormat.rules c.args.format.now in
    let held = g.B.LowerBodies.held in
    let a = held c.args.bodies.now in
    let b = held c.write_dirty.new.bodies in
    let old : Marks = record { pages = f.dirty.items; metadata = f.metadata_mark; len = f.length_mark } in
    let pages : Marks = record { pages = c.write_dirty.new.dirty.items; metadata = f.metadata_mark; len = f.length_mark } in
    let d = c.in_ok-write_dirty.ensures in
    let first = subst (λ (xs : List ℕ). StandsOn format origin c.args.node a b f.opened xs old pages) c.deref.ensures.value (d.stands origin f.metadata_mark f.length_mark) in
    let e = held c.put_metadata.new.bodies in
    then_on format origin c.args.node a b e f.opened f.buffer.items old pages pages first d.writes.calls.told (c.in_err-put_metadata.ensures.err format origin f.buffer.items c.write_dirty.new.dirty.items f.length_mark) told s

pub returns-in_err-put_length-clause-stands : goal.returns-in_err-put_length-clause-stands
returns-in_err-put_length-clause-stands g c = λ told origin s.
    let f = c.args.file.now in
    let format = g.F.BodyFormat.rules c.args.format.now in
    let held = g.B.LowerBodies.held in
    let a = held c.args.bodies.now in
    let b = held c.write_dirty.new.bodies in
    let old : Marks = record { pages = f.dirty.items; metadata = f.metadata_mark; len = f.length_mark } in
    let pages : Marks = record { pages = c.write_dirty.new.dirty.items; metadata = f.metadata_mark; len = f.length_mark } in
    let d = c.in_ok-write_dirty.ensures in
    let first = subst (λ (xs : List ℕ). StandsOn format origin c.args.node a b f.opened xs old pages) c.deref.ensures.value (d.stands origin f.metadata_mark f.length_mark) in
    let e = held c.put_metadata.new.bodies in
    let m = c.in_ok-put_metadata.ensures in
    let known : Marks = record { pages = c.write_dirty.new.dirty.items; metadata = Clean; len = f.length_mark } in
    let second = then_on format origin c.args.node a b e f.opened f.buffer.items old pages known first d.writes.calls.told (m.ok format origin f.buffer.items c.write_dirty.new.dirty.items f.length_mark) in
    then_on format origin c.args.node a e (held c.put_length.new.bodies) f.opened f.buffer.items old known (record { pages = c.write_dirty.new.dirty.items; metadata = Clean; len = c.put_length.new.mark }) second
    (m.writes.calls.told ∙ d.writes.calls.told) (c.in_err-put_length.ensures.stands format origin f.buffer.items c.write_dirty.new.dirty.items Clean) told s

pub returns-clause-stands : goal.returns-clause-stands
returns-clause-stands g c = λ told origin s.
    let f = c.args.file.now in
    let format = g.F.BodyFormat.rules c.args.format.now in
    let held = g.B.LowerBodies.held in
    let a = held c.args.bodies.now in
    let b = held c.write_dirty.new.bodies in
    let old : Marks = record { pages = f.dirty.items; metadata = f.metadata_mark; len = f.length_mark } in
    let pages : Marks = record { pages = c.write_dirty.new.dirty.items; metadata = f.metadata_mark; len = f.length_mark } in
    let d = c.in_ok-write_dirty.ensures in
    let first = subst (λ (xs : List ℕ). StandsOn format origin c.args.node a b f.opened xs old pages) c.deref.ensures.value (d.stands origin f.metadata_mark f.length_mark) in
    let e = held c.put_metadata.new.bodies in
    let m = c.in_ok-put_metadata.ensures in
    let known : Marks = record { pages = c.write_dirty.new.dirty.items; metadata = Clean; len = f.length_mark } in
    let second = then_on format origin c.args.node a b e f.opened f.buffer.items old pages known first d.writes.calls.told (m.ok format origin f.buffer.items c.write_dirty.new.dirty.items f.length_mark) in
    then_on format origin c.args.node a e (held c.put_length.new.bodies) f.opened f.buffer.items old known (record { pages = c.write_dirty.new.dirty.items; metadata = Clean; len = c.put_length.new.mark }) second
    (m.writes.calls.told ∙ d.writes.calls.told) (c.in_ok-put_length.ensures.stands format origin f.buffer.items c.write_dirty.new.dirty.items Clean) told s
