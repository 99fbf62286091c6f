use Rattle.std.proofs.Common.{◌≡◌, ◌∷◌, [], ◌+◌, ap, sym, ◌∙◌}
use Rattle.std.proofs.lemmas.Result.{err_from_is_err_and}
use Rattle.lower_model.specs.LowerTree.{root_path, path_behind}
use Rattle.image_model.specs.ImageText.{root}
use Rattle.image_model.specs.ImageReading.{entries_at}
use Rattle.lower_image.specs.FieldErrors.{behind}
use Rattle.lower_image.proofs.EntriesInARow.{goes_on, stops, is_done}
use Rattle.lower_image.proofs.image_reader.entries_of.Goals as goal

pub returns-in_err-node : goal.returns-in_err-node
returns-in_err-node c =
    let p = err_from_is_err_and c.from_residual-in_err-node.result c.from_residual-in_err-node.ensures.1 in
    let inv = rw (← c.deref.ensures.value) at c.loop-number.invariant in
    rw (p.1, p.2) (stops c.in_err-node.field-0.0 c.loop-number.nodes.items c.args.count c.loop-number.number (c.loop-number.number + 1) c.deref.result.now c.loop-number.rest.now (behind (root ∷ []) (entries_at c.args.count root_path 1 c.args.octets.now)) c.loop-number-test.true c.in_err-node.ensures inv)

pub loop-number-preserved : goal.loop-number-preserved
loop-number-preserved c =
    let inv = rw (← c.deref.ensures.value) at c.loop-number.invariant in
    let path : c.go_behind.new.path.items ≡ path_behind c.deref.result.now c.in_ok-node.level (c.loop-number.number + 1) c.in_ok-node.node = c.in_ok-go_behind.ensures ∙ ap (λ p. path_behind p c.in_ok-node.level (c.loop-number.number + 1) c.in_ok-node.node) (sym c.deref.ensures.value) in
    rw (c.in_ok-push-2.ensures.items, path) (goes_on c.loop-number.nodes.items c.args.count c.loop-number.number (c.loop-number.number + 1) c.deref.result.now c.loop-number.rest.now c.in_ok-node.node c.in_ok-node.level c.in_ok-node.after.now (behind (root ∷ []) (entries_at c.args.count root_path 1 c.args.octets.now)) c.loop-number-test.true c.in_ok-node.ensures inv)

pub returns : goal.returns
returns c = is_done c.loop-number.nodes.items c.args.count c.loop-number.number (c.loop-number.number + 1) c.loop-number.path.items c.loop-number.rest.now (behind (root ∷ []) (entries_at c.args.count root_path 1 c.args.octets.now)) c.loop-number-test.false c.loop-number.invariant
