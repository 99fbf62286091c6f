use Rattle.std.proofs.Common.{◌≡◌, ◌+◌, ◌≤◌, length, drop, ◌++◌, arith, ap, sym, ◌∙◌}
use Rattle.std.proofs.lemmas.List.{nil_from_length, length-drop, take_rest, length-append, length-take-le}
use Rattle.mount_run.specs.Memory.{MemInput}
use Rattle.mount_run.proofs.Moves.{copied_front}
use Rattle.mount_run.proofs.memory.MemSourceSource.read.Goals as goal

pub returns-clause-octets : goal.returns-clause-octets
returns-clause-octets c =
    let at = c.self.inside.at in
    let octets = c.self.inside.octets.items in
    let moved = c.min-count.result in
    let to = c.args.to.now in
    let copied = c.copy_from_slice.new.self in
    let after = rw (c.deref-2.ensures.value, take_rest) at c.copy_from_slice.ensures.after in
    let count = rw (c.deref-2.ensures.value, take_rest) at c.min.ensures in
    let small = c.min-count.ensures in
    let within : moved ≤ length (drop at octets) = omega arith in
    let len : length copied ≡ moved = ap length after ∙ length-take-le moved (drop at octets) within in
    let room : length (copied ++ drop moved to) ≡ length to = omega (arith, length-append copied (drop moved to), length-drop moved to) in (
      sym (ap (λ (m : MemInput). m.left) c.self.view_is) ∙ copied_front at moved octets copied (drop moved to) after within,
      λ none. λ some. nil_from_length (drop (at + moved) octets) (omega (arith, length-drop (at + moved) octets, length-drop at octets)),
    )
