use Rattle.std.proofs.Common.{◌≡◌, ◌+◌, ◌*◌, List, ℕ, subst, sym, arith}
use Rattle.cbc_mode.specs.BlocksInPlace.{IsDecryptedTo}
use Rattle.cbc_mode.proofs.cbc.decrypt_eights.Goals as goal

pub eights-preserved : goal.eights-preserved
eights-preserved c =
    let next : 8 * c.eights.j + 8 ≡ 8 * (c.eights.j + 1) = omega arith in
    subst (λ (n : ℕ). IsDecryptedTo c.args.keys.now c.args.iv.now c.args.octets.now c.decrypt_eight-last.new.octets c.decrypt_eight-last.result n) next
    (subst (λ (k : List ℕ). IsDecryptedTo k c.args.iv.now c.args.octets.now c.decrypt_eight-last.new.octets c.decrypt_eight-last.result (8 * c.eights.j + 8)) c.new-planes.ensures
    (c.decrypt_eight-last.ensures c.args.iv.now c.args.octets.now
    (subst (λ (k : List ℕ). IsDecryptedTo k c.args.iv.now c.args.octets.now c.eights.octets c.eights.last (8 * c.eights.j)) (sym c.new-planes.ensures) c.eights.invariant)))
