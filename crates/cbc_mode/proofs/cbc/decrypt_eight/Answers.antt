use Rattle.std.proofs.Common.{◌≡◌, ◌≤◌, ◌+◌, ℕ, List, lit<, arith}
use Rattle.cipher_model.specs.Blocks.{block_at}
use Rattle.cbc_mode.specs.BlocksInPlace.{IsDecryptedTo}
use Rattle.cbc_mode.proofs.CbcSteps.{decrypted_more_by, read_later}
use Rattle.cbc_mode.proofs.cbc.decrypt_eight.Goals as goal

pub returns : goal.returns
returns c iv cs a0 =
    let k : List ℕ = c.args.planes.now in
    let i : ℕ = c.args.i in
    let read : (x : List ℕ) (j : ℕ) → i ≤ j → x ≡ block_at c.args.octets.now j → x ≡ block_at cs j =
    λ x j le e. read_later k iv cs c.args.octets.now c.args.last x i j le a0 e in
    let a1 : IsDecryptedTo k iv cs c.put_sum.new.octets c.vector_at-c0.result (i + 1) =
    decrypted_more_by k iv cs c.args.octets.now c.put_sum.new.octets c.args.last c.vector_at-c0.result c.decrypt-plain.result.p0 i (i + 1) a0 c.put_sum.ensures
    (read c.vector_at-c0.result i (omega arith) c.vector_at-c0.ensures.value) c.vector_at-c0.ensures.block (c.decrypt-plain.ensures 0 (lit< tt)) (omega arith) in
    let a2 : IsDecryptedTo k iv cs c.put_sum-2.new.octets c.vector_at-c1.result (i + 2) =
    decrypted_more_by k iv cs c.put_sum.new.octets c.put_sum-2.new.octets c.vector_at-c0.result c.vector_at-c1.result c.decrypt-plain.result.p1 (i + 1) (i + 2) a1 c.put_sum-2.ensures
    (read c.vector_at-c1.result (i + 1) (omega arith) c.vector_at-c1.ensures.value) c.vector_at-c1.ensures.block (c.decrypt-plain.ensures 1 (lit< tt)) (omega arith) in
    let a3 : IsDecryptedTo k iv cs c.put_sum-3.new.octets c.vector_at-c2.result (i + 3) =
    decrypted_more_by k iv cs c.put_sum-2.new.octets c.put_sum-3.new.octets c.vector_at-c1.result c.vector_at-c2.result c.decrypt-plain.result.p2 (i + 2) (i + 3) a2 c.put_sum-3.ensures
    (read c.vector_at-c2.result (i + 2) (omega arith) c.vector_at-c2.ensures.value) c.vector_at-c2.ensures.block (c.decrypt-plain.ensures 2 (lit< tt)) (omega arith) in
    let a4 : IsDecryptedTo k iv cs c.put_sum-4.new.octets c.vector_at-c3.result (i + 4) =
    decrypted_more_by k iv cs c.put_sum-3.new.octets c.put_sum-4.new.octets c.vector_at-c2.result c.vector_at-c3.result c.decrypt-plain.result.p3 (i + 3) (i + 4) a3 c.put_sum-4.ensures
    (read c.vector_at-c3.result (i + 3) (omega arith) c.vector_at-c3.ensures.value) c.vector_at-c3.ensures.block (c.decrypt-plain.ensures 3 (lit< tt)) (omega arith) in
    let a5 : IsDecryptedTo k iv cs c.put_sum-5.new.octets c.vector_at-c4.result (i + 5) =
    decrypted_more_by k iv cs c.put_sum-4.new.octets c.put_sum-5.new.octets c.vector_at-c3.result c.vector_at-c4.result c.decrypt-plain.result.p4 (i + 4) (i + 5) a4 c.put_sum-5.ensures
    (read c.vector_at-c4.result (i + 4) (omega arith) c.vector_at-c4.ensures.value) c.vector_at-c4.ensures.block (c.decrypt-plain.ensures 4 (lit< tt)) (omega arith) in
    let a6 : IsDecryptedTo k iv cs c.put_sum-6.new.octets c.vector_at-c5.result (i + 6) =
    decrypted_more_by k iv cs c.put_sum-5.new.octets c.put_sum-6.new.octets c.vector_at-c4.result c.vector_at-c5.result c.decrypt-plain.result.p5 (i + 5) (i + 6) a5 c.put_sum-6.ensures
    (read c.vector_at-c5.result (i + 5) (omega arith) c.vector_at-c5.ensures.value) c.vector_at-c5.ensures.block (c.decrypt-plain.ensures 5 (lit< tt)) (omega arith) in
    let a7 : IsDecryptedTo k iv cs c.put_sum-7.new.octets c.vector_at-c6.result (i + 7) =
    decrypted_more_by k iv cs c.put_sum-6.new.octets c.put_sum-7.new.octets c.vector_at-c5.result c.vector_at-c6.result c.decrypt-plain.result.p6 (i + 6) (i + 7) a6 c.put_sum-7.ensures
    (read c.vector_at-c6.result (i + 6) (omega arith) c.vector_at-c6.ensures.value) c.vector_at-c6.ensures.block (c.decrypt-plain.ensures 6 (lit< tt)) (omega arith) in
    let a8 : IsDecryptedTo k iv cs c.put_sum-8.new.octets c.vector_at-c7.result (i + 8) =
    decrypted_more_by k iv cs c.put_sum-7.new.octets c.put_sum-8.new.octets c.vector_at-c6.result c.vector_at-c7.result c.decrypt-plain.result.p7 (i + 7) (i + 8) a7 c.put_sum-8.ensures
    (read c.vector_at-c7.result (i + 7) (omega arith) c.vector_at-c7.ensures.value) c.vector_at-c7.ensures.block (c.decrypt-plain.ensures 7 (lit< tt)) (omega arith) in
    a8
