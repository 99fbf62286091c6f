use Rattle.std.proofs.Common.{◌≡◌, ℕ, ◌+◌, ◌-◌, ◌++◌, List, length, take, replicate, vec_len, refl, ◌∙◌, arith}
use Rattle.std.proofs.lemmas.List.{take_all}
use Rattle.file_header.proofs.new_metadata.fill_up.Goals as goal

filled : (items : List ℕ) (n z v : ℕ) → n ≡ v → v ≡ length items → z ≡ 8192 - n → take (n + z) items ++ replicate (n + z - v) 0 ≡ items ++ replicate (8192 - length items) 0
filled items n z v same is zeros =
    let k : n + z - v ≡ 8192 - length items = omega arith in
    rw (take_all (n + z) items (omega arith), k) refl

pub returns : goal.returns
returns c =
    let is : vec_len c.args.out.now ≡ length c.args.out.now.items = omega (arith, c.args.out.now.ok.0) in
    c.in_ok-resize.ensures.items ∙ filled c.args.out.now.items c.len-len.result c.saturating_sub.result (vec_len c.args.out.now) c.len-len.ensures is c.saturating_sub.ensures
