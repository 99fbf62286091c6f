use Rattle.std.proofs.Common.{arith, ◌≡◌, ◌-◌, ◌≤◌, List, ℕ, ◌++◌, length, take, drop, replicate, length-append, ap, ◌∙◌}
use Rattle.std.proofs.lemmas.List.{drop-replicate, take-replicate}
use Rattle.md5.specs.Md5.{md5}
use Rattle.key_model.specs.ExtentIv.{zero_filled}
use Rattle.extent_iv.proofs.filled_digest.Goals as goal

-- behind the root IV's 16 octets and the digits come the zeros up to 32
zero_filled-digits : (root digits : List ℕ) → length root ≡ 16 → length digits ≤ 16
    → (root ++ digits) ++ take (16 - length digits) (drop (length digits) (replicate 16 0)) ≡ zero_filled 32 (root ++ digits)
zero_filled-digits root digits whole short =
    let left : 32 - length (root ++ digits) ≡ 16 - length digits = omega (arith, length-append root digits) in
    rw (left, drop-replicate {X = ℕ} (length digits) 16 0, take-replicate {X = ℕ} (16 - length digits) (16 - length digits) 0 (omega arith))

pub returns : goal.returns
returns c =
    c.finalize.ensures _ (c.update-3.ensures _ (c.update-2.ensures _ (c.update.ensures _ c.new-hasher.ensures)))
    ∙ ap md5 (zero_filled-digits c.args.root.now c.args.digits.now (omega arith) c.requires)
