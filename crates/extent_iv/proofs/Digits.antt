use Rattle.std.proofs.Common.{arith, ℕ, ◌^◌, ◌<◌, ◌≤◌, length}
use Rattle.std.specs.Fmt.{decimal}
use Rattle.std.proofs.lemmas.Fmt.{length-decimal-le}

-- an extent's number has at most 15 digits
pub length_decimal : (n : ℕ) → n < 10 ^ 15 → length (decimal n) ≤ 15
length_decimal n below = length-decimal-le 15 n (omega arith) below (omega arith)
