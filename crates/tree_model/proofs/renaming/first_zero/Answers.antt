use Rattle.std.proofs.Common.{◌≡◌, ◌≢◌, ℕ, ◌<◌, length, get_or, sym, rules, arith}
use Rattle.std.proofs.lemmas.Bool.{ne_eqb, eq-eqb}
use Rattle.std.proofs.lemmas.List.Sums.{position_or_len_is}
use Rattle.tree_model.specs.Renaming.{is_zero}
use Rattle.tree_model.proofs.renaming.first_zero.Goals as goal

pub returns-in-Some-clause-place : goal.returns-in-Some-clause-place
returns-in-Some-clause-place c =
    let within : c.in-Some.place < length c.args.octets.now = search rules in
    let is : get_or c.args.octets.now c.in-Some.place 0 ≡ 0 = search rules in
    let before : (k : ℕ) → k < c.in-Some.place → get_or c.args.octets.now k 0 ≢ 0 = search rules in
    sym (position_or_len_is is_zero c.args.octets.now c.in-Some.place 0 (omega arith) (λ k lt. ne_eqb _ 0 (before k lt)) (λ lt. eq-eqb _ 0 is))

pub returns-in-None-clause-place : goal.returns-in-None-clause-place
returns-in-None-clause-place c =
    let before : (k : ℕ) → k < length c.args.octets.now → get_or c.args.octets.now k 0 ≢ 0 = search rules in
    sym (position_or_len_is is_zero c.args.octets.now (length c.args.octets.now) 0 (omega arith) (λ k lt. ne_eqb _ 0 (before k lt)) (λ lt. absurd (omega arith)))
