use Rattle.std.proofs.Common.{◌++◌, List, ℕ, append-nil, sym, ap, ◌∙◌, arith}
use Rattle.std.proofs.lemmas.Grind.{common_steps}
use Rattle.name_coding.proofs.Steps.{last_one, last_two, last_none}
use Rattle.name_coding.proofs.encoder.push_last.Goals as goal

pub returns-in-len1 : goal.returns-in-len1
returns-in-len1 c =
    let e = last_one c.args.rest.now (omega arith) (omega arith) in
    grind (arith, common_steps)

pub returns-in-len2 : goal.returns-in-len2
returns-in-len2 c =
    let e = last_two c.args.rest.now (omega arith) (omega arith) (omega arith) in
    grind (arith, common_steps)

pub returns-in_default : goal.returns-in_default
returns-in_default c =
    sym (append-nil c.args.letters.now.items) ∙ ap (λ (l : List ℕ). c.args.letters.now.items ++ l) (sym (last_none c.args.rest.now (omega arith)))
