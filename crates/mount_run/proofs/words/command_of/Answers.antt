use Rattle.std.proofs.Common.{sym, ◌∙◌, ap₂, [], ◌∷◌}
use Rattle.std.specs.Prelude.{codes}
use Rattle.std.proofs.lemmas.Slice.Eq.{bytes_eq-Decides}
use Rattle.mount_run.proofs.Moves.{two_items}
use Rattle.mount_run.proofs.words.command_of.Goals as goal

pub returns-in_ok-number_of_word-in-len2 : goal.returns-in_ok-number_of_word-in-len2
returns-in_ok-number_of_word-in-len2 c =
    let e = two_items c.args.words.now c.word-item-then-words-lt3.result c.number-item.result c.in-len2.len_at_least c.in-len2.len_below c.word-item-then-words-lt3.is c.number-item.is in
    let told = c.in_ok-number_of_word-in-len2.ensures in
    rw e (told.1, ap₂ (λ a b. a ∷ b ∷ []) (sym c.as_str-then-words-lt3.ensures.value ∙ (bytes_eq-Decides c.as_str-then-words-lt3.result.now (codes "make")).0 (sym c.if-eq.ensures)) (sym c.as_str-in-len2.ensures.value ∙ told.0))
