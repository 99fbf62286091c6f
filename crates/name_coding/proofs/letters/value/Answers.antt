use Rattle.std.proofs.Common.{◌≡◌, ℕ, ◌<◌, get_or, refl, arith}
use Rattle.cipher_model.proofs.Tables.{table_at}
use Rattle.coding_model.specs.NameCoding.{letter_value}
use Rattle.name_coding.specs.declared.letters.TheConstants.{VALUES}
use Rattle.name_coding.proofs.letters.value.Goals as goal

values_are : (c : ℕ) → c < 256 → get_or VALUES c 0 ≡ letter_value c
unfolding letter_value
values_are = table_at letter_value VALUES 256 refl

pub returns : goal.returns
returns c = values_are c.args.letter (omega arith)
