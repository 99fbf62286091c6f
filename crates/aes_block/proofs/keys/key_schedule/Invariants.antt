use Rattle.std.proofs.Common.{◌≡◌, ◌-◌, take, length}
use Rattle.cipher_model.specs.Aes.{schedule}
use Rattle.aes_block.proofs.keys.key_schedule.Given as goal

abbrev pub invariant-words : goal.invariant-words
invariant-words l = record { so_far : take l.i l.ws ≡ schedule 4 l.key (l.i - 4); long : length l.ws ≡ 44 }
