use Rattle.std.proofs.Common.{◌≡◌, ◌<◌, ◌≤◌, length, length-set, arith, refl, ◌∙◌}
use Rattle.aes_block.proofs.KeySchedule.{schedule_none, schedule_more, schedule_all}
use Rattle.aes_block.proofs.keys.key_schedule.Goals as goal

pub words-init : goal.words-init
words-init c = record {
  so_far = schedule_none c.args.key.now c.word_at.result c.word_at-2.result c.word_at-3.result c.word_at-4.result
      c.word_at.ensures c.word_at-2.ensures c.word_at-3.ensures c.word_at-4.ensures;
  long = refl;
}

pub words-preserved : goal.words-preserved
words-preserved c =
    let low : 4 ≤ c.words.i = omega arith in
    let high : c.words.i < length c.words.ws = omega (arith, c.words.invariant.long) in
    record {
      so_far = schedule_more c.args.key.now c.words.ws c.words.i c.next_word.result low high c.words.invariant.so_far c.next_word.ensures;
      long = length-set c.words.ws c.words.i c.next_word.result ∙ c.words.invariant.long;
    }

pub returns : goal.returns
returns c =
    let end : c.words.i ≡ 44 = omega arith in
    schedule_all c.args.key.now c.words.ws c.words.i end c.words.invariant.long c.words.invariant.so_far
