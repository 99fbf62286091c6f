use Rattle.name_coding.proofs.Steps.{no_fault}
use Rattle.name_coding.proofs.decoder.decode.Goals as goal

pub octets_of-requires-clause-letters : goal.octets_of-requires-clause-letters
octets_of-requires-clause-letters c = (no_fault c.args.letters.now c.in-None.ensures).1.letters
