use Rattle.open_file.proofs.buffers.Buffers.write.Goals as goal

pub returns-clause-stands : goal.returns-clause-stands
returns-clause-stands g c = λ format origin file lawful s. c.write_within.ensures.stands format origin file (c.in_ok-reach.ensures.stands format origin file lawful s)
