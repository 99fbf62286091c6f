use Rattle.std.proofs.Common.{rules}
use Rattle.open_file.proofs.Extents.{writes_pages}
use Rattle.open_file.proofs.buffers.write_pages.Goals as goal

pub returns-clause-pages : goal.returns-clause-pages
returns-clause-pages c =
    writes_pages c.args.size c.args.at c.div_ceil.result c.args.octets.now c.args.buffer.now c.copy_in.new.buffer c.args.dirty.now c.mark.new.dirty (search rules) c.copy_in.ensures c.requires.within c.requires.most
    c.mark.ensures.marked c.mark.ensures.below c.mark.ensures.behind
