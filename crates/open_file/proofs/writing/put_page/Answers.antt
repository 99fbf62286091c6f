use Rattle.std.proofs.Common.{◌∙◌, ◌*◌}
use Rattle.std.proofs.lemmas.Result.{on_ok_weaker}
use Rattle.file_model.proofs.Extents.{one_page}
use Rattle.open_file.proofs.writing.put_page.Goals as goal

pub returns-clause-written : goal.returns-clause-written
returns-clause-written g c = on_ok_weaker c.write_at.result (λ w. record {
  sealed = c.seal.new.extent;
  long = c.seal.ensures.extent.long;
  plain = c.seal.ensures.sealed ∙ c.copy_from_slice.ensures.after ∙ one_page (4096 * c.args.number) c.args.buffer.now;
  written = w;
}) c.write_at.ensures.written
