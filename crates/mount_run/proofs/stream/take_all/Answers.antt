use Rattle.std.proofs.Common.{List, ℕ, ◌++◌, take, arith}
use Rattle.std.proofs.lemmas.Grind.{common_steps}
use Rattle.std.proofs.lemmas.List.{length-append}
use Rattle.std.proofs.KnownBytes.{Consumes-trans}
use Rattle.line_writer.proofs.FieldLemmas.{after_error}
use Rattle.mount_run.specs.InputAndOutput.{TookSome}
use Rattle.mount_run.proofs.stream.take_all.Goals as goal

pub returns-in_err-extend_from_slice-clause-part : goal.returns-in_err-extend_from_slice-clause-part
returns-in_err-extend_from_slice-clause-part g c =
    let piece : List ℕ = take c.in_ok-count.count c.read.new.to in
    let taken : List ℕ = c.loop-buffer.taken.items in
    let part : TookSome (g.S.Source.left c.args.input.now) (g.S.Source.left c.read.new.self) = record {
      octets = taken ++ piece;
      taken = Consumes-trans _ _ _ taken piece c.loop-buffer.invariant.taken c.in_ok-count.ensures.octets.0;
      few = grind (arith, common_steps, length-append taken piece, c.in_ok-count.ensures.within, c.read.auto.to);
    } in
    after_error c.from_residual-in_err-extend_from_slice.result _ part
