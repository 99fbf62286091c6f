use Rattle.std.proofs.Common.{◌≡◌, [], length}
use Rattle.std.specs.List.{slice_split}
use Rattle.reading_model.specs.Fields.{name_in, each_in}
use Rattle.reading_model.proofs.Cutting.{is_at}
use Rattle.reading_model.proofs.FieldsInARow.{with_front}
use Rattle.line_reader.proofs.path.names_of.Given as goal

abbrev pub invariant-parts : goal.invariant-parts
invariant-parts l = record {
  names : with_front l.path (each_in name_in (slice_split (is_at 47) l.rest)) ≡ each_in name_in (slice_split (is_at 47) l.text);
  room : l.room.items ≡ [];
}

abbrev pub decreases-parts : goal.decreases-parts
decreases-parts l = length l.rest
