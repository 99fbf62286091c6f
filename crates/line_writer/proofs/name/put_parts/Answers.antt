use Rattle.std.proofs.Common.{◌≡◌, sym, ap, ◌∙◌, rules}
use Rattle.std.specs.List.{list_all, flat_map}
use Rattle.text_model.specs.Line.{is_plain_in_path, slash_name}
use Rattle.line_writer.proofs.PlainPaths.{path_plain}
use Rattle.line_writer.proofs.name.put_parts.Goals as goal

pub returns-then-are_plain-clause-ok : goal.returns-then-are_plain-clause-ok
returns-then-are_plain-clause-ok c =
    let plain = ap (list_all is_plain_in_path) (sym c.octets-octets.ensures.octets) ∙ sym c.are_plain.ensures ∙ c.if-are_plain.true in
    let same : flat_map slash_name c.args.parts ≡ c.octets-octets.result.now = path_plain c.args.parts c.octets-octets.ensures.names plain ∙ sym c.octets-octets.ensures.octets in
    rw same (search rules)
