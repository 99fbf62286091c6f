use Rattle.std.proofs.Common.{◌≡◌, ◌++◌, ◌-◌, length, replicate, sym, ap, ◌∙◌}
use Rattle.packet_model.specs.Metadata.{fixed_part, new_pair, new_metadata}
use Rattle.file_header.specs.Meta.{new_header}
use Rattle.file_header.proofs.KeyBehindFields.{filled}
use Rattle.file_header.proofs.new_metadata.write_header.Goals as goal

pub returns-in_ok-fill_up-in-Header : goal.returns-in_ok-fill_up-in-Header
returns-in_ok-fill_up-in-Header c =
    let new = new_header c.args.meta.now in
    let both : c.put_pair.new.out.items ≡ fixed_part new ++ new_pair new = c.in_ok-put_pair.ensures ∙ ap (λ r. r ++ new_pair new) (c.in_ok-put_fields.ensures ∙ ap (λ r. r ++ fixed_part new) c.in_ok-octets.ensures.items) in
    c.in_ok-fill_up-in-Header.ensures ∙ ap (λ r. r ++ replicate (8192 - length r) 0) both ∙ filled new ∙ ap (λ meta_place. new_metadata meta_place new) (sym c.in-Header.is)
