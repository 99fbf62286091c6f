use Rattle.std.proofs.Common.{◌++◌, length, List, ℕ, ap, ap₂, ◌∙◌, append_assoc}
use Rattle.std.specs.Int.{w32, to_be_bytes}
use Rattle.lower_model.specs.LowerTree.{root_path}
use Rattle.image_model.specs.ImageText.{magic, entries}
use Rattle.lower_image.proofs.image_writer.put_counted.Goals as goal

pub returns : goal.returns
returns c =
    let count : List ℕ = to_be_bytes w32 (length c.args.nodes.now) in
    let those : List ℕ = entries root_path 1 c.args.nodes.now in
    let head = ap₂ (λ out count. out ++ count) c.in_ok-extend_from_slice.ensures.items c.to_be_bytes.ensures in
    c.in_ok-put_entries.ensures ∙ ap (λ out. out ++ those) (c.in_ok-extend_from_slice-2.ensures.items ∙ head) ∙ append_assoc (c.args.out.now.items ++ magic) count those
    ∙ append_assoc c.args.out.now.items magic (count ++ those)
