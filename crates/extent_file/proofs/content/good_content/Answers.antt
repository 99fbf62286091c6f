use Rattle.std.proofs.Common.{◌≡◌, ◌+◌, ◌-◌, ◌*◌, List, ℕ, take, sym, subst, ap, ◌∙◌, arith}
use Rattle.packet_model.specs.FileKey.{Unwraps}
use Rattle.packet_model.specs.Metadata.{extent_count}
use Rattle.content_model.specs.Content.{ArePlain}
use Rattle.extent_file.specs.DecryptedExtents.{AreFirstOctets}
use Rattle.extent_file.proofs.InPlace.{plain_behind}
use Rattle.extent_file.proofs.content.good_content.Goals as goal

pub returns : goal.returns
returns c = λ ring found is.
    let body : List ℕ = c.args.body.now in
    let start : ℕ = c.args.meta.data_start in
    let key : List ℕ = c.octets.result.now in
    let long : ℕ = start + 4096 * c.div_ceil.result - start in
    let all : long ≡ 4096 * extent_count c.args.meta.size = omega (arith, c.div_ceil.ensures) in
    let first : AreFirstOctets key _ c.args.meta.size c.in_ok-plain.field-0.items = c.in_ok-plain.ensures in
    let are : ArePlain key start (extent_count c.args.meta.size) body first.plain = plain_behind key body first.plain start (extent_count c.args.meta.size) long all first.are_plain in
    record {
      key = key;
      plain = first.plain;
      key_octets = first.key_octets;
      unwrapped = subst (λ (k : List ℕ). Unwraps ring found.header.key k) (sym c.octets.ensures.value) is.fek;
      extents =
          subst (λ (at : ℕ). ArePlain key at (extent_count found.header.size) body first.plain) is.start
          (subst (λ (size : ℕ). ArePlain key start (extent_count size) body first.plain) is.size are);
      first = c.from_vec.ensures ∙ first.first ∙ ap (λ (size : ℕ). take size first.plain) is.size;
    }
