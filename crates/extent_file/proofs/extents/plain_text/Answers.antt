use Rattle.std.proofs.Common.{◌≡◌, ◌/◌, List, ℕ, length, take, drop, ◌++◌, subst, ap, ◌∙◌, arith}
use Rattle.std.proofs.lemmas.List.{take_at}
use Rattle.packet_model.specs.Metadata.{extent_count}
use Rattle.octet_model.proofs.Octets.{AreOctets-from_each}
use Rattle.content_model.specs.Content.{ArePlain}
use Rattle.extent_file.proofs.extents.plain_text.Goals as goal

pub returns : goal.returns
returns c =
    let plain : List ℕ = c.decrypt_extents.new.octets in
    let cipher : c.deref_mut.result.now ≡ c.args.extents.now = c.deref_mut.ensures.value ∙ c.in_ok-plain.ensures.items in
    let long : length c.deref_mut.result.now ≡ length c.args.extents.now = ap length cipher in
    let count : length c.deref_mut.result.now / 4096 ≡ extent_count c.args.size = omega (arith, c.requires.whole) in
    let are : ArePlain c.args.key.now 0 (extent_count c.args.size) c.args.extents.now plain =
    subst (λ (n : ℕ). ArePlain c.args.key.now 0 n c.args.extents.now plain) count
    (subst (λ (xs : List ℕ). ArePlain c.args.key.now 0 (length c.deref_mut.result.now / 4096) xs plain) cipher c.decrypt_extents.ensures) in
    let all : take c.in_ok-plain.plain.len (plain ++ drop (length plain) c.in_ok-plain.plain.items) ≡ plain = take_at plain (drop (length plain) c.in_ok-plain.plain.items) c.in_ok-plain.plain.len (omega arith) in
    record {
      key_octets = AreOctets-from_each c.args.key.now c.fits-key;
      plain = plain;
      are_plain = are;
      first = c.truncate.ensures.items ∙ ap (λ (xs : List ℕ). take c.args.size xs) all;
    }
