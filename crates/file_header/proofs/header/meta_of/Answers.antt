use Rattle.std.proofs.Common.{◌≡◌, ◌≤◌, false, ltb, subst}
use Rattle.std.proofs.lemmas.Bool.{le-ltb}
use Rattle.packet_model.specs.declared.layout.TheConstants.{MAX_SIZE}
use Rattle.packet_model.specs.Metadata.{size_in}
use Rattle.file_header.proofs.header.meta_of.Goals as goal

pub returns : goal.returns
returns c = λ ring key found.
    let octets = c.args.octets.now in
    let most : size_in octets ≤ MAX_SIZE = subst (λ n. n ≤ MAX_SIZE) c.size_of-size.ensures c.if-size-gt-MAX_SIZE.false in
    let test : ltb MAX_SIZE (size_in octets) ≡ false = le-ltb MAX_SIZE (size_in octets) most in
    rw test (record { size = c.size_of-size.ensures; flags = c.flags_of.ensures; meta_size = c.meta_size_of.ensures; fek = found.fek })
