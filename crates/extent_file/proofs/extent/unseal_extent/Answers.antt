use Rattle.std.proofs.Common.{ℕ, List, sym, arith}
use Rattle.octet_model.proofs.Octets.{AreOctets-from_each}
use Rattle.content_model.proofs.Extents.{plain_extent_is}
use Rattle.extent_file.proofs.Sealing.{under_key}
use Rattle.extent_file.proofs.extent.unseal_extent.Goals as goal

pub returns-clause-unsealed : goal.returns-clause-unsealed
returns-clause-unsealed c =
    let old : List ℕ = c.args.extent.now in
    let new : List ℕ = c.cbc_decrypt.new.octets in
    sym (plain_extent_is c.args.key.now c.args.number new old (AreOctets-from_each old c.fits-extent) c.are_octets.ensures
    (under_key c.args.key.now c.new.result c.root_iv.result c.extent_iv-iv.result new old c.args.number c.new.ensures c.root_iv.ensures c.extent_iv-iv.ensures c.cbc_decrypt.ensures))

pub returns-clause-extent : goal.returns-clause-extent
returns-clause-extent c = record { long = omega (arith, c.cbc_decrypt.ensures.same_length.long); octets = c.are_octets.ensures }
