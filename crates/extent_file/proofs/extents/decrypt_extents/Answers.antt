use Rattle.std.proofs.Common.{◌/◌, length, arith, rules}
use Rattle.key_model.specs.ExtentIv.{root_iv}
use Rattle.extent_file.specs.DecryptedExtents.{IsDecryptedTo}
use Rattle.extent_file.proofs.extents.decrypt_extents.Goals as goal

pub returns : goal.returns
returns c =
    let all : IsDecryptedTo c.args.key.now (root_iv c.args.key.now) c.args.octets.now c.extents.octets (length c.args.octets.now / 4096) = search rules in
    record { octets = c.are_octets.ensures; whole = omega arith; extents = all.done }
