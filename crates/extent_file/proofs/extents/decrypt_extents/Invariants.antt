use Rattle.extent_file.specs.DecryptedExtents.{IsDecryptedTo}
use Rattle.extent_file.proofs.extents.decrypt_extents.Given as goal

abbrev pub invariant-extents : goal.invariant-extents
invariant-extents l = IsDecryptedTo l.keys l.root l.fn.octets l.octets l.n
