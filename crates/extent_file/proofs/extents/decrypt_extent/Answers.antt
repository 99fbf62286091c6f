use Rattle.std.proofs.Common.{◌+◌, ◌-◌, ◌*◌, arith}
use Rattle.extent_file.proofs.InPlace.{decrypted_more}
use Rattle.extent_file.proofs.extents.decrypt_extent.Goals as goal

pub returns : goal.returns
returns c = λ cipher before.
    decrypted_more c.args.keys.now c.args.root.now cipher c.args.octets.now c.cbc_decrypt.new.octets c.extent_iv-iv.result c.args.n (4096 * c.args.n + 4096 - 4096 * c.args.n)
    (omega arith) c.requires.within c.extent_iv-iv.ensures before c.cbc_decrypt.ensures
