use Rattle.std.proofs.Common.{refl}
use Rattle.packet_set.specs.Found.{aes_128_key}
use Rattle.packet_set.proofs.OneKey.{is_found}
use Rattle.packet_set.proofs.key_search.find_key.Goals as goal

pub returns : goal.returns
returns g c =
    let wrapped = c.in_ok-wrapped.wrapped in
    is_found (g.R.Ring.ring c.args.ring.now) c.signature.result c.kek.result.now c.args.octets.now (aes_128_key wrapped.signature wrapped.octets) (record { fek = c.unwrap.result; signature = wrapped.signature })
    c.signature.ensures c.kek.ensures c.in_ok-wrapped.ensures refl c.unwrap.ensures
