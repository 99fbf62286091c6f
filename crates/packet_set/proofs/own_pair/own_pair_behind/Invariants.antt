use Rattle.std.proofs.Common.{◌≡◌, ◌+◌, ◌∷◌, [], length}
use Rattle.octet_model.specs.Octets.{AreOctets}
use Rattle.packet_model.specs.PacketSet.{pairs_from}
use Rattle.packet_set.specs.OwnPair.{own_pair_behind}
use Rattle.packet_set.proofs.own_pair.own_pair_behind.Given as goal

abbrev pub invariant-pairs : goal.invariant-pairs
invariant-pairs l = record {
  fits : AreOctets l.rest;
  end : l.offset + length l.rest ≡ l.fn.offset + length l.octets;
  read : own_pair_behind (l.ours ∷ []) l.own (pairs_from l.offset l.rest) ≡ own_pair_behind (l.ours ∷ []) l.fn.first (pairs_from l.fn.offset l.octets);
}

abbrev pub decreases-pairs : goal.decreases-pairs
decreases-pairs l = length l.rest
