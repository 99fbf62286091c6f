use Rattle.packet_model.proofs.Packets.{one_packet}
use Rattle.packet_length.proofs.frame.no_packet_begins_another.Goals as goal

pub returns : goal.returns
returns c = one_packet
