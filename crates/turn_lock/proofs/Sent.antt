-- For callers that are generic in the state: a seat or a note may go to another thread, whatever the state is. `search crossing depth 9` finds it.
use denote.RattleType.{RattleType}
use denote.Param.Send.{IsSend, sendable}
use Rattle.atomic_table.specs.contracts.badge.Badge.{the_row as badge_row}
use Rattle.std.specs.contracts.snapshot.Snapshot.{the_row as snapshot_row}
use Rattle.atomic_table.proofs.Sent.{badge_keyless}

-- a badge owns only what its table lent it
pub badge_send : (V : RattleType) → IsSend (badge_row V)
badge_send V = record { owned = λ d vs. ((λ vss. (tt, ((λ uss. (tt, tt)), tt))), badge_keyless V.coded.code d.table_id d.id d.views); leaving = λ k f vs. tt }

-- a snapshot owns nothing
pub snapshot_send : (T : RattleType) → IsSend (snapshot_row T)
snapshot_send T = record { owned = λ d vs. ((λ vss. (tt, ((λ uss. (tt, tt)), tt))), tt); leaving = λ k f vs. tt }

pub ruleset crossing = (sendable, badge_send, snapshot_send)
