-- The first pair of a set with a signature of ours, as the pairs are read one behind another.
use Rattle.std.specs.Prelude.{ℕ, List, Option, Some, None, Result, Ok, if◌then◌else◌}
use Rattle.std.specs.List.{find}
use Rattle.answer_model.specs.Answer.{◌>>=◌}
use Rattle.packet_model.specs.declared.cause.BadCause.{BadCause}
use Rattle.packet_model.specs.declared.packet.Pair.{Pair}
use Rattle.packet_model.specs.PacketSet.{is_among}

-- what it is behind one more pair
abbrev pub own_pair_with : List (List ℕ) → Option Pair → Pair → Option Pair
own_pair_with ours None p = if is_among p.tag11.signature ours then Some p else None
own_pair_with ours (Some own) p = Some own

-- what it is behind all of these
abbrev pub own_pair_among : List (List ℕ) → Option Pair → List Pair → Option Pair
own_pair_among ours None pairs = find (λ p. is_among p.tag11.signature ours) pairs
own_pair_among ours (Some own) pairs = Some own

abbrev pub own_pair_behind : List (List ℕ) → Option Pair → Result (List Pair) BadCause → Result (Option Pair) BadCause
own_pair_behind ours own read = read >>= λ pairs. Ok (own_pair_among ours own pairs)
