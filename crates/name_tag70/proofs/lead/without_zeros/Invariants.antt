use Rattle.std.proofs.Common.{◌≡◌, ℕ, ◌<◌, length, get_or}
use Rattle.coding_model.specs.CodedName.{lead_octet}
use Rattle.name_tag70.proofs.lead.without_zeros.Given as goal

abbrev pub invariant-loop-i : goal.invariant-loop-i
invariant-loop-i l = (length l.octets ≡ 32) × ((k : ℕ) → k < l.i → get_or l.octets k 0 ≡ lead_octet (get_or l.digests k 0))
