use Rattle.std.proofs.Common.{sym, ap, ◌∙◌}
use Rattle.opening_model.specs.Openings.{next_node}
use Rattle.opening_model.proofs.Openings.{counts_end, counts_file, ends_next}
use Rattle.namespace.proofs.listing.node_count.Goals as goal

pub returns-in_default-clause-counts : goal.returns-in_default-clause-counts
returns-in_default-clause-counts g c = λ t.
    counts_end _ c.down.last (c.down.invariant.below t) c.in_ok-entries.entries
    (λ es at. c.in_ok-entries.ensures.entries (c.down.invariant.told ∙ t) es (c.down.invariant.stays t c.down.last ∙ at))
    (ap (next_node c.down.last) (sym c.as_slice.ensures) ∙ sym c.next_node.ensures.value ∙ c.in_default.is)

pub returns-in-File-clause-counts : goal.returns-in-File-clause-counts
returns-in-File-clause-counts g c = λ t.
    counts_file _ c.down.last (c.down.invariant.below t) c.in_ok-entries.entries
    (λ es at. c.in_ok-entries.ensures.entries (c.down.invariant.told ∙ t) es (c.down.invariant.stays t c.down.last ∙ at))
    c.in-Some.next
    (ap (next_node c.down.last) (sym c.as_slice.ensures) ∙ sym c.next_node.ensures.value ∙ c.in-Some.is) c.in-File.is

pub down-preserved : goal.down-preserved
down-preserved g c = record {
  below = λ t. ends_next _ c.down.last (c.down.invariant.below t) c.in_ok-entries.entries
      (λ es at. c.in_ok-entries.ensures.entries (c.down.invariant.told ∙ t) es (c.down.invariant.stays t c.down.last ∙ at))
      c.in-Some.next
      (ap (next_node c.down.last) (sym c.as_slice.ensures) ∙ sym c.next_node.ensures.value ∙ c.in-Some.is) c.in-Dir.is;
  stays = λ t k. c.in_ok-entries.ensures.stays (c.down.invariant.told ∙ t) k ∙ c.down.invariant.stays t k;
  told = c.in_ok-entries.ensures.told ∙ c.down.invariant.told;
  faults = c.in_ok-entries.ensures.cause ∙ c.down.invariant.faults;
  few = c.in-Some.ensures.rises.1;
}
