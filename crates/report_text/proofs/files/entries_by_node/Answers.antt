use Rattle.std.proofs.Common.{◌∙◌, ap, rules}
use Rattle.std.proofs.lemmas.List.Sorted.{IsNonDecreasingBy-from_sort_by_key, answers_always}
use Rattle.file_model.specs.FileLog.{entries_at}
use Rattle.report_text.proofs.NodeRuns.{entries_at-stable}
use Rattle.report_text.proofs.files.entries_by_node.Goals as goal

pub returns-clause-rising : goal.returns-clause-rising
returns-clause-rising c = IsNonDecreasingBy-from_sort_by_key (λ e. e.now.node) _ c.in_ok-sort_by_key.ensures.sorted (λ a r q k. search rules)

pub returns-clause-same : goal.returns-clause-same
returns-clause-same c =
    λ node.
    entries_at-stable _ _ (c.sort_by_key.ensures.stable (λ e. e.now.node) (answers_always _ _ _ (λ f a r g h. search rules))) node
    ∙ ap (entries_at node) c.in_ok-entries.ensures
