use Rattle.std.proofs.Common.{leb, rules}
use Rattle.std.proofs.lemmas.Fn.{always_returns_same}
use Rattle.std.proofs.lemmas.List.Sorted.{IsPartitionedBy-leb}
use Rattle.report_text.proofs.NodeRuns.{All-below_point, All-behind_point}
use Rattle.report_text.proofs.files.count_up_to.Goals as goal

pub returns-clause-inside : goal.returns-clause-inside
returns-clause-inside c =
    let parted = IsPartitionedBy-leb (λ e. e.now.node) _ c.args.node c.requires in
    All-below_point c.args.entries.now c.args.node _
    (c.partition_point.ensures.partitioned (λ e. leb e.now.node c.args.node) (always_returns_same _ _ _ (λ a r g h. search rules)) parted)

pub returns-clause-behind : goal.returns-clause-behind
returns-clause-behind c =
    let parted = IsPartitionedBy-leb (λ e. e.now.node) _ c.args.node c.requires in
    All-behind_point c.args.entries.now c.args.node _
    (c.partition_point.ensures.partitioned (λ e. leb e.now.node c.args.node) (always_returns_same _ _ _ (λ a r g h. search rules)) parted)
