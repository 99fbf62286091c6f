use Rattle.std.proofs.Common.{ap, ◌∙◌}
use Rattle.std.specs.Prelude.{map, reverse}
use Rattle.mounted_files.proofs.Ending.{in_order}
use Rattle.mounted_files.proofs.files.MountedFiles.end.Goals as goal

pub returns-clause-bodies : goal.returns-clause-bodies
returns-clause-bodies g c = c.reverse.ensures.items ∙ ap reverse c.end_shards.ensures.bodies ∙ in_order (λ s. s.bodies) c.self.inside.shards.items ∙ ap (map (λ s. s.bodies)) c.self.view_is

pub returns-clause-logs : goal.returns-clause-logs
returns-clause-logs g c = c.reverse-2.ensures.items ∙ ap reverse c.end_shards.ensures.logs ∙ in_order (λ s. s.log) c.self.inside.shards.items ∙ ap (map (λ s. s.log)) c.self.view_is
