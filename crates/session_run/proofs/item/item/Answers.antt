use Rattle.std.proofs.Common.{◌∙◌}
use Rattle.session_run.proofs.Fitting.{fits_same}
use Rattle.session_run.proofs.Serving.{waits_for_tree, waits_for_file, behind_same, moved_tree, moved_file, moved_none}
use Rattle.session_run.proofs.item.item.Goals as goal

pub call_tree-requires : goal.call_tree-requires
call_tree-requires g c = waits_for_tree c.args.session.now c.ask.new.self c.in-Tree.call c.in-Tree.ensures.asks c.in-Tree.ensures.goes_on

pub call_file-requires-clause-waits : goal.call_file-requires-clause-waits
call_file-requires-clause-waits g c = waits_for_file c.args.session.now c.ask.new.self c.in-File.node c.in-File.call c.in-File.ensures.asks c.in-File.ensures.goes_on

pub call_file-requires-clause-fits : goal.call_file-requires-clause-fits
call_file-requires-clause-fits g c = fits_same _ _ _ c.requires.fits (behind_same c.args.session.now c.ask.new.self c.in-File.ensures.goes_on)

pub returns-in-Tree-clause-done : goal.returns-in-Tree-clause-done
returns-in-Tree-clause-done g c = moved_tree c.in-Tree.call _ _ _ _ _ _ c.in-Tree.ensures.asks c.in-Tree.ensures.goes_on c.call_tree.ensures.told

pub returns-in-Tree-clause-fits : goal.returns-in-Tree-clause-fits
returns-in-Tree-clause-fits g c = fits_same _ _ _ c.requires.fits (c.call_tree.ensures.slots ∙ behind_same c.args.session.now c.ask.new.self c.in-Tree.ensures.goes_on)

pub returns-in-File-clause-done : goal.returns-in-File-clause-done
returns-in-File-clause-done g c = moved_file c.in-File.node c.in-File.call _ _ _ _ _ _ c.in-File.ensures.asks c.in-File.ensures.goes_on c.call_file.ensures.told

pub returns-in-Done-clause-done : goal.returns-in-Done-clause-done
returns-in-Done-clause-done g c = moved_none _ _ _ _ c.in-Done.ensures.asks c.in-Done.ensures.goes_on

pub returns-in-Done-clause-fits : goal.returns-in-Done-clause-fits
returns-in-Done-clause-fits g c = fits_same _ _ _ c.requires.fits (behind_same c.args.session.now c.ask.new.self c.in-Done.ensures.goes_on)
