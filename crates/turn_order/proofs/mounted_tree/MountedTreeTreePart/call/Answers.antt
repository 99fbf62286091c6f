use Rattle.name_form.specs.FormOf.{form_of}
use Rattle.std.proofs.Common.{refl}
use Rattle.turn_order.proofs.GoingOn.{goes_on}
use Rattle.turn_order.proofs.mounted_tree.MountedTreeTreePart.call.Goals as goal

pub returns-clause-lawful : goal.returns-clause-lawful
returns-clause-lawful g c opening so_far =
    goes_on g.N.LowerNames.held (λ f. form_of (g.U.NameForm.upper f) (g.U.NameForm.written f) (g.U.NameForm.longest f)) opening.names c.args.self.now.names c.step.new.self _ so_far c.step.ensures.one c.step.ensures.turn refl refl c.step.ensures.stays c.step.ensures.told c.step.ensures.form
