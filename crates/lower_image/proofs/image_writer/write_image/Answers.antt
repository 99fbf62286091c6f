use Rattle.image_model.proofs.Image.{AreOctets-image, one_tree}
use Rattle.lower_image.proofs.image_writer.write_image.Goals as goal

pub returns-clause-octets : goal.returns-clause-octets
returns-clause-octets c = AreOctets-image c.args.tree.now c.nodes.ensures.lawful

pub returns-clause-one : goal.returns-clause-one
returns-clause-one c = λ other lawful e. one_tree other c.args.tree.now lawful c.nodes.ensures.lawful e
