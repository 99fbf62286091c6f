use Rattle.std.proofs.Common.{◌≡◌, List, ℕ, length, sym, ap, subst, ◌∙◌, arith}
use Rattle.octet_model.specs.Octets.{AreOctets}
use Rattle.std.proofs.lemmas.List.{take_at}
use Rattle.coding_model.specs.CodedName.{ecb_encrypted}
use Rattle.coding_model.proofs.EcbTexts.{encrypted_is}
use Rattle.name_tag70.proofs.writer.encrypted.Goals as goal

pub returns-clause-cipher : goal.returns-clause-cipher
returns-clause-cipher c =
    take_at c.ecb_encrypt.new.octets _ _ (omega (arith, c.ecb_encrypt.auto.octets, c.deref_mut.ensures.len))
    ∙ encrypted_is c.args.keys.now c.deref_mut.result.now c.ecb_encrypt.new.octets c.ecb_encrypt.ensures (subst AreOctets (c.deref.ensures.value ∙ sym c.deref_mut.ensures.value) c.are_octets.ensures)
    ∙ ap (ecb_encrypted c.args.keys.now) (c.deref_mut.ensures.value ∙ c.in_ok-text.ensures.text)
