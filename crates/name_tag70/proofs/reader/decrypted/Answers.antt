use Rattle.std.proofs.Common.{◌≡◌, List, ℕ, length, subst, ap, ◌∙◌, arith}
use Rattle.octet_model.specs.Octets.{AreOctets}
use Rattle.std.proofs.lemmas.List.{take_at}
use Rattle.coding_model.specs.CodedName.{ecb_decrypted}
use Rattle.coding_model.proofs.EcbTexts.{decrypted_is}
use Rattle.name_tag70.proofs.reader.decrypted.Goals as goal

pub returns : goal.returns
returns c =
    let whole = take_at c.ecb_decrypt.new.octets _ c.in_ok-text.text.len (omega (arith, c.ecb_decrypt.auto.octets, c.deref_mut.ensures.len)) in
    let fits : AreOctets c.ecb_decrypt.new.octets = subst AreOctets (c.deref.ensures.value ∙ whole) c.are_octets.ensures in
    whole
    ∙ decrypted_is c.args.keys.now c.ecb_decrypt.new.octets c.deref_mut.result.now c.ecb_decrypt.ensures fits
    ∙ ap (ecb_decrypted c.args.keys.now) (c.deref_mut.ensures.value ∙ c.in_ok-text.ensures.items)
