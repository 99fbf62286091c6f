use Rattle.std.proofs.Common.{◌≡◌, ◌++◌, List, ℕ, sym, ap, ◌∙◌}
use Rattle.key_model.specs.SignedKey.{SignedKey}
use Rattle.coding_model.specs.declared.constants.TheConstants.{PREFIX}
use Rattle.coding_model.specs.NameCoding.{coded}
use Rattle.coding_model.specs.CodedName.{name_cipher_key, lead_octets}
use Rattle.name_tag70.specs.NameKey.{NameKey}
use Rattle.name_tag70.proofs.NameParts.{written_from}
use Rattle.name_tag70.proofs.tag70.Tag70.write_coded.Goals as goal

pub returns : goal.returns
returns c =
    let own : c.self.inside.own.key ≡ c.args.self.now.key = ap (λ (n : NameKey). n.key) c.self.view_is in
    c.in_ok-lower_name.ensures
    ∙ ap (λ (l : List ℕ). PREFIX ++ coded l) (c.deref.ensures.value ∙ c.in_ok-packet.ensures)
    ∙ written_from c.args.self.now.key c.args.octets.now _ _ _
    (c.signature.ensures.value ∙ ap (λ (k : SignedKey). k.signature) own)
    (c.self.invariant.round_keys ∙ ap (λ (k : SignedKey). name_cipher_key k) own)
    (c.octets.ensures.value ∙ c.self.invariant.lead ∙ ap (λ (k : SignedKey). lead_octets k.key) own)
