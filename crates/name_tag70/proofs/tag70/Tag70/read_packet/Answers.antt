use Rattle.std.proofs.Common.{◌≡◌, List, ℕ, Result, sym, ap, subst, ◌∙◌}
use Rattle.std.specs.Prelude.{⊤}
use Rattle.names_model.specs.declared.fault.NameFault.{NameFault}
use Rattle.answer_model.specs.Answer.{GivesAs}
use Rattle.key_model.specs.SignedKey.{SignedKey}
use Rattle.coding_model.specs.CodedName.{name_cipher_key, packet_octets}
use Rattle.name_tag70.specs.NameKey.{NameKey}
use Rattle.name_tag70.specs.Reading.{fault_of, octets_in_letters}
use Rattle.name_tag70.proofs.NameParts.{packet_octets_are}
use Rattle.name_tag70.proofs.tag70.Tag70.read_packet.Goals as goal

pub returns : goal.returns
returns c =
    let own : c.self.inside.own.key ≡ c.args.self.now.key = ap (λ (n : NameKey). n.key) c.self.view_is in
    let keys : c.self.inside.round_keys ≡ name_cipher_key c.args.self.now.key = c.self.invariant.round_keys ∙ ap (λ (k : SignedKey). name_cipher_key k) own in
    let ours : c.signature.result ≡ c.args.self.now.key.signature = c.signature.ensures.value ∙ ap (λ (k : SignedKey). k.signature) own in
    let same : octets_in_letters c.self.inside.round_keys c.signature.result c.args.letters.now ≡ packet_octets c.args.self.now.key c.args.letters.now =
    (λ t. octets_in_letters (keys t) (ours t) c.args.letters.now) ∙ sym (packet_octets_are c.args.self.now.key c.args.letters.now) in
    subst (λ (r : Result (List ℕ) NameFault). GivesAs (λ octets. octets) fault_of ⊤ c.read_letters.result r) same c.read_letters.ensures
