use Rattle.std.proofs.Common.{◌≡◌, Bool, true, cond, List, ℕ, drop, length, Result, Ok, sym, ap, subst, ◌∙◌}
use Rattle.std.specs.Prelude.{⊤, nat_eq}
use Rattle.std.specs.List.{starts_with}
use Rattle.std.proofs.lemmas.List.{take_rest}
use Rattle.names_model.specs.declared.fault.NameFault.{NameFault}
use Rattle.answer_model.specs.Answer.{GivesAs}
use Rattle.key_model.specs.SignedKey.{SignedKey}
use Rattle.coding_model.specs.declared.constants.TheConstants.{PREFIX}
use Rattle.coding_model.specs.CodedName.{packet_octets, lower_octets}
use Rattle.name_tag70.specs.Reading.{fault_of}
use Rattle.name_tag70.proofs.tag70.Tag70.read_coded.Goals as goal

behind_prefix : (key : SignedKey) (lower letters : List ℕ) → starts_with nat_eq lower PREFIX ≡ true → letters ≡ drop (length PREFIX) lower → packet_octets key letters ≡ lower_octets key lower
behind_prefix key lower letters starts e =
    ap (λ (l : List ℕ). packet_octets key l) e
    ∙ sym (ap (λ (b : Bool). cond b (packet_octets key (drop (length PREFIX) lower)) (Ok lower)) starts)

pub returns-then-starts_with : goal.returns-then-starts_with
returns-then-starts_with c =
    subst (λ (r : Result (List ℕ) NameFault). GivesAs (λ octets. octets) fault_of ⊤ c.read_packet.result r)
    (behind_prefix c.args.self.now.key c.args.lower.now _ (sym c.starts_with.ensures.value ∙ c.if-starts_with.true) (take_rest c.args.lower.now 24))
    c.read_packet.ensures
