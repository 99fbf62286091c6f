use Rattle.std.proofs.Common.{◌≡◌, List, ℕ, Result, Ok, Err, sym, ap, ◌∙◌}
use Rattle.std.proofs.lemmas.Result.{err_from_is_err_and}
use Rattle.std.specs.Prelude.{⊤}
use Rattle.names_model.specs.declared.fault.NameFault.{NameFault}
use Rattle.answer_model.specs.Answer.{◌>>=◌}
use Rattle.coding_model.specs.NameCoding.{decoded}
use Rattle.coding_model.specs.CodedName.{octets_coded, behind_lead}
use Rattle.name_tag70.specs.Reading.{fault_of, cipher_in_packet, octets_in_cipher, octets_in_packet}
use Rattle.name_tag70.proofs.NameParts.{fails_on}
use Rattle.name_tag70.proofs.reader.read_letters.Goals as goal

pub returns-in_err-packet : goal.returns-in_err-packet
returns-in_err-packet c =
    let p = err_from_is_err_and c.from_residual.result c.from_residual.ensures.1 in
    rw (p.1, p.2) (fails_on (fault_of c.in_err-packet.field-0.0) (octets_coded (decoded c.args.letters.now)) (octets_in_packet c.args.keys.now c.args.ours.now) ⊤ c.in_err-packet.ensures)

pub returns-in_err-cipher : goal.returns-in_err-cipher
returns-in_err-cipher c =
    let p = err_from_is_err_and c.from_residual-in_err-cipher.result c.from_residual-in_err-cipher.ensures.1 in
    rw (p.1, p.2) (ap (λ (r : Result (List ℕ) NameFault). r >>= octets_in_packet c.args.keys.now c.args.ours.now) c.in_ok-packet.ensures
    ∙ ap (λ (r : Result (List ℕ) NameFault). r >>= octets_in_cipher c.args.keys.now) (ap (cipher_in_packet c.args.ours.now) (sym c.deref.ensures.value) ∙ sym c.in_err-cipher.ensures.cipher))

pub returns-in_err-octets : goal.returns-in_err-octets
returns-in_err-octets c =
    let p = err_from_is_err_and c.from_residual-in_err-octets.result c.from_residual-in_err-octets.ensures.1 in
    rw (p.1, p.2) (ap (λ (r : Result (List ℕ) NameFault). r >>= octets_in_packet c.args.keys.now c.args.ours.now) c.in_ok-packet.ensures
    ∙ ap (λ (r : Result (List ℕ) NameFault). r >>= octets_in_cipher c.args.keys.now) (ap (cipher_in_packet c.args.ours.now) (sym c.deref.ensures.value) ∙ sym c.in_ok-cipher.ensures.cipher)
    ∙ ap behind_lead (sym c.in_ok-plain.ensures ∙ sym c.deref-2.ensures.value) ∙ sym c.in_err-octets.ensures)

pub returns : goal.returns
returns c =
    ap (λ (r : Result (List ℕ) NameFault). r >>= octets_in_packet c.args.keys.now c.args.ours.now) c.in_ok-packet.ensures
    ∙ ap (λ (r : Result (List ℕ) NameFault). r >>= octets_in_cipher c.args.keys.now) (ap (cipher_in_packet c.args.ours.now) (sym c.deref.ensures.value) ∙ sym c.in_ok-cipher.ensures.cipher)
    ∙ ap behind_lead (sym c.in_ok-plain.ensures ∙ sym c.deref-2.ensures.value) ∙ sym c.in_ok-octets.ensures ∙ ap (λ (l : List ℕ). Ok l) (sym c.in_ok-from_slice.ensures)
