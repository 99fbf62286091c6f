use Rattle.std.proofs.Common.{◌≡◌, None, Result, sym, subst, ◌∙◌}
use Rattle.std.proofs.lemmas.Result.{err_from_is_err_and}
use Rattle.answer_model.specs.Answer.{GivesBy}
use Rattle.answer_model.proofs.Values.{value_of}
use Rattle.answer_model.proofs.MoreMemory.{GivesBy-more}
use Rattle.key_model.specs.SignedKey.{signatures}
use Rattle.packet_model.specs.declared.cause.BadCause.{BadCause}
use Rattle.packet_model.specs.MetadataError.{cause_of}
use Rattle.packet_model.specs.PacketSet.{key_at}
use Rattle.packet_model.specs.Metadata.{FileHeader, HeaderTakesMemory, fields_fault, header_with}
use Rattle.packet_set.specs.Found.{IsFound}
use Rattle.file_header.specs.Meta.{IsMeta}
use Rattle.file_header.proofs.KeyBehindFields.{refused, key_fails, key_found}
use Rattle.file_header.proofs.header.read_header.Goals as goal

pub returns-in-Some : goal.returns-in-Some
returns-in-Some g c = refused c.args.meta_place (signatures (g.R.Ring.ring c.args.ring.now)) c.args.octets.now c.in-Some.cause (sym c.in-Some.ensures.exact)

pub returns-in_err-found : goal.returns-in_err-found
returns-in_err-found g c =
    let p = err_from_is_err_and c.from_residual.result c.from_residual.ensures.1 in
    let none : fields_fault c.args.meta_place c.args.octets.now ≡ None = sym c.fields_fault.ensures.exact ∙ c.in_default.is in
    rw (p.1, p.2) (key_fails c.in_err-found.field-0.0 c.args.meta_place (signatures (g.R.Ring.ring c.args.ring.now)) c.args.octets.now c.packets_of.result.now none c.packets_of.ensures c.in_err-found.ensures)

pub returns : goal.returns
returns g c =
    let ring = g.R.Ring.ring c.args.ring.now in
    let octets = c.args.octets.now in
    let none : fields_fault c.args.meta_place octets ≡ None = sym c.fields_fault.ensures.exact ∙ c.in_default.is in
    let key = value_of (key_at (signatures ring) c.packets_of.result.now) (IsFound ring c.in_ok-found.found) c.in_ok-found.ensures in
    let is = key_found c.args.meta_place (signatures ring) octets c.packets_of.result.now key.0 none c.packets_of.ensures key.1 in
    subst (λ (read : Result FileHeader BadCause). GivesBy (IsMeta ring) cause_of (HeaderTakesMemory c.args.meta_place octets) c.meta_of.result read) (sym is)
    (GivesBy-more (IsMeta ring) cause_of ⊥ (HeaderTakesMemory c.args.meta_place octets) c.meta_of.result (header_with octets key.0) (λ none. absurd none) (c.meta_of.ensures ring key.0 key.2))
