use Rattle.std.proofs.Common.{◌≡◌, ℕ, ◌+◌, ◌-◌, ◌∷◌, [], List, length, take, drop, Ok, refl, sym, ap, subst, ◌∙◌, arith}
use Rattle.std.proofs.lemmas.List.{take_rest, length-drop}
use Rattle.std.proofs.lemmas.Result.{err_from_is_err_and}
use Rattle.octet_model.specs.Octets.{AreOctets}
use Rattle.octet_model.proofs.Octets.{AreOctets-drop, AreOctets-from_each}
use Rattle.packet_model.specs.PacketSet.{SetTakesMemory, pairs_from}
use Rattle.packet_set.specs.OwnPair.{own_pair_behind}
use Rattle.packet_set.proofs.PairsInTurn.{goes_on, stops, is_done, kept_alone}
use Rattle.packet_set.proofs.own_pair.own_pair_behind.Goals as goal

pub pairs-init : goal.pairs-init
pairs-init c = record { fits = AreOctets-from_each c.args.octets.now (λ i. omega (arith, c.type_inv.octets i)); end = refl; read = refl }

-- the rest behind a pair
cut : (P : List ℕ → Type 0) (octets : List ℕ) (n : ℕ) → P (drop n octets) → P (take (length octets - n) (drop n octets))
cut P octets n h = subst P (sym (take_rest octets n)) h

pub pairs-preserved : goal.pairs-preserved
pairs-preserved c =
    let rest = c.pairs.rest.now in
    let used = c.in_ok-pair.used in
    let total = own_pair_behind (c.args.ours.now ∷ []) c.args.first (pairs_from c.args.offset c.args.octets.now) in
    let inv = c.pairs.invariant in
    let fits : AreOctets (drop used rest) = AreOctets-drop used rest inv.fits in
    let end : c.pairs.offset + used + length (drop used rest) ≡ c.args.offset + length c.args.octets.now = omega (arith, length-drop used rest, inv.end, c.in_ok-pair.ensures.within) in
    let begins = sym c.begins_pair.ensures ∙ c.pairs-test.true in
    let read = goes_on (c.args.ours.now ∷ []) c.pairs.own c.own_pair_with-own.result c.pairs.offset used rest c.in_ok-pair.pair total inv.fits begins c.in_ok-pair.ensures.pair c.own_pair_with-own.ensures inv.read in
    record {
      fits = cut AreOctets rest used fits;
      end = cut (λ r. c.pairs.offset + used + length r ≡ c.args.offset + length c.args.octets.now) rest used end;
      read = cut (λ r. own_pair_behind (c.args.ours.now ∷ []) c.own_pair_with-own.result (pairs_from (c.pairs.offset + used) r) ≡ total) rest used read;
    }

pub returns-in_err-pair : goal.returns-in_err-pair
returns-in_err-pair c =
    let p = err_from_is_err_and c.from_residual.result c.from_residual.ensures.1 in
    let begins = sym c.begins_pair.ensures ∙ c.pairs-test.true in
    rw (p.1, p.2) (stops c.in_err-pair.field-0.0 (SetTakesMemory c.pairs.rest.now) (c.args.ours.now ∷ []) c.pairs.own c.pairs.offset c.pairs.rest.now (own_pair_behind (c.args.ours.now ∷ []) c.args.first (pairs_from c.args.offset c.args.octets.now)) begins c.in_err-pair.ensures.pair c.pairs.invariant.read)

pub returns : goal.returns
returns c =
    let ends = sym c.begins_pair.ensures ∙ c.pairs-test.false in
    is_done (c.args.ours.now ∷ []) c.pairs.own c.pairs.offset c.pairs.rest.now (own_pair_behind (c.args.ours.now ∷ []) c.args.first (pairs_from c.args.offset c.args.octets.now)) ends c.pairs.invariant.read
    ∙ ap (λ o. Ok o) (kept_alone (c.args.ours.now ∷ []) c.pairs.own)
