use Rattle.std.proofs.Common.{◌≡◌, ◌∷◌, [], take, drop, length, ◌-◌, true, ap, sym, subst, ◌∙◌, arith}
use Rattle.std.proofs.lemmas.List.{take_rest}
use Rattle.std.proofs.lemmas.Result.{err_from_is_err_and}
use Rattle.packet_model.specs.PacketSet.{SetTakesMemory, begins_pair, key_at, key_if_found, usable_key}
use Rattle.octet_model.proofs.Octets.{AreOctets-from_each}
use Rattle.answer_model.specs.Answer.{GivesAs}
use Rattle.answer_model.proofs.MoreMemory.{GivesAs-more}
use Rattle.packet_model.specs.MetadataError.{cause_of}
use Rattle.packet_set.specs.Found.{aes_128_key}
use Rattle.packet_set.proofs.Keys.{first_fails, HasFirst, others_fail, found_is}
use Rattle.packet_set.proofs.key_search.wrapped_key_of.Goals as goal

pub returns-in_err-first : goal.returns-in_err-first
returns-in_err-first c =
    let p = err_from_is_err_and c.from_residual.result c.from_residual.ensures.1 in
    let begins : begins_pair c.args.octets.now ≡ true = sym c.begins_pair.ensures ∙ c.if-not-begins_pair.false in
    rw (p.1, p.2) (first_fails c.in_err-first.field-0.0 (c.args.ours.now ∷ []) c.args.octets.now begins c.in_err-first.ensures.pair)

pub returns-in_err-own_pair_behind : goal.returns-in_err-own_pair_behind
returns-in_err-own_pair_behind c =
    let p = err_from_is_err_and c.from_residual-in_err-own_pair_behind.result c.from_residual-in_err-own_pair_behind.ensures.1 in
    let octets = c.args.octets.now in
    let rest = take (length octets - c.in_ok-first.used) (drop c.in_ok-first.used octets) in
    let first : HasFirst (c.args.ours.now ∷ []) octets (c.in_ok-first.first, c.in_ok-first.used) c.own_pair_with-own.result rest = record {
      fits = AreOctets-from_each octets (λ i. omega (arith, c.type_inv.octets i));
      begins = sym c.begins_pair.ensures ∙ c.if-not-begins_pair.false;
      pair = c.in_ok-first.ensures.pair;
      keeps = c.own_pair_with-own.ensures;
      behind = take_rest octets c.in_ok-first.used;
    } in
    rw (p.1, p.2) (others_fail c.in_err-own_pair_behind.field-0.0 (c.args.ours.now ∷ []) octets (c.in_ok-first.first, c.in_ok-first.used) c.own_pair_with-own.result rest first c.in_err-own_pair_behind.ensures)

pub returns-in-None : goal.returns-in-None
returns-in-None c =
    let octets = c.args.octets.now in
    let rest = take (length octets - c.in_ok-first.used) (drop c.in_ok-first.used octets) in
    let first : HasFirst (c.args.ours.now ∷ []) octets (c.in_ok-first.first, c.in_ok-first.used) c.own_pair_with-own.result rest = record {
      fits = AreOctets-from_each octets (λ i. omega (arith, c.type_inv.octets i));
      begins = sym c.begins_pair.ensures ∙ c.if-not-begins_pair.false;
      pair = c.in_ok-first.ensures.pair;
      keeps = c.own_pair_with-own.ensures;
      behind = take_rest octets c.in_ok-first.used;
    } in
    found_is (c.args.ours.now ∷ []) octets (c.in_ok-first.first, c.in_ok-first.used) c.own_pair_with-own.result c.in_ok-own_pair_behind.field-0 rest first c.in_ok-own_pair_behind.ensures
    ∙ ap (key_if_found c.in_ok-first.first.tag11.signature c.args.ours.now) c.in-None.is

pub returns-in-Some : goal.returns-in-Some
returns-in-Some c =
    let octets = c.args.octets.now in
    let rest = take (length octets - c.in_ok-first.used) (drop c.in_ok-first.used octets) in
    let first : HasFirst (c.args.ours.now ∷ []) octets (c.in_ok-first.first, c.in_ok-first.used) c.own_pair_with-own.result rest = record {
      fits = AreOctets-from_each octets (λ i. omega (arith, c.type_inv.octets i));
      begins = sym c.begins_pair.ensures ∙ c.if-not-begins_pair.false;
      pair = c.in_ok-first.ensures.pair;
      keeps = c.own_pair_with-own.ensures;
      behind = take_rest octets c.in_ok-first.used;
    } in
    let is : key_at (c.args.ours.now ∷ []) octets ≡ usable_key c.in-Some.pair =
    found_is (c.args.ours.now ∷ []) octets (c.in_ok-first.first, c.in_ok-first.used) c.own_pair_with-own.result c.in_ok-own_pair_behind.field-0 rest first c.in_ok-own_pair_behind.ensures
    ∙ ap (key_if_found c.in_ok-first.first.tag11.signature c.args.ours.now) c.in-Some.is in
    subst (GivesAs (λ w. aes_128_key w.signature w.octets) cause_of (SetTakesMemory octets) c.usable_wrapped_key.result) (sym is)
    (GivesAs-more (λ w. aes_128_key w.signature w.octets) cause_of ⊥ (SetTakesMemory octets) c.usable_wrapped_key.result (usable_key c.in-Some.pair) (λ none. absurd none) c.usable_wrapped_key.ensures)
