use Rattle.std.proofs.Common.{rules, ◌≡◌, ◌++◌, length, List, [], ◌∷◌, ℕ, ap, sym, ◌∙◌, arith, append-nil}
use Rattle.std.specs.List.{flat_map}
use Rattle.octet_model.specs.Octets.{BeginsWith}
use Rattle.octet_model.proofs.Fronts.{same_begins, added_begins, begins_through}
use Rattle.text_model.specs.Line.{slash_name, name}
use Rattle.line_writer.proofs.FieldLemmas.{after_error, pieces}
use Rattle.line_writer.proofs.name.put_each_part.Goals as goal

pub loop-name-init : goal.loop-name-init
loop-name-init c = record { names = search rules; front = same_begins _ }

pub loop-name-smaller : goal.loop-name-smaller
loop-name-smaller c = omega (arith, ap length c.in-Some.ensures.parts)

pub loop-name-preserved : goal.loop-name-preserved
loop-name-preserved c =
    let out = c.loop-name.out.items in
    let behind = flat_map slash_name c.in-Some.others in
    let slash : c.push.new.self.items ≡ out ++ 47 ∷ [] = c.in_ok-push.ensures.items in
    record {
      names = ap (λ (out : List ℕ). out ++ behind) c.in_ok-put_name.ensures.ok ∙ ap (λ (out : List ℕ). (out ++ name c.in-Some.name.now) ++ behind) slash ∙ pieces out (47 ∷ []) (name c.in-Some.name.now) behind
          ∙ ap (λ (parts : List (List ℕ)). out ++ flat_map slash_name parts) (sym c.in-Some.ensures.parts) ∙ c.loop-name.invariant.names;
      front = begins_through _ c.push.new.self.items _ (added_begins _ _ (name c.in-Some.name.now) c.in_ok-put_name.ensures.ok) (begins_through _ out _ (added_begins _ out (47 ∷ []) slash) c.loop-name.invariant.front);
    }

pub returns-in_err-push-clause-err : goal.returns-in_err-push-clause-err
returns-in_err-push-clause-err c = after_error c.from_residual.result (BeginsWith c.push.new.self.items c.args.out.now.items) (rw c.in_err-push.ensures.items c.loop-name.invariant.front)

pub returns-in_err-put_name-clause-err : goal.returns-in_err-put_name-clause-err
returns-in_err-put_name-clause-err c =
    after_error c.from_residual-in_err-put_name.result (BeginsWith c.put_name.new.out.items c.args.out.now.items)
    (begins_through _ c.push.new.self.items _ c.in_err-put_name.ensures.err (begins_through _ c.loop-name.out.items _ (added_begins _ _ (47 ∷ []) c.in_ok-push.ensures.items) c.loop-name.invariant.front))

pub returns-clause-ok : goal.returns-clause-ok
returns-clause-ok c =
    sym (append-nil c.loop-name.out.items)
    ∙ ap (λ (parts : List (List ℕ)). c.loop-name.out.items ++ flat_map slash_name parts) (sym c.in_default.ensures.parts)
    ∙ c.loop-name.invariant.names
