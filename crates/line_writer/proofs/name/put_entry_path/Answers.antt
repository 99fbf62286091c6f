use Rattle.std.proofs.Common.{◌≡◌, ℕ, List, [], ◌∷◌, ◌++◌, refl, sym, ap, ◌∙◌, append_assoc}
use Rattle.std.specs.List.{flat_map}
use Rattle.std.proofs.lemmas.List.{flat_map_more}
use Rattle.text_model.specs.Line.{name, slash_name, path}
use Rattle.line_writer.proofs.name.put_entry_path.Goals as goal

spelled : (names : List (List ℕ)) (last : List ℕ) → path (names ++ last ∷ []) ≡ flat_map slash_name (names ++ last ∷ [])
spelled [] last = refl
spelled (first ∷ names) last = refl

pub returns-clause-ok : goal.returns-clause-ok
returns-clause-ok c =
    let out = c.args.out.now.items in
    let names = c.args.directory in
    let last = c.args.name.now in
    let slash : c.push.new.self.items ≡ (out ++ flat_map slash_name names) ++ 47 ∷ [] = c.in_ok-push.ensures.items ∙ ap (λ (t : List ℕ). t ++ 47 ∷ []) c.in_ok-put_parts.ensures.ok in
    let all : out ++ path (names ++ last ∷ []) ≡ c.push.new.self.items ++ name last =
    ap (λ (t : List ℕ). out ++ t) (spelled names last) ∙ sym (flat_map_more slash_name out names last)
    ∙ sym (append_assoc (out ++ flat_map slash_name names) (47 ∷ []) (name last)) ∙ ap (λ (t : List ℕ). t ++ name last) (sym slash) in
    rw all c.put_name.ensures.ok
