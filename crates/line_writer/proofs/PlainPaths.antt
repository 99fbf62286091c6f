-- A path whose octets all stand for themselves is its spelling.
use Rattle.std.proofs.Common.{◌≡◌, ℕ, Bool, true, false, List, [], ◌∷◌, ◌++◌, refl, sym, ap, ◌∙◌}
use Rattle.std.specs.Prelude.{IsTrue, not, nat_lt, ◌&&◌, ◌||◌, ◌==◌}
use Rattle.std.specs.List.{list_all, flat_map}
use Rattle.std.proofs.lemmas.Bool.{and_parts}
use Rattle.std.proofs.lemmas.List.Folds.{list_all-append}
use Rattle.lower_model.specs.Name.{is_name, is_name_octet}
use Rattle.text_model.specs.Line.{is_plain, is_plain_in_path, name, slash_name}
use Rattle.tree_model.specs.Path.{IsPath, slashed}

plain_alone : (p q : Bool) → (p || q) ≡ true → not q ≡ true → p ≡ true
plain_alone true q e f = refl
plain_alone false true e f = absurd cc
plain_alone false false e f = absurd cc

name_plain : (octets : List ℕ) → list_all is_name_octet octets ≡ true → list_all is_plain_in_path octets ≡ true → name octets ≡ octets
name_plain [] e f = refl
name_plain (x ∷ xs) e f =
    let each = and_parts (is_name_octet x) (list_all is_name_octet xs) e in
    let other = and_parts (nat_lt x 256 && not (x == 0)) (not (x == 47)) each.0 in
    let plain = and_parts (is_plain_in_path x) (list_all is_plain_in_path xs) f in
    let here : is_plain x ≡ true = plain_alone (is_plain x) (x == 47) plain.0 other.1 in
    rw here (ap (λ (l : List ℕ). x ∷ l) (name_plain xs each.1 plain.1))

name_octets : (octets : List ℕ) → IsTrue (is_name octets) → list_all is_name_octet octets ≡ true
name_octets octets e = (and_parts _ _ (and_parts _ _ e).0).1

pub path_plain : (names : List (List ℕ)) → IsPath names → list_all is_plain_in_path (slashed names) ≡ true → flat_map slash_name names ≡ slashed names
path_plain [] h e = refl
path_plain (first ∷ names) h e =
    let parts = and_parts (list_all is_plain_in_path first) (list_all is_plain_in_path (slashed names)) (sym (list_all-append is_plain_in_path first (slashed names)) ∙ e) in
    let here = name_plain first (name_octets first h.0) parts.0 in
    let others = path_plain names h.1 parts.1 in
    ap (λ (l : List ℕ). 47 ∷ (l ++ flat_map slash_name names)) here ∙ ap (λ (l : List ℕ). 47 ∷ (first ++ l)) others
