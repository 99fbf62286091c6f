-- A 0 between the octets of two paths: no path has one.
use Rattle.std.proofs.Common.{◌≡◌, ℕ, suc, add-one, ◌+◌, Bool, true, false, List, [], ◌∷◌, ◌++◌, length, take, drop, refl, sym, ap, subst, ◌∙◌, arith, append_assoc, length-append}
use Rattle.std.specs.Prelude.{IsTrue, not, nat_lt, ◌&&◌, ◌==◌}
use Rattle.std.specs.List.{list_all, position_or_len, join_with_byte}
use Rattle.std.proofs.Math.Seq.{take-append_seam}
use Rattle.std.proofs.lemmas.Bool.{and_parts}
use Rattle.std.proofs.lemmas.List.Folds.{list_all-append}
use Rattle.std.proofs.lemmas.List.Splits.{join_with_byte-slice_split}
use Rattle.lower_model.specs.Name.{is_name, is_name_octet}
use Rattle.tree_model.specs.Path.{IsPath, parts_behind, KeepsNames}
use Rattle.tree_model.specs.Renaming.{is_zero, before_zero, behind_zero, paths_in, KeepsPaths}

abbrev is_set : ℕ → Bool
is_set c = not (is_zero c)

both_set : (xs ys : List ℕ) → list_all is_set xs ≡ true → list_all is_set ys ≡ true → list_all is_set (xs ++ ys) ≡ true
both_set xs ys e f = list_all-append is_set xs ys ∙ ap (λ (b : Bool). b && list_all is_set ys) e ∙ f

octets_set : (octets : List ℕ) → list_all is_name_octet octets ≡ true → list_all is_set octets ≡ true
octets_set [] e = refl
octets_set (x ∷ xs) e =
    let each = and_parts (is_name_octet x) (list_all is_name_octet xs) e in
    let here : is_set x ≡ true = (and_parts (nat_lt x 256) (is_set x) (and_parts (nat_lt x 256 && is_set x) (not (x == 47)) each.0).0).1 in
    ap (λ (b : Bool). b && list_all is_set xs) here ∙ octets_set xs each.1

name_set : (name : List ℕ) → IsTrue (is_name name) → list_all is_set name ≡ true
name_set name e = octets_set name (and_parts _ _ (and_parts _ _ e).0).1

joined_set : (first : List ℕ) (parts : List (List ℕ)) → list_all is_set first ≡ true → IsPath parts → list_all is_set (join_with_byte 47 (first ∷ parts)) ≡ true
joined_set first [] e h = e
joined_set first (part ∷ parts) e h = both_set first (47 ∷ join_with_byte 47 (part ∷ parts)) e (joined_set part parts (name_set part h.0) h.1)

path_set : (octets : List ℕ) → KeepsNames octets → list_all is_set octets ≡ true
path_set octets h = subst (λ (os : List ℕ). list_all is_set os ≡ true) (ap (join_with_byte 47) (sym h.whole) ∙ join_with_byte-slice_split 47 octets) (joined_set [] (parts_behind octets) refl h.names)

not_set : (c : ℕ) → is_set c ≡ true → is_zero c ≡ false
not_set c e = grind arith

first_zero_at : (old more : List ℕ) → list_all is_set old ≡ true → position_or_len is_zero (old ++ 0 ∷ more) ≡ length old
first_zero_at [] more e = refl
first_zero_at (x ∷ xs) more e =
    let each = and_parts (is_set x) (list_all is_set xs) e in
    rw (not_set x each.0) (omega (arith, first_zero_at xs more each.1))

before_is : (old new : List ℕ) → list_all is_set old ≡ true → before_zero (old ++ 0 ∷ new) ≡ old
before_is old new e = ap (λ (n : ℕ). take n (old ++ 0 ∷ new)) (first_zero_at old new e) ∙ take-append_seam old (0 ∷ new)

drop_seam : (old new : List ℕ) → drop (suc (length old)) (old ++ 0 ∷ new) ≡ new
drop_seam [] new = refl
drop_seam (x ∷ xs) new = drop_seam xs new

behind_is : (old new : List ℕ) → list_all is_set old ≡ true → behind_zero (old ++ 0 ∷ new) ≡ new
behind_is old new e = ap (λ (n : ℕ). drop n (old ++ 0 ∷ new)) (ap (λ (n : ℕ). n + 1) (first_zero_at old new e) ∙ add-one (length old)) ∙ drop_seam old new

-- The octets of two paths with a 0 between them keep both.
pub record Joins (old new octets : List ℕ) : Type 0 where
  pub keeps : KeepsPaths octets
  pub paths : paths_in octets ≡ record { old = parts_behind old; new = parts_behind new }

pub joins : (old new octets : List ℕ) → KeepsNames old → KeepsNames new → octets ≡ (old ++ 0 ∷ []) ++ new → Joins old new octets
joins old new octets h k is =
    let set = path_set old h in
    let one : octets ≡ old ++ 0 ∷ new = is ∙ append_assoc old (0 ∷ []) new in
    let before : before_zero octets ≡ old = ap before_zero one ∙ before_is old new set in
    let behind : behind_zero octets ≡ new = ap behind_zero one ∙ behind_is old new set in
    let at : position_or_len is_zero octets ≡ length old = ap (position_or_len is_zero) one ∙ first_zero_at old new set in
    record {
      keeps = record { zero = omega (arith, at, ap length one, length-append old (0 ∷ new)); old = subst KeepsNames (sym before) h; new = subst KeepsNames (sym behind) k };
      paths = cc;
    }
