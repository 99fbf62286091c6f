-- The names of each directory rise in octet order behind each change.
use Rattle.std.proofs.Common.{◌≡◌, ℕ, Bool, true, false, cond, List, [], ◌∷◌, Option, Some, None, IsTrue, inl, inr, refl, sym, subst}
use Rattle.std.specs.Prelude.{◌==◌}
use Rattle.lower_model.specs.declared.kind.Kind.{Kind}
use Rattle.lower_model.specs.declared.kind.Kind.TheVariants as kinds
use Rattle.lower_model.specs.Name.{is_name}
use Rattle.tree_model.specs.Names.{entry_at, put_entry, without, is_named, RisesBehind}
use Rattle.tree_model.proofs.NameLemmas.{comes_behind_nothing, RisesBehind-put_entry, RisesBehind-without, is_named_is}
use Rattle.std.proofs.lemmas.Bool.{cases_Bool}
use Rattle.names_model.specs.declared.entry.Linked.{Linked}
use Rattle.names_model.specs.Store.{Store, Entries, linked_at, entries_if}
use Rattle.names_model.specs.StoreCalls.{created, removed, taken_from, put_into, with_name, without_name, is_node}
use Rattle.namespace_model.specs.Carried.{IsRising}

abbrev Rises : Option Entries → Type 0
Rises o = (es : Entries) → o ≡ Some es → RisesBehind [] es

either : (b : Bool) (x y : Option Entries) → Rises x → Rises y → Rises (cond b x y)
either true x y p q = p
either false x y p q = q

with_one : (o : Option Entries) (name : List ℕ) (l : Linked) → IsTrue (is_name name) → Rises o → Rises (with_name name (Some l) o)
with_one (Some old) name l is h es e =
    let same : put_entry old name l ≡ es = cc in
    subst (RisesBehind []) same (RisesBehind-put_entry [] old name l (comes_behind_nothing name is) is (h old refl))
with_one None name l is h es e = absurd cc

without_one : (o : Option Entries) (name : List ℕ) → Rises o → Rises (without_name name o)
without_one (Some old) name h es e =
    let same : without name old ≡ es = cc in
    subst (RisesBehind []) same (RisesBehind-without [] name old (h old refl))
without_one None name h es e = absurd cc

nothing : Rises None
nothing es e = absurd cc

begins : (kind : Kind) → Rises (entries_if kind [])
begins kinds.Dir es e = (let same : [] ≡ es = cc in subst (RisesBehind []) same tt)
begins kinds.File es e = absurd cc

pub rises_created : (s : Store) (at : ℕ) (name : List ℕ) (l : Linked) → IsTrue (is_name name) → IsRising s → IsRising (created s at name l)
rises_created s at name l is h = record {
  rising = λ k. either (k == at) (with_name name (Some l) (s k)) (cond (k == l.node) (entries_if l.kind []) (s k)) (with_one (s k) name l is (h.rising k)) (either (k == l.node) (entries_if l.kind []) (s k) (begins l.kind) (h.rising k));
}

pub rises_removed : (s : Store) (at : ℕ) (name : List ℕ) → IsRising s → IsRising (removed s at name)
rises_removed s at name h = record {
  rising = λ k. either (k == at) (without_name name (s k)) (cond (is_node k (linked_at (s at) name)) None (s k)) (without_one (s k) name (h.rising k)) (either (is_node k (linked_at (s at) name)) None (s k) nothing (h.rising k));
}

pub rises_taken : (s : Store) (at : ℕ) (name : List ℕ) → IsRising s → IsRising (taken_from s at name)
rises_taken s at name h = record { rising = λ k. either (k == at) (without_name name (s k)) (s k) (without_one (s k) name (h.rising k)) (h.rising k) }

pub rises_put : (s : Store) (at : ℕ) (name : List ℕ) (l : Linked) → IsTrue (is_name name) → IsRising s → IsRising (put_into s at name (Some l))
rises_put s at name l is h = record { rising = λ k. either (k == at) (with_name name (Some l) (s k)) (s k) (with_one (s k) name l is (h.rising k)) (h.rising k) }

-- a name that is there is a name
among_rising : {X : Type 0} (last name : List ℕ) (es : List (List ℕ × X)) (x : X) → RisesBehind last es → entry_at name es ≡ Some x → IsTrue (is_name name)
among_rising last name [] x h e = absurd cc
among_rising last name (f ∷ es) x h e = elim (cases_Bool (is_named name f.0)) [
  | inl t ↦ subst (λ (y : List ℕ). IsTrue (is_name y)) (sym (is_named_is name f.0 t)) h.1
  | inr t ↦ (let rest : entry_at name es ≡ Some x = rw t at e in among_rising f.0 name es x h.2 rest)
]

in_rising : (o : Option Entries) (name : List ℕ) (l : Linked) → Rises o → linked_at o name ≡ Some l → IsTrue (is_name name)
in_rising (Some es) name l h e = among_rising [] name es l (h es refl) e
in_rising None name l h e = absurd cc

pub is_name_of : (s : Store) (k : ℕ) (name : List ℕ) (l : Linked) → IsRising s → linked_at (s k) name ≡ Some l → IsTrue (is_name name)
is_name_of s k name l h e = in_rising (s k) name l (h.rising k) e
