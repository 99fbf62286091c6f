-- The tree of one file, `a` at the root, and what may be made of it.
use Rattle.std.proofs.Common.{◌≡◌, ℕ, zero, suc, Bool, true, false, cond, List, [], ◌∷◌, Some, None, refl, sym, ap, arith}
use Rattle.lower_model.specs.declared.kind.Kind.TheVariants as kinds
use Rattle.tree_model.specs.declared.place.Place.{Place}
use Rattle.tree_model.specs.declared.place.Place.TheVariants.{Dir, File}
use Rattle.tree_model.specs.Names.{is_named}
use Rattle.names_model.specs.declared.entry.Linked.{Linked}
use Rattle.names_model.specs.Store.{linked_at}
use Rattle.names_model.specs.StoreCalls.{CanCreate, CanRemove, CanRename, IsAtOrBelow}
use Rattle.names_model.specs.StoreCalls.IsAtOrBelow.{at, below}
use Rattle.lower_mem.specs.Names.{store_in}

abbrev pub one_file : List Place
one_file = Dir (record { shown = (97 ∷ [], 1) ∷ []; foreign = [] }) ∷ File ∷ []

abbrev the_file : Linked
the_file = record { kind = kinds.File; node = 1 }

leads_to_it : (found : Bool) (l : Linked) → cond found (Some the_file) None ≡ Some l → l.node ≡ 1
leads_to_it true l is = (let same : the_file ≡ l = cc in ap (λ (x : Linked). x.node) (sym same))
leads_to_it false l is = absurd cc

entry_leads : (k : ℕ) (name : List ℕ) (l : Linked) → linked_at (store_in one_file k) name ≡ Some l → l.node ≡ 1
entry_leads zero name l is = leads_to_it (is_named name (97 ∷ [])) l is
entry_leads (suc zero) name l is = absurd cc
entry_leads (suc (suc k)) name l is = absurd cc

below_it : {k : ℕ} → IsAtOrBelow (store_in one_file) 1 k → k ≡ 1
below_it at = refl
below_it (below {k} h name l is) = entry_leads k name l is

pub can_create_beside : CanCreate (store_in one_file) 0 (98 ∷ []) 2
can_create_beside = record {
  entries = (97 ∷ [], the_file) ∷ [];
  is_dir = refl;
  absent = refl;
  lawful = refl;
  new = record { no_dir = refl; no_entry = λ k name l is. (let one = entry_leads k name l is in omega arith) };
  few = omega arith;
}

pub can_remove_it : CanRemove (store_in one_file) 0 (97 ∷ [])
can_remove_it = record {
  entries = (97 ∷ [], the_file) ∷ [];
  linked = the_file;
  is_dir = refl;
  there = refl;
  bare = λ is. absurd cc;
}

pub can_rename_it : CanRename (store_in one_file) 0 (97 ∷ []) 0 (98 ∷ [])
can_rename_it = record {
  entries = (97 ∷ [], the_file) ∷ [];
  linked = the_file;
  goes_into = (97 ∷ [], the_file) ∷ [];
  is_dir = refl;
  there = refl;
  to_dir = refl;
  lawful = refl;
  not_inside = λ inside. (let one = below_it inside in absurd (omega arith));
  replaces = tt;
}
