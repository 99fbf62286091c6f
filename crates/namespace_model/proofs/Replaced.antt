-- The store behind a rename.
use Rattle.std.proofs.Common.{◌≡◌, ℕ, List, Option, Some, None, ap, ◌∙◌}
use Rattle.names_model.specs.declared.entry.Linked.{Linked}
use Rattle.names_model.specs.Store.{Store, linked_at}
use Rattle.names_model.specs.StoreCalls.{taken_from, put_into}
use Rattle.names_model.specs.StoreCalls as low

pub renamed_is : (s : Store) (at : ℕ) (lower : List ℕ) (to : ℕ) (new : List ℕ) (other l : Linked) → linked_at (s to) new ≡ Some other → linked_at (s at) lower ≡ Some l
    → low.renamed s at lower to new ≡ put_into (taken_from (low.removed s to new) at lower) to new (Some l)
renamed_is s at lower to new other l e f =
    ap (λ (o : Option Linked). put_into (taken_from (low.cleared s to new o) at lower) to new (linked_at (s at) lower)) e
    ∙ ap (λ (o : Option Linked). put_into (taken_from (low.removed s to new) at lower) to new o) f

pub renamed_free : (s : Store) (at : ℕ) (lower : List ℕ) (to : ℕ) (new : List ℕ) (l : Linked) → linked_at (s to) new ≡ None → linked_at (s at) lower ≡ Some l
    → low.renamed s at lower to new ≡ put_into (taken_from s at lower) to new (Some l)
renamed_free s at lower to new l e f =
    ap (λ (o : Option Linked). put_into (taken_from (low.cleared s to new o) at lower) to new (linked_at (s at) lower)) e
    ∙ ap (λ (o : Option Linked). put_into (taken_from s at lower) to new o) f
