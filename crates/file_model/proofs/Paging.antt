-- Pages of an open file that come and go.
use Rattle.std.proofs.Common.{ℕ, ◌≡◌, ◌≢◌, inl, inr, Bool, false, List, Option, Some, None, refl, sym, subst}
use Rattle.std.proofs.lemmas.Bool.{cases_eq, false≢true}
use Rattle.body_model.specs.declared.opened.Opened.{Opened}
use Rattle.body_model.specs.Bodies.{HeldBodies}
use Rattle.body_model.specs.Format.{Format}
use Rattle.file_model.specs.LaidOut.{LaidOut, Origin, Working}
use Rattle.file_model.specs.Paging.{BringsPage, ChangesExtent, EvictsPage}
use Rattle.file_model.proofs.ByExtent.{IsLaidAt, IsLaidBeside, is_lower, laid_as, laid_at, laid_beside, laid_by, lower_page}

some_same : (p q : List ℕ) → Some p ≡ Some q → p ≡ q
some_same p q e = cc

none_some : {X : Type 0} → (page : Option (List ℕ)) (p : List ℕ) → page ≡ None → page ≡ Some p → X
none_some page p a b = absurd cc

module _ {K : Type 0} (format : Format K) (origin : Origin) (body : List ℕ) (o : Opened K) (octets : List ℕ) (n : ℕ) where
  evicted_at : (page page' : Option (List ℕ)) (d d' u : Bool) → d ≡ false → page' ≡ None → d' ≡ false → IsLaidAt format origin body o octets n page d u → IsLaidAt format origin body o octets n page' d' u
  evicted_at page page' d d' u was none is a =
      laid_as format origin body o octets n None page' false d' u u none is refl
      record {
        extent = λ h. is_lower format origin body o octets n page d u a h was;
        clean = λ p h c e. none_some None p refl e;
        dirty = λ e. absurd (false≢true e);
        there = λ h c. a.there h was;
      }

  brought_at : (page page' : Option (List ℕ)) (d d' u : Bool) → d ≡ false → page' ≡ Some (lower_page format body o n u) → d' ≡ false → IsLaidAt format origin body o octets n page d u → IsLaidAt format origin body o octets n page' d' u
  brought_at page page' d d' u was some is a =
      laid_as format origin body o octets n (Some (lower_page format body o n u)) page' false d' u u some is refl
      record {
        extent = λ h. is_lower format origin body o octets n page d u a h was;
        clean = λ p h c e. sym (some_same _ p e);
        dirty = λ e. absurd (false≢true e);
        there = λ h c. a.there h was;
      }

module _ {K : Type 0} (format : Format K) (origin : Origin) (held : HeldBodies) (node n : ℕ) (w v : Working K) (octets : List ℕ) where
  -- where at most one extent changed
  pub laid_changed : IsLaidBeside format origin held node w.opened octets w.metadata_mark w.length_mark → ChangesExtent n w v
      → ((m : ℕ) → m ≢ n → IsLaidAt format origin (held.files node).body w.opened octets m (w.page m) (w.is_dirty m) (w.is_unwritten m))
      → IsLaidAt format origin (held.files node).body w.opened octets n (v.page n) (v.is_dirty n) (v.is_unwritten n) → LaidOut format origin held node v octets
  laid_changed beside c others here =
      laid_by format origin held node v octets w.opened w.metadata_mark w.length_mark c.opened c.metadata_mark c.length_mark beside (λ m. elim (cases_eq m n) [
        | inl e ↦ subst (λ k. IsLaidAt format origin (held.files node).body w.opened octets k (v.page k) (v.is_dirty k) (v.is_unwritten k)) (sym e) here
        | inr differs ↦ laid_as format origin (held.files node).body w.opened octets m (w.page m) (v.page m) (w.is_dirty m) (v.is_dirty m) (w.is_unwritten m) (v.is_unwritten m)
            (c.pages m differs) (c.dirty m differs) (c.unwritten m differs) (others m differs)
      ])

  -- A page that isn't dirty may go.
  pub laid_evicted : LaidOut format origin held node w octets → EvictsPage n w v → LaidOut format origin held node v octets
  laid_evicted laid c =
      laid_changed (laid_beside format origin held node w octets laid) c.others (λ m _. laid_at format origin held node w octets laid m)
      (laid_as format origin (held.files node).body w.opened octets n (v.page n) (v.page n) (v.is_dirty n) (v.is_dirty n) (w.is_unwritten n) (v.is_unwritten n) refl refl c.unwritten
      (evicted_at format origin (held.files node).body w.opened octets n (w.page n) (v.page n) (w.is_dirty n) (v.is_dirty n) (w.is_unwritten n) c.clean c.page_is c.dirty
      (laid_at format origin held node w octets laid n)))

  -- A page may come back as what lies below.
  pub laid_brought : LaidOut format origin held node w octets → BringsPage format (held.files node).body n w v → LaidOut format origin held node v octets
  laid_brought laid c =
      laid_changed (laid_beside format origin held node w octets laid) c.others (λ m _. laid_at format origin held node w octets laid m)
      (laid_as format origin (held.files node).body w.opened octets n (v.page n) (v.page n) (v.is_dirty n) (v.is_dirty n) (w.is_unwritten n) (v.is_unwritten n) refl refl c.unwritten
      (brought_at format origin (held.files node).body w.opened octets n (w.page n) (v.page n) (w.is_dirty n) (v.is_dirty n) (w.is_unwritten n) c.clean c.page_is c.dirty
      (laid_at format origin held node w octets laid n)))
