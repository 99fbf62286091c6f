-- One call more on a tree over lower names.
use Rattle.std.proofs.Common.{◌≡◌, ℕ, true, List, [], ◌∷◌, ◌++◌, refl, sym, ap, subst, ◌∙◌}
use Rattle.lower_tree.specs.Held.{HeldNames}
use Rattle.tree_model.specs.declared.place.Place.{Place}
use Rattle.names_model.specs.Store.{Store}
use Rattle.names_model.specs.NameForm.{NameForm}
use Rattle.session_model.specs.declared.entry.TreeEntry.{TreeEntry}
use Rattle.session_model.specs.TreeLog.{IsTurn, IsTreeLog, counts_of}
use Rattle.session_model.proofs.LegalLemmas.{IsLegal-push, CountsFrom-push}
use Rattle.namespace_model.specs.Carried.{Stays}
use Rattle.namespace.specs.Namespace.{Namespace}
use Rattle.turn_order.specs.GoesOn.{GoesOn}

Stays-on : (form : NameForm) (a b c : List Place) (ka kb kc : List (List ℕ)) (sa sb sc : Store) → Stays form a ka sa b kb sb → Stays form b kb sb c kc sc → Stays form a ka sa c kc sc
Stays-on form a b c ka kb kc sa sb sc first then = record {
  named = λ opening names h. then.named opening names (first.named opening names h);
  below = λ opening h. then.below opening (first.below opening h);
  foreign = λ k. then.foreign k ∙ first.foreign k;
}

-- nothing was called yet
pub goes_on_none : {N U : Type 0} → (held : N → HeldNames) (form : NameForm) (opening : Namespace N U) → opening.log ≡ [] → GoesOn held form opening opening
goes_on_none held form opening none = record {
  history = subst (λ (l : List TreeEntry). IsTreeLog opening.tree (held opening.lower).faults l opening.tree (held opening.lower).faults) (sym none) (record { legal = refl; counts = refl });
  told = refl;
  same_form = refl;
  stays = λ tells. record { named = λ first names h. h; below = λ first h. h; foreign = λ k. refl };
}

module _ {N U : Type 0} (held : N → HeldNames) (form_by : U → NameForm) (opening old new : Namespace N U) (e : TreeEntry) where
  -- the entry of a call, with its counts
  pub goes_on : GoesOn held (form_by opening.form) opening old → new.log ≡ old.log ++ e ∷ [] → IsTurn old.tree e new.tree → e.before ≡ (held old.lower).faults → e.after ≡ (held new.lower).faults
      → ((held old.lower).told ≡ true → Stays (form_by old.form) old.tree.places old.kept (held old.lower).entries new.tree.places new.kept (held new.lower).entries)
      → (held new.lower).told ≡ (held old.lower).told → new.form ≡ old.form → GoesOn held (form_by opening.form) opening new
  goes_on so_far one turn before after stays told form =
      let history : IsTreeLog opening.tree (held opening.lower).faults (old.log ++ e ∷ []) new.tree (held new.lower).faults = record {
        legal = IsLegal-push IsTurn opening.tree old.tree new.tree old.log e so_far.history.legal turn;
        counts = CountsFrom-push counts_of (held opening.lower).faults (held old.lower).faults (held new.lower).faults old.log e so_far.history.counts before after;
      } in
      record {
        history = subst (λ (l : List TreeEntry). IsTreeLog opening.tree (held opening.lower).faults l new.tree (held new.lower).faults) (sym one) history;
        told = told ∙ so_far.told;
        same_form = form ∙ so_far.same_form;
        stays = λ tells.
            (let next = subst (λ (f : NameForm). Stays f old.tree.places old.kept (held old.lower).entries new.tree.places new.kept (held new.lower).entries) (ap form_by so_far.same_form) (stays (so_far.told ∙ tells)) in
            Stays-on (form_by opening.form) opening.tree.places old.tree.places new.tree.places opening.kept old.kept new.kept (held opening.lower).entries (held old.lower).entries (held new.lower).entries (so_far.stays tells) next);
      }
