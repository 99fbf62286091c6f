-- The parts of an image, behind the opening of its names.
use Rattle.std.proofs.Common.{◌≡◌, ℕ, zero, suc, true, List, sym, subst, ◌∙◌}
use Rattle.lower_model.specs.declared.node.LowerNode.{LowerNode}
use Rattle.tree_model.specs.IsTree.{IsTree}
use Rattle.tree_model.specs.PlainTree.{PlainTree}
use Rattle.names_model.specs.Store.{Store}
use Rattle.names_model.specs.NameForm.{NameForm}
use Rattle.namespace_model.specs.Carried.{Keeps}
use Rattle.opening_model.specs.Openings.{ShowsTree}
use Rattle.lower_tree.specs.Held.{HeldNames, HeldParts, TellAll, HoldTree}
use Rattle.body_model.specs.Bodies.{HeldBodies}
use Rattle.lower_tree.specs.Making.{AreFresh, AddsFaults, faults_of, sum_of_counts}
use Rattle.served_model.specs.Served.{Maker, CountsFaults, names_alone}
use Rattle.mount_run.specs.Mounted.{IsMounted, TellsImage}

abbrev pub parts_of : HeldNames → List HeldBodies → HeldParts
parts_of names bodies = record { names = names; bodies = bodies }

-- The names are opened, and no call on them failed.
pub record AreOpened (form : NameForm) (old new : HeldNames) (tree : PlainTree) (kept : List (List ℕ)) : Type 0 where
  pub faults : new.faults ≡ old.faults
  pub told : new.told ≡ old.told
  pub stays : old.told ≡ true → (k : ℕ) → new.entries k ≡ old.entries k
  pub shows : old.told ≡ true → ShowsTree form old.entries tree kept
  pub keeps : old.told ≡ true → Keeps form tree.places kept new.entries
  pub is_tree : IsTree tree.places
  pub limit : tree.limit ≡ form.longest

-- The maker has split an image.
pub record AreSplit (maker : Maker) (image : List LowerNode) (parts : HeldParts) : Type 0 where
  pub fresh : AreFresh parts
  pub tell : maker.tells ≡ true → TellAll parts
  pub hold : maker.tells ≡ true → HoldTree parts image

module _ (form : NameForm) (maker : Maker) (image : List LowerNode) (old new : HeldNames) (bodies : List HeldBodies) (tree : PlainTree) (kept : List (List ℕ)) (split : AreSplit maker image (parts_of old bodies)) (opened : AreOpened form old new tree kept) where
  calm : (part : ℕ) → faults_of (parts_of new bodies) part ≡ 0
  calm zero = opened.faults ∙ split.fresh.calm 0
  calm (suc k) = split.fresh.calm (suc k)

  tells_image : maker.tells ≡ true → TellsImage form image (parts_of new bodies) tree kept
  tells_image tells =
      let tell = split.tell tells in
      let hold = split.hold tells in
      let same : old.entries ≡ new.entries = λ i k. sym (opened.stays tell.names k) i in
      record {
        tell = record { names = opened.told ∙ tell.names; bodies = tell.bodies };
        hold = record { lawful = hold.lawful; entries = λ k. opened.stays tell.names k ∙ hold.entries k; files = hold.files };
        shows = subst (λ (s : Store). ShowsTree form s tree kept) same (opened.shows tell.names);
        keeps = opened.keeps tell.names;
      }

  pub mounted : IsMounted form maker image (parts_of new bodies) tree kept
  mounted = record {
    fresh = record { stores = split.fresh.stores; calm = calm };
    is_tree = opened.is_tree;
    limit = opened.limit;
    tells = tells_image;
  }

-- the names failed so often, and the stores of bodies didn't
pub counts_names : (old new : HeldNames) (bodies : List HeldBodies) (before after : Maker) → AreFresh (parts_of old bodies) → AddsFaults (parts_of new bodies) before.tallies after.tallies → CountsFaults before after (names_alone new.faults)
counts_names old new bodies before after fresh adds zero below = adds 0
counts_names old new bodies before after fresh adds (suc k) below = subst (λ (n : ℕ). after.tallies (suc k) ≡ sum_of_counts (before.tallies (suc k)) n) (fresh.calm (suc k)) (adds (suc k))
