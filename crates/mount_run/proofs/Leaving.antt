-- What the run of a script leaves of the lower tree of an image.
use Rattle.std.proofs.Common.{◌≡◌, ℕ, ◌<◌, ◌≤◌, inr, List, [], ◌∷◌, get_or, length, Some, refl, sym, ap, subst}
use Rattle.std.specs.Prelude.{slice_get}
use Rattle.lower_model.specs.LowerTree.{IsLowerTree}
use Rattle.lower_model.specs.declared.kind.Kind.TheVariants as kinds
use Rattle.lower_model.specs.declared.node.LowerNode.{LowerNode}
use Rattle.tree_model.specs.declared.place.Place.TheVariants.{File}
use Rattle.tree_model.specs.IsTree.{IsTree, IsNode}
use Rattle.tree_model.specs.PlainTree.{PlainTree}
use Rattle.names_model.specs.Store.{Store, IsStoreOf, store_of}
use Rattle.names_model.specs.NameForm.{NameForm}
use Rattle.names_model.specs.LowerPaths.{LowerPaths, found, files_of, paths_of, tree_paths}
use Rattle.body_model.specs.LowerFile.{LowerFile}
use Rattle.names_model.specs.ShownBy.{shown_of}
use Rattle.names_model.specs.CarriedBy.{Carries, LeavesFiles, Leaves}
use Rattle.namespace_model.specs.Carried.{IsForm, Keeps, Stays, AreNamed, AreBelow}
use Rattle.opening_model.proofs.ByPath.{carries_tree, leaves_files, are_names}
use Rattle.opening_model.proofs.SameBelow.{same_below}
use Rattle.lower_tree.specs.Held.{HeldNames, file_at, paths_held}
use Rattle.body_model.specs.Bodies.{HeldBodies}
use Rattle.mount_run.specs.Mounted.{TellsImage}

module _ (form : NameForm) (image : List LowerNode) (first now : HeldNames) (bodies outs : List HeldBodies) (start : PlainTree) (kept : List (List ℕ)) (end : PlainTree) (names : List (List ℕ))
    (tells : TellsImage form image (record { names = first; bodies = bodies }) start kept) where
  is_store : IsStoreOf image first.entries
  is_store = record { lawful = tells.hold.lawful; entries = tells.hold.entries }

  pub is_shown : start ≡ shown_of form image
  is_shown = tells.shows.tree image is_store

  module _ (stays : Stays form start.places kept first.entries end.places names now.entries) where
    below : AreBelow (store_of image) end.places now.entries
    below =
        let same : first.entries ≡ store_of image = λ i k. tells.hold.entries k i in
        stays.below (store_of image) (record { below = λ k f among path. ap (λ (s : Store). found s (record { kind = kinds.Dir; node = k }) (f.lower ∷ path)) same })

    named : AreNamed form (shown_of form image).places kept end.places names
    named =
        let begins : AreNamed form start.places kept start.places kept = record { named = λ k x n is. inr (n, is, refl) } in
        subst (λ (t : PlainTree). AreNamed form t.places kept end.places names) is_shown (stays.named start.places kept begins)

    own : (i : ℕ) (x : LowerNode) → 1 ≤ i → IsNode (slice_get (shown_of form image).places i) → slice_get image i ≡ Some x → get_or kept i [] ≡ x.name
    own i x some node is = tells.shows.names image is_store i x some (subst (λ (t : PlainTree). IsNode (slice_get t.places i)) (sym is_shown) node) is

    module _ (laws : IsForm form) (begun : IsTree start.places) (keeps : Keeps form end.places names now.entries) (tree : IsTree end.places) (after : List LowerNode) (lawful : IsLowerTree after)
        (united : (path : List (List ℕ)) → tree_paths after path ≡ paths_held (record { names = now; bodies = outs }) path) where
      by_files : tree_paths after ≡ paths_of now.entries (file_at outs)
      by_files i path = united path i

      pub leaves : (MayHold : ℕ → LowerFile → Type 0) → ((n : ℕ) → MayHold n (file_at outs n)) → ((n : ℕ) → n < length start.places → (slice_get start.places n ≡ Some File → ⊥) → file_at outs n ≡ files_of image n)
          → Leaves form MayHold image end after
      leaves MayHold may same =
          let files : ℕ → LowerFile = file_at outs in
          let lower : ℕ → List ℕ = λ n. get_or names n [] in
          record {
            lawful = lawful;
            names = lower;
            carried = subst (λ (paths : LowerPaths). Carries form end lower paths) (sym by_files) (carries_tree form end names now.entries keeps tree files);
            files = subst (λ (paths : LowerPaths). LeavesFiles MayHold end lower image paths) (sym by_files)
                (leaves_files form end names now.entries keeps tree image below MayHold files (λ n is. may n)
                (same_below form start.places kept first.entries tells.keeps begun image tells.hold.entries end.places stays.foreign files same));
            named = are_names form end names now.entries keeps tree laws image tells.hold.lawful kept own named;
          }
