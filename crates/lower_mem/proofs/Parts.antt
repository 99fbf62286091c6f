-- Parts in memory that are fresh, and hold a lower tree.
use Rattle.std.proofs.Common.{◌≡◌, ℕ, zero, suc, ◌<◌, ◌%◌, List, [], ◌∷◌, length, map, refl, ◌∙◌, arith}
use Rattle.std.specs.Prelude.{slice_get}
use Rattle.std.proofs.lemmas.List.{length-map}
use Rattle.lower_model.specs.LowerTree.{IsLowerTree}
use Rattle.lower_model.specs.declared.node.LowerNode.{LowerNode}
use Rattle.names_model.specs.Store.{store_of}
use Rattle.lower_tree.specs.Held.{TellsFiles, TellAll, HoldTree, stores}
use Rattle.lower_tree.specs.Making.{held_parts, faults_of, AreFresh}
use Rattle.lower_mem.specs.Names.{NamesInMemory, names_held, store_in}
use Rattle.lower_mem.specs.Bodies.{BodiesInMemory, bodies_held, Stored}
use Rattle.lower_mem.proofs.Storing.{stored_files, stored_calm}
use Rattle.lower_mem.proofs.Tallies.{faults_at}

tells_at : (bodies : List BodiesInMemory) (j : ℕ) → j < length bodies → TellsFiles (slice_get (map bodies_held bodies) j)
tells_at [] j lt = absurd (omega arith)
tells_at (b ∷ bodies) zero lt = refl
tells_at (b ∷ bodies) (suc j) lt = tells_at bodies j (omega arith)

pub tell_all : (names : NamesInMemory) (bodies : List BodiesInMemory) → length bodies ≡ stores → TellAll (held_parts names_held bodies_held names bodies)
tell_all names bodies count = record { names = refl; bodies = λ k. tells_at bodies (k % stores) (omega (arith, count)) }

module _ (names : NamesInMemory) (bodies : List BodiesInMemory) (changes reads : List (ℕ × ℕ)) (nodes : List LowerNode) (s : Stored changes reads nodes bodies) where
  pub hold_tree : IsLowerTree nodes → ((k : ℕ) → store_in names.places k ≡ store_of nodes k) → HoldTree (held_parts names_held bodies_held names bodies) nodes
  hold_tree lawful entries = record { lawful = lawful; entries = entries; files = stored_files changes reads nodes bodies s }

  pub are_fresh : names.plan.faults ≡ 0 → AreFresh (held_parts names_held bodies_held names bodies)
  are_fresh calm = record { stores = length-map bodies bodies_held ∙ s.count; calm = all }
    where
      all : (part : ℕ) → faults_of (held_parts names_held bodies_held names bodies) part ≡ 0
      all zero = calm
      all (suc k) = faults_at bodies k ∙ stored_calm changes reads nodes bodies s k
