-- What calls on the store for one node's file leave of all files.
use Rattle.std.proofs.Common.{ℕ, ◌≡◌, ◌≢◌, Bool, true, List, Option, Some, None, sym, subst, arith, inl, inr}
use Rattle.std.proofs.lemmas.Bool.Decides.{eqb_tells}
use Rattle.body_model.specs.LowerFile.{LowerFile, IsOfOctets}
use Rattle.body_model.specs.Bodies.{HeldBodies}
use Rattle.body_model.specs.Format.{Format}
use Rattle.file_model.specs.declared.open_slot.OpenSlot.{OpenSlot}
use Rattle.file_model.specs.LaidOut.{Working}
use Rattle.file_model.specs.ByteFile.{FileState}
use Rattle.file_model.specs.Shard.{StandsBy}
use Rattle.file_model.proofs.Elsewhere.{stands_on}
use Rattle.lower_inode.specs.declared.node.OpenNode.{OpenNode}
use Rattle.lower_inode.specs.Shards.{node_in}
use Rattle.lower_inode.specs.NodeTurn.{AreNodes, IsNode, Touches}

-- another file goes on standing for its octets
pub other_stands : {K : Type 0} (format : Format K) (first : LowerFile) (before after : HeldBodies) (node other : ℕ) (opened : Bool) (w : Option (Working K)) (slots : List OpenSlot) (state : FileState)
    → Touches node before after → before.told ≡ true → other ≢ node → StandsBy format first before other opened w slots state → StandsBy format first after other opened w slots state
other_stands format first before after node other opened w slots state t told apart =
    stands_on format first before after other opened w slots state
    (record { file = t.others.others told other apart; body_room = t.body_room other; attribute_room = t.attribute_room other })

-- each file goes on holding octets
pub octets_on : (before after : HeldBodies) (node other : ℕ) → Touches node before after → before.told ≡ true → IsOfOctets (before.files other) → IsOfOctets (after.files other)
octets_on before after node other t told octets = elim (eqb_tells other node) [
  | inl same ↦ subst (λ (k : ℕ). IsOfOctets (after.files k)) (sym same.1) (t.others.octets told (subst (λ (k : ℕ). IsOfOctets (before.files k)) same.1 octets))
  | inr apart ↦ subst IsOfOctets (sym (t.others.others told other apart.1)) octets
]

-- the other open files keep their rooms
pub nodes_on : {K : Type 0} (before after : HeldBodies) (index node : ℕ) (old new : List (Option (OpenNode K))) → Touches node before after → AreNodes before index old → IsNode after node (node_in index new node)
    → ((other : ℕ) → other ≢ node → node_in index new other ≡ node_in index old other) → AreNodes after index new
nodes_on {K} before after index node old new t all here others other = elim (eqb_tells other node) [
  | inl same ↦ subst (λ (k : ℕ). IsNode after k (node_in index new k)) (sym same.1) here
  | inr apart ↦ subst (IsNode after other) (sym (others other apart.1)) (by_node (node_in index old other) (all other))
]
  where
    by_node : (o : Option (OpenNode K)) → IsNode before other o → IsNode after other o
    by_node None shape = tt
    by_node (Some f) shape = (record { body = omega (arith, shape.0.body, t.body_room other); attribute = omega (arith, shape.0.attribute, t.attribute_room other) }, shape.1)
