-- Lines of a show text, one behind another.
use Rattle.std.proofs.Common.{◌≡◌, ℕ, List, [], ◌∷◌, ◌++◌, refl, ap, ap₂, sym, ◌∙◌}
use Rattle.std.specs.Prelude.{slice_get}
use Rattle.std.specs.List.{AllByRecursion}
use Rattle.std.proofs.lemmas.List.{append-nil, map-append, flat_map_more}
use Rattle.lower_model.specs.declared.node.LowerNode.{LowerNode}
use Rattle.tree_model.specs.declared.listed.Listed.{Listed}
use Rattle.key_model.specs.SignedKey.{SignedKey}
use Rattle.show_model.specs.declared.item.ShowItem.{ShowItem}
use Rattle.show_model.specs.Show.{TellsNode, listed_item}
use Rattle.show_model.specs.ShowText.{item_line}
use Rattle.mount_run.specs.ShowLines.{AddsLines}

All-push : {X : Type 0} (P : X → Type 0) (xs : List X) (x : X) → AllByRecursion P xs → P x → AllByRecursion P (xs ++ x ∷ [])
All-push P [] x all one = (one, tt)
All-push P (first ∷ xs) x all one = (all.0, All-push P xs x all.1 one)

pub none_added : (ring : List SignedKey) (nodes : List LowerNode) (old : List ℕ) → AddsLines ring nodes [] old old
none_added ring nodes old = record { items = []; lists = refl; told = tt; text = sym (append-nil old) }

-- one more line
pub added_more : (ring : List SignedKey) (nodes : List LowerNode) (done : List Listed) (old mid new : List ℕ) (listed : Listed) (item : ShowItem)
    → AddsLines ring nodes done old mid → listed_item item ≡ listed → TellsNode ring (slice_get nodes item.node) item.what → new ≡ mid ++ item_line item → AddsLines ring nodes (done ++ listed ∷ []) old new
added_more ring nodes done old mid new listed item so_far is tells line =
    let items = so_far.items in
    record {
      items = items ++ item ∷ [];
      lists = map-append listed_item items (item ∷ []) ∙ ap₂ (λ (front : List Listed) (last : Listed). front ++ last ∷ []) so_far.lists is;
      told = All-push (λ (i : ShowItem). TellsNode ring (slice_get nodes i.node) i.what) items item so_far.told tells;
      text = line ∙ ap (λ (t : List ℕ). t ++ item_line item) so_far.text ∙ flat_map_more item_line old items item;
    }
