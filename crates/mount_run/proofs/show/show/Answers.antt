use Rattle.std.proofs.Common.{◌≡◌, ◌++◌, ◌∷◌, [], ℕ, List, ap, subst, sym, ◌∙◌}
use Rattle.std.specs.List.{flat_map}
use Rattle.lower_model.specs.declared.node.LowerNode.{LowerNode}
use Rattle.tree_model.specs.declared.listed.Listed.{Listed}
use Rattle.tree_model.specs.Listing.{ListsTree}
use Rattle.names_model.specs.ShownBy.{shown_of}
use Rattle.key_model.specs.SignedKey.{SignedKey}
use Rattle.mount_model.specs.MountForm.{form_of_job}
use Rattle.show_model.specs.ShowText.{show_head, show_end, item_line}
use Rattle.show_model.specs.Show.{TellsImage, TellsItems, ring_of}
use Rattle.mount_run.proofs.show.show.Goals as goal

pub returns : goal.returns
returns c =
    let job = c.args.job.now in
    let ring : c.passphrase_ring-ring.result ∷ [] ≡ ring_of job.salt job.passphrase =
    ap (λ (key : SignedKey). key ∷ []) c.passphrase_ring-ring.ensures ∙ ap (λ (passphrase : List ℕ). ring_of job.salt passphrase) c.as_slice.ensures in
    let added = c.in_ok-added.ensures in
    let tells : TellsImage job added.items = record {
      lists = subst (λ (listing : List Listed). ListsTree (shown_of (form_of_job job) job.image).places listing) (sym added.lists) c.in_ok-listing.ensures.lists;
      told = subst (λ (r : List SignedKey). TellsItems r job.image added.items) ring (subst (λ (nodes : List LowerNode). TellsItems (c.passphrase_ring-ring.result ∷ []) nodes added.items) c.nodes.ensures.nodes added.told);
    } in
    record {
      items = added.items;
      tells = tells;
      text = c.in_ok-put_show_end.ensures.ok ∙ ap (λ (t : List ℕ). t ++ show_end) (added.text ∙ ap (λ (t : List ℕ). t ++ flat_map item_line added.items)
          (c.in_ok-put_show_head.ensures.ok ∙ ap (λ (t : List ℕ). t ++ show_head) c.requires.empty));
    }
